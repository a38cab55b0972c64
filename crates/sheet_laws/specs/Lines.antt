-- A line, for any layout whose columns pass `column_ok`: both round trips, field by field from the left.
use Rattle.std.specs.Prelude.{◌≡◌, ◌+◌, ◌≤◌, ◌<◌, ◌&&◌, ◌∷◌, ◌++◌, Some}
use Rattle.std.proofs.Common.{◌∙◌}
use Rattle.lists.specs.Basics.{refl, sym, ap, ap₂, ℕ, zero, suc, Bool, true, List, [], length, take, drop, get_or}
use Rattle.lists.specs.Basics.{length-take, length-drop, drop-drop, drop_at, take_at, get_or-drop, arith, all, eq_list, eq_list-true, eq_list_refl, and_fst, and_snd}
use Rattle.lists.specs.Basics.{and_both}
use Rattle.std.proofs.Math.ListN.{take-append-drop}
use Rattle.lists.specs.Pieces.{take-drop-take}
use Rattle.decimal.specs.Field.{number, is_number}
use Rattle.decimal.specs.Laws.{is_number-number}
use Rattle.decimal.specs.Digits.{digits, digits_are}
use Rattle.model.specs.Types.{Column}
use Rattle.model.specs.Layouts.{no_column, offset}
use Rattle.model.specs.Lines.{field_value, field_bytes, in_range, row_of, line_set, line_text, row_good}
use Rattle.sheet_laws.specs.Fields.{column_ok, field_read_written, field_written_read, is_figure, scan_of}

abbrev pub layout_ok : List Column → Bool
layout_ok cs = all column_ok cs

-- the bytes of a line, LF included
unfoldable pub line_bytes : List Column → ℕ
line_bytes [] = 1
line_bytes (c ∷ cs) = c.width + line_bytes cs

-- LF is there
positive : (cs : List Column) → 1 ≤ line_bytes cs
unfolding line_bytes
positive [] = omega arith
positive (c ∷ cs) = omega (arith, positive cs)

pub length-row_of : (cs : List Column) (s : List ℕ) → length (row_of cs s) ≡ length cs
unfolding row_of
length-row_of [] s = refl
length-row_of (c ∷ cs) s = ap suc (length-row_of cs (drop c.width s))

-- every field passes a test, and LF ends the line
unfoldable pub each_field : (Column → List ℕ → Bool) → List Column → List ℕ → Bool
each_field p [] s = eq_list s (10 ∷ [])
each_field p (c ∷ cs) s = p c (take c.width s) && each_field p cs (drop c.width s)

-- its length is then the layout's
pub field_length : (p : Column → List ℕ → Bool) (cs : List Column) (s : List ℕ) → each_field p cs s ≡ true → length s ≡ line_bytes cs
unfolding each_field line_bytes
field_length p [] s h = ap length (eq_list-true s (10 ∷ []) h)
field_length p (c ∷ cs) s h =
    let r : length (drop c.width s) ≡ line_bytes cs = field_length p cs (drop c.width s) (and_snd (p c (take c.width s)) _ h) in
    let l : 1 ≤ line_bytes cs = positive cs in
    omega (arith, length-drop c.width s)

-- a line that can be read, field by field
pub set_fields : (cs : List Column) (s : List ℕ) → line_set cs s ≡ each_field (λ (c : Column) (t : List ℕ). is_number (field_value c t)) cs s
unfolding each_field line_set
set_fields [] s = refl
set_fields (c ∷ cs) s = ap (λ (x : Bool). is_number (field_value c (take c.width s)) && x) (set_fields cs (drop c.width s))

-- a line that can be read has its layout's length; so none of its fields is cut short
pub line-length : (cs : List Column) (s : List ℕ) → line_set cs s ≡ true → length s ≡ line_bytes cs
line-length cs s h = field_length (λ (c : Column) (t : List ℕ). is_number (field_value c t)) cs s (sym (set_fields cs s) ∙ h)

-- what reads as a row is what would be written for it, and its numbers are in range
pub line_written_read : (cs : List Column) (s : List ℕ) → layout_ok cs ≡ true → line_set cs s ≡ true → (line_text cs (row_of cs s) ≡ s) × (row_good cs (row_of cs s) ≡ true)
unfolding all line_set row_of line_text row_good
line_written_read [] s o h = (sym (eq_list-true s (10 ∷ []) h), refl)
line_written_read (c ∷ cs) s o h =
    let w = c.width in
    let g = is_number (field_value c (take w s)) in
    let f = is_number-number (field_value c (take w s)) (and_fst g (line_set cs (drop w s)) h) in
    let n : length s ≡ w + line_bytes cs = unfold line_bytes in line-length (c ∷ cs) s h in
    let l : length (take w s) ≡ w = simp length-take (omega arith) in
    let r = field_written_read c (take w s) (number (field_value c (take w s))) (and_fst (column_ok c) (all column_ok cs) o) l f in
    let k = line_written_read cs (drop w s) (and_snd (column_ok c) (all column_ok cs) o) (and_snd g (line_set cs (drop w s)) h) in
    (ap₂ ◌++◌ (sym r.0) k.0 ∙ take-append-drop w s, and_both r.1 k.1)

-- a row in range, written, can be read
pub line_read_written : (cs : List Column) (vs : List ℕ) → layout_ok cs ≡ true → row_good cs vs ≡ true → line_set cs (line_text cs vs) ≡ true
unfolding all line_set line_text row_good
line_read_written [] vs o g = eq_list_refl (10 ∷ [])
line_read_written (c ∷ cs) vs o g =
    let v = get_or vs 0 0 in
    let t = line_text cs (drop 1 vs) in
    let r = field_read_written c v (and_fst (column_ok c) (all column_ok cs) o) (and_fst (in_range c v) (row_good cs (drop 1 vs)) g) in
    let k = line_read_written cs (drop 1 vs) (and_snd (column_ok c) (all column_ok cs) o) (and_snd (in_range c v) (row_good cs (drop 1 vs)) g) in
    rw (take_at (field_bytes c v) t c.width r.1, drop_at (field_bytes c v) t c.width r.1, r.0) k

-- a row in range, written and read, is the same row
pub row_read_written : (cs : List Column) (vs : List ℕ) → layout_ok cs ≡ true → row_good cs vs ≡ true → length vs ≡ length cs → row_of cs (line_text cs vs) ≡ vs
unfolding all row_of line_text row_good
row_read_written [] [] o g n = refl
row_read_written [] (v ∷ vs) o g n = absurd (omega arith)
row_read_written (c ∷ cs) [] o g n = absurd (omega arith)
row_read_written (c ∷ cs) (v ∷ vs) o g n =
    let t = line_text cs vs in
    let r = field_read_written c v (and_fst (column_ok c) (all column_ok cs) o) (and_fst (in_range c v) (row_good cs vs) g) in
    let k = row_read_written cs vs (and_snd (column_ok c) (all column_ok cs) o) (and_snd (in_range c v) (row_good cs vs) g) (omega arith) in
    rw (take_at (field_bytes c v) t c.width r.1, drop_at (field_bytes c v) t c.width r.1, r.0, k)

-- each number of a row in range is in its column's range
pub row-in_range : (cs : List Column) (vs : List ℕ) (d : Column) (i : ℕ) → row_good cs vs ≡ true → i < length cs → in_range (get_or cs i d) (get_or vs i 0) ≡ true
unfolding row_good
row-in_range [] vs d i g l = absurd (omega arith)
row-in_range (c ∷ cs) vs d zero g l = and_fst (in_range c (get_or vs 0 0)) (row_good cs (drop 1 vs)) g
row-in_range (c ∷ cs) vs d (suc i) g l =
    let e : get_or (drop 1 vs) i 0 ≡ get_or vs (suc i) 0 = get_or-drop 1 vs i 0 ∙ ap (λ (k : ℕ). get_or vs k 0) (omega arith) in
    rw e at (row-in_range cs (drop 1 vs) d i (and_snd (in_range c (get_or vs 0 0)) (row_good cs (drop 1 vs)) g) (omega arith))

-- A line with another first field: the other fields read as before.
module _ (c : Column) (cs : List Column) (t s : List ℕ) (n : ℕ) (wide : length t ≡ c.width) (reads : field_value c t ≡ Some n) where
  pub first_field_row : row_of (c ∷ cs) (t ++ drop c.width s) ≡ n ∷ drop 1 (row_of (c ∷ cs) s)
  unfolding row_of
  first_field_row = rw (take_at t (drop c.width s) c.width wide, drop_at t (drop c.width s) c.width wide, reads)

  pub first_field_set : line_set (c ∷ cs) s ≡ true → line_set (c ∷ cs) (t ++ drop c.width s) ≡ true
  unfolding line_set
  first_field_set h =
      rw (take_at t (drop c.width s) c.width wide, drop_at t (drop c.width s) c.width wide, reads)
      (and_snd (is_number (field_value c (take c.width s))) (line_set cs (drop c.width s)) h)

-- A field by its index.

-- the bytes of field i
unfoldable pub field_at : ℕ → List Column → List ℕ → List ℕ
field_at i cs s = take (get_or cs i no_column).width (drop (offset i cs) s)

-- the number of field i is what its bytes hold
pub field_at_lem : (i : ℕ) (cs : List Column) (s : List ℕ)
    → i < length cs → line_set cs s ≡ true → field_value (get_or cs i no_column) (field_at i cs s) ≡ Some (get_or (row_of cs s) i 0)
unfolding field_at offset row_of line_set
field_at_lem i [] s l h = absurd (omega arith)
field_at_lem zero (c ∷ cs) s l h =
    let r = field_value c (take c.width s) in
    is_number-number r (and_fst (is_number r) (line_set cs (drop c.width s)) h)
field_at_lem (suc i) (c ∷ cs) s l h =
    let g = is_number (field_value c (take c.width s)) in
    rw drop-drop at (field_at_lem i cs (drop c.width s) (omega arith) (and_snd g (line_set cs (drop c.width s)) h))

-- and is read there, whatever the bytes
pub row_at : (i : ℕ) (cs : List Column) (s : List ℕ) → i < length cs → get_or (row_of cs s) i 0 ≡ number (field_value (get_or cs i no_column) (field_at i cs s))
unfolding field_at offset row_of
row_at i [] s l = absurd (omega arith)
row_at zero (c ∷ cs) s l = refl
row_at (suc i) (c ∷ cs) s l = rw drop-drop at (row_at i cs (drop c.width s) (omega arith))

-- a field of line i, of w bytes, of a sheet
pub field_there : (i w at : ℕ) (cs : List Column) (s : List ℕ) → offset i cs + (get_or cs i no_column).width ≤ w
    → take (get_or cs i no_column).width (drop (at + offset i cs) s) ≡ field_at i cs (take w (drop at s))
unfolding field_at
field_there i w at cs s l =
    ap (take (get_or cs i no_column).width) (sym (drop-drop (offset i cs) at s))
    ∙ sym (take-drop-take (get_or cs i no_column).width (offset i cs) w (drop at s) l)

-- LF stands behind the last field
pub line_end_lem : (cs : List Column) (s : List ℕ) → line_set cs s ≡ true → drop (offset (length cs) cs) s ≡ 10 ∷ []
unfolding offset line_set
line_end_lem [] s h = eq_list-true s (10 ∷ []) h
line_end_lem (c ∷ cs) s h =
    let g = is_number (field_value c (take c.width s)) in
    rw drop-drop at (line_end_lem cs (drop c.width s) (and_snd g (line_set cs (drop c.width s)) h))

-- a figure is the number that its digits make
pub digits_at : (i : ℕ) (cs : List Column) (s : List ℕ)
    → i < length cs → is_figure (get_or cs i no_column) ≡ true → line_set cs s ≡ true → digits (field_at i cs s) ≡ get_or (row_of cs s) i 0
digits_at i cs s l f h =
    let t = field_at i cs s in
    let v = get_or (row_of cs s) i 0 in
    digits_are t v (scan_of (get_or cs i no_column) t v f (field_at_lem i cs s l h))

-- a field ends before LF
pub field_within : (i : ℕ) (cs : List Column) → i < length cs → offset i cs + (get_or cs i no_column).width < line_bytes cs
unfolding offset line_bytes
field_within i [] l = absurd (omega arith)
field_within zero (c ∷ cs) l = omega (arith, positive cs)
field_within (suc i) (c ∷ cs) l = omega (arith, field_within i cs (omega arith))
