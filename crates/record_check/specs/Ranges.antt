-- Layouts that differ in their ranges alone. Reading a line by a layout is reading it by the widest ranges that its bytes can hold, and holding the
-- numbers that were read to the layout's own ranges. It goes field by field, since a line that passes has the layout's length, so that no field is
-- cut short.
use Rattle.std.specs.Prelude.{◌≡◌, ◌-◌, ◌≤◌, ◌<◌, ◌&&◌, ◌∷◌, Some, None}
use Rattle.std.proofs.Common.{◌∙◌}
use Rattle.lists.specs.Basics.{refl, sym, ap, ap₂, ℕ, eqb, leb, Bool, true, false, cond, and-true, and-false, List, [], map}
use Rattle.lists.specs.Basics.{length, take, drop, length-take, length-drop, arith, leb-false, le-leb, lt-leb, all, eq_list, and_fst, and_snd, and_both}
use Rattle.lists.specs.Basics.{same_test, tests}
use Rattle.lists.specs.Tests.{and_swap}
use Rattle.decimal.specs.Scan.{Scan}
use Rattle.decimal.specs.Scan.Scan.{Blank, Number, Wrong}
use Rattle.decimal.specs.Field.{scanned, within, figure, number, is_number}
use Rattle.decimal.specs.Laws.{is_number-number, figure_scan}
use Rattle.model.specs.Types.{Column, Kind, Figure, StateWord, BeforeWord, DecisionWord, UnitLetter}
use Rattle.model.specs.Layouts.{words}
use Rattle.model.specs.Lines.{by_kind, field_value, in_range, row_of, line_set, row_good}
use Rattle.sheet_laws.specs.Fields.{column_ok, field_written_read}
use Rattle.sheet_laws.specs.Lines.{line_bytes, each_field, field_length, set_fields}
use Rattle.line_bytes.specs.Parts.{most}

-- Lines judged field by field.

-- two tests that agree on fields of full width, in columns that pass a third
module _ (p q : Column → List ℕ → Bool) (ok : Column → Bool)
    (same : (c : Column) (t : List ℕ) → ok c ≡ true → length t ≡ c.width → p c t ≡ q c t) where
  fields_sized : (cs : List Column) (s : List ℕ) → all ok cs ≡ true → length s ≡ line_bytes cs → each_field p cs s ≡ each_field q cs s
  unfolding each_field line_bytes all
  fields_sized [] s o n = refl
  fields_sized (c ∷ cs) s o n =
      let l : length (take c.width s) ≡ c.width = simp length-take (omega arith) in
      let r : length (drop c.width s) ≡ line_bytes cs = simp length-drop (omega arith) in
      ap₂ ◌&&◌
      (same c (take c.width s) (and_fst (ok c) (all ok cs) o) l)
      (fields_sized cs (drop c.width s) (and_snd (ok c) (all ok cs) o) r)

  -- they agree on lines
  pub fields_same : (cs : List Column) (s : List ℕ) → all ok cs ≡ true → each_field p cs s ≡ each_field q cs s
  fields_same cs s o =
      same_test (each_field p cs s) (each_field q cs s)
      (λ e. sym (fields_sized cs s o (field_length p cs s e)) ∙ e)
      (λ e. fields_sized cs s o (field_length q cs s e) ∙ e)

-- Ranges opened.

-- the column with the widest range: all that leaves a figure's first column blank, or all the words
unfoldable pub opened : Column → Column
opened c =
    record { width = c.width; kind = c.kind; low = 0; high = by_kind c.kind (most c.width) (length (words c.kind) - 1) }

-- the field, read by the widest range, holds a number in the column's own range
unfoldable pub held : Column → List ℕ → Bool
held c t = is_number (field_value (opened c) t) && in_range c (number (field_value (opened c) t))

-- the same of every field of a line
abbrev pub line_held : List Column → List ℕ → Bool
line_held cs s = line_set (map opened cs) s && row_good cs (row_of (map opened cs) s)

pub held_fields : (cs : List Column) (s : List ℕ) → line_held cs s ≡ each_field held cs s
unfolding each_field held opened line_set row_of row_good
held_fields [] s = and-true (eq_list s (10 ∷ []))
held_fields (c ∷ cs) s =
    let t = take c.width s in
    let r = drop c.width s in
    and_swap
    (is_number (field_value (opened c) t))
    (line_set (map opened cs) r)
    (in_range c (number (field_value (opened c) t)))
    (row_good cs (row_of (map opened cs) r))
    ∙ ap (λ (x : Bool). held c t && x) (held_fields cs r)

-- a figure in a range is one in a wider range that is held to the first
pub figure-held : (low high top : ℕ) (t : List ℕ) → high ≤ top
    → is_number (figure low high t) ≡ (is_number (figure 0 top t) && (leb low (number (figure 0 top t)) && leb (number (figure 0 top t)) high))
unfolding figure within
figure-held low high top t l = go (scanned Blank t)
  where
    Same : Scan → Type 0
    Same st =
        is_number (within low high st)
        ≡ (is_number (within 0 top st) && (leb low (number (within 0 top st)) && leb (number (within 0 top st)) high))

    chosen : (v : ℕ) (b : Bool) → is_number (cond b (Some v) None) ≡ b
    chosen v true = refl
    chosen v false = refl

    by_top : (v : ℕ) (b : Bool) → leb v top ≡ b → Same (Number v)
    by_top v true e = rw (le-leb 0 v (omega arith), e) (chosen v (leb low v && leb v high))
    by_top v false e =
        let g : top < v = leb-false v top e in
        rw (le-leb 0 v (omega arith), e, lt-leb v high (omega arith), and-false)

    go : (st : Scan) → Same st
    go Blank = refl
    go (Number v) = by_top v (leb v top) refl
    go Wrong = refl

-- a range that the widest one holds; of words, all of them
unfoldable pub opens : Column → Bool
opens c =
    column_ok (opened c)
    && by_kind c.kind (leb c.high (opened c).high) (eqb c.low 0 && eqb c.high (opened c).high)

words_held_lem : (c : Column) (t : List ℕ)
    → field_value (opened c) t ≡ field_value c t
    → (column_ok (opened c) && (eqb c.low 0 && eqb c.high (opened c).high)) ≡ true → length t ≡ c.width
    → is_number (field_value c t) ≡ held c t
unfolding held in_range opened
words_held_lem c t e o l =
    let a : column_ok (opened c) ≡ true = search tests in
    let z : c.low ≡ 0 = search tests in
    let h : c.high ≡ (opened c).high = search tests in
    same_test (is_number (field_value c t)) (held c t)
    (λ g. let f : is_number (field_value (opened c) t) ≡ true = rw e g in
    let v = number (field_value (opened c) t) in
    let r = field_written_read (opened c) t v a l (is_number-number (field_value (opened c) t) f) in
    and_both f (rw (z, h) r.1))
    (λ g. rw e at (and_fst (is_number (field_value (opened c) t)) _ g))

-- the record of a column's parts
abbrev pub column : Kind → ℕ → ℕ → ℕ → Column
column k w low high = record { width = w; kind = k; low = low; high = high }

set-held : (c : Column) (t : List ℕ) → opens c ≡ true → length t ≡ c.width → is_number (field_value c t) ≡ held c t
unfolding opens field_value opened
set-held c t = go c.kind c.width c.low c.high
  where
    go : (k : Kind) (w low high : ℕ)
        → opens (column k w low high) ≡ true → length t ≡ w → is_number (field_value (column k w low high) t) ≡ held (column k w low high) t
    go Figure w low high o l =
        let h : high ≤ most w = search tests in
        unfold held in_range in figure-held low high (most w) t h
    go StateWord w low high o l = words_held_lem (column StateWord w low high) t refl o l
    go BeforeWord w low high o l = words_held_lem (column BeforeWord w low high) t refl o l
    go DecisionWord w low high o l = words_held_lem (column DecisionWord w low high) t refl o l
    go UnitLetter w low high o l = words_held_lem (column UnitLetter w low high) t refl o l

-- a line that can be read is one whose numbers are held
pub set_is_held : (cs : List Column) (s : List ℕ) → all opens cs ≡ true → line_set cs s ≡ line_held cs s
set_is_held cs s o =
    set_fields cs s
    ∙ (fields_same (λ (c : Column) (t : List ℕ). is_number (field_value c t)) held opens set-held cs s o ∙ sym (held_fields cs s))

-- a number that a column reads is the one that is read by the widest range
same_number : (c : Column) (t : List ℕ)
    → opens c ≡ true → is_number (field_value c t) ≡ true → number (field_value (opened c) t) ≡ number (field_value c t)
unfolding opens opened field_value
same_number c t = go c.kind c.width c.low c.high
  where
    widest : (top v : ℕ) → scanned Blank t ≡ Number v → v ≤ top → figure 0 top t ≡ Some v
    widest top v e l = unfold figure within in rw (e, le-leb 0 v (omega arith), le-leb v top l)

    figures : (low high top : ℕ) → high ≤ top → is_number (figure low high t) ≡ true → number (figure 0 top t) ≡ number (figure low high t)
    figures low high top l g =
        let v = number (figure low high t) in
        let f = is_number-number (figure low high t) g in
        let r = figure_scan low high t v f in
        let k : v ≤ high = r.1.1 in
        ap number (widest top v r.0 (omega arith) ∙ sym f)

    go : (k : Kind) (w low high : ℕ)
        → opens (column k w low high) ≡ true
        → is_number (field_value (column k w low high) t) ≡ true
        → number (field_value (opened (column k w low high)) t) ≡ number (field_value (column k w low high) t)
    go Figure w low high o g = let h : high ≤ most w = search tests in figures low high (most w) h g
    go StateWord w low high o g = refl
    go BeforeWord w low high o g = refl
    go DecisionWord w low high o g = refl
    go UnitLetter w low high o g = refl

-- and has the same row either way
pub same_row : (cs : List Column) (s : List ℕ) → all opens cs ≡ true → line_set cs s ≡ true → row_of (map opened cs) s ≡ row_of cs s
unfolding all opened row_of line_set
same_row [] s o h = refl
same_row (c ∷ cs) s o h =
    let t = take c.width s in
    let r = drop c.width s in
    ap₂ ◌∷◌
    (same_number c t (and_fst (opens c) (all opens cs) o) (and_fst (is_number (field_value c t)) (line_set cs r) h))
    (same_row cs r (and_snd (opens c) (all opens cs) o) (and_snd (is_number (field_value c t)) (line_set cs r) h))
