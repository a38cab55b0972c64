-- One turn of reading and of writing a line, field i of it.
use Rattle.std.specs.Prelude.{◌≡◌, ◌+◌, ◌-◌, ◌≤◌, ◌<◌, ◌&&◌, ◌∷◌, ◌++◌}
use Rattle.lists.specs.Basics.{refl, sym, ap, ap₂, ℕ, suc, Bool, true, List, [], append-nil, append_assoc}
use Rattle.lists.specs.Basics.{length, take, drop, get_or, set, length-append, length-take, length-drop, length-set, drop_of_length-le, drop-drop, take_at}
use Rattle.lists.specs.Basics.{take_all, get_or-drop, arith, add-one, all}
use Rattle.std.specs.List.{list_all, zip}
use Rattle.std.proofs.Common.{add-zero, ◌∙◌}
use Rattle.std.proofs.Math.Seq.{take-suc-set, append_snoc}
use Rattle.std.proofs.lemmas.List.{set_split}
use Rattle.lists.specs.All.{all_at}
use Rattle.decimal.specs.Field.{number}
use Rattle.lists.specs.Walks.{drop_here}
use Rattle.model.specs.Types.{Layout, RecordLine, KeyLine, CoordinatorHead, CoordinatorLine, Column}
use Rattle.model.specs.Layouts.{layout, record_layout, key_layout, head_layout, line_layout, no_column}
use Rattle.model.specs.Lines.{field_value, field_bytes, in_range, row_of, line_text, row_good}
use Rattle.sheet_laws.specs.Lines.{line_bytes}
use Rattle.sheet_laws.specs.Fields.{wide_enough, length-field_bytes}

-- every word of every layout has room in its field
pub layout_wide_lem : (l : Layout) → all wide_enough (layout l) ≡ true
unfolding all layout record_layout key_layout head_layout line_layout
layout_wide_lem RecordLine = refl
layout_wide_lem KeyLine = refl
layout_wide_lem CoordinatorHead = refl
layout_wide_lem CoordinatorLine = refl

pub column_wide : (l : Layout) (i : ℕ) (c : Column) → i < length (layout l) → c ≡ get_or (layout l) i no_column → wide_enough c ≡ true
column_wide l i c h e = ap wide_enough e ∙ all_at wide_enough (layout l) no_column i (layout_wide_lem l) h

module _ (cs : List Column) (i at : ℕ) (c : Column) (inside : i < length cs) (e : c ≡ get_or cs i no_column) where
  -- what is left of the line after this field
  bytes-turn : (n : ℕ) → at + line_bytes (drop i cs) ≡ n → (at + c.width + line_bytes (drop (i + 1) cs) ≡ n) × (at + c.width ≤ n)
  unfolding line_bytes
  bytes-turn n h =
      let f : line_bytes (drop i cs) ≡ c.width + line_bytes (drop (i + 1) cs) = ap line_bytes (drop_here cs i no_column c inside e) in
      (omega arith, omega arith)

  row-turn : (line row whole : List ℕ) (v : ℕ) → length row ≡ length cs → v ≡ number (field_value c (take (at + c.width - at) (drop at line))) → take i row ++ row_of (drop i cs) (drop at line) ≡ whole → take (i + 1) (set row i v) ++ row_of (drop (i + 1) cs) (drop (at + c.width) line) ≡ whole
  unfolding row_of
  row-turn line row whole v n q h =
      let w : at + c.width - at ≡ c.width = omega arith in
      let t : take (i + 1) (set row i v) ≡ take i row ++ (v ∷ []) =
      ap (λ (k : ℕ). take k (set row i v)) (add-one i) ∙ take-suc-set row i v (omega arith) in
      let r : row_of (drop i cs) (drop at line) ≡ v ∷ row_of (drop (i + 1) cs) (drop (at + c.width) line) =
      ap (λ (ds : List Column). row_of ds (drop at line)) (drop_here cs i no_column c inside e)
      ∙ ap₂ ◌∷◌ (sym (rw w at q)) (ap (row_of (drop (i + 1) cs)) (drop-drop c.width at line)) in
      rw t (append_snoc (take i row) v (row_of (drop (i + 1) cs) (drop (at + c.width) line)) ∙ (ap (λ (x : List ℕ). take i row ++ x) (sym r) ∙ h))

  text-turn : (line row whole : List ℕ) → length row ≡ length cs → at + c.width ≤ length line → length (field_bytes c (get_or row i 0)) ≡ c.width → take at line ++ line_text (drop i cs) (drop i row) ≡ whole → take (at + c.width) (take at line ++ (field_bytes c (get_or row i 0) ++ drop (at + c.width - at) (drop at line))) ++ line_text (drop (i + 1) cs) (drop (i + 1) row) ≡ whole
  unfolding line_text
  text-turn line row whole n l f h =
      let b = field_bytes c (get_or row i 0) in
      let rest = drop (at + c.width - at) (drop at line) in
      let k : length (take at line ++ b) ≡ at + c.width = simp (length-append, length-take) (omega arith) in
      let t : take (at + c.width) (take at line ++ (b ++ rest)) ≡ take at line ++ b =
      ap (take (at + c.width)) (sym (append_assoc (take at line) b rest)) ∙ take_at (take at line ++ b) rest (at + c.width) k in
      let v : get_or (drop i row) 0 0 ≡ get_or row i 0 = get_or-drop i row 0 0 ∙ ap (λ (j : ℕ). get_or row j 0) (add-zero i) in
      let r : line_text (drop i cs) (drop i row) ≡ b ++ line_text (drop (i + 1) cs) (drop (i + 1) row) =
      ap (λ (ds : List Column). line_text ds (drop i row)) (drop_here cs i no_column c inside e)
      ∙ ap₂ ◌++◌ (ap (field_bytes c) v) (ap (line_text (drop (i + 1) cs)) (drop-drop 1 i row)) in
      rw t (append_assoc (take at line) b (line_text (drop (i + 1) cs) (drop (i + 1) row)) ∙ (ap (λ (x : List ℕ). take at line ++ x) (sym r) ∙ h))

-- How far a line has been read into a row: fields before i are there, and the bytes from `at` on are those of the others.
pub record ReadTo (cs : List Column) (line row : List ℕ) (at i : ℕ) : Type 0 where
  pub reached : i ≤ length cs
  pub room : length row ≡ length cs
  pub left : at + line_bytes (drop i cs) ≡ length line
  pub done : take i row ++ row_of (drop i cs) (drop at line) ≡ row_of cs line

pub read_first : (cs : List Column) (line row : List ℕ) → length line ≡ line_bytes cs → length row ≡ length cs → ReadTo cs line row 0 0
read_first cs line row n m = record { reached = omega arith; room = m; left = omega arith; done = refl }

-- the field is within the line
pub field_ends : (cs : List Column) (i at n : ℕ) (c : Column) → i < length cs → c ≡ get_or cs i no_column → at + line_bytes (drop i cs) ≡ n → at + c.width ≤ n
field_ends cs i at n c l e h = (bytes-turn cs i at c l e n h).1

pub read_next : (cs : List Column) (line row : List ℕ) (at i : ℕ) (c : Column) (v : ℕ) → i < length cs → c ≡ get_or cs i no_column → v ≡ number (field_value c (take (at + c.width - at) (drop at line))) → ReadTo cs line row at i → ReadTo cs line (set row i v) (at + c.width) (i + 1)
read_next cs line row at i c v l e q r =
    record {
      reached = omega arith;
      room = length-set row i v ∙ r.room;
      left = (bytes-turn cs i at c l e (length line) r.left).0;
      done = row-turn cs i at c l e line row (row_of cs line) v r.room q r.done;
    }

pub read_last : (cs : List Column) (line row : List ℕ) (at i : ℕ) → length cs ≤ i → ReadTo cs line row at i → row ≡ row_of cs line
unfolding row_of
read_last cs line row at i l r =
    let e : length cs ≤ i = l in
    let d : drop i cs ≡ [] = drop_of_length-le cs e in
    let n : length row ≡ length cs = r.room in
    let t : take i row ≡ row = take_all i row (omega arith) in
    sym (append-nil row) ∙ (rw (d, t) at r.done)

-- How far a line has been written from a row.
pub record WrittenTo (cs : List Column) (row line : List ℕ) (at i : ℕ) : Type 0 where
  pub reached : i ≤ length cs
  pub room : length line ≡ line_bytes cs
  pub left : at + line_bytes (drop i cs) ≡ length line
  pub done : take at line ++ line_text (drop i cs) (drop i row) ≡ line_text cs row

pub write_first : (cs : List Column) (row line : List ℕ) → length line ≡ line_bytes cs → WrittenTo cs row line 0 0
write_first cs row line n = record { reached = omega arith; room = n; left = omega arith; done = refl }

pub write_next : (cs : List Column) (row line t : List ℕ) (at i : ℕ) (c : Column) → length row ≡ length cs → i < length cs → c ≡ get_or cs i no_column → t ≡ field_bytes c (get_or row i 0) → wide_enough c ≡ true → WrittenTo cs row line at i → WrittenTo cs row (take at line ++ (t ++ drop (at + c.width - at) (drop at line))) (at + c.width) (i + 1)
write_next cs row line t at i c n l e q w r =
    let f : length t ≡ c.width = ap length q ∙ length-field_bytes c (get_or row i 0) w in
    let o : at + c.width ≤ length line = field_ends cs i at (length line) c l e r.left in
    let m : length (take at line ++ (t ++ drop (at + c.width - at) (drop at line))) ≡ length line =
    simp (length-append, length-take, length-drop) (omega arith) in
    record {
      reached = omega arith;
      room = m ∙ r.room;
      left = (bytes-turn cs i at c l e (length line) r.left).0 ∙ sym m;
      done =
          ap (λ (x : List ℕ). take (at + c.width) (take at line ++ (x ++ drop (at + c.width - at) (drop at line))) ++ line_text (drop (i + 1) cs) (drop (i + 1) row)) q
          ∙ text-turn cs i at c l e line row (line_text cs row) n o (ap length (sym q) ∙ f) r.done;
    }

-- LF ends the line
pub write_last : (cs : List Column) (row line : List ℕ) (at i : ℕ) → length cs ≤ i → WrittenTo cs row line at i → (set line at 10 ≡ line_text cs row) × (at < length line)
unfolding line_text line_bytes
write_last cs row line at i l r =
    let d : drop i cs ≡ [] = drop_of_length-le cs l in
    let k : at + 1 ≡ length line = rw d at r.left in
    let e : length line ≤ suc at = omega arith in
    let z : drop (suc at) line ≡ [] = drop_of_length-le line e in
    (set_split line at 10 (omega arith) ∙ rw z (rw d at r.done), omega arith)

-- the columns and the numbers of a row, side by side
pub good_is : (cs : List Column) (row : List ℕ) → length row ≡ length cs → list_all (λ (p : Column × ℕ). in_range p.0 p.1) (zip cs row) ≡ row_good cs row
unfolding row_good
good_is [] row n = refl
good_is (c ∷ cs) [] n = absurd (omega arith)
good_is (c ∷ cs) (v ∷ row) n = ap (λ (b : Bool). in_range c v && b) (good_is cs row (omega arith))
