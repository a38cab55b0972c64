-- Filling with decisions: number by number from the lines of a sheet, and line by line from the numbers.
-- Each loop stores element i of a list that is known beforehand.
use Rattle.std.specs.Prelude.{◌≡◌, ◌+◌, ◌-◌, ◌*◌, ◌/◌, ◌≤◌, ◌<◌, ◌∷◌, ◌++◌}
use Rattle.std.proofs.Common.{◌∙◌}
use Rattle.lists.specs.Basics.{refl, sym, ap, ℕ, zero, suc, List, [], map, length, take, drop, get_or, set}
use Rattle.lists.specs.Basics.{length-map, get_or-map, arith, joined}
use Rattle.lists.specs.All.{get_or_any}
use Rattle.lists.specs.Pieces.{over-part, length-pieces, get_or-pieces}
use Rattle.lists.specs.Fill.{FilledTo, fill_first, fill_next, fill_last, StoredTo, store_first, store_next, store_last}
use Rattle.model.specs.Layouts.{head_layout, line_layout, coordinator_bytes, head_fields}
use Rattle.model.specs.Lines.{row_of, line_text, lines_of}

-- Numbers from lines.

-- the number of a line's decision
unfoldable pub decision_field : List ℕ → ℕ
decision_field line = get_or (row_of line_layout line) 1 0

module _ (s : List ℕ) where
  -- How far the target is filled.
  abbrev pub ReadTo : List ℕ → ℕ → Type 0
  ReadTo target i = StoredTo (map decision_field (lines_of coordinator_bytes s)) target i

  read_count : length (map decision_field (lines_of coordinator_bytes s)) ≡ length s / coordinator_bytes
  unfolding lines_of
  read_count = length-map (lines_of coordinator_bytes s) decision_field ∙ length-pieces coordinator_bytes (length s / coordinator_bytes) s

  pub read_first : (target : List ℕ) → length target ≡ length s / coordinator_bytes → ReadTo target 0
  read_first target e = store_first (map decision_field (lines_of coordinator_bytes s)) target (e ∙ sym read_count)

  pub read_room : (target : List ℕ) (i : ℕ) → ReadTo target i → length target ≡ length s / coordinator_bytes
  read_room target i r = r.room ∙ read_count

  -- number i, from the row of the line that the code lends
  pub read_next : (target row : List ℕ) (i : ℕ) → i < length s / coordinator_bytes → row ≡ row_of line_layout (take coordinator_bytes (drop (i * coordinator_bytes) s)) → ReadTo target i → ReadTo (set target i (get_or row 1 0)) (i + 1)
  unfolding decision_field lines_of
  read_next target row i l e r =
      let n : i < length (map decision_field (lines_of coordinator_bytes s)) = omega (arith, read_count) in
      let g : get_or (map decision_field (lines_of coordinator_bytes s)) i 0 ≡ decision_field (take coordinator_bytes (drop (i * coordinator_bytes) s)) =
      get_or_any (map decision_field (lines_of coordinator_bytes s)) i 0 (decision_field []) n
      ∙ (get_or-map decision_field (lines_of coordinator_bytes s) i [] ∙ ap decision_field (get_or-pieces coordinator_bytes i (length s / coordinator_bytes) s l)) in
      store_next (map decision_field (lines_of coordinator_bytes s)) target (get_or row 1 0) i n (ap (λ (x : List ℕ). get_or x 1 0) e ∙ sym g) r

  pub read_last : (target : List ℕ) (i : ℕ) → length s / coordinator_bytes ≤ i → ReadTo target i → target ≡ map decision_field (lines_of coordinator_bytes s)
  read_last target i l r = store_last (map decision_field (lines_of coordinator_bytes s)) target i (let c = read_count in omega arith) r

-- Lines from numbers.

-- the lines for the decisions of numbers k, k + 1, ..
unfoldable pub line_texts : ℕ → List ℕ → List (List ℕ)
line_texts k [] = []
line_texts k (d ∷ ds) = line_text line_layout (k ∷ d ∷ []) ∷ line_texts (suc k) ds

pub length-line_texts : (k : ℕ) (ds : List ℕ) → length (line_texts k ds) ≡ length ds
unfolding line_texts
length-line_texts k [] = refl
length-line_texts k (d ∷ ds) = ap suc (length-line_texts (suc k) ds)

-- line i is that of its number and decision
line_at_lem : (k i : ℕ) (ds : List ℕ) → i < length ds → get_or (line_texts k ds) i [] ≡ line_text line_layout ((i + k) ∷ get_or ds i 0 ∷ [])
unfolding line_texts
line_at_lem k i [] l = absurd (omega arith)
line_at_lem k zero (d ∷ ds) l =
    let e : 0 + k ≡ k = omega arith in
    rw e
line_at_lem k (suc i) (d ∷ ds) l =
    let e : suc i + k ≡ i + suc k = omega arith in
    rw e (line_at_lem (suc k) i ds (omega arith))

module _ (ds : List ℕ) where
  -- How far the target is written.
  abbrev pub WrittenTo : List ℕ → ℕ → Type 0
  WrittenTo target i = FilledTo coordinator_bytes (line_texts 1 ds) target i

  pub written-first : (target : List ℕ) → length target ≡ length ds * coordinator_bytes → WrittenTo target 0
  written-first target e = fill_first coordinator_bytes (line_texts 1 ds) target (e ∙ ap (λ (k : ℕ). k * coordinator_bytes) (sym (length-line_texts 1 ds)))

  pub written_room : (target : List ℕ) (i : ℕ) → WrittenTo target i → length target ≡ length ds * coordinator_bytes
  written_room target i w = w.room ∙ ap (λ (k : ℕ). k * coordinator_bytes) (length-line_texts 1 ds)

  -- line i, lent and come back as t
  pub written_next : (target t : List ℕ) (i : ℕ) → i < length ds → length t ≡ i * coordinator_bytes + coordinator_bytes - i * coordinator_bytes → t ≡ line_text line_layout ((i + 1) ∷ get_or ds i 0 ∷ []) → WrittenTo target i → WrittenTo (take (i * coordinator_bytes) target ++ (t ++ drop (i * coordinator_bytes + coordinator_bytes - i * coordinator_bytes) (drop (i * coordinator_bytes) target))) (i + 1)
  written_next target t i l k e w =
      let v : i * coordinator_bytes + coordinator_bytes - i * coordinator_bytes ≡ coordinator_bytes = omega arith in
      let q : i < length (line_texts 1 ds) = omega (arith, length-line_texts 1 ds) in
      rw (over-part target t (i * coordinator_bytes) (i * coordinator_bytes + coordinator_bytes) k)
      (fill_next coordinator_bytes (line_texts 1 ds) target t i q (e ∙ sym (line_at_lem 1 i ds l)) (k ∙ v) w)

  pub written_last : (target : List ℕ) (i : ℕ) → length ds ≤ i → WrittenTo target i → target ≡ joined (line_texts 1 ds)
  written_last target i l w = fill_last coordinator_bytes (line_texts 1 ds) target i (let c = length-line_texts 1 ds in omega arith) w

-- Head and lines.

-- the numbers of a sheet, whatever its bytes
unfoldable pub numbers_in : List ℕ → List ℕ
numbers_in s = row_of head_layout (take coordinator_bytes s) ++ map decision_field (lines_of coordinator_bytes (drop coordinator_bytes s))

-- the sheet for numbers, whatever they are
unfoldable pub sheet_for : List ℕ → List ℕ
sheet_for v = line_text head_layout (take head_fields v) ++ joined (line_texts 1 (drop head_fields v))
