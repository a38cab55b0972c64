-- The search of a key, line by line and field by field: the first line whose twenty bytes are those of the key's line; and of its rank, by halves.
use Rattle.std.specs.Prelude.{◌≡◌, ◌+◌, ◌-◌, ◌*◌, ◌/◌, ◌≤◌, ◌<◌, ◌∷◌, ◌++◌}
use Rattle.lists.specs.Basics.{refl, sym, ap, ap₂, ℕ, zero, suc, Bool, true, false, cond, true≢false, List, []}
use Rattle.lists.specs.Basics.{map, length, take, drop, get_or, drop-drop, take-add, arith, add-one, ltb, ltb-true, ltb-false, all, eq_list, eq_list-true, eq_list_refl, tests}
use Rattle.std.proofs.Common.{zero-add, ◌∙◌}
use Rattle.lists.specs.Bytes.{ne_eq_list}
use Rattle.lists.specs.Pieces.{take-drop-take, get_or-pieces}
use Rattle.lists.specs.Walks.{LeftFrom, left_here, left_last}
use Rattle.model.specs.Types.{Key, Record, Found, Some, None}
use Rattle.model.specs.Layouts.{record_layout, record_bytes, key_bytes, offset, record_offset}
use Rattle.model.specs.Lines.{line_set, lines_of, lines_set}
use Rattle.model.specs.Search.{first_from}
use Rattle.model.specs.Records.{records, record_in, no_record, records_accepted, key_in_range, key_less, same_key, found, rank}
use Rattle.sheet_laws.specs.Search.{first-map}
use Rattle.sheet_laws.specs.ByIndex.{length-lines, length-records}
use Rattle.sheet_laws.specs.Ranks.{accepted_order, rank-within, rank_side}
use Rattle.sheet_laws.specs.Keys.{key_line, key_line-text, key_same}

-- where key field f begins
unfoldable pub edge : ℕ → ℕ
edge f = get_or (0 ∷ 2 ∷ 5 ∷ 8 ∷ 14 ∷ 20 ∷ []) f 0

pub edges_of_layout : map edge (0 ∷ 1 ∷ 2 ∷ 3 ∷ 4 ∷ 5 ∷ []) ≡ map record_offset (0 ∷ 1 ∷ 2 ∷ 3 ∷ 4 ∷ 5 ∷ [])
unfolding edge offset record_layout
edges_of_layout = refl

pub edges : (f : ℕ) → f < 5 → (edge f ≤ edge (f + 1)) × (edge (f + 1) ≤ key_bytes)
unfolding edge
edges zero l = omega arith
edges (suc zero) l = omega arith
edges (suc (suc zero)) l = omega arith
edges (suc (suc (suc zero))) l = omega arith
edges (suc (suc (suc (suc zero)))) l = omega arith
edges (suc (suc (suc (suc (suc f))))) l = absurd (omega arith)

-- key field f of the line at `at`
abbrev pub key_field : ℕ → ℕ → List ℕ → List ℕ
key_field f at s = take (at + edge (f + 1) - (at + edge f)) (drop (at + edge f) s)

-- the line at an index
abbrev line_bytes_at : List ℕ → ℕ → List ℕ
line_bytes_at s i = take record_bytes (drop (i * record_bytes) s)

-- a field of the sheet is that of its line
field_of_line : (s : List ℕ) (i f : ℕ) → f < 5 → key_field f (i * record_bytes) s ≡ take (edge (f + 1) - edge f) (drop (edge f) (line_bytes_at s i))
field_of_line s i f l =
    let e = edges f l in
    let n : i * record_bytes + edge (f + 1) - (i * record_bytes + edge f) ≡ edge (f + 1) - edge f = omega arith in
    rw n
    (ap (take (edge (f + 1) - edge f)) (sym (drop-drop (edge f) (i * record_bytes) s))
    ∙ sym (take-drop-take (edge (f + 1) - edge f) (edge f) record_bytes (drop (i * record_bytes) s) (omega arith)))

pub field_of_text : (t : List ℕ) (f : ℕ) → key_field f 0 t ≡ take (edge (f + 1) - edge f) (drop (edge f) t)
field_of_text t f = simp zero-add

-- the parts that the code compares are those of the line and of the key's line
parts_compared : (s text : List ℕ) (i f : ℕ) (b : Bool) → f < 5 → eq_list (key_field f (i * record_bytes) s) (key_field f 0 text) ≡ b → eq_list (take (edge (f + 1) - edge f) (drop (edge f) (line_bytes_at s i))) (take (edge (f + 1) - edge f) (drop (edge f) text)) ≡ b
parts_compared s text i f b l e = sym (ap₂ eq_list (field_of_line s i f l) (field_of_text text f)) ∙ e

-- Two texts that agree from p up to n agree from o if the parts between do, and differ in their first n if the parts differ.
module _ (line text : List ℕ) (o p n : ℕ) (rising : o ≤ p) (within : p ≤ n) where
  from_earlier : (t : List ℕ) → take (n - o) (drop o t) ≡ take (p - o) (drop o t) ++ take (n - p) (drop p t)
  from_earlier t =
      let l : p - o + (n - p) ≡ n - o = omega arith in
      let m : o + (p - o) ≡ p = omega arith in
      ap (λ (k : ℕ). take k (drop o t)) (sym l)
      ∙ (take-add (p - o) (n - p) (drop o t)
      ∙ ap (λ (u : List ℕ). take (p - o) (drop o t) ++ take (n - p) u) (drop-drop (p - o) o t ∙ ap (λ (k : ℕ). drop k t) m))

  agree_more : take (n - p) (drop p line) ≡ take (n - p) (drop p text) → eq_list (take (p - o) (drop o line)) (take (p - o) (drop o text)) ≡ true → take (n - o) (drop o line) ≡ take (n - o) (drop o text)
  agree_more h e =
      let q = eq_list-true (take (p - o) (drop o line)) (take (p - o) (drop o text)) e in
      from_earlier line ∙ (ap₂ ◌++◌ q h ∙ sym (from_earlier text))

  agree-not : eq_list (take (p - o) (drop o line)) (take (p - o) (drop o text)) ≡ false → take n line ≡ take n text → ⊥
  agree-not e h =
      let a = take-drop-take (p - o) o n line (omega arith) in
      let b = take-drop-take (p - o) o n text (omega arith) in
      let q : take (p - o) (drop o line) ≡ take (p - o) (drop o text) = sym a ∙ (ap (λ (t : List ℕ). take (p - o) (drop o t)) h ∙ b) in
      true≢false (sym (eq_list_refl (take (p - o) (drop o text))) ∙ (ap (λ (t : List ℕ). eq_list t (take (p - o) (drop o text))) (sym q) ∙ e))

-- the index of the first line, counted from i, that begins as the text does
abbrev pub found_line : ℕ → List ℕ → List (List ℕ) → Found
found_line i text ls = first_from (λ (l : List ℕ). eq_list (take key_bytes l) (take key_bytes text)) i ls

-- How far the lines have been passed: none before i begins so.
abbrev pub Passed : (s text : List ℕ) (i : ℕ) → Type 0
Passed s text i = LeftFrom (lines_of record_bytes s) (found_line i text) (found_line 0 text (lines_of record_bytes s)) i

-- How far line i agrees with the key's line: from field f on.
pub record Agreed (s text : List ℕ) (i f : ℕ) : Type 0 where
  pub reached : f ≤ 5
  pub same : take (key_bytes - edge f) (drop (edge f) (line_bytes_at s i)) ≡ take (key_bytes - edge f) (drop (edge f) text)

pub agree-first : (s text : List ℕ) (i : ℕ) → Agreed s text i 5
unfolding edge
agree-first s text i = record { reached = omega arith; same = refl }

pub agree_next : (s text : List ℕ) (i g f : ℕ) → g ≡ f + 1 → f < 5 → eq_list (key_field f (i * record_bytes) s) (key_field f 0 text) ≡ true → Agreed s text i g → Agreed s text i f
agree_next s text i g f n l e a =
    let k = edges f l in
    let h : take (key_bytes - edge (f + 1)) (drop (edge (f + 1)) (line_bytes_at s i)) ≡ take (key_bytes - edge (f + 1)) (drop (edge (f + 1)) text) = rw n at a.same in
    record { reached = omega arith; same = agree_more (line_bytes_at s i) text (edge f) (edge (f + 1)) key_bytes k.0 k.1 h (parts_compared s text i f true l e) }

-- Line i, by whether it begins as the text does.
module _ (s text : List ℕ) (i : ℕ) (here : i < length s / record_bytes) (p : Passed s text i) where
  from-here : cond (eq_list (take key_bytes (line_bytes_at s i)) (take key_bytes text)) (Some i) (found_line (i + 1) text (drop (i + 1) (lines_of record_bytes s))) ≡ found_line 0 text (lines_of record_bytes s)
  unfolding first_from lines_of
  from-here =
      let e : line_bytes_at s i ≡ get_or (lines_of record_bytes s) i [] = sym (get_or-pieces record_bytes i (length s / record_bytes) s here) in
      rw (add-one i)
      (rw (add-one i) at
      (left_here (lines_of record_bytes s) (found_line i text) [] (line_bytes_at s i) (found_line 0 text (lines_of record_bytes s)) i (omega (arith, length-lines record_bytes s)) e p))

  pub pass-met : (f : ℕ) → f ≤ 0 → Agreed s text i f → Some i ≡ found_line 0 text (lines_of record_bytes s)
  unfolding edge
  pass-met f l a =
      let n : f ≡ 0 = omega arith in
      let k : take key_bytes (line_bytes_at s i) ≡ take key_bytes text = rw n at a.same in
      let m : eq_list (take key_bytes (line_bytes_at s i)) (take key_bytes text) ≡ true = rw k (eq_list_refl (take key_bytes text)) in
      rw m at from-here

  pub pass_next : (f : ℕ) → f < 5 → eq_list (key_field f (i * record_bytes) s) (key_field f 0 text) ≡ false → Passed s text (i + 1)
  pass_next f l d =
      let k = edges f l in
      let x : take key_bytes (line_bytes_at s i) ≡ take key_bytes text → ⊥ =
      agree-not (line_bytes_at s i) text (edge f) (edge (f + 1)) key_bytes k.0 k.1 (parts_compared s text i f false l d) in
      let m : eq_list (take key_bytes (line_bytes_at s i)) (take key_bytes text) ≡ false = ne_eq_list (take key_bytes (line_bytes_at s i)) (take key_bytes text) x in
      record { reached = omega (arith, length-lines record_bytes s); rest = rw m at from-here }

pub pass_last : (s text : List ℕ) (i : ℕ) → length s / record_bytes ≤ i → Passed s text i → None ≡ found_line 0 text (lines_of record_bytes s)
unfolding first_from
pass_last s text i l p = left_last (lines_of record_bytes s) (found_line i text) (found_line 0 text (lines_of record_bytes s)) i (omega (arith, length-lines record_bytes s)) p

-- the line that begins as a key line does is the one that has the key
pub search_is : (s : List ℕ) (k : Key) → records_accepted s ≡ true → key_in_range k ≡ true → found_line 0 (key_line k) (lines_of record_bytes s) ≡ found k (records s)
unfolding records_accepted lines_set records found
search_is s k a g =
    let w : all (line_set record_layout) (lines_of record_bytes s) ≡ true = search tests in
    sym
    (first-map (λ (r : Record). same_key r.key k) record_in (line_set record_layout) _
    (λ l o. sym (ap (eq_list (take key_bytes l)) (key_line-text k) ∙ key_same l o k g)) 0 (lines_of record_bytes s) w)

-- The rank of a key stands from low to high, of the lines of an accepted sheet.
pub record Between (s : List ℕ) (k : Key) (low high : ℕ) : Type 0 where
  pub above : low ≤ rank k (records s)
  pub within : rank k (records s) ≤ high
  pub inside : high ≤ length s / record_bytes

module _ (s : List ℕ) (k : Key) where
  pub between_first : Between s k 0 (length s / record_bytes)
  between_first = record { above = omega arith; within = omega (arith, rank-within k (records s), length-records s); inside = omega arith }

  pub between_last : (low high : ℕ) → Between s k low high → high ≤ low → low ≡ rank k (records s)
  between_last low high b l = omega (arith, b.above, b.within)

  -- the line in the middle tells on which side of it
  module _ (accepted : records_accepted s ≡ true) (low high m : ℕ) (b : Between s k low high) (here : m < high) where
    side : (r : Bool) → r ≡ key_less (get_or (records s) m no_record).key k → ltb m (rank k (records s)) ≡ r
    side r e = sym (e ∙ rank_side k (records s) no_record (accepted_order s accepted) m (omega (arith, length-records s, b.inside)))

    pub between_behind : (r : Bool) → r ≡ key_less (get_or (records s) m no_record).key k → r ≡ true → Between s k (m + 1) high
    between_behind r e t =
        record { above = omega (arith, ltb-true m (rank k (records s)) (side r e ∙ t)); within = b.within; inside = b.inside }

    pub between_before : (r : Bool) → r ≡ key_less (get_or (records s) m no_record).key k → r ≡ false → Between s k low m
    between_before r e f =
        record { above = b.above; within = ltb-false m (rank k (records s)) (side r e ∙ f); inside = omega (arith, b.inside) }
