-- What the two calls on a coordinator's numbers answer, case by case in the order of their conditions. Where none holds, the head and
-- the lines say the numbers of the coordinator, part by part.
use Rattle.std.specs.Prelude.{◌≡◌, ◌+◌, ◌*◌, ◌/◌, ◌≤◌, ◌∷◌, ◌++◌}
use Rattle.std.proofs.Common.{◌∙◌}
use Rattle.lists.specs.Basics.{refl, sym, ap, ap₂, ℕ, suc, eqb, true, false, List, [], map, length, take, drop, get_or}
use Rattle.lists.specs.Basics.{length-map, length-take, arith, eq-eqb, ne_eqb, all, joined, and_fst, and_snd, tests}
use Rattle.lists.specs.All.{map-map, map_equal}
use Rattle.model.specs.Layouts.{head_layout, line_layout, decision_column, figures, coordinator_bytes, head_fields}
use Rattle.model.specs.Lines.{row_of, line_text, line_set, row_good, in_range, lines_of}
use Rattle.model.specs.Coordinator.{decision_number, decision_of, decision_in, decision_texts, head_numbers, coordinator_of, coordinator_readable, coordinator_accepted, coordinator_text}
use Rattle.model.specs.Coordinator.{coordinator_numbers, coordinator_from, numbers_accepted}
use Rattle.model.specs.Refusals.{refusal_of}
use Rattle.model.specs.SheetCalls.{read_coordinator_conditions, decisions_read, write_coordinator_conditions, coordinator_written}
use Rattle.sheet_laws.specs.Lines.{length-row_of, line_written_read, row-in_range}
use Rattle.sheet_laws.specs.Coordinator.{head_layout_ok, line-layout_ok, number_of-decision, head_numbers_lem, bounds}
use Rattle.sheet_laws.specs.Decisions.{accepted_parts, readable_parts}
use Rattle.numbers.specs.DecisionFills.{decision_field, line_texts, numbers_in, sheet_for}

-- a line that can be read says its decision's number
field_is : (line : List ℕ) → line_set line_layout line ≡ true → decision_number (decision_in line) ≡ decision_field line
unfolding decision_in decision_field line_layout
field_is line h =
    let r = line_written_read line_layout line line-layout_ok h in
    number_of-decision (get_or (row_of line_layout line) 1 0) (row-in_range line_layout (row_of line_layout line) (figures 0 0 0) 1 r.1 (omega arith))

-- the numbers in a sheet that keeps the rules are those of its coordinator
numbers_in_lem : (s : List ℕ) → coordinator_readable s ≡ true → numbers_in s ≡ coordinator_numbers (coordinator_of s)
unfolding numbers_in coordinator_numbers coordinator_of head_numbers lines_of
numbers_in_lem s h =
    let p = readable_parts s h in
    let r = line_written_read head_layout (take coordinator_bytes s) head_layout_ok p.head in
    let n : length (row_of head_layout (take coordinator_bytes s)) ≡ head_fields = unfold head_layout in length-row_of head_layout (take coordinator_bytes s) in
    sym
    (ap₂ ◌++◌ (head_numbers_lem (row_of head_layout (take coordinator_bytes s)) r.1 n)
    (map-map decision_number decision_in (lines_of coordinator_bytes (drop coordinator_bytes s))
    ∙ map_equal (line_set line_layout) (λ (x : List ℕ). decision_number (decision_in x)) decision_field field_is (lines_of coordinator_bytes (drop coordinator_bytes s)) p.readable))

-- the lines of decisions in range
texts_are : (k : ℕ) (ds : List ℕ) → all (in_range decision_column) ds ≡ true → line_texts k ds ≡ decision_texts k (map decision_of ds)
unfolding all line_texts decision_texts
texts_are k [] h = refl
texts_are k (d ∷ ds) h =
    let e = number_of-decision d (and_fst (in_range decision_column d) (all (in_range decision_column) ds) h) in
    ap₂ ◌∷◌ (ap (λ (n : ℕ). line_text line_layout (k ∷ n ∷ [])) (sym e))
    (texts_are (suc k) ds (and_snd (in_range decision_column d) (all (in_range decision_column) ds) h))

-- the head of accepted numbers
head_is : (v : List ℕ) → head_fields ≤ length v → row_good head_layout (take head_fields v) ≡ true → head_numbers (coordinator_from v) ≡ take head_fields v
unfolding head_numbers coordinator_from
head_is [] l g = absurd (omega arith)
head_is (x ∷ v) l g =
    let n : length (x ∷ take 9 v) ≡ head_fields = simp length-take (omega arith) in
    head_numbers_lem (x ∷ take 9 v) g n

-- the sheet for accepted numbers is that of their coordinator
sheet_for_lem : (v : List ℕ) → numbers_accepted v ≡ true → sheet_for v ≡ coordinator_text (coordinator_from v)
unfolding sheet_for coordinator_text coordinator_from numbers_accepted
sheet_for_lem v h =
    let l : head_fields ≤ length v = search tests in
    let g : row_good head_layout (take head_fields v) ≡ true = search tests in
    let each : all (in_range decision_column) (drop head_fields v) ≡ true = search tests in
    ap₂ ◌++◌ (ap (line_text head_layout) (sym (head_is v l g))) (ap joined (texts_are 1 (drop head_fields v) each))

-- Accepted numbers have a head, and at most 999 decisions.
pub record Sized (v : List ℕ) : Type 0 where
  pub head : head_fields ≤ length v
  pub few : length (drop head_fields v) ≤ 999

pub sized : (v : List ℕ) → numbers_accepted v ≡ true → Sized v
unfolding numbers_accepted coordinator_from
sized v h =
    let b = bounds (coordinator_from v) (search tests) in
    record { head = search tests; few = rw length-map at b.few }

-- Coordinator sheet to numbers.
module _ (s t : List ℕ) where
  -- the answer r with the target left as u
  abbrev pub ReadCoordinator : ℕ → List ℕ → Type 0
  ReadCoordinator r u = (r ≡ refusal_of (read_coordinator_conditions s t)) × (u ≡ decisions_read s t)

  pub read_misfit : (length t ≡ head_fields + length (drop coordinator_bytes s) / coordinator_bytes → ⊥) → ReadCoordinator 1 t
  unfolding read_coordinator_conditions decisions_read refusal_of
  read_misfit n = rw (ne_eqb (length t) (head_fields + length (drop coordinator_bytes s) / coordinator_bytes) n) (refl, refl)

  pub read_bad : length t ≡ head_fields + length (drop coordinator_bytes s) / coordinator_bytes → coordinator_accepted s ≡ false → ReadCoordinator 2 t
  unfolding read_coordinator_conditions decisions_read refusal_of
  read_bad n e = rw (eq-eqb (length t) (head_fields + length (drop coordinator_bytes s) / coordinator_bytes) n, e) (refl, refl)

  pub read_done : (u : List ℕ) → length t ≡ head_fields + length (drop coordinator_bytes s) / coordinator_bytes → coordinator_accepted s ≡ true → u ≡ numbers_in s → ReadCoordinator 0 u
  unfolding read_coordinator_conditions decisions_read refusal_of
  read_done u n e q =
      let k = numbers_in_lem s (accepted_parts s e).0 in
      rw (eq-eqb (length t) (head_fields + length (drop coordinator_bytes s) / coordinator_bytes) n, e) (refl, q ∙ k)

-- Numbers to coordinator sheet.
module _ (v t : List ℕ) where
  abbrev pub WriteCoordinator : ℕ → List ℕ → Type 0
  WriteCoordinator r u = (r ≡ refusal_of (write_coordinator_conditions v t)) × (u ≡ coordinator_written v t)

  pub write_misfit : eqb (length t) (coordinator_bytes + length (drop head_fields v) * coordinator_bytes) ≡ false → WriteCoordinator 1 t
  unfolding write_coordinator_conditions coordinator_written refusal_of
  write_misfit n = rw n (refl, refl)

  pub write_bad : eqb (length t) (coordinator_bytes + length (drop head_fields v) * coordinator_bytes) ≡ true → numbers_accepted v ≡ false → WriteCoordinator 2 t
  unfolding write_coordinator_conditions coordinator_written refusal_of
  write_bad n e = rw (n, e) (refl, refl)

  pub write_done : (u : List ℕ) → eqb (length t) (coordinator_bytes + length (drop head_fields v) * coordinator_bytes) ≡ true → numbers_accepted v ≡ true → u ≡ sheet_for v → WriteCoordinator 0 u
  unfolding write_coordinator_conditions coordinator_written refusal_of
  write_done u n e q =
      let k = sheet_for_lem v e in
      rw (n, e) (refl, q ∙ k)
