-- A coordinator as numbers, ten for the head and one for each decision: both round trips, part by part.
use Rattle.std.specs.Prelude.{◌≡◌, ◌≤◌, ◌∷◌, ◌++◌}
use Rattle.lists.specs.Basics.{sym, ap, ap₂, ℕ, true, true≢false, List, [], map, length, take, drop, length-map, length-append}
use Rattle.lists.specs.Basics.{length-take, drop_at, take_at, arith, le-leb, all, and_both, tests}
use Rattle.std.proofs.Common.{take-append-drop, ◌∙◌}
use Rattle.lists.specs.All.{all_map, all_weaken, all_always, map-map, map_same}
use Rattle.model.specs.Types.{Decision}
use Rattle.model.specs.Layouts.{head_layout, decision_column, head_fields}
use Rattle.model.specs.Lines.{row_good, in_range}
use Rattle.model.specs.Coordinator.{Coordinator, decision_number, decision_of, letter_number, letter_of, coordinator_good, head_numbers, coordinator_numbers}
use Rattle.model.specs.Coordinator.{all_capitals, coordinator_from, numbers_accepted}
use Rattle.sheet_laws.specs.Coordinator.{bounds, decision-of_number, number_of-decision, decision-ranged, letters_back, head_ranged, head_numbers_lem}

-- the decisions of numbers, and back
decisions_back : (ds : List Decision) → map decision_of (map decision_number ds) ≡ ds
decisions_back ds =
    map-map decision_of decision_number ds
    ∙ map_same (λ (d : Decision). true) (λ (d : Decision). decision_of (decision_number d)) (λ d e. decision-of_number d) ds (all_always ds)

-- T3, coordinator as numbers: a rule-keeping coordinator of capitals, as numbers and back, is the same, and its numbers are accepted
pub coordinator_of-numbers : (c : Coordinator) → coordinator_good c ≡ true → all_capitals c.units ≡ true → (coordinator_from (coordinator_numbers c) ≡ c) × (numbers_accepted (coordinator_numbers c) ≡ true)
unfolding coordinator_from coordinator_numbers numbers_accepted head_numbers
coordinator_of-numbers c h a =
    let b = bounds c h in
    let nine : length c.units ≡ 9 = b.units in
    let few : length c.decisions ≤ 999 = b.few in
    let most : c.issued ≤ length c.decisions = b.issued in
    let us = map letter_number c.units in
    let ds = map decision_number c.decisions in
    let n : length us ≡ 9 = length-map c.units letter_number ∙ nine in
    let u : take 9 (us ++ ds) ≡ us = take_at us ds 9 n in
    let d : drop 9 (us ++ ds) ≡ ds = drop_at us ds 9 n in
    let same : coordinator_from (coordinator_numbers c) ≡ c =
    λ i. record {
      issued = c.issued;
      units = (ap (map letter_of) u ∙ letters_back c.units) i;
      decisions = (ap (map decision_of) d ∙ decisions_back c.decisions) i;
    } in
    let l : head_fields ≤ length (coordinator_numbers c) = simp length-append (omega arith) in
    let head : row_good head_layout (take head_fields (coordinator_numbers c)) ≡ true = rw u (head_ranged c (omega arith) nine) in
    let each : all (in_range decision_column) (drop head_fields (coordinator_numbers c)) ≡ true =
    rw d
    (all_map (in_range decision_column) decision_number c.decisions
    ∙ all_weaken (λ (x : Decision). true) (λ (x : Decision). in_range decision_column (decision_number x)) (λ x e. decision-ranged x) c.decisions (all_always c.decisions)) in
    (same, and_both (and_both (and_both (and_both (le-leb head_fields (length (coordinator_numbers c)) l) head) each) (rw same h)) (ap (λ (x : Coordinator). all_capitals x.units) same ∙ a))

-- T3, coordinator as numbers: accepted numbers are those of their coordinator
pub numbers_of-coordinator : (v : List ℕ) → numbers_accepted v ≡ true → coordinator_numbers (coordinator_from v) ≡ v
unfolding coordinator_from coordinator_numbers numbers_accepted head_numbers
numbers_of-coordinator [] h = absurd (true≢false (sym h))
numbers_of-coordinator (x ∷ v) h =
    let l : head_fields ≤ length (x ∷ v) = search tests in
    let g : row_good head_layout (x ∷ take 9 v) ≡ true = search tests in
    let each : all (in_range decision_column) (drop 9 v) ≡ true = search tests in
    let n : length (x ∷ take 9 v) ≡ head_fields = simp length-take (omega arith) in
    let e : x ∷ map letter_number (map letter_of (take 9 v)) ≡ x ∷ take 9 v = head_numbers_lem (x ∷ take 9 v) g n in
    let d : map decision_number (map decision_of (drop 9 v)) ≡ drop 9 v =
    map-map decision_number decision_of (drop 9 v)
    ∙ map_same (in_range decision_column) (λ (k : ℕ). decision_number (decision_of k)) number_of-decision (drop 9 v) each in
    ap₂ ◌++◌ e d ∙ ap (λ (t : List ℕ). x ∷ t) (take-append-drop 9 v)
