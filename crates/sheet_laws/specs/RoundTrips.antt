-- T3 over the coordinator's calls: a sheet read into numbers and written again is the same sheet, and numbers written and read are the same
-- numbers, into any targets of the right length (SparedNumbers has the record sheet's). Each call does what its definition says, and the definitions
-- undo each other.
use Rattle.std.specs.Prelude.{◌≡◌, ◌+◌, ◌*◌, ◌/◌, ◌≤◌}
use Rattle.std.proofs.Common.{◌∙◌}
use Rattle.lists.specs.Basics.{ap, ℕ, true, List, map, length, drop, length-map, length-append, length-drop, arith, eq-eqb}
use Rattle.lists.specs.Basics.{tests}
use Rattle.model.specs.Layouts.{coordinator_bytes, head_fields}
use Rattle.model.specs.Coordinator.{Coordinator, letter_number, decision_number, head_numbers, coordinator_good, coordinator_of, coordinator_text, coordinator_accepted}
use Rattle.model.specs.Coordinator.{coordinator_from, coordinator_numbers, numbers_accepted}
use Rattle.model.specs.Refusals.{refusal_of}
use Rattle.model.specs.SheetCalls.{read_coordinator_conditions, decisions_read}
use Rattle.model.specs.SheetCalls.{write_coordinator_conditions, coordinator_written}
use Rattle.sheet_laws.specs.Coordinator.{bounds, coordinator_written_read, coordinator_read_written}
use Rattle.sheet_laws.specs.Decisions.{accepted_parts, text_accepted, readable_parts, readable_length, length-decisions}
use Rattle.sheet_laws.specs.CoordinatorNumbers.{coordinator_of-numbers, numbers_of-coordinator}

-- What the calls leave where nothing is refused.

take-coordinator : (s t : List ℕ) → coordinator_accepted s ≡ true → length t ≡ head_fields + length (drop coordinator_bytes s) / coordinator_bytes → decisions_read s t ≡ coordinator_numbers (coordinator_of s)
unfolding decisions_read read_coordinator_conditions refusal_of
take-coordinator s t a n = rw (a, eq-eqb (length t) (head_fields + length (drop coordinator_bytes s) / coordinator_bytes) n)

give_coordinator : (v t : List ℕ) → numbers_accepted v ≡ true → length t ≡ coordinator_bytes + length (drop head_fields v) * coordinator_bytes → coordinator_written v t ≡ coordinator_text (coordinator_from v)
unfolding coordinator_written write_coordinator_conditions refusal_of
give_coordinator v t a n = rw (a, eq-eqb (length t) (coordinator_bytes + length (drop head_fields v) * coordinator_bytes) n)

-- the numbers of nine units and some decisions
length-coordinator_numbers : (c : Coordinator) → length c.units ≡ 9 → length (coordinator_numbers c) ≡ head_fields + length c.decisions
unfolding coordinator_numbers head_numbers
length-coordinator_numbers c n =
    let u : length (map letter_number c.units) ≡ 9 = length-map c.units letter_number ∙ n in
    let d : length (map decision_number c.decisions) ≡ length c.decisions = length-map c.decisions decision_number in
    simp length-append (omega arith)

-- T3, coordinator sheet: read into numbers and written again
pub coordinator_round_trip : (s t u : List ℕ) → coordinator_accepted s ≡ true → length t ≡ head_fields + length (drop coordinator_bytes s) / coordinator_bytes → length u ≡ length s → coordinator_written (decisions_read s t) u ≡ s
coordinator_round_trip s t u a n m =
    let f = accepted_parts s a in
    let p = readable_parts s f.0 in
    let c = coordinator_of s in
    let r = coordinator_of-numbers c p.good f.1 in
    let l : length (coordinator_numbers c) ≡ head_fields + length c.decisions = length-coordinator_numbers c (bounds c p.good).units in
    let d : length c.decisions ≡ length (drop coordinator_bytes s) / coordinator_bytes = length-decisions s in
    let w : length (drop coordinator_bytes s) ≡ length (drop coordinator_bytes s) / coordinator_bytes * coordinator_bytes = p.whole in
    let h : coordinator_bytes ≤ length s = readable_length s f.0 in
    let k : length u ≡ coordinator_bytes + length (drop head_fields (coordinator_numbers c)) * coordinator_bytes = omega (arith, length-drop head_fields (coordinator_numbers c), length-drop coordinator_bytes s) in
    ap (λ (v : List ℕ). coordinator_written v u) (take-coordinator s t a n)
    ∙ (give_coordinator (coordinator_numbers c) u r.1 k ∙ (ap coordinator_text r.0 ∙ coordinator_written_read s f.0))

-- T3, coordinator sheet: numbers written and read
pub coordinator_numbers_round_trip : (v t u : List ℕ) → numbers_accepted v ≡ true → length t ≡ coordinator_bytes + length (drop head_fields v) * coordinator_bytes → length u ≡ length v → decisions_read (coordinator_written v t) u ≡ v
unfolding numbers_accepted
coordinator_numbers_round_trip v t u a n m =
    let c = coordinator_from v in
    let g : coordinator_good c ≡ true = search tests in
    let r = coordinator_read_written c g in
    let b : head_fields ≤ length v = search tests in
    let e : length (coordinator_numbers c) ≡ length v = ap length (numbers_of-coordinator v a) in
    let l : length (coordinator_numbers c) ≡ head_fields + length c.decisions = length-coordinator_numbers c (bounds c g).units in
    let d : length (coordinator_of (coordinator_text c)).decisions ≡ length (drop coordinator_bytes (coordinator_text c)) / coordinator_bytes = length-decisions (coordinator_text c) in
    let f : length (coordinator_of (coordinator_text c)).decisions ≡ length c.decisions = ap (λ (x : Coordinator). length x.decisions) r.0 in
    let k : length u ≡ head_fields + length (drop coordinator_bytes (coordinator_text c)) / coordinator_bytes = omega arith in
    ap (λ (x : List ℕ). decisions_read x u) (give_coordinator v t a n)
    ∙ (take-coordinator (coordinator_text c) u (text_accepted c g (search tests)) k ∙ (ap coordinator_numbers r.0 ∙ numbers_of-coordinator v a))
