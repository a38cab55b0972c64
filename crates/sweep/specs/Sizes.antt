-- How long sheets and inputs are: an accepted sheet keeps its number of lines, so an input longer than the largest that fits is refused by 1,
-- and reading a byte more than that is enough.
use Rattle.std.specs.Prelude.{◌≡◌, ◌+◌, ◌-◌, ◌*◌, ◌/◌, ◌≤◌, ◌<◌}
use Rattle.std.proofs.Common.{◌∙◌}
use Rattle.lists.specs.Basics.{refl, sym, ap, ℕ, eqb, leb, Bool, true, false, cond, List, length, take, drop}
use Rattle.lists.specs.Basics.{length-take, length-drop, take_all, arith, leb-true, leb-false}
use Rattle.model.specs.Layouts.{record_bytes, coordinator_bytes, most_coordinator_bytes, most_record_bytes}
use Rattle.model.specs.Spares.{sheet_accepted}
use Rattle.model.specs.Coordinator.{coordinator_of, coordinator_accepted}
use Rattle.model.specs.Refusals.{refusal_of}
use Rattle.model.specs.SheetCalls.{check_conditions}
use Rattle.model.specs.Visitor.{first_number, coordinator_size, input_fits, input_sheets, input_conditions, printed, refused_text, swept, visitor_output, first_bytes}
use Rattle.sheet_laws.specs.Fronts.{sized-few}
use Rattle.sheet_laws.specs.Spared.{accepted_sized, accepted_whole}
use Rattle.sheet_laws.specs.Coordinator.{bounds}
use Rattle.sheet_laws.specs.Decisions.{length-decisions, readable_parts, accepted_parts}
use Rattle.call_laws.specs.Lifting.{passing_parts}
use Rattle.sweep.specs.FirstLine.{first_of, records_from, first_small, fit, unfit_refused, fit_refused, accepted_input, records-within}

-- 1 to 500 lines of 108 bytes
records-few : (s : List ℕ) → sheet_accepted s ≡ true → length s ≤ most_record_bytes
records-few s h =
    let w : length s ≡ length s / record_bytes * record_bytes = accepted_whole s h in
    let f : length s / record_bytes ≤ 500 = sized-few record_bytes s (accepted_sized s h) in
    omega (arith, w, f)

-- a head and 1 to 999 lines of 15 bytes
coordinator-few : (s : List ℕ) → coordinator_accepted s ≡ true → length s ≤ most_coordinator_bytes
coordinator-few s h =
    let p = readable_parts s (accepted_parts s h).0 in
    let f : length (coordinator_of s).decisions ≤ 999 = (bounds (coordinator_of s) p.good).few in
    let w : length (drop coordinator_bytes s) ≡ length (drop coordinator_bytes s) / coordinator_bytes * coordinator_bytes = p.whole in
    omega (arith, length-decisions s, length-drop coordinator_bytes s)

-- The sheets of an accepted input, the record sheet from byte n on.
pub record Parts (s : List ℕ) (n : ℕ) : Type 0 where
  pub after_first : first_bytes ≤ n
  pub within : n ≤ length s
  pub coordinator_length : coordinator_size s ≡ n - first_bytes
  pub records_length : length (input_sheets s).records ≡ length s - n
  pub coordinator_room : n - first_bytes ≤ most_coordinator_bytes
  pub record_room : length s - n ≤ most_record_bytes

pub parts : (s : List ℕ) (n : ℕ) → n ≡ records_from (first_of s) → refusal_of (input_conditions s) ≡ 0 → Parts s n
parts s n e h =
    let a = accepted_input s h in
    let w = records-within s n e a.fits in
    let p = passing_parts (input_sheets s) a.passing in
    let r : length (input_sheets s).records ≤ most_record_bytes = records-few (input_sheets s).records p.0 in
    let c : length (input_sheets s).coordinator ≤ most_coordinator_bytes = coordinator-few (input_sheets s).coordinator p.1.0 in
    let k : coordinator_size s ≡ n - first_bytes = omega (arith, e) in
    let l : length (input_sheets s).records ≡ length s - n = length-drop (first_bytes + coordinator_size s) s ∙ ap (λ (m : ℕ). length s - m) (sym e) in
    let m : length (input_sheets s).coordinator ≡ coordinator_size s = simp (length-take, length-drop) (omega (arith, e)) in
    record { after_first = w.0; within = w.1; coordinator_length = k; records_length = l; coordinator_room = omega arith; record_room = omega arith }

-- The largest input that 1 need not refuse: the first line, a head and 9,999 coordinator lines, 500 record lines.
abbrev pub longest : ℕ
longest = first_bytes + coordinator_bytes * 10000 + record_bytes * 500

-- one condition that holds gives its number
refused_text_lem : (s : List ℕ) → refusal_of (input_conditions s) ≡ 1 → visitor_output s ≡ refused_text 1
unfolding visitor_output
refused_text_lem s h = ap (λ (n : ℕ). cond (eqb n 0) (printed (swept (first_number 2 s) (input_sheets s))) (refused_text n)) h

many_refused : (rs cs : List ℕ) → most_record_bytes < length rs → refusal_of (check_conditions rs cs) ≡ 1
unfolding check_conditions refusal_of
many_refused rs cs l = go (sheet_accepted rs) refl
  where
    go : (b : Bool) → sheet_accepted rs ≡ b → refusal_of (check_conditions rs cs) ≡ 1
    go true e = absurd (omega (arith, records-few rs e))
    go false e = rw e

pub longer_refused : (s : List ℕ) → longest < length s → visitor_output s ≡ refused_text 1
longer_refused s l = go (input_fits s) refl
  where
    go : (b : Bool) → input_fits s ≡ b → visitor_output s ≡ refused_text 1
    go false e = refused_text_lem s (unfit_refused s e)
    go true e =
        let f = fit s e in
        let w : length s ≡ first_bytes + coordinator_size s + first_number 0 s * record_bytes = f.whole in
        let d : first_number 1 s ≤ 9999 = (first_small s).decisions in
        let m : length (input_sheets s).records ≡ length s - (first_bytes + coordinator_size s) = length-drop (first_bytes + coordinator_size s) s in
        let k : most_record_bytes < length (input_sheets s).records = omega arith in
        refused_text_lem s (fit_refused s e ∙ many_refused (input_sheets s).records (input_sheets s).coordinator k)

-- an input cut after one byte more than that has the output of the whole
pub enough_read : (s : List ℕ) → visitor_output (take (longest + 1) s) ≡ visitor_output s
enough_read s = go (leb (length s) longest) refl
  where
    go : (b : Bool) → leb (length s) longest ≡ b → visitor_output (take (longest + 1) s) ≡ visitor_output s
    go true e = ap visitor_output (take_all (longest + 1) s (omega (arith, leb-true (length s) longest e)))
    go false e =
        let l : longest < length s = leb-false (length s) longest e in
        let k : longest < length (take (longest + 1) s) = simp length-take (omega arith) in
        longer_refused (take (longest + 1) s) k ∙ sym (longer_refused s l)
