-- What an operation comes to, by what it asks: its refusal is the first of its row, and a refused one leaves the bytes as they were. A call has these laws
-- already; a close is refused by its conditions alone.
use Rattle.std.specs.Prelude.{◌≡◌, ◌≤◌}
use Rattle.std.proofs.Common.{◌∙◌}
use Rattle.lists.specs.Basics.{refl, ℕ, eqb, Bool, true, false, cond, List, map, all}
use Rattle.model.specs.Types.{Transaction}
use Rattle.model.specs.Refusals.{Condition, refusal_of, count_before, first_asked}
use Rattle.model.specs.SheetCalls.{check_conditions}
use Rattle.model.specs.Writes.{Sheets, apply}
use Rattle.model.specs.Conditions.{refusals}
use Rattle.model.specs.Results.{Call, advance, Answer, refusal_in, Response, Result, refused, made, answer_of}
use Rattle.model.specs.Calls.{result_of}
use Rattle.model.specs.ByteCalls.{sheets_said, all_conditions, result_on, sheet_after, coordinator_after, sheets_of, records_after}
use Rattle.model.specs.ByteHistories.{Bytes}
use Rattle.model.specs.Closing.{close_conditions}
use Rattle.model.specs.Operations.{Operation, once, close, operation_conditions, all_operation_conditions, settled, close_run, ended, response, response_on, sheet_left}
use Rattle.model.specs.Operations.{coordinator_left, bytes_left, records_left}
use Rattle.call_laws.specs.Exactness.{Sound, sound_refused, sound_made, sound_unless, when_refused, refusal_unless, refusal_then, result_refusal}
use Rattle.call_laws.specs.Exactness.{decoded_sound, sound_on, row_first, refusal_is_first, rising_from}

settled_refusal : (s : Sheets) (r : Result Answer) → refusal_in (answer_of (settled s r)) ≡ refusal_in (answer_of r)
settled_refusal s (refused n) = refl
settled_refusal s (made a w) = refl

settled_sound : (s : Sheets) (r : Result Answer) → Sound r → Sound (settled s r)
settled_sound s r (sound_refused n l m) = sound_refused n l m
settled_sound s r (sound_made a w e) = sound_made a _ e

pub response_refusal : (o : Operation) (s : Sheets) → refusal_in (answer_of (response o s)) ≡ refusal_of (operation_conditions o s)
unfolding response operation_conditions
response_refusal (once c) s = settled_refusal s (result_of c s) ∙ result_refusal c s
response_refusal (close t now limit) s = refusal_unless (close_conditions t s) (ended (close_run t now limit s)) refl

pub response_sound : (o : Operation) (s : Sheets) → Sound (response o s)
unfolding response close_conditions all
response_sound (once c) s = settled_sound s (result_of c s) (decoded_sound c s)
response_sound (close t now limit) s = sound_unless (close_conditions t s) _ refl (sound_made _ _ refl)

pub response_sound_on : (o : Operation) (rs cs : List ℕ) → Sound (response_on o rs cs)
unfolding response_on
response_sound_on o rs cs = sound_on rs cs (response o (sheets_said rs cs)) (response_sound o (sheets_said rs cs))

-- an answer's refusal is that of the operation's conditions
pub response_refusal_given : (o : Operation) (rs cs : List ℕ) → refusal_in (answer_of (response_on o rs cs)) ≡ refusal_of (all_operation_conditions o rs cs)
unfolding response_on all_operation_conditions check_conditions all
response_refusal_given o rs cs =
    refusal_then (check_conditions rs cs) (operation_conditions o (sheets_said rs cs)) (response o (sheets_said rs cs)) refl (response_refusal o (sheets_said rs cs))

-- "The lowest number that applies is given": the first that is asked
pub response_refusal_first : (o : Operation) (rs cs : List ℕ) → first_asked (refusal_of (all_operation_conditions o rs cs)) (all_operation_conditions o rs cs) ≡ true
unfolding all_operation_conditions operation_conditions all_conditions check_conditions close_conditions rising_from all count_before
response_refusal_first (once c) rs cs = refusal_is_first c rs cs
response_refusal_first (close t now limit) rs cs = row_first (all_operation_conditions (close t now limit) rs cs) refl

-- "refused as one advance would be": the numbers of its conditions are those of an advance
pub close_numbers : (t : Transaction) (now limit : ℕ) (rs cs : List ℕ) → map (λ (x : Condition). x.number) (all_operation_conditions (close t now limit) rs cs) ≡ refusals (advance t now)
unfolding all_operation_conditions operation_conditions check_conditions close_conditions refusals
close_numbers t now limit rs cs = refl

-- after a refusal both sheets are as they were
pub refused_operation : (o : Operation) (b : Bytes) → 1 ≤ refusal_in (answer_of (response_on o b.records b.coordinator)) → bytes_left b (response_on o b.records b.coordinator) ≡ b
unfolding sheet_left coordinator_left
refused_operation o b =
    when_refused (λ (x : Response Answer Sheets). bytes_left b x ≡ b) (λ n. refl) (response_on o b.records b.coordinator) (response_sound_on o b.records b.coordinator)

-- A call's operation, beside its result: what both leave.
module _ (rs cs : List ℕ) where
  pub settled-records : (r : Result Answer) → sheet_left rs (settled (sheets_said rs cs) r) ≡ sheet_after rs cs r
  unfolding sheet_left sheet_after
  settled-records (refused n) = refl
  settled-records (made a w) = refl

  pub settled-coordinator : (r : Result Answer) → coordinator_left cs (settled (sheets_said rs cs) r) ≡ coordinator_after rs cs r
  unfolding coordinator_left coordinator_after
  settled-coordinator (refused n) = refl
  settled-coordinator (made a w) = refl

  -- a call on bytes
  pub once_on : (c : Call) → response_on (once c) rs cs ≡ settled (sheets_said rs cs) (result_on c rs cs)
  unfolding response_on result_on response
  once_on c = go (eqb (refusal_of (check_conditions rs cs)) 0)
    where
      s : Sheets
      s = sheets_said rs cs

      n : ℕ
      n = refusal_of (check_conditions rs cs)

      go : (b : Bool) → cond b (settled s (result_of c s)) (refused n) ≡ settled s (cond b (result_of c s) (refused n))
      go true = refl
      go false = refl

-- The same of lines of records alone.
module _ (rs cs : List ℕ) where
  pub settled_lines : (r : Result Answer) → records_left rs (settled (sheets_of rs cs) r) ≡ records_after rs cs r
  unfolding records_left records_after
  settled_lines (refused n) = refl
  settled_lines (made a w) = refl

  pub settled-decisions : (r : Result Answer) → coordinator_left cs (settled (sheets_of rs cs) r) ≡ coordinator_after rs cs r
  unfolding coordinator_left coordinator_after apply
  settled-decisions (refused n) = refl
  settled-decisions (made a w) = refl
