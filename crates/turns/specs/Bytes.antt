-- Demand 3 over bytes: the bytes of both sheets are a kind of sheets, and an accepted record sheet is the text of what it says.
use Rattle.std.specs.Prelude.{◌≡◌}
use Rattle.lists.specs.Basics.{sym, ap, ℕ, true, List, [], some}
use Rattle.model.specs.Types.{Transaction}
use Rattle.model.specs.Results.{returns}
use Rattle.model.specs.WellFormed.{well_formed}
use Rattle.model.specs.Histories.{ClockFits}
use Rattle.model.specs.RecoveryPass.{Visit, none_prepared, Closing, Readings, leaves_readings, readings_of}
use Rattle.model.specs.ByteHistories.{Bytes, saying, Passing, after_on}
use Rattle.model.specs.Turns.{Turn, turn_event_on, turn_after_on, turns_left, LegalTurns}
use Rattle.model.specs.Kinds.{bytes_kind}
use Rattle.model.specs.Recovered.{Recovered}
use Rattle.call_laws.specs.Lifting.{passing_good, same_answer, passing_encoded, bytes_stay_passing}
use Rattle.turns.specs.Turns.{same_event, turn_stays_passing}
use Rattle.recovery.specs.PassExists.{recovery_pass}
use Rattle.turns.specs.Lift.{Faithful, returns_formed_of, demand_3_of, pass_exists_on, pass_told_on, pass_needs_on}

pub bytes_faithful : Faithful bytes_kind
bytes_faithful =
    record {
      good = passing_good;
      same_event = same_event;
      stays = turn_stays_passing;
      same_answer = same_answer;
      call_stays = bytes_stay_passing;
      text_is = λ b p. sym (ap (λ (x : Bytes). x.records) (passing_encoded b p));
    }

-- the transaction that a turn returns is well formed, on the sheets that it leaves
pub turn_returns_formed_on : (x : Turn) (b : Bytes) (t : Transaction) → ClockFits (turn_event_on x b).call → Passing b → returns (turn_event_on x b).answer ≡ some t → well_formed (saying (turn_after_on x b)) t ≡ true
turn_returns_formed_on x b t l p e = returns_formed_of bytes_kind bytes_faithful x b t l p e

-- DEMAND 3. For all bytes that refusals 1 and 2 let pass, without a PREPARED line; for every legal history of turns on them, refused ones included; for
-- every recovery pass after it.
pub demand_3 : (b : Bytes) → Passing b → none_prepared (saying b).lines ≡ true → (xs : List Turn) → LegalTurns turn_after_on turn_event_on xs b [] → (vs : List Visit) → Closing saying after_on vs (turns_left turn_after_on xs b) → Recovered vs xs b
demand_3 b p z xs legal vs c = demand_3_of bytes_kind bytes_faithful b p z xs legal vs c

-- after a legal history that leaves each undecided number a reading a recovery pass exists ..
pub recovery_pass_exists : (b : Bytes) → Passing b → (xs : List Turn) → LegalTurns turn_after_on turn_event_on xs b [] → (clocks : ℕ → ℕ) → Readings clocks (saying (turns_left turn_after_on xs b)) → Closing saying after_on (recovery_pass clocks (saying (turns_left turn_after_on xs b))) (turns_left turn_after_on xs b)
recovery_pass_exists b p xs legal clocks g = pass_exists_on bytes_kind bytes_faithful b p xs legal clocks g

-- .. of which it can be told from the sheets whether there is one ..
pub recovery_pass-told : (b : Bytes) → Passing b → (xs : List Turn) → LegalTurns turn_after_on turn_event_on xs b [] → leaves_readings (saying (turns_left turn_after_on xs b)) ≡ true
    → Closing saying after_on (recovery_pass (readings_of (saying (turns_left turn_after_on xs b))) (saying (turns_left turn_after_on xs b))) (turns_left turn_after_on xs b)
recovery_pass-told b p xs legal h = pass_told_on bytes_kind bytes_faithful b p xs legal h

-- .. and no other does
pub recovery_pass_needs : (b : Bytes) → Passing b → (vs : List Visit) → Closing saying after_on vs b → leaves_readings (saying b) ≡ true
recovery_pass_needs b p vs c = pass_needs_on bytes_kind bytes_faithful b p vs c
