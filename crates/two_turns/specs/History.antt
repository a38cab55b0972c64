-- Demand 3 and the serial order over a plain sheet and a bookkeeping sheet: they are a kind of sheets, and the joined sheet of two that pass is the text of what
-- they say.
use Rattle.std.specs.Prelude.{◌≡◌}
use Rattle.std.proofs.Common.{◌∙◌}
use Rattle.lists.specs.Basics.{sym, ap, ℕ, true, List, [], map, some, all}
use Rattle.model.specs.Types.{Key, Transaction}
use Rattle.model.specs.Spares.{sheet_for}
use Rattle.model.specs.ByteHistories.{Bytes}
use Rattle.model.specs.Results.{add, remove, acknowledged, returns}
use Rattle.model.specs.WellFormed.{well_formed}
use Rattle.model.specs.Histories.{ClockFits}
use Rattle.model.specs.RecoveryPass.{Visit, none_prepared, Closing, Readings, leaves_readings, readings_of}
use Rattle.model.specs.Turns.{Turn, turns_left, LegalTurns}
use Rattle.model.specs.TwoSheets.{joined_sheet}
use Rattle.model.specs.TwoCalls.{TwoBytes, saying_two, PassingTwo, answer_two, after_two, turn_event_two, turn_after_two}
use Rattle.model.specs.Kinds.{two_kind}
use Rattle.model.specs.Recovered.{Undoes, model_two, standing_two, two_recovered, RecoveredTwo}
use Rattle.model.specs.SerialOrder.{calls_two, begun_checked, serial_order, serial_line, Serializable}
use Rattle.call_laws.specs.Lifting.{readable_encoded}
use Rattle.recovery.specs.PassExists.{recovery_pass}
use Rattle.turns.specs.Lift.{Faithful, returns_formed_of, demand_3_of, pass_exists_on, pass_told_on, pass_needs_on}
use Rattle.turns.specs.Undoing.{added_removed_of, removed_added_of}
use Rattle.serial.specs.Kinds.{checked_serializable_of, serial_bytes_of}
use Rattle.two_laws.specs.TwoEncoding.{joined_bytes, passing_two, passing_two_good, encoded_two, passing_encoded_two}
use Rattle.two_turns.specs.Turns.{same_event, turn_stays, same_answer, call_stays}

pub two_faithful : Faithful two_kind
two_faithful =
    record {
      good = passing_two_good;
      same_event = same_event;
      stays = turn_stays;
      same_answer = same_answer;
      call_stays = call_stays;
      text_is = λ b p. sym (ap (λ (x : Bytes). x.records) (readable_encoded (joined_bytes b) (passing_two b p).readable));
    }

-- the transaction that a turn returns is well formed, on the sheets that it leaves
pub turn-returns-formed-two : (x : Turn) (b : TwoBytes) (t : Transaction) → ClockFits (turn_event_two x b).call → PassingTwo b → returns (turn_event_two x b).answer ≡ some t → well_formed (saying_two (turn_after_two x b)) t ≡ true
turn-returns-formed-two x b t l p e = returns_formed_of two_kind two_faithful x b t l p e

-- For all sheets that pass, letters of either case, without a PREPARED line; for every legal history of turns on them, refused ones included; for every
-- recovery pass after it.
pub demand_3_two : (b : TwoBytes) → PassingTwo b → none_prepared (saying_two b).lines ≡ true → (xs : List Turn) → LegalTurns turn_after_two turn_event_two xs b [] → (vs : List Visit) → Closing saying_two after_two vs (turns_left turn_after_two xs b) → RecoveredTwo vs xs b
demand_3_two b p z xs legal vs c = demand_3_of two_kind two_faithful b p z xs legal vs c

-- a recovery pass exists after a legal history that leaves each undecided number a reading ..
pub pass_exists_two : (b : TwoBytes) → PassingTwo b → (xs : List Turn) → LegalTurns turn_after_two turn_event_two xs b [] → (clocks : ℕ → ℕ) → Readings clocks (saying_two (turns_left turn_after_two xs b))
    → Closing saying_two after_two (recovery_pass clocks (saying_two (turns_left turn_after_two xs b))) (turns_left turn_after_two xs b)
pass_exists_two b p xs legal clocks g = pass_exists_on two_kind two_faithful b p xs legal clocks g

-- .. of which it can be told from the sheets whether there is one ..
pub pass-told-two : (b : TwoBytes) → PassingTwo b → (xs : List Turn) → LegalTurns turn_after_two turn_event_two xs b [] → leaves_readings (saying_two (turns_left turn_after_two xs b)) ≡ true
    → Closing saying_two after_two (recovery_pass (readings_of (saying_two (turns_left turn_after_two xs b))) (saying_two (turns_left turn_after_two xs b))) (turns_left turn_after_two xs b)
pass-told-two b p xs legal h = pass_told_on two_kind two_faithful b p xs legal h

-- .. and no other does
pub pass_needs_two : (b : TwoBytes) → PassingTwo b → (vs : List Visit) → Closing saying_two after_two vs b → leaves_readings (saying_two b) ≡ true
pass_needs_two b p vs c = pass_needs_on two_kind two_faithful b p vs c

-- For every such history in which every transaction is begun as checked.
pub checked_serializable_two : (b : TwoBytes) → PassingTwo b → none_prepared (saying_two b).lines ≡ true → (xs : List Turn)
    → LegalTurns turn_after_two turn_event_two xs b [] → all begun_checked (calls_two xs b) ≡ true
    → Serializable (saying_two b).lines (model_two xs b) (calls_two xs b)
checked_serializable_two b p z xs legal checked = checked_serializable_of two_kind two_faithful b p z xs legal checked

-- so that after every recovery pass the joined sheet is, byte for byte, what the serial run leaves
pub serial_bytes-two : (b : TwoBytes) → PassingTwo b → none_prepared (saying_two b).lines ≡ true → (xs : List Turn) → LegalTurns turn_after_two turn_event_two xs b []
    → all begun_checked (calls_two xs b) ≡ true → (vs : List Visit) → Closing saying_two after_two vs (turns_left turn_after_two xs b)
    → joined_sheet (two_recovered vs xs b).plain (two_recovered vs xs b).bookkeeping
    ≡ sheet_for (map (serial_line (saying_two b).lines (model_two xs b) (serial_order (calls_two xs b))) (standing_two xs b)) (saying_two b).size
serial_bytes-two b p z xs legal checked vs c = serial_bytes_of two_kind two_faithful b p z xs legal checked vs c

-- Removing what was added gives both sheets back, and adding what was removed.

same-two-said : (a b : TwoBytes) → PassingTwo a → PassingTwo b → saying_two a ≡ saying_two b → a ≡ b
same-two-said a b p q e = sym (passing_encoded_two a p) ∙ (ap encoded_two e ∙ passing_encoded_two b q)

pub added_removed_two : (k : Key) (b : TwoBytes) → PassingTwo b → answer_two (add k) b ≡ acknowledged → Undoes two_kind (add k) (remove k) b
added_removed_two k b p e = added_removed_of two_kind two_faithful same-two-said k b p e

pub removed_added_two : (k : Key) (b : TwoBytes) → PassingTwo b → answer_two (remove k) b ≡ acknowledged → Undoes two_kind (remove k) (add k) b
removed_added_two k b p e = removed_added_of two_kind two_faithful same-two-said k b p e
