-- T2 over turns: one that writes at most once writes within one unit, or the coordinator sheet alone, or puts one line in or takes one out. A call on readable
-- bytes has this law already; by place it is that of the one named, or refused and writes nothing.
use Rattle.std.specs.Prelude.{◌≡◌}
use Rattle.std.proofs.Common.{◌∙◌}
use Rattle.lists.specs.Basics.{refl, sym, ap, subst, true, false, true≢false}
use Rattle.model.specs.Writes.{Sheets}
use Rattle.model.specs.Results.{Call, Answer, Response, Result, answer_of}
use Rattle.model.specs.ByteCalls.{result_on}
use Rattle.model.specs.Calls.{result_of}
use Rattle.model.specs.Histories.{written, after, ClockFits}
use Rattle.model.specs.ByteHistories.{Bytes, saying, Readable, Passing, bytes_after, answer_on, after_on}
use Rattle.model.specs.AtomicWrites.{WithinUnit, coordinator_only, OneUnit, within_unit}
use Rattle.model.specs.Operations.{Operation, once, close, writes_once, operation_shifts, stands_for, settled, response, sheets_left, response_on, bytes_left}
use Rattle.model.specs.CallByPlace.{named, operation_at}
use Rattle.model.specs.Turns.{Turn, single, by_place, turn_call, turn_writes_once, turn_shifts, turn_response, turn_after, turn_event_on, turn_after_on}
use Rattle.call_laws.specs.Operations.{once_on, settled-records, settled-coordinator}
use Rattle.call_laws.specs.ByPlace.{by_place_lem, request_calm}
use Rattle.call_laws.specs.Lifting.{passing_readable, encoded, readable_encoded}
use Rattle.call_laws.specs.ByteUnits.{readable_unit as call_unit, readable_within as call-within}
use Rattle.turns.specs.Operations.{settled-left, settled-answer}
use Rattle.turns.specs.Turns.{turn-bytes}

-- what a call leaves and answers, as an operation
pub once_leaves : (c : Call) (b : Bytes) → bytes_left b (response_on (once c) b.records b.coordinator) ≡ after_on c b
unfolding after_on
once_leaves c b =
    ap (bytes_left b) (once_on b.records b.coordinator c) ∙ left (result_on c b.records b.coordinator)
  where
    left : (r : Result Answer) → bytes_left b (settled (saying b) r) ≡ bytes_after b r
    left r = λ i. record { records = settled-records b.records b.coordinator r i; coordinator = settled-coordinator b.records b.coordinator r i }

pub once_answers : (c : Call) (b : Bytes) → answer_of (response_on (once c) b.records b.coordinator) ≡ answer_on c b
unfolding answer_on
once_answers c b = ap answer_of (once_on b.records b.coordinator c) ∙ settled-answer (saying b) (result_on c b.records b.coordinator)

-- what holds of what a call leaves of readable bytes holds of an operation that writes at most once
operation_by : (U : Bytes → Type 0) (o : Operation) (b : Bytes) → writes_once o ≡ true → ((c : Call) → o ≡ once c → U (encoded (after c (saying b)))) → U (encoded (sheets_left (saying b) (response o (saying b))))
unfolding writes_once response after written
operation_by U (once c) b w f = subst (λ (s : Sheets). U (encoded s)) (sym (settled-left (saying b) (result_of c (saying b)))) (f c refl)
operation_by U (close t now limit) b w f = absurd (true≢false (sym w))

module _ (o : Operation) (b : Bytes) (w : writes_once o ≡ true) (l : ClockFits (stands_for o)) (p : Readable b) where
  clock : (c : Call) → o ≡ once c → ClockFits c
  unfolding stands_for
  clock c e = subst (λ (x : Operation). ClockFits (stands_for x)) e l

  operation_unit : OneUnit b (encoded (sheets_left (saying b) (response o (saying b)))) (stands_for o)
  unfolding stands_for
  operation_unit = operation_by (λ (a : Bytes). OneUnit b a (stands_for o)) o b w (λ c e. subst (OneUnit b (encoded (after c (saying b)))) (ap stands_for (sym e)) (call_unit c b (clock c e) p))

  operation_within : operation_shifts o ≡ false → WithinUnit b (encoded (sheets_left (saying b) (response o (saying b))))
  operation_within n = operation_by (WithinUnit b) o b w (λ c e. call-within c b (ap operation_shifts (sym e) ∙ n) (clock c e) p)

-- the turn on what they say, encoded: within one unit, unless it adds or removes a line
pub readable_within : (x : Turn) (b : Bytes) → turn_writes_once x ≡ true → turn_shifts x ≡ false → ClockFits (turn_call x) → Readable b → WithinUnit b (encoded (turn_after x (saying b)))
unfolding turn_writes_once turn_call turn_after turn_response
readable_within (single o) b w n l p = operation_within o b w l p n
readable_within (by_place list place q) b w n l p =
    by_place_lem list place q (saying b) (λ (r : Response Answer Sheets). WithinUnit b (encoded (sheets_left (saying b) r)))
    (operation_within (operation_at list place q) b w l p (request_calm q (named list place))) (coordinator_only (ap (λ (x : Bytes). x.records) (readable_encoded b p)))

pub readable_unit : (x : Turn) (b : Bytes) → turn_writes_once x ≡ true → ClockFits (turn_call x) → Readable b → OneUnit b (encoded (turn_after x (saying b))) (turn_call x)
unfolding turn_writes_once turn_call turn_after turn_response
readable_unit (single o) b w l p = operation_unit o b w l p
readable_unit (by_place list place q) b w l p = within_unit (readable_within (by_place list place q) b w refl l p)

pub turn-within : (x : Turn) (b : Bytes) → turn_writes_once x ≡ true → turn_shifts x ≡ false → ClockFits (turn_event_on x b).call → Passing b → WithinUnit b (turn_after_on x b)
unfolding turn_event_on
turn-within x b w n l p = subst (WithinUnit b) (sym (turn-bytes x b p)) (readable_within x b w n l (passing_readable b p).0)

-- "writes to at most one unit or the coordinator sheet"
pub turn_unit : (x : Turn) (b : Bytes) → turn_writes_once x ≡ true → ClockFits (turn_event_on x b).call → Passing b → OneUnit b (turn_after_on x b) (turn_call x)
unfolding turn_event_on
turn_unit x b w l p = subst (λ (a : Bytes). OneUnit b a (turn_call x)) (sym (turn-bytes x b p)) (readable_unit x b w l (passing_readable b p).0)
