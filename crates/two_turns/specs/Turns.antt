-- A turn on a plain sheet and a bookkeeping sheet that pass is the turn on what they say, and leaves sheets that pass. Sheets that pass are those of what they
-- say, encoded and split; good sheets, encoded and split, pass; and a turn leaves good sheets good.
use Rattle.std.specs.Prelude.{◌≡◌}
use Rattle.std.proofs.Common.{◌∙◌}
use Rattle.lists.specs.Basics.{sym, ap, subst}
use Rattle.model.specs.Writes.{Sheets}
use Rattle.model.specs.Results.{Call, Answer, Response, answer_of}
use Rattle.model.specs.Calls.{result_of}
use Rattle.model.specs.Histories.{answer, written, after, ClockFits}
use Rattle.model.specs.Operations.{once, stands_for, response}
use Rattle.model.specs.CallByPlace.{response_at}
use Rattle.model.specs.Turns.{Turn, single, by_place, turn_call, turn_response, turn_event, turn_after}
use Rattle.model.specs.TwoCalls.{TwoBytes, saying_two, PassingTwo, response_two, response_at_two, two_left, answer_two, after_two, turn_response_two, turn_event_two}
use Rattle.model.specs.TwoCalls.{turn_after_two}
use Rattle.turns.specs.Operations.{settled-left, settled-answer}
use Rattle.turns.specs.Turns.{turn_stays_good}
use Rattle.two_laws.specs.TwoEncoding.{passing_two_good, encoded_two, encoded_two-says, on_passing_two, left-two}

pub same-response : (x : Turn) (b : TwoBytes) → PassingTwo b → turn_response_two x b ≡ turn_response x (saying_two b)
unfolding turn_response_two turn_response response_two response_at_two
same-response (single o) b h = on_passing_two b (response o) h
same-response (by_place list place q) b h = on_passing_two b (response_at list place q) h

pub same_event : (x : Turn) (b : TwoBytes) → PassingTwo b → turn_event_two x b ≡ turn_event x (saying_two b)
unfolding turn_event_two turn_event
same_event x b h = ap (λ (r : Response Answer Sheets). record { call = turn_call x; answer = answer_of r }) (same-response x b h)

-- what is left is what the turn leaves, encoded and split
pub turn_two : (x : Turn) (b : TwoBytes) → PassingTwo b → turn_after_two x b ≡ encoded_two (turn_after x (saying_two b))
unfolding turn_after_two turn_after
turn_two x b h = ap (two_left b) (same-response x b h) ∙ left-two b (turn_response x (saying_two b)) h

pub turn_stays : (x : Turn) (b : TwoBytes) → ClockFits (turn_event_two x b).call → PassingTwo b → (saying_two (turn_after_two x b) ≡ turn_after x (saying_two b)) × PassingTwo (turn_after_two x b)
unfolding turn_event_two turn_event
turn_stays x b l h =
    let e = encoded_two-says (turn_after x (saying_two b)) (turn_stays_good x (saying_two b) l (passing_two_good b h)) in
    (ap saying_two (turn_two x b h) ∙ e.0, subst PassingTwo (sym (turn_two x b h)) e.1)

-- A call is the turn of it alone.

pub same_answer : (c : Call) (b : TwoBytes) → PassingTwo b → answer_two c b ≡ answer c (saying_two b)
unfolding answer_two answer turn_response_two turn_response response
same_answer c b h = ap answer_of (same-response (single (once c)) b h) ∙ settled-answer (saying_two b) (result_of c (saying_two b))

pub call_stays : (c : Call) (b : TwoBytes) → ClockFits c → PassingTwo b → (saying_two (after_two c b) ≡ after c (saying_two b)) × PassingTwo (after_two c b)
unfolding after_two after written turn_event_two turn_after_two turn_response_two turn_after turn_response turn_call stands_for response
call_stays c b l h =
    let e = turn_stays (single (once c)) b l h in
    (e.0 ∙ settled-left (saying_two b) (result_of c (saying_two b)), e.1)
