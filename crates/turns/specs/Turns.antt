-- A turn on accepted bytes is the turn on what they say, and leaves accepted bytes, as it leaves readable ones readable. An operation has these laws already;
-- one by place is that of the one named, or refused.
use Rattle.std.specs.Prelude.{◌≡◌}
use Rattle.std.proofs.Common.{◌∙◌}
use Rattle.lists.specs.Basics.{refl, sym, ap, subst, true, some, none-ne-some}
use Rattle.model.specs.Types.{Transaction}
use Rattle.model.specs.Coordinator.{Coordinator, all_capitals}
use Rattle.model.specs.Writes.{Sheets, sheets_good, Write, decisions_after}
use Rattle.model.specs.Results.{Call, Answer, returns, Response, refused, answer_of}
use Rattle.model.specs.Steps.{units_of}
use Rattle.model.specs.WellFormed.{well_formed}
use Rattle.model.specs.Histories.{ClockFits}
use Rattle.model.specs.ByteHistories.{Bytes, saying, Readable, Passing}
use Rattle.model.specs.Operations.{Operation, stands_for, response, sheets_left, response_on, bytes_left}
use Rattle.model.specs.CallByPlace.{operation_at, call_at, response_at, response_at_on}
use Rattle.model.specs.Turns.{Turn, single, by_place, turn_call, turn_response, turn_event, turn_after, turn_response_on, turn_event_on, turn_after_on}
use Rattle.call_laws.specs.Keeping.{units_kept}
use Rattle.call_laws.specs.Lifting.{Capitals, passing_readable, readable_passing, readable_good, encoded, encoded_readable, on_passing}
use Rattle.call_laws.specs.ByPlace.{by_place_lem}
use Rattle.turns.specs.Operations.{operation_stays_good, operation_returns_formed, operation_keeps, bytes_of_response}

-- what holds of every operation, and of refusal 3, holds of every turn
pub by_turn : (P : Call → Response Answer Sheets → Type 0) (s : Sheets) (x : Turn) → ((o : Operation) → P (stands_for o) (response o s)) → ((c : Call) → P c (refused 3)) → P (turn_call x) (turn_response x s)
unfolding turn_call turn_response
by_turn P s (single o) f g = f o
by_turn P s (by_place list place q) f g =
    by_place_lem list place q s (P (call_at list place q)) (f (operation_at list place q)) (g (call_at list place q))

-- the sheets after any turn are good if they were
pub turn_stays_good : (x : Turn) (s : Sheets) → ClockFits (turn_event x s).call → sheets_good s ≡ true → sheets_good (turn_after x s) ≡ true
unfolding turn_event turn_after
turn_stays_good x s =
    by_turn (λ (c : Call) (r : Response Answer Sheets). ClockFits c → sheets_good s ≡ true → sheets_good (sheets_left s r) ≡ true) s x
    (λ o. operation_stays_good o s) (λ c l g. g)

-- what every write keeps of the coordinator sheet a turn keeps
pub turn-keeps : (P : Coordinator → Type 0) → ((w : Write) (c : Coordinator) → P c → P (decisions_after w c)) → (x : Turn) (s : Sheets) → P s.coordinator → P (turn_after x s).coordinator
unfolding turn_after
turn-keeps P f x s p =
    by_turn (λ (c : Call) (r : Response Answer Sheets). P (sheets_left s r).coordinator) s x (λ o. operation_keeps P f o s p) (λ c. p)

pub turn-units : (x : Turn) (s : Sheets) → units_of (turn_after x s) ≡ units_of s
turn-units x s = turn-keeps (λ (c : Coordinator). c.units ≡ units_of s) (λ w c e. units_kept w c ∙ e) x s refl

pub same-response : (x : Turn) (b : Bytes) → Passing b → turn_response_on x b ≡ turn_response x (saying b)
unfolding turn_response_on turn_response response_on response_at_on
same-response (single o) b h = on_passing b (response o) h
same-response (by_place list place q) b h = on_passing b (response_at list place q) h

pub same_event : (x : Turn) (b : Bytes) → Passing b → turn_event_on x b ≡ turn_event x (saying b)
unfolding turn_event_on turn_event
same_event x b h = ap (λ (r : Response Answer Sheets). record { call = turn_call x; answer = answer_of r }) (same-response x b h)

pub turn-bytes : (x : Turn) (b : Bytes) → Passing b → turn_after_on x b ≡ encoded (turn_after x (saying b))
unfolding turn_after_on turn_after
turn-bytes x b h = ap (bytes_left b) (same-response x b h) ∙ bytes_of_response b (turn_response x (saying b)) (passing_readable b h).0

-- T4 on bytes: what a turn on what readable bytes say leaves, encoded, is readable and says that
pub turn_stays_readable : (x : Turn) (b : Bytes) → ClockFits (turn_call x) → Readable b → (saying (encoded (turn_after x (saying b))) ≡ turn_after x (saying b)) × Readable (encoded (turn_after x (saying b)))
unfolding turn_event
turn_stays_readable x b l h = encoded_readable (turn_after x (saying b)) (turn_stays_good x (saying b) l (readable_good b h))

-- and the sheets after any turn pass, since it leaves the letters
pub turn_stays_passing : (x : Turn) (b : Bytes) → ClockFits (turn_event_on x b).call → Passing b → (saying (turn_after_on x b) ≡ turn_after x (saying b)) × Passing (turn_after_on x b)
unfolding turn_event_on
turn_stays_passing x b l h =
    let r = passing_readable b h in
    let e = turn_stays_readable x b l r.0 in
    let a : Capitals (saying (encoded (turn_after x (saying b)))) = ap (λ (s : Sheets). all_capitals (units_of s)) e.0 ∙ (ap all_capitals (turn-units x (saying b)) ∙ r.1) in
    (ap saying (turn-bytes x b h) ∙ e.0, subst Passing (sym (turn-bytes x b h)) (readable_passing (encoded (turn_after x (saying b))) e.1 a))

-- the transaction that a turn returns is well formed, on the sheets that it leaves
pub turn-returns-formed : (x : Turn) (s : Sheets) (t : Transaction) → ClockFits (turn_event x s).call → sheets_good s ≡ true → returns (turn_event x s).answer ≡ some t → well_formed (turn_after x s) t ≡ true
unfolding turn_event turn_after returns
turn-returns-formed x s t =
    by_turn
    (λ (c : Call) (r : Response Answer Sheets). ClockFits c → sheets_good s ≡ true → returns (answer_of r) ≡ some t → well_formed (sheets_left s r) t ≡ true) s x
    (λ o. operation_returns_formed o s t) (λ c l g e. absurd (none-ne-some t e))
