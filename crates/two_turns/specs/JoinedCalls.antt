-- The joined sheet's answers. Where the lines of both sheets are whole and their keys agree, the refusals of two sheets are those of the joined sheet, letters of
-- either case (two_laws), and with capitals these are the record sheet's own; what follows is asked of the same decoded sheets. What is left joins to what
-- that sheet would be, since good sheets, encoded and split, join to their text.
use Rattle.std.specs.Prelude.{◌≡◌, ◌&&◌, ◌∷◌}
use Rattle.std.proofs.Common.{◌∙◌}
use Rattle.lists.specs.Basics.{refl, sym, ap, ap₂, ℕ, eqb, Bool, true, false, not, cond, true≢false, and-true, and-false, List, []}
use Rattle.lists.specs.Basics.{eqb-true}
use Rattle.model.specs.Types.{Key, Columns, Transaction}
use Rattle.model.specs.Spares.{record_lines, sheet_accepted}
use Rattle.model.specs.Coordinator.{coordinator_readable, coordinator_accepted}
use Rattle.model.specs.Groups.{is_lower}
use Rattle.model.specs.Refusals.{refuse, refusal_of}
use Rattle.model.specs.SheetCalls.{all_issued, readable_conditions, check_conditions}
use Rattle.model.specs.Writes.{Sheets, sheets_good}
use Rattle.model.specs.Steps.{units_of}
use Rattle.model.specs.Results.{read, second, Answer, Response, refused, made}
use Rattle.model.specs.Conditions.{is_new, takes_two, conditions}
use Rattle.model.specs.Calls.{seen_second, whole_read, outcome, result_of}
use Rattle.model.specs.ByteCalls.{sheets_said, result_on}
use Rattle.model.specs.ByteHistories.{Bytes}
use Rattle.model.specs.Histories.{ClockFits}
use Rattle.model.specs.Operations.{response, sheets_left, response_on, sheet_left, coordinator_left, bytes_left}
use Rattle.model.specs.CallByPlace.{response_at, response_at_on}
use Rattle.model.specs.Turns.{Turn, single, by_place, turn_call, turn_response, turn_event, turn_after, turn_response_on, turn_after_on}
use Rattle.model.specs.TwoCalls.{TwoBytes, saying_two, conditions_of, on_two, response_two, response_at_two, plain_left, bookkeeping_left, two_left, turn_response_two}
use Rattle.model.specs.TwoCalls.{turn_after_two}
use Rattle.call_laws.specs.Choices.{unless_of}
use Rattle.call_laws.specs.Lifting.{Capitals, capitals_lower, passing_readable}
use Rattle.turns.specs.Turns.{turn_stays_good}
use Rattle.two_laws.specs.TwoEncoding.{agreeing_two}
use Rattle.two_laws.specs.TwoEncoding.{joined_bytes, JoinableTwo, passing_two_good, encoded-joins}

-- with capitals a coordinator sheet is refused on a record sheet where it is on two
capital_conditions : (rs cs : List ℕ) → Capitals (sheets_said rs cs) → refusal_of (readable_conditions rs cs) ≡ refusal_of (check_conditions rs cs)
unfolding readable_conditions check_conditions coordinator_accepted
capital_conditions rs cs a =
    ap (λ (x : Bool). refusal_of (refuse 1 (not (sheet_accepted rs)) ∷ refuse 2 (not (x && all_issued (record_lines rs) cs)) ∷ []))
    (sym (ap (λ (x : Bool). coordinator_readable cs && x) a ∙ and-true (coordinator_readable cs)))

-- the refusals of both sheets and of the joined one
joined_refusal : (b : TwoBytes) → JoinableTwo b → Capitals (saying_two b) → refusal_of (conditions_of b) ≡ refusal_of (check_conditions (joined_bytes b).records b.coordinator)
joined_refusal b j a =
    agreeing_two b j ∙ capital_conditions (joined_bytes b).records b.coordinator a

-- "each operation on the two sheets gives the answer of the joined sheet", by place too and where it is refused
pub joined-response : (x : Turn) (b : TwoBytes) → JoinableTwo b → Capitals (saying_two b) → turn_response_two x b ≡ turn_response_on x (joined_bytes b)
unfolding turn_response_two turn_response_on response_two response_on response_at_two response_at_on
joined-response (single o) b j a = ap (λ (n : ℕ). cond (eqb n 0) (response o (saying_two b)) (refused n)) (joined_refusal b j a)
joined-response (by_place list place q) b j a = ap (λ (n : ℕ). cond (eqb n 0) (response_at list place q (saying_two b)) (refused n)) (joined_refusal b j a)

-- "and the sheets after it join to what that sheet would be", of any sheets and letters of either case
pub left-joins : (x : Turn) (b : TwoBytes) → ClockFits (turn_call x) → joined_bytes (turn_after_two x b) ≡ bytes_left (joined_bytes b) (turn_response_two x b)
unfolding turn_after_two turn_response_two response_two response_at_two turn_event turn_after turn_response plain_left bookkeeping_left sheet_left coordinator_left
left-joins x b l = turn x l (λ h. turn_stays_good x (saying_two b) l (passing_two_good b h))
  where
    made_joins : (r : Response Answer Sheets) → sheets_good (sheets_left (saying_two b) r) ≡ true → joined_bytes (two_left b r) ≡ bytes_left (joined_bytes b) r
    made_joins (refused n) g = refl
    made_joins (made a s) g = encoded-joins s g

    joins : (call : Sheets → Response Answer Sheets) → (refusal_of (conditions_of b) ≡ 0 → sheets_good (sheets_left (saying_two b) (call (saying_two b))) ≡ true) → joined_bytes (two_left b (on_two b call)) ≡ bytes_left (joined_bytes b) (on_two b call)
    joins call g =
        unless_of (λ (r : Response Answer Sheets). joined_bytes (two_left b r) ≡ bytes_left (joined_bytes b) r) (conditions_of b) (λ z. refl)
        (λ h. made_joins (call (saying_two b)) (g h))

    turn : (x : Turn) → ClockFits (turn_call x) → (refusal_of (conditions_of b) ≡ 0 → sheets_good (turn_after x (saying_two b)) ≡ true) → joined_bytes (two_left b (turn_response_two x b)) ≡ bytes_left (joined_bytes b) (turn_response_two x b)
    turn (single o) l g = joins (response o) g
    turn (by_place list place q) l g = joins (response_at list place q) g

pub joined-left : (x : Turn) (b : TwoBytes) → ClockFits (turn_call x) → JoinableTwo b → Capitals (saying_two b) → joined_bytes (turn_after_two x b) ≡ turn_after_on x (joined_bytes b)
unfolding turn_after_on
joined-left x b l j a = left-joins x b l ∙ ap (bytes_left (joined_bytes b)) (joined-response x b j a)

-- "For any other read either call is the whole one, without 7."
pub either_is_whole : (t : Transaction) (k : Key) (now : ℕ) (c : Columns) (s : Sheets) → takes_two (units_of s) k t ≡ false → result_of (second t k now c) s ≡ result_of (read t k now) s
unfolding result_of conditions outcome whole_read seen_second refusal_of
either_is_whole t k now c s h = go (is_new k t) (is_lower (units_of s) k) refl refl
  where
    go : (n l : Bool) → is_new k t ≡ n → is_lower (units_of s) k ≡ l → result_of (second t k now c) s ≡ result_of (read t k now) s
    go true true e f = absurd (true≢false (sym (ap₂ ◌&&◌ e f) ∙ h))
    go true false e f = rw (e, f) refl
    go false l e f = rw e refl

-- so on a record sheet a second call is the read, whatever its bytes
pub capital_takes_one : (s : Sheets) → Capitals s → (k : Key) (t : Transaction) → takes_two (units_of s) k t ≡ false
capital_takes_one s a k t = ap (λ (x : Bool). is_new k t && x) (capitals_lower s a k) ∙ and-false (is_new k t)

pub second_is_read : (t : Transaction) (k : Key) (now : ℕ) (c : Columns) (rs cs : List ℕ) → result_on (second t k now c) rs cs ≡ result_on (read t k now) rs cs
unfolding result_on
second_is_read t k now c rs cs = go (eqb (refusal_of (check_conditions rs cs)) 0) refl
  where
    b : Bytes
    b = record { records = rs; coordinator = cs }

    go : (x : Bool) → eqb (refusal_of (check_conditions rs cs)) 0 ≡ x → cond x (result_of (second t k now c) (sheets_said rs cs)) (refused (refusal_of (check_conditions rs cs))) ≡ cond x (result_of (read t k now) (sheets_said rs cs)) (refused (refusal_of (check_conditions rs cs)))
    go true e = either_is_whole t k now c (sheets_said rs cs) (capital_takes_one (sheets_said rs cs) (passing_readable b (eqb-true (refusal_of (check_conditions rs cs)) 0 e)).1 k t)
    go false e = refl
