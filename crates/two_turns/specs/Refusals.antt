-- The refusals on a plain sheet and a bookkeeping sheet: of an operation's conditions the first in the order of asking, since their numbers keep it, 13 after 2. A
-- refused operation leaves all three sheets as they were.
use Rattle.std.specs.Prelude.{◌≡◌, ◌≤◌, ◌∷◌, ◌++◌}
use Rattle.std.proofs.Common.{◌∙◌}
use Rattle.lists.specs.Basics.{refl, ap, ℕ, true, List, map, drop, all}
use Rattle.model.specs.Types.{Transaction, Request}
use Rattle.types.specs.declared.Request.TheVariants as asked
use Rattle.model.specs.Refusals.{Condition, refusal_of, count_before, first_asked}
use Rattle.model.specs.Writes.{Sheets}
use Rattle.model.specs.Results.{Call, begin, read, second, put, advance, abort, visit, add, remove, Answer, refusal_in, Response, answer_of}
use Rattle.model.specs.Conditions.{conditions, refusals}
use Rattle.model.specs.Closing.{close_conditions}
use Rattle.model.specs.Operations.{Operation, once, close, operation_conditions, response, coordinator_left}
use Rattle.model.specs.Requests.{operation_of}
use Rattle.model.specs.CallByPlace.{operation_at, place_conditions, response_at, list_after}
use Rattle.model.specs.Turns.{Turn, single, by_place}
use Rattle.model.specs.TwoSpares.{form_conditions, two_conditions}
use Rattle.model.specs.TwoCalls.{TwoBytes, saying_two, conditions_of, response_two, response_at_two, all_conditions_two, all_conditions_at_two, plain_left, bookkeeping_left}
use Rattle.model.specs.TwoCalls.{two_left, turn_response_two, turn_event_two, turn_after_two}
use Rattle.call_laws.specs.Exactness.{Sound, sound_unless, when_refused, refusal_then, row_first, rising_from}
use Rattle.call_laws.specs.Operations.{response_refusal, response_sound}

-- an answer's refusal is that of the operation's conditions
pub refusal_given : (o : Operation) (b : TwoBytes) → refusal_in (answer_of (response_two o b)) ≡ refusal_of (all_conditions_two o b)
unfolding response_two all_conditions_two two_conditions form_conditions all
refusal_given o b =
    refusal_then (conditions_of b) (operation_conditions o (saying_two b)) (response o (saying_two b)) refl (response_refusal o (saying_two b))

refusal_given_at : (list : List Transaction) (place : ℕ) (q : Request) (b : TwoBytes) → refusal_in (answer_of (response_at_two list place q b)) ≡ refusal_of (all_conditions_at_two list place q b)
unfolding response_at_two response_at all_conditions_at_two two_conditions form_conditions all
refusal_given_at list place q b =
    let rest = operation_conditions (operation_at list place q) (saying_two b) in
    refusal_then (conditions_of b) (place_conditions list place ++ rest) _ refl
    (refusal_then (place_conditions list place) rest _ refl (response_refusal (operation_at list place q) (saying_two b)))

-- and this is the first that is asked
conditions-first : (o : Operation) (b : TwoBytes) → first_asked (refusal_of (all_conditions_two o b)) (all_conditions_two o b) ≡ true
unfolding all_conditions_two two_conditions form_conditions operation_conditions conditions close_conditions rising_from all count_before
conditions-first (once (begin x)) b = row_first (all_conditions_two (once (begin x)) b) refl
conditions-first (once (read t k now)) b = row_first (all_conditions_two (once (read t k now)) b) refl
conditions-first (once (second t k now c)) b = row_first (all_conditions_two (once (second t k now c)) b) refl
conditions-first (once (put t k c)) b = row_first (all_conditions_two (once (put t k c)) b) refl
conditions-first (once (advance t now)) b = row_first (all_conditions_two (once (advance t now)) b) refl
conditions-first (once (abort t)) b = row_first (all_conditions_two (once (abort t)) b) refl
conditions-first (once (visit k now)) b = row_first (all_conditions_two (once (visit k now)) b) refl
conditions-first (once (add k)) b = row_first (all_conditions_two (once (add k)) b) refl
conditions-first (once (remove k)) b = row_first (all_conditions_two (once (remove k)) b) refl
conditions-first (close t now limit) b = row_first (all_conditions_two (close t now limit) b) refl

conditions_first_at : (list : List Transaction) (place : ℕ) (q : Request) (b : TwoBytes) → first_asked (refusal_of (all_conditions_at_two list place q b)) (all_conditions_at_two list place q b) ≡ true
unfolding all_conditions_at_two two_conditions form_conditions operation_of operation_conditions conditions close_conditions rising_from all count_before
conditions_first_at list place (asked.Begin x) b = row_first (all_conditions_at_two list place (asked.Begin x) b) refl
conditions_first_at list place (asked.Read k now) b = row_first (all_conditions_at_two list place (asked.Read k now) b) refl
conditions_first_at list place (asked.Second k now c) b = row_first (all_conditions_at_two list place (asked.Second k now c) b) refl
conditions_first_at list place (asked.Put k c) b = row_first (all_conditions_at_two list place (asked.Put k c) b) refl
conditions_first_at list place (asked.Advance now) b = row_first (all_conditions_at_two list place (asked.Advance now) b) refl
conditions_first_at list place asked.Abort b = row_first (all_conditions_at_two list place asked.Abort b) refl
conditions_first_at list place (asked.Visit k now) b = row_first (all_conditions_at_two list place (asked.Visit k now) b) refl
conditions_first_at list place (asked.Close now limit) b = row_first (all_conditions_at_two list place (asked.Close now limit) b) refl

pub refusal_exact_two : (o : Operation) (b : TwoBytes) → first_asked (refusal_in (answer_of (response_two o b))) (all_conditions_two o b) ≡ true
refusal_exact_two o b = ap (λ (n : ℕ). first_asked n (all_conditions_two o b)) (refusal_given o b) ∙ conditions-first o b

pub refusal_exact_at_two : (list : List Transaction) (place : ℕ) (q : Request) (b : TwoBytes) → first_asked (refusal_in (answer_of (response_at_two list place q b))) (all_conditions_at_two list place q b) ≡ true
refusal_exact_at_two list place q b = ap (λ (n : ℕ). first_asked n (all_conditions_at_two list place q b)) (refusal_given_at list place q b) ∙ conditions_first_at list place q b

-- the row of a call: 1 of either sheet and of the joined one, 2, 13, and then as beside a record sheet
pub numbers-two : (c : Call) (b : TwoBytes) → map (λ (x : Condition). x.number) (all_conditions_two (once c) b) ≡ 1 ∷ 1 ∷ 1 ∷ 2 ∷ 13 ∷ drop 2 (refusals c)
unfolding all_conditions_two two_conditions form_conditions operation_conditions conditions refusals
numbers-two (begin x) b = refl
numbers-two (read t k now) b = refl
numbers-two (second t k now c) b = refl
numbers-two (put t k c) b = refl
numbers-two (advance t now) b = refl
numbers-two (abort t) b = refl
numbers-two (visit k now) b = refl
numbers-two (add k) b = refl
numbers-two (remove k) b = refl

-- After a refusal.

turn_sound : (x : Turn) (b : TwoBytes) → Sound (turn_response_two x b)
unfolding turn_response_two response_two response_at_two response_at two_conditions form_conditions all
turn_sound (single o) b = sound_unless (conditions_of b) _ refl (response_sound o (saying_two b))
turn_sound (by_place list place q) b =
    sound_unless (conditions_of b) _ refl (sound_unless (place_conditions list place) _ refl (response_sound (operation_at list place q) (saying_two b)))

-- all three sheets are as they were
pub refused_two_lem : (x : Turn) (b : TwoBytes) → 1 ≤ refusal_in (turn_event_two x b).answer → turn_after_two x b ≡ b
unfolding turn_event_two turn_after_two plain_left bookkeeping_left coordinator_left
refused_two_lem x b = when_refused (λ (r : Response Answer Sheets). two_left b r ≡ b) (λ n. refl) (turn_response_two x b) (turn_sound x b)

-- and by place the list
pub refused_list_two : (list : List Transaction) (place : ℕ) (q : Request) (b : TwoBytes) → 1 ≤ refusal_in (answer_of (response_at_two list place q b)) → list_after list place (response_at_two list place q b) ≡ list
unfolding turn_response_two list_after
refused_list_two list place q b =
    when_refused (λ (r : Response Answer Sheets). list_after list place r ≡ list) (λ n. refl) (response_at_two list place q b) (turn_sound (by_place list place q) b)
