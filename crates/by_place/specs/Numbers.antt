-- What the exported calls answer, as one number: what an accepted call gives, or 1000 and the refusal.
use Rattle.std.specs.Prelude.{◌≡◌, ◌+◌, ◌≤◌, Result as Either, Ok, Err}
use Rattle.std.proofs.Common.{◌∙◌}
use Rattle.lists.specs.Basics.{refl, ap, ℕ, eqb, Bool, true, false, cond, List, arith, all}
use Rattle.model.specs.Types.{Key, Transaction}
use Rattle.model.specs.Writes.{Sheets}
use Rattle.model.specs.Refusals.{refusal_of, last_refusal}
use Rattle.model.specs.SheetCalls.{check_conditions}
use Rattle.model.specs.Results.{begin, visit, Answer, answer_of, refusal_in, held_after, Response, Result, refused, made, unless}
use Rattle.model.specs.Calls.{new_transaction}
use Rattle.model.specs.ByteCalls.{result_on}
use Rattle.model.specs.Operations.{Operation, response_on}
use Rattle.call_laws.specs.Exactness.{small, Sound, sound_refused, sound_made, result_sound}
use Rattle.call_laws.specs.Operations.{response_sound_on}
use Rattle.answers.specs.declared.Performed.{Performed}
use Rattle.answers.specs.Answers.{to_issued, to_visited, to_performed, recovery_in, reply_number, number_in, reply_in}

-- a response as one number, by what is made of an accepted answer; its effect isn't looked at
abbrev pub as_number : {E : Type 0} → (Answer → ℕ) → Response Answer E → ℕ
as_number f (refused n) = 1000 + n
as_number f (made a e) = f a

-- begin: the number given, 1 to 999
abbrev pub begin_number : Result Answer → ℕ
begin_number r = as_number (λ (a : Answer). (held_after (new_transaction 0 false) a).number) r

-- visit: 0 stays, 1 forward, 2 back, 3 again
abbrev pub visit_number : {E : Type 0} → Response Answer E → ℕ
visit_number r = as_number (λ (a : Answer). reply_number (recovery_in a)) r

-- a call by place: what a read came to, 0 absent, 1 columns, 2 again; how many writes a close made; else 0
abbrev pub call_number : Response Answer Sheets → ℕ
call_number r = as_number reply_in r

-- the answer where the list of a call by place is over 16, or there is no such place or no such call
abbrev pub unlisted_number : List ℕ → List ℕ → ℕ
unlisted_number rs cs = call_number (unless (check_conditions rs cs) (refused 3))

-- what an exported call makes of the engine's answer: what is given, or 1000 and the refusal
abbrev pub one_number : {A : Type 0} → (A → ℕ) → Either A ℕ → ℕ
one_number f (Ok a) = f a
one_number f (Err n) = 1000 + n

pub begin_numbered : (r : Result Answer) → one_number (λ (n : ℕ). n) (to_issued r) ≡ begin_number r
begin_numbered (refused n) = refl
begin_numbered (made a w) = refl

pub visit_numbered : {E : Type 0} (r : Response Answer E) → one_number reply_number (to_visited r) ≡ visit_number r
visit_numbered (refused n) = refl
visit_numbered (made a e) = refl

pub call_numbered : (t : Transaction) (r : Response Answer Sheets) → one_number (λ (p : Performed). number_in p.reply) (to_performed t r) ≡ call_number r
call_numbered t (refused n) = refl
call_numbered t (made a s) = refl

-- and the refusal in such a number is at most the last
pub small_in : {E : Type 0} (r : Response Answer E) → Sound r → refusal_in (answer_of r) ≤ last_refusal
small_in r (sound_refused n l m) = m
small_in r (sound_made a e z) = omega (arith, z)

pub begin_small : (rs cs : List ℕ) → refusal_in (answer_of (result_on (begin false) rs cs)) ≤ last_refusal
begin_small rs cs = small_in (result_on (begin false) rs cs) (result_sound (begin false) rs cs)

pub visit_small : (k : Key) (clock : ℕ) (rs cs : List ℕ) → refusal_in (answer_of (result_on (visit k clock) rs cs)) ≤ last_refusal
visit_small k clock rs cs = small_in (result_on (visit k clock) rs cs) (result_sound (visit k clock) rs cs)

pub call_small : (o : Operation) (rs cs : List ℕ) → refusal_in (answer_of (response_on o rs cs)) ≤ last_refusal
call_small o rs cs = small_in (response_on o rs cs) (response_sound_on o rs cs)

-- what the check comes to where nothing is named: 1003, or 1000 and its refusal, which is at most the last
pub check_numbered : (rs cs : List ℕ) (n : ℕ) → n ≡ refusal_of (check_conditions rs cs) → (n ≤ last_refusal) × (cond (eqb n 0) 1003 (1000 + n) ≡ unlisted_number rs cs)
unfolding check_conditions all
check_numbered rs cs n e = (omega (arith, e, small (check_conditions rs cs) refl), ap (λ (m : ℕ). cond (eqb m 0) 1003 (1000 + m)) e ∙ go (eqb (refusal_of (check_conditions rs cs)) 0))
  where
    go : (b : Bool) → cond b 1003 (1000 + refusal_of (check_conditions rs cs)) ≡ call_number (cond b (refused 3) (refused (refusal_of (check_conditions rs cs))))
    go true = refl
    go false = refl
