-- What the calls on two sheets answer as one number: as the calls on a record sheet, but the first of a read's two calls answers its columns too.
use Rattle.std.specs.Prelude.{◌≡◌, ◌+◌, ◌*◌, ◌≤◌}
use Rattle.std.proofs.Common.{◌∙◌}
use Rattle.lists.specs.Basics.{refl, ap, ℕ, eqb, Bool, true, false, cond, arith, all}
use Rattle.model.specs.Types.{Columns, Transaction, Reading}
use Rattle.types.specs.declared.Reading.TheVariants.{Absent, Value, Again, First}
use Rattle.model.specs.Refusals.{refusal_of, last_refusal}
use Rattle.model.specs.Writes.{Sheets}
use Rattle.model.specs.Results.{Answer, answer_of, refusal_in, turned_away, returned, answered, visited, reported, acknowledged, Response, refused, made, unless}
use Rattle.model.specs.TwoSpares.{two_conditions, form_conditions}
use Rattle.model.specs.Operations.{Operation, response}
use Rattle.model.specs.TwoCalls.{TwoBytes, saying_two, conditions_of, response_two}
use Rattle.call_laws.specs.Exactness.{small, sound_unless}
use Rattle.call_laws.specs.Operations.{response_sound}
use Rattle.answers.specs.declared.Performed.{Performed}
use Rattle.answers.specs.declared.Reply.{Reply}
use Rattle.answers.specs.declared.Reply.TheVariants.{Nothing, Read as WasRead, Visited, Writes}
use Rattle.answers.specs.Answers.{to_performed, reply_number, reply_in}
use Rattle.by_place.specs.Numbers.{as_number, one_number, small_in}

-- the columns that a first call answers, each up to 99999999; every other answer is under 10000
abbrev pub first_number : Columns → ℕ
first_number c = 10000 + (c.column1 * 100000000 + c.column2)

abbrev pub reading_two : Reading → ℕ
reading_two Absent = 0
reading_two (Value c) = 1
reading_two Again = 2
reading_two (First c) = first_number c

-- what a read came to, how many writes a close made; 0 of a call that only returns a transaction
abbrev pub reply_two : Answer → ℕ
reply_two (turned_away n) = 0
reply_two (returned t) = 0
reply_two (answered v t) = reading_two v
reply_two (visited v) = reply_in (visited v)
reply_two (reported n t) = n
reply_two acknowledged = 0

abbrev pub call_number_two : Response Answer Sheets → ℕ
call_number_two r = as_number reply_two r

-- the answer where the list is over 16, or there is no such place or no such call
abbrev pub unlisted_number_two : TwoBytes → ℕ
unlisted_number_two b = call_number_two (unless (conditions_of b) (refused 3))

-- the same of what a call replies
abbrev pub number_in_two : Reply → ℕ
number_in_two Nothing = 0
number_in_two (WasRead v) = reading_two v
number_in_two (Visited v) = reply_number v
number_in_two (Writes n) = n

pub call_numbered_two : (t : Transaction) (r : Response Answer Sheets) → one_number (λ (p : Performed). number_in_two p.reply) (to_performed t r) ≡ call_number_two r
call_numbered_two t (refused n) = refl
call_numbered_two t (made (turned_away n) s) = refl
call_numbered_two t (made (returned u) s) = refl
call_numbered_two t (made (answered v u) s) = refl
call_numbered_two t (made (visited v) s) = refl
call_numbered_two t (made (reported n u) s) = refl
call_numbered_two t (made acknowledged s) = refl

-- the refusal of any call, a visit too, is at most the last
pub call_small_two : (o : Operation) (b : TwoBytes) → refusal_in (answer_of (response_two o b)) ≤ last_refusal
unfolding response_two two_conditions form_conditions all
call_small_two o b = small_in (response_two o b) (sound_unless (conditions_of b) (response o (saying_two b)) refl (response_sound o (saying_two b)))

-- and the check's refusal, where nothing is named
pub check_numbered_two : (b : TwoBytes) (n : ℕ) → n ≡ refusal_of (conditions_of b) → (n ≤ last_refusal) × (cond (eqb n 0) 1003 (1000 + n) ≡ unlisted_number_two b)
unfolding two_conditions form_conditions all
check_numbered_two b n e = (omega (arith, e, small (conditions_of b) refl), ap (λ (m : ℕ). cond (eqb m 0) 1003 (1000 + m)) e ∙ go (eqb (refusal_of (conditions_of b)) 0))
  where
    go : (x : Bool) → cond x 1003 (1000 + refusal_of (conditions_of b)) ≡ call_number_two (cond x (refused 3) (refused (refusal_of (conditions_of b))))
    go true = refl
    go false = refl
