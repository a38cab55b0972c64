-- What a call by place is asked for in C: the number of a call, and the numbers that come with it. A call takes its own of them and no other.
use Rattle.std.specs.Prelude.{◌≡◌, ◌≤◌, ◌&&◌}
use Rattle.lists.specs.Basics.{refl, ℕ, zero, suc, ltb, Bool, true, false, cond, List, arith}
use Rattle.model.specs.Types.{Key, Columns, Transaction, Request}
use Rattle.types.specs.declared.Request.TheVariants as asked
use Rattle.model.specs.Refusals.{Condition}
use Rattle.model.specs.SheetCalls.{check_conditions}
use Rattle.model.specs.Writes.{Sheets}
use Rattle.model.specs.Results.{Answer, Response, refused, unless}
use Rattle.model.specs.CallByPlace.{listed, response_at_on}
use Rattle.model.specs.TwoCalls.{TwoBytes, conditions_of, response_at_two}

-- 0 begin, 1 begin checked, 2 read, 3 put, 4 advance, 5 abort, 6 close, 7 the second call of a read; past these an abort, which `is_call` lets nobody ask for
unfoldable pub request_of : ℕ → Key → Columns → (clock limit : ℕ) → Request
request_of zero k c now limit = asked.Begin false
request_of (suc zero) k c now limit = asked.Begin true
request_of (suc (suc zero)) k c now limit = asked.Read k now
request_of (suc (suc (suc zero))) k c now limit = asked.Put k c
request_of (suc (suc (suc (suc zero)))) k c now limit = asked.Advance now
request_of (suc (suc (suc (suc (suc zero))))) k c now limit = asked.Abort
request_of (suc (suc (suc (suc (suc (suc zero)))))) k c now limit = asked.Close now limit
request_of (suc (suc (suc (suc (suc (suc (suc zero))))))) k c now limit = asked.Second k now c
request_of (suc (suc (suc (suc (suc (suc (suc (suc call)))))))) k c now limit = asked.Abort

pub past_calls : (call : ℕ) (k : Key) (c : Columns) (now limit : ℕ) → 8 ≤ call → request_of call k c now limit ≡ asked.Abort
unfolding request_of
past_calls zero k c now limit l = absurd (omega (arith, l))
past_calls (suc zero) k c now limit l = absurd (omega (arith, l))
past_calls (suc (suc zero)) k c now limit l = absurd (omega (arith, l))
past_calls (suc (suc (suc zero))) k c now limit l = absurd (omega (arith, l))
past_calls (suc (suc (suc (suc zero)))) k c now limit l = absurd (omega (arith, l))
past_calls (suc (suc (suc (suc (suc zero))))) k c now limit l = absurd (omega (arith, l))
past_calls (suc (suc (suc (suc (suc (suc zero)))))) k c now limit l = absurd (omega (arith, l))
past_calls (suc (suc (suc (suc (suc (suc (suc zero))))))) k c now limit l = absurd (omega (arith, l))
past_calls (suc (suc (suc (suc (suc (suc (suc (suc call)))))))) k c now limit l = refl

-- how many calls there are on a record sheet, and on two sheets, where a read may take two
abbrev pub calls : ℕ
calls = 7

abbrev pub calls_two : ℕ
calls_two = 8

-- the number is that of a call, of so many
abbrev pub is_call : (most call : ℕ) → Bool
is_call most call = ltb call most

abbrev pub asks : (call storage namespace table partition clustering column1 column2 clock limit : ℕ) → Request
asks call storage namespace table partition clustering column1 column2 clock limit =
    request_of call
    (record { storage = storage; namespace = namespace; table = table; partition = partition; clustering = clustering })
    (record { column1 = column1; column2 = column2 })
    clock limit

-- the list of n is not over 16 and has the place, and there is such a call
abbrev pub naming : (most n place call : ℕ) → Bool
naming most n place call = listed n place && is_call most call

-- 3 where there is no such call, as where there is no such place, after what is asked of the sheets
abbrev pub or_no_call : (most call : ℕ) → List Condition → Response Answer Sheets → Response Answer Sheets
or_no_call most call ps r = cond (is_call most call) r (unless ps (refused 3))

-- the call by place, on a record sheet
abbrev pub called_at_on : List Transaction → (place call : ℕ) → Request → List ℕ → List ℕ → Response Answer Sheets
called_at_on list place call q rs cs = or_no_call calls call (check_conditions rs cs) (response_at_on list place q rs cs)

-- and on two sheets
abbrev pub called_at_two : List Transaction → (place call : ℕ) → Request → TwoBytes → Response Answer Sheets
called_at_two list place call q b = or_no_call calls_two call (conditions_of b) (response_at_two list place q b)
