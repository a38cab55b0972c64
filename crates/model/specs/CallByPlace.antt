-- The calls by place: a client keeps its transactions as a lent list, and what is asked is asked of one of them there. Document 01, "Forms wanted at the
-- bench", has the advance; the others go the same way.
use Rattle.std.specs.Prelude.{◌&&◌, ◌∷◌, ◌++◌}
use Rattle.lists.specs.Basics.{ℕ, leb, ltb, Bool, false, not, List, [], length, get_or, set}
use Rattle.model.specs.Types.{Transaction, Request}
use Rattle.model.specs.Refusals.{Condition, refuse}
use Rattle.model.specs.SheetCalls.{check_conditions}
use Rattle.model.specs.Writes.{Sheets}
use Rattle.model.specs.Results.{Call, Answer, held_after, Response, refused, made, unless}
use Rattle.model.specs.Calls.{new_transaction}
use Rattle.model.specs.ByteCalls.{sheets_said, on_sheets}
use Rattle.model.specs.Operations.{Operation, stands_for, operation_conditions, response}
use Rattle.model.specs.Requests.{operation_of}

-- "a lent list of up to 16 structs": a list of n is not over 16, and has the place
unfoldable pub listed : ℕ → ℕ → Bool
listed n place = leb n 16 && ltb place n

-- the transaction named; a place outside the list names one of number 0, which no step sees
abbrev pub named : List Transaction → ℕ → Transaction
named list place = get_or list place (new_transaction 0 false)

-- what is asked, of the one named, and what it is to legality and the sequential model
abbrev pub operation_at : List Transaction → ℕ → Request → Operation
operation_at list place q = operation_of q (named list place)

abbrev pub call_at : List Transaction → ℕ → Request → Call
call_at list place q = stands_for (operation_at list place q)

-- "transaction (in a list, the one named) not well formed, list over 16, or no such list place"
abbrev pub place_conditions : List Transaction → ℕ → List Condition
place_conditions list place = refuse 3 (not (listed (length list) place)) ∷ []

-- all its conditions, in the order of the table: then as for the operation
unfoldable pub all_conditions_at : List Transaction → ℕ → Request → List ℕ → List ℕ → List Condition
all_conditions_at list place q rs cs =
    check_conditions rs cs ++ (place_conditions list place ++ operation_conditions (operation_at list place q) (sheets_said rs cs))

-- "taking and returning the one named"
unfoldable pub response_at : List Transaction → ℕ → Request → Sheets → Response Answer Sheets
response_at list place q s = unless (place_conditions list place) (response (operation_at list place q) s)

unfoldable pub response_at_on : List Transaction → ℕ → Request → List ℕ → List ℕ → Response Answer Sheets
response_at_on list place q rs cs = on_sheets rs cs (response_at list place q)

-- the list afterwards: the one named is replaced, by a begin too, or the list is as it was where the call is refused
unfoldable pub list_after : List Transaction → ℕ → Response Answer Sheets → List Transaction
list_after list place (refused n) = list
list_after list place (made a s) = set list place (held_after (named list place) a)
