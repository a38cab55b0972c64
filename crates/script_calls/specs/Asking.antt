-- What a line of a history asks of the engine: the call that it names, with its numbers in the order of the line; or nothing, where it names none, a slot beyond the
-- sixteenth, or a begin with another number than 0 or 1 for checked.
use Rattle.std.specs.Prelude.{Option, None, Some}
use Rattle.lists.specs.Basics.{ℕ, eqb, leb, ltb, false, cond, List, [], get_or}
use Rattle.model.specs.Types.{Transaction}
use Rattle.model.specs.Calls.{new_transaction}
use Rattle.types.specs.declared.Request.TheVariants as request
use Rattle.script.specs.declared.scan.Kind.{Kind}
use Rattle.script.specs.declared.scan.Kind.TheVariants.{Begin, Read, Second, Put, Advance, Close, Abort, Visit}
use Rattle.types.specs.declared.Request.{Request}
use Rattle.script_calls.specs.Parts.{key_from, columns_from}

abbrev pub begun : ℕ → Option Request
begun checked = cond (ltb 1 checked) None (Some (request.Begin (eqb checked 1)))

abbrev pub on_slot : ℕ → Option Request → Option Request
on_slot slot asked = cond (leb 16 slot) None asked

abbrev pub asked_for : Kind → List ℕ → Option Request
asked_for Begin n = on_slot (get_or n 0 0) (begun (get_or n 1 0))
asked_for Read n = on_slot (get_or n 0 0) (Some (request.Read (key_from n 1) (get_or n 6 0)))
asked_for Second n = on_slot (get_or n 0 0) (Some (request.Second (key_from n 1) (get_or n 6 0) (columns_from n 7)))
asked_for Put n = on_slot (get_or n 0 0) (Some (request.Put (key_from n 1) (columns_from n 6)))
asked_for Advance n = on_slot (get_or n 0 0) (Some (request.Advance (get_or n 1 0)))
asked_for Close n = on_slot (get_or n 0 0) (Some (request.Close (get_or n 1 0) (get_or n 2 0)))
asked_for Abort n = on_slot (get_or n 0 0) (Some request.Abort)
asked_for Visit n = Some (request.Visit (key_from n 0) (get_or n 5 0))
asked_for k n = None

-- what the logic reads past the last slot, which is never asked
abbrev pub no_transaction : Transaction
no_transaction = record { number = 0; serializable = 0; phase = 0; place = 0; verdict = 0; count = 0; entries = [] }

-- the transaction of the slot that the first number names, and a new one where there is no such slot
abbrev pub taken_by : List ℕ → List Transaction → Transaction
taken_by n slots = cond (leb 16 (get_or n 0 0)) (new_transaction 0 false) (get_or slots (get_or n 0 0) no_transaction)
