-- What is asked of the engine on two sheets: a call, or a close, which may write several times. Over decoded sheets, and over bytes.
use Rattle.std.specs.Prelude.{◌∷◌, ◌++◌}
use Rattle.lists.specs.Basics.{ℕ, eqb, Bool, true, false, cond, List, []}
use Rattle.model.specs.Types.{Transaction}
use Rattle.model.specs.Records.{records_text}
use Rattle.model.specs.Coordinator.{coordinator_text}
use Rattle.model.specs.Refusals.{Condition, refusal_of}
use Rattle.model.specs.SheetCalls.{check_conditions}
use Rattle.model.specs.Writes.{Sheets, apply}
use Rattle.model.specs.Results.{Call, advance, shifts_lines, Answer, reported, Response, Result, refused, made, unless}
use Rattle.model.specs.Conditions.{conditions}
use Rattle.model.specs.Calls.{result_of}
use Rattle.model.specs.ByteCalls.{sheets_said, sheet_text, on_sheets}
use Rattle.model.specs.ByteHistories.{Bytes}
use Rattle.model.specs.Closing.{Run, closing, starting, closing_calls, most_steps, close_conditions}

pub data Operation : Type 0 where
  -- a call, which writes at most once
  once : Call → Operation
  -- the close of a transaction, at a clock reading and with a limit
  close : Transaction → (clock limit : ℕ) → Operation

-- it writes at most once, whatever the sheets
unfoldable pub writes_once : Operation → Bool
writes_once (once c) = true
writes_once (close t now limit) = false

-- it adds or removes a line
abbrev pub operation_shifts : Operation → Bool
operation_shifts (once c) = shifts_lines c
operation_shifts (close t now limit) = false

-- what it is to legality and to the sequential model: a close takes a transaction and returns it, as one long advance would
unfoldable pub stands_for : Operation → Call
stands_for (once c) = c
stands_for (close t now limit) = advance t now

-- in the order of the table, after 1 and 2 of the sheets themselves
unfoldable pub operation_conditions : Operation → Sheets → List Condition
operation_conditions (once c) s = conditions c s
operation_conditions (close t now limit) s = close_conditions t s

unfoldable pub all_operation_conditions : Operation → List ℕ → List ℕ → List Condition
all_operation_conditions o rs cs = check_conditions rs cs ++ operation_conditions o (sheets_said rs cs)

-- a call's result, with the sheets as its write leaves them
abbrev pub settled : {A : Type 0} → Sheets → Result A → Response A Sheets
settled s (refused n) = refused n
settled s (made a w) = made a (apply w s)

-- a close that isn't refused, run to its end
abbrev pub close_run : Transaction → (clock limit : ℕ) → Sheets → Run
close_run t now limit s = closing most_steps now (starting t limit s)

-- "reports how many atomic writes it made", "returns the transaction as it stands"
abbrev pub ended : Run → Response Answer Sheets
ended x = made (reported x.writes x.transaction) x.sheets

-- refused by the first condition that holds, or an answer and both sheets after it
unfoldable pub response : Operation → Sheets → Response Answer Sheets
response (once c) s = settled s (result_of c s)
response (close t now limit) s = unless (close_conditions t s) (ended (close_run t now limit s))

-- the sheets after it
abbrev pub sheets_left : {A : Type 0} → Sheets → Response A Sheets → Sheets
sheets_left s (refused n) = s
sheets_left s (made a z) = z

-- the calls that it comes to, made one after another: none where a close is refused
unfoldable pub calls_of : Operation → Sheets → List Call
calls_of (once c) s = c ∷ []
calls_of (close t now limit) s = cond (eqb (refusal_of (close_conditions t s)) 0) (closing_calls most_steps now (starting t limit s)) []

-- Over bytes: refusals 1 and 2 first, and what is left encoded again. A sheet is as it was where the operation is refused.

unfoldable pub response_on : Operation → List ℕ → List ℕ → Response Answer Sheets
response_on o rs cs = on_sheets rs cs (response o)

unfoldable pub sheet_left : {A : Type 0} → List ℕ → Response A Sheets → List ℕ
sheet_left rs (refused n) = rs
sheet_left rs (made a s) = sheet_text s

unfoldable pub coordinator_left : {A : Type 0} → List ℕ → Response A Sheets → List ℕ
coordinator_left cs (refused n) = cs
coordinator_left cs (made a s) = coordinator_text s.coordinator

abbrev pub bytes_left : {A : Type 0} → Bytes → Response A Sheets → Bytes
bytes_left b r = record { records = sheet_left b.records r; coordinator = coordinator_left b.coordinator r }

-- of lines of records alone
unfoldable pub records_left : {A : Type 0} → List ℕ → Response A Sheets → List ℕ
records_left rs (refused n) = rs
records_left rs (made a s) = records_text s.lines
