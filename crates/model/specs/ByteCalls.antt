-- The calls on the bytes of two sheets: refusals 1 and 2 first, then the call on the decoded sheets, and what it writes encoded again.
use Rattle.std.specs.Prelude.{◌/◌, ◌++◌}
use Rattle.lists.specs.Basics.{ℕ, List, length}
use Rattle.model.specs.Layouts.{record_bytes}
use Rattle.model.specs.Records.{records, records_text}
use Rattle.model.specs.Spares.{record_lines, sheet_for}
use Rattle.model.specs.Coordinator.{coordinator_of, coordinator_text}
use Rattle.model.specs.Refusals.{Condition}
use Rattle.model.specs.SheetCalls.{check_conditions}
use Rattle.model.specs.Writes.{Sheets, apply}
use Rattle.model.specs.Results.{Call, Answer, Response, Result, refused, made, unless}
use Rattle.model.specs.Conditions.{conditions}
use Rattle.model.specs.Calls.{result_of}

-- what two sheets say, whatever their bytes
abbrev pub sheets_said : List ℕ → List ℕ → Sheets
sheets_said rs cs = record { lines = records (record_lines rs); size = length rs / record_bytes; coordinator = coordinator_of cs }

-- the record sheet for what is said: its records, and spares up to its size
abbrev pub sheet_text : Sheets → List ℕ
sheet_text s = sheet_for s.lines s.size

-- all the conditions of a call, in the order of the table
unfoldable pub all_conditions : Call → List ℕ → List ℕ → List Condition
all_conditions call rs cs = check_conditions rs cs ++ conditions call (sheets_said rs cs)

-- a call on the bytes of two sheets
abbrev pub on_sheets : {A E : Type 0} → List ℕ → List ℕ → (Sheets → Response A E) → Response A E
on_sheets rs cs call = unless (check_conditions rs cs) (call (sheets_said rs cs))

unfoldable pub result_on : Call → List ℕ → List ℕ → Result Answer
result_on c rs cs = on_sheets rs cs (result_of c)

-- the record sheet after a call: as it was, where the call is refused
unfoldable pub sheet_after : {A : Type 0} → List ℕ → List ℕ → Result A → List ℕ
sheet_after rs cs (refused n) = rs
sheet_after rs cs (made a w) = sheet_text (apply w (sheets_said rs cs))

-- the coordinator sheet after a call
unfoldable pub coordinator_after : {A : Type 0} → List ℕ → List ℕ → Result A → List ℕ
coordinator_after rs cs (refused n) = cs
coordinator_after rs cs (made a w) = coordinator_text (apply w (sheets_said rs cs)).coordinator

-- The same of lines of records alone, as the functions are lent them that run on accepted sheets: the spares stay outside, and so does how many they are.

abbrev pub sheets_of : List ℕ → List ℕ → Sheets
sheets_of rs cs = record { lines = records rs; size = 500; coordinator = coordinator_of cs }

unfoldable pub records_after : {A : Type 0} → List ℕ → List ℕ → Result A → List ℕ
records_after rs cs (refused n) = rs
records_after rs cs (made a w) = records_text (apply w (sheets_of rs cs)).lines
