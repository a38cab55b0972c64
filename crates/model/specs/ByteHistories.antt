-- Histories over the bytes of both sheets: the calls as an engine makes them. Demand 3 speaks of these.
use Rattle.std.specs.Prelude.{◌≡◌}
use Rattle.lists.specs.Basics.{ℕ, List}
use Rattle.model.specs.Refusals.{refusal_of}
use Rattle.model.specs.SheetCalls.{readable_conditions, check_conditions}
use Rattle.model.specs.Writes.{Sheets}
use Rattle.model.specs.Results.{Call, Answer, Result, answer_of}
use Rattle.model.specs.ByteCalls.{sheets_said, result_on, sheet_after, coordinator_after}

-- the bytes of both sheets
pub record Bytes : Type 0 where
  pub records : List ℕ
  pub coordinator : List ℕ

abbrev pub saying : Bytes → Sheets
saying b = sheets_said b.records b.coordinator

-- "Accepted sheets are those that refusals 1 and 2 let pass."
abbrev pub Passing : Bytes → Type 0
Passing b = refusal_of (check_conditions b.records b.coordinator) ≡ 0

-- the bytes break no rule but perhaps that of capitals
abbrev pub Readable : Bytes → Type 0
Readable b = refusal_of (readable_conditions b.records b.coordinator) ≡ 0

-- the bytes after a result
abbrev pub bytes_after : {A : Type 0} → Bytes → Result A → Bytes
bytes_after b r =
    record { records = sheet_after b.records b.coordinator r; coordinator = coordinator_after b.records b.coordinator r }

-- what the call answers, made with these bytes
unfoldable pub answer_on : Call → Bytes → Answer
answer_on c b = answer_of (result_on c b.records b.coordinator)

-- the bytes as the call leaves them
unfoldable pub after_on : Call → Bytes → Bytes
after_on c b = bytes_after b (result_on c b.records b.coordinator)
