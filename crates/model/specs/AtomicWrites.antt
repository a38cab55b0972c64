-- A write in one unit, over bytes. Document 00, demand 2: a call "writes to at most one unit or the coordinator sheet".
use Rattle.std.specs.Prelude.{◌≡◌, ◌∷◌, ◌++◌}
use Rattle.lists.specs.Basics.{ℕ, List, [], length}
use Rattle.model.specs.Types.{Key, Some}
use Rattle.model.specs.Layouts.{record_bytes}
use Rattle.model.specs.Lines.{lines_of}
use Rattle.model.specs.Records.{record_in, record_text, absent_at}
use Rattle.model.specs.Spares.{spare_line}
use Rattle.model.specs.Coordinator.{Letter, coordinator_of}
use Rattle.model.specs.SheetCalls.{line_at}
use Rattle.model.specs.Groups.{scope}
use Rattle.model.specs.Results.{Call, add, remove}
use Rattle.model.specs.ByteHistories.{Bytes}
use Rattle.model.specs.TwoSheets.{plain_bytes, bookkeeping_bytes, plain_line, bookkeeping_line, plain_record, bookkeeping_record, line_of_sheet}
use Rattle.model.specs.TwoCalls.{TwoBytes}

-- the fields of the key of line i that the unit of its storage compares
abbrev pub scope_at : ℕ → Bytes → List ℕ
scope_at i b = scope (coordinator_of b.coordinator).units (record_in (line_at b.records (Some i))).key

-- Both sheets before and after: the coordinator sheet stays, the record sheet keeps its length and each of its lines outside one unit its bytes; or the
-- record sheet stays.
pub data WithinUnit (before after : Bytes) : Type 0 where
  lines_of_one_unit : (unit : List ℕ) → after.coordinator ≡ before.coordinator → length after.records ≡ length before.records → ((i : ℕ) → (scope_at i before ≡ unit → ⊥) → line_at after.records (Some i) ≡ line_at before.records (Some i)) → WithinUnit before after
  coordinator_only : after.records ≡ before.records → WithinUnit before after

-- Document 02, note 6: "Each is one atomic write, of that line only: lines that shift by it don't count as written." A sheet before and after a line is put in at index i: it keeps its length, the lines from there on stand one further down, and of the spares at the end one is used up. The
-- other way round it is a line taken out, those below it one further up and a spare more.
pub record LinePutIn (width : ℕ) (line : List ℕ) (i : ℕ) (before after : List ℕ) : Type 0 where
  pub above : List (List ℕ)
  pub below : List (List ℕ)
  pub index : length above ≡ i
  pub size : length after ≡ length before
  pub was : lines_of width before ≡ above ++ (below ++ (spare_line width ∷ []))
  pub is : lines_of width after ≡ above ++ (line ∷ below)

-- the line that a key gets, and that is all that can be taken out: ABSENT, of version 0
abbrev pub line_for : Key → List ℕ
line_for k = record_text (absent_at k)

-- What a call may write: within one unit, or the coordinator sheet, or its key's line put in or taken out. At which index that line stands follows from the order of keys, since what is left is accepted.
pub data OneUnit (before after : Bytes) : Call → Type 0 where
  within_unit : {c : Call} → WithinUnit before after → OneUnit before after c
  line_added : (k : Key) (i : ℕ) → after.coordinator ≡ before.coordinator → LinePutIn record_bytes (line_for k) i before.records after.records → OneUnit before after (add k)
  line_removed : (k : Key) (i : ℕ) → after.coordinator ≡ before.coordinator → LinePutIn record_bytes (line_for k) i after.records before.records → OneUnit before after (remove k)

-- Of a plain sheet and a bookkeeping sheet. Document 02, note 4: "An atomic write goes to both, within one unit."

-- either sheet before and after: it keeps its length, and each of its lines outside one unit its bytes
pub record KeepsOthers (units : List Letter) (unit : List ℕ) (width : ℕ) (key_in : List ℕ → Key) (before after : List ℕ) : Type 0 where
  pub size : length after ≡ length before
  pub others : (i : ℕ) → (scope units (key_in (line_of_sheet width before (Some i))) ≡ unit → ⊥) → line_of_sheet width after (Some i) ≡ line_of_sheet width before (Some i)

abbrev pub PlainKeeps : List ℕ → TwoBytes → TwoBytes → Type 0
PlainKeeps unit b a = KeepsOthers (coordinator_of b.coordinator).units unit plain_bytes (λ (l : List ℕ). (plain_record l).key) b.plain a.plain

abbrev pub BookkeepingKeeps : List ℕ → TwoBytes → TwoBytes → Type 0
BookkeepingKeeps unit b a = KeepsOthers (coordinator_of b.coordinator).units unit bookkeeping_bytes (λ (l : List ℕ). (bookkeeping_record l).key) b.bookkeeping a.bookkeeping

pub data WithinUnitTwo (before after : TwoBytes) : Type 0 where
  lines_of_one_unit_two : (unit : List ℕ) → after.coordinator ≡ before.coordinator → PlainKeeps unit before after → BookkeepingKeeps unit before after → WithinUnitTwo before after
  coordinator_only_two : after.plain ≡ before.plain → after.bookkeeping ≡ before.bookkeeping → WithinUnitTwo before after

-- the parts of a line put in go to both, at the same index
abbrev pub BothPutIn : List ℕ → ℕ → TwoBytes → TwoBytes → Type 0
BothPutIn line i b a = LinePutIn plain_bytes (plain_line line) i b.plain a.plain × LinePutIn bookkeeping_bytes (bookkeeping_line line) i b.bookkeeping a.bookkeeping

pub data OneUnitTwo (before after : TwoBytes) : Call → Type 0 where
  within_unit_two : {c : Call} → WithinUnitTwo before after → OneUnitTwo before after c
  line_added_two : (k : Key) (i : ℕ) → after.coordinator ≡ before.coordinator → BothPutIn (line_for k) i before after → OneUnitTwo before after (add k)
  line_removed_two : (k : Key) (i : ℕ) → after.coordinator ≡ before.coordinator → BothPutIn (line_for k) i after before → OneUnitTwo before after (remove k)
