-- The companion of the close. Document 02, note 1: "A companion gives, for each count of 1 to 8 puts, a transaction and sheets that reach the greatest count
-- possible for it; any other count is refused with 3."
use Rattle.std.specs.Prelude.{◌*◌, ◌&&◌, ◌∷◌, ◌++◌}
use Rattle.lists.specs.Basics.{ℕ, zero, suc, eqb, leb, true, false, not, cond, List, [], length, replicate}
use Rattle.model.specs.Types.{Key, Record, Undecided, Entry, Transaction}
use Rattle.model.specs.Layouts.{record_bytes, least_coordinator_bytes}
use Rattle.model.specs.Records.{no_image, absent_at, records_text}
use Rattle.model.specs.Coordinator.{Coordinator, coordinator_text}
use Rattle.model.specs.Groups.{no_letter}
use Rattle.model.specs.Refusals.{Condition, refuse, refusal_of}
use Rattle.model.specs.SheetCalls.{unless_refused}
use Rattle.model.specs.Transactions.{entry_as, with_put, with_entry}
use Rattle.model.specs.Writes.{Sheets}
use Rattle.model.specs.Calls.{new_transaction}
use Rattle.model.specs.ByteHistories.{Bytes}

-- The sheets: n ABSENT lines, each a group of its own since every storage is written record by record, and one number, issued and undecided.

-- the key of line i, counted from 1
abbrev pub greatest_key : ℕ → Key
greatest_key i = record { storage = 1; namespace = 1; table = 1; partition = 0; clustering = i }

unfoldable pub greatest_lines : ℕ → List Record
greatest_lines zero = []
greatest_lines (suc n) = greatest_lines n ++ (absent_at (greatest_key (suc n)) ∷ [])

unfoldable pub greatest_coordinator : Coordinator
greatest_coordinator = record { issued = 1; units = replicate 9 no_letter; decisions = Undecided ∷ [] }

abbrev pub greatest_sheets : ℕ → Sheets
greatest_sheets n = record { lines = greatest_lines n; size = n; coordinator = greatest_coordinator }

abbrev pub greatest_bytes : ℕ → Bytes
greatest_bytes n = record { records = records_text (greatest_lines n); coordinator = coordinator_text greatest_coordinator }

-- The transaction: open, and checked, since an unchecked one of one put would be written in one phase.

-- line i as read, with a put over it
abbrev pub greatest_entry : ℕ → Entry
greatest_entry i = with_put (record { column1 = i; column2 = 10 * i }) (entry_as (greatest_key i) true no_image)

unfoldable pub greatest_transaction : ℕ → Transaction
greatest_transaction zero = new_transaction 1 true
greatest_transaction (suc n) = with_entry (suc n) n (greatest_entry (suc n)) (greatest_transaction n)

-- The call, over two lent targets.

-- "any other count is refused with 3"; 1 comes after it, since no length is asked for where there is nothing to write
unfoldable pub greatest_conditions : ℕ → List ℕ → List ℕ → List Condition
greatest_conditions n rs cs =
    refuse 3 (not (leb 1 n && leb n 8))
    ∷ refuse 1 (not (eqb (length rs) (n * record_bytes)))
    ∷ refuse 1 (not (eqb (length cs) least_coordinator_bytes))
    ∷ []

-- the transaction given; a refused call has none to give but that of number 0, as a refused begin
unfoldable pub greatest_given : ℕ → List ℕ → List ℕ → Transaction
greatest_given n rs cs = cond (eqb (refusal_of (greatest_conditions n rs cs)) 0) (greatest_transaction n) (new_transaction 0 false)

-- what stands in each target afterwards
unfoldable pub greatest_records_after : ℕ → List ℕ → List ℕ → List ℕ
greatest_records_after n rs cs = unless_refused (greatest_conditions n rs cs) (records_text (greatest_lines n)) rs

unfoldable pub greatest_coordinator_after : ℕ → List ℕ → List ℕ → List ℕ
greatest_coordinator_after n rs cs = unless_refused (greatest_conditions n rs cs) (coordinator_text greatest_coordinator) cs
