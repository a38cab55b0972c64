-- The coordinator sheet: numbers issued, units and decisions, and its rules. Document 01, "Coordinator sheet".
use Rattle.std.specs.Prelude.{◌+◌, ◌-◌, ◌&&◌, ◌∷◌, ◌++◌}
use Rattle.lists.specs.Basics.{ℕ, zero, suc, eqb, leb, Bool, true, false, not, cond, List, [], map, length, take, drop, get_or, set, all, joined}
use Rattle.model.specs.Types.{Record, Decision, Undecided, Committed, Aborted, AtomicityUnit}
use Rattle.types.specs.declared.AtomicityUnit.TheVariants.{Record as RecordUnit, Partition, Table, Namespace, Storage}
use Rattle.model.specs.Layouts.{head_layout, line_layout, decision_column, decision_field, coordinator_bytes, head_fields}
use Rattle.model.specs.Lines.{row_of, line_text, line_set, in_range, row_good, lines_of, lines_set}

-- The unit letter of a storage: its unit and its case. Document 02, note 4: "a lower-case unit letter marks a storage that can't be read
-- consistently".
pub record Letter : Type 0 where
  pub unit : AtomicityUnit
  pub lower : Bool

-- count of numbers issued, letters of storages 1 to 9, decisions of numbers 1, 2, ..
pub record Coordinator : Type 0 where
  pub issued : ℕ
  pub units : List Letter
  pub decisions : List Decision

-- Words by their index among the words.

unfoldable pub decision_number : Decision → ℕ
decision_number Undecided = 0
decision_number Committed = 1
decision_number Aborted = 2

unfoldable pub decision_of : ℕ → Decision
decision_of zero = Undecided
decision_of (suc zero) = Committed
decision_of (suc (suc n)) = Aborted

unfoldable pub unit_number : AtomicityUnit → ℕ
unit_number RecordUnit = 0
unit_number Partition = 1
unit_number Table = 2
unit_number Namespace = 3
unit_number Storage = 4

unfoldable pub unit_of : ℕ → AtomicityUnit
unit_of zero = RecordUnit
unit_of (suc zero) = Partition
unit_of (suc (suc zero)) = Table
unit_of (suc (suc (suc zero))) = Namespace
unit_of (suc (suc (suc (suc n)))) = Storage

-- the five capitals, and then the five small letters
unfoldable pub letter_number : Letter → ℕ
letter_number l = unit_number l.unit + cond l.lower 5 0

unfoldable pub letter_of : ℕ → Letter
letter_of n = record { unit = unit_of (cond (leb n 4) n (n - 5)); lower = not (leb n 4) }

unfoldable pub is_undecided : Decision → Bool
is_undecided Undecided = true
is_undecided Committed = false
is_undecided Aborted = false

-- the decision of a number; a number that has no line is undecided
unfoldable pub decision : ℕ → Coordinator → Decision
decision zero c = Undecided
decision (suc i) c = get_or c.decisions i Undecided

-- the coordinator with another decision of a number
unfoldable pub with_decision : ℕ → Decision → Coordinator → Coordinator
with_decision zero d c = c
with_decision (suc i) d c = record { issued = c.issued; units = c.units; decisions = set c.decisions i d }

-- the coordinator with another count of numbers issued
unfoldable pub with_issued : ℕ → Coordinator → Coordinator
with_issued n c = record { issued = n; units = c.units; decisions = c.decisions }

-- The rules: nine units, 1 to 999 lines, at most as many numbers issued, and lines above the issued count undecided.
unfoldable pub coordinator_good : Coordinator → Bool
coordinator_good c =
    eqb (length c.units) 9
    && leb 1 (length c.decisions)
    && leb (length c.decisions) 999
    && leb c.issued (length c.decisions)
    && all is_undecided (drop c.issued c.decisions)

-- The sheet.

unfoldable pub decision_in : List ℕ → Decision
decision_in line = decision_of (get_or (row_of line_layout line) decision_field 0)

-- the lines after the head
abbrev pub decision_lines : List ℕ → List (List ℕ)
decision_lines s = lines_of coordinator_bytes (drop coordinator_bytes s)

-- what a coordinator sheet says, whatever its bytes
unfoldable pub coordinator_of : List ℕ → Coordinator
coordinator_of s =
    record {
      issued = get_or (row_of head_layout (take coordinator_bytes s)) 0 0;
      units = map letter_of (drop 1 (row_of head_layout (take coordinator_bytes s)));
      decisions = map decision_in (decision_lines s);
    }

-- line k has the number k
unfoldable pub numbered : ℕ → List (List ℕ) → Bool
numbered k [] = true
numbered k (line ∷ ls) = eqb (get_or (row_of line_layout line) 0 0) k && numbered (suc k) ls

-- the coordinator sheets that break no rule of their own, letters of either case
unfoldable pub coordinator_readable : List ℕ → Bool
coordinator_readable s =
    line_set head_layout (take coordinator_bytes s)
    && lines_set line_layout coordinator_bytes (drop coordinator_bytes s)
    && numbered 1 (decision_lines s)
    && coordinator_good (coordinator_of s)

-- every letter is a capital
unfoldable pub all_capitals : List Letter → Bool
all_capitals ls = all (λ (l : Letter). not l.lower) ls

-- those of capitals: lower-case letters are for "two sheets only"
unfoldable pub coordinator_accepted : List ℕ → Bool
coordinator_accepted s = coordinator_readable s && all_capitals (coordinator_of s).units

-- "No record line names a TxID above that count": the before TxID counts too.
unfoldable pub names_issued : ℕ → Record → Bool
names_issued issued r = leb r.image.txid issued && leb r.before.txid issued

-- the lines for the decisions of numbers k, k + 1, ..
unfoldable pub decision_texts : ℕ → List Decision → List (List ℕ)
decision_texts k [] = []
decision_texts k (d ∷ ds) = line_text line_layout (k ∷ decision_number d ∷ []) ∷ decision_texts (suc k) ds

-- the numbers of the head
unfoldable pub head_numbers : Coordinator → List ℕ
head_numbers c = c.issued ∷ map letter_number c.units

unfoldable pub coordinator_text : Coordinator → List ℕ
coordinator_text c = line_text head_layout (head_numbers c) ++ joined (decision_texts 1 c.decisions)

-- A coordinator as a lent list of numbers: the issued count, nine units, the decisions.

unfoldable pub coordinator_numbers : Coordinator → List ℕ
coordinator_numbers c = head_numbers c ++ map decision_number c.decisions

unfoldable pub coordinator_from : List ℕ → Coordinator
coordinator_from v =
    record { issued = get_or v 0 0; units = map letter_of (take 9 (drop 1 v)); decisions = map decision_of (drop head_fields v) }

-- numbers in range that keep the rules
unfoldable pub numbers_accepted : List ℕ → Bool
numbers_accepted v =
    leb head_fields (length v)
    && row_good head_layout (take head_fields v)
    && all (in_range decision_column) (drop head_fields v)
    && coordinator_good (coordinator_from v)
    && all_capitals (coordinator_from v).units
