-- What a checked transaction saw: the order in which the transactions of a history count, the serial run of the committed ones in that order, and what is
-- claimed of both. Document 02, note 8.
use Rattle.std.specs.Prelude.{◌≡◌, ◌&&◌, ◌||◌, ◌∷◌}
use Rattle.lists.specs.Basics.{ℕ, eqb, leb, Bool, true, false, cond, List, [], Option, none, some, count}
use Rattle.lists.specs.Members.{Mem}
use Rattle.model.specs.Types.{Key, Record, Columns, Transaction, Reading}
use Rattle.types.specs.declared.Reading.TheVariants.{Absent, Value, Again, First}
use Rattle.model.specs.Records.{line_of}
use Rattle.model.specs.Transactions.{open_phase, prepare_phase, validate_phase, decide_phase, done_phase, is_empty, puts, was_absent, reading}
use Rattle.model.specs.Images.{is_absent}
use Rattle.model.specs.Results.{Call, begin, read, second, put, advance, abort, visit, add, remove, answered, refusal_in, returns}
use Rattle.model.specs.Conditions.{held_entry}
use Rattle.model.specs.Histories.{Event, taken, events_after}
use Rattle.model.specs.SequentialModel.{Model, overwritten, is_committed}
use Rattle.model.specs.ByteHistories.{Bytes}
use Rattle.model.specs.Turns.{Turn, expanded}
use Rattle.model.specs.TwoCalls.{TwoBytes}
use Rattle.model.specs.Kinds.{Kind, bytes_kind, two_kind}

-- the calls that the turns of a history come to, made on its sheets one after another, and their answers; the last one first
abbrev pub calls_made : {S : Type 0} → Kind S → List Turn → S → List Event
calls_made kind xs b = events_after kind.answers kind.leaves (expanded xs (kind.sheets b)) b []

abbrev pub calls_on : List Turn → Bytes → List Event
calls_on xs b = calls_made bytes_kind xs b

abbrev pub calls_two : List Turn → TwoBytes → List Event
calls_two xs b = calls_made two_kind xs b

-- "Suppose every transaction is begun as checked": begin is told so wherever it is accepted.

abbrev pub told_checked : Call → Bool
told_checked (begin serializable) = serializable
told_checked (read t k now) = true
told_checked (second t k now c) = true
told_checked (put t k c) = true
told_checked (advance t now) = true
told_checked (abort t) = true
told_checked (visit k now) = true
told_checked (add k) = true
told_checked (remove k) = true

abbrev pub begun_checked : Event → Bool
begun_checked e = leb 1 (refusal_in e.answer) || told_checked e.call

-- "all in one order by these steps": the step that takes t and returns t' gives the transaction its position.

-- "those with puts .. in the order of their last prepare": the step from prepare to check or decide
abbrev pub last_prepare : Transaction → Transaction → Bool
last_prepare t t' = eqb t.phase prepare_phase && (eqb t'.phase validate_phase || eqb t'.phase decide_phase)

-- "those without .. in the order of the advance that left open": the step from open to check or done
abbrev pub left_open : Transaction → Transaction → Bool
left_open t t' = eqb t.phase open_phase && is_empty (puts t) && (eqb t'.phase validate_phase || eqb t'.phase done_phase)

abbrev pub gets_position : Transaction → Transaction → Bool
gets_position t t' = last_prepare t t' || left_open t t'

-- the order after a call that took the first and returned the second
abbrev pub placed_by : Option Transaction → Option Transaction → List ℕ → List ℕ
placed_by (some t) (some t') ns = cond (gets_position t t') (t.number ∷ ns) ns
placed_by (some t) none ns = ns
placed_by none u ns = ns

-- the numbers by their positions after these events, the last one first, like the events. One that is not committed has its position too, and doesn't run.
unfoldable pub serial_order : List Event → List ℕ
serial_order [] = []
serial_order (e ∷ es) = placed_by (taken e) (returns e.answer) (serial_order es)

-- the numbers that have their position before n
unfoldable pub placed_before : ℕ → List ℕ → List ℕ
placed_before n [] = []
placed_before n (i ∷ ns) = cond (eqb n i) ns (placed_before n ns)

-- "run whole one after another from the first sheets": the line of a key once the committed ones of these numbers have run, each writing its whole page as the
-- sequential model does, "a key without [a line] counting" as an ABSENT line of version 0. Which ones are committed the sequential model says, and so
-- "those without [puts] once their verdict says so".
unfoldable pub serial_line : List Record → Model → List ℕ → Key → Record
serial_line rs m [] k = line_of k rs
serial_line rs m (n ∷ ns) k = cond (is_committed n m) (overwritten n (m.writes n k) (serial_line rs m ns k)) (serial_line rs m ns k)

-- A read of a key that answered v and returned t' saw this line: the answer is the entry that t' holds for the key, "as last put, else as first read", and what
-- that entry has as first read (absence, version, TxID and columns) is the line's.
pub record Saw (line : Record) (k : Key) (v : Reading) (t' : Transaction) : Type 0 where
  pub answer : v ≡ reading (held_entry k t')
  pub first_read : (held_entry k t').seen ≡ line.image
  pub absence : was_absent (held_entry k t') ≡ is_absent line

-- "Refused reads, *again* and first readings under lower-case letters don't count as reads."
abbrev pub counts_as_read : Reading → Bool
counts_as_read Absent = true
counts_as_read (Value c) = true
counts_as_read Again = false
counts_as_read (First c) = false

-- this call of a committed transaction, wherever it was made and counts as a read, saw the line that those before it leave
abbrev pub Reads : List Record → Model → List Event → Transaction → Key → Call → Type 0
Reads first m es t k call =
    (v : Reading) (t' : Transaction)
    → Mem (record { call = call; answer = answered v t' }) es
    → counts_as_read v ≡ true
    → is_committed t.number m ≡ true
    → Saw (serial_line first m (placed_before t.number (serial_order es)) k) k v t'

-- "the committed ones read and wrote what they would have", of the first record sheet, the sequential model at the end of the history and the calls made in it
pub record Serializable (first : List Record) (m : Model) (es : List Event) : Type 0 where
  -- each committed one has one position
  pub placed : (n : ℕ) → is_committed n m ≡ true → count (eqb n) (serial_order es) ≡ 1
  -- each of its reads saw the line that those before it leave, and so did each that took two calls
  pub reads : (t : Transaction) (k : Key) (now : ℕ) → Reads first m es t k (read t k now)
  pub second_reads : (t : Transaction) (k : Key) (now : ℕ) (c : Columns) → Reads first m es t k (second t k now c)
  -- and all of them together leave the lines that the commits of the history left
  pub writes : (k : Key) → serial_line first m (serial_order es) k ≡ m.line k
