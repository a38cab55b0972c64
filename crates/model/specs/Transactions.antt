-- A transaction as its client keeps it: names for its numbers, and the entries that it holds. Document 01, "Transaction".
use Rattle.std.specs.Prelude.{◌&&◌, ◌||◌, ◌∷◌}
use Rattle.lists.specs.Basics.{ℕ, eqb, Bool, true, false, not, cond, List, [], take, set, filter}
use Rattle.model.specs.Types.{Key, Image, Found, Columns, Entry, Transaction, Reading}
use Rattle.types.specs.declared.Reading.TheVariants.{Absent, Value}
use Rattle.model.specs.Search.{first_from}
use Rattle.model.specs.Records.{no_image, no_record, same_key}
use Rattle.model.specs.Coordinator.{Letter}
use Rattle.model.specs.Groups.{is_lower}

-- Phases by number, in the order of the step table. Validate is document 01's check.

abbrev pub open_phase : ℕ
open_phase = 0

abbrev pub prepare_phase : ℕ
prepare_phase = 1

abbrev pub validate_phase : ℕ
validate_phase = 2

abbrev pub decide_phase : ℕ
decide_phase = 3

abbrev pub withdraw_phase : ℕ
withdraw_phase = 4

abbrev pub finish_phase : ℕ
finish_phase = 5

abbrev pub undo_phase : ℕ
undo_phase = 6

abbrev pub done_phase : ℕ
done_phase = 7

-- a choice by phase, in that order; the last is for a number that is no phase
abbrev pub by_phase {ℓ} : {A : Type ℓ} → ℕ → A → A → A → A → A → A → A → A → A → A
by_phase p o r v d w f u e x =
    cond (eqb p open_phase) o
    (cond (eqb p prepare_phase) r
    (cond (eqb p validate_phase) v
    (cond (eqb p decide_phase) d
    (cond (eqb p withdraw_phase) w
    (cond (eqb p finish_phase) f (cond (eqb p undo_phase) u (cond (eqb p done_phase) e x)))))))

-- Verdicts by number.

abbrev pub no_verdict : ℕ
no_verdict = 0

abbrev pub committed_verdict : ℕ
committed_verdict = 1

abbrev pub aborted_verdict : ℕ
aborted_verdict = 2

-- document 01's "checked"
abbrev pub is_serializable : Transaction → Bool
is_serializable t = eqb t.serializable 1

-- Entries.

-- those in use, in the order read
unfoldable pub held : Transaction → List Entry
held t = take t.count t.entries

abbrev pub is_put : Entry → Bool
is_put e = eqb e.wrote 1

unfoldable pub puts : Transaction → List Entry
puts t = filter is_put (held t)

-- an entry that must be validated before the transaction may commit: one without a put, if the transaction is serializable or the storage can't be read
-- consistently ("Unchecked transactions go to check .. for such entries only")
abbrev pub must_validate : List Letter → Transaction → Entry → Bool
must_validate us t e = not (is_put e) && (is_serializable t || is_lower us e.key)

unfoldable pub to_validate : List Letter → Transaction → List Entry
to_validate us t = filter (must_validate us t) (held t)

abbrev pub no_entry : Entry
no_entry = record { key = no_record.key; seen = no_image; absent = 0; wrote = 0; put = record { column1 = 0; column2 = 0 } }

abbrev pub is_empty {ℓ} : {A : Type ℓ} → List A → Bool
is_empty [] = true
is_empty (x ∷ xs) = false

-- the index of the entry that holds the key
unfoldable pub held_at : Key → Transaction → Found
held_at k t = first_from (λ (e : Entry). same_key e.key k) 0 (held t)

-- "A transaction's entry records absence separately from version 0"
abbrev pub was_absent : Entry → Bool
was_absent e = eqb e.absent 1

-- "Read gives a held entry as last put, else as first read"; "Read answers an ABSENT line as absent."
unfoldable pub reading : Entry → Reading
reading e =
    cond (is_put e) (Value e.put)
    (cond (was_absent e) Absent
    (Value (record { column1 = e.seen.column1; column2 = e.seen.column2 })))

-- the entry of a record as read, absent or not
abbrev pub entry_as : Key → Bool → Image → Entry
entry_as k a m = record { key = k; seen = m; absent = cond a 1 0; wrote = 0; put = record { column1 = 0; column2 = 0 } }

-- the entry with a put, "in place of an earlier put"
abbrev pub with_put : Columns → Entry → Entry
with_put c e = record { key = e.key; seen = e.seen; absent = e.absent; wrote = 1; put = c }

-- A transaction with some fields replaced.

-- "A new phase starts at place 0."
abbrev pub moved : ℕ → ℕ → ℕ → Transaction → Transaction
moved phase place verdict t =
    record {
      number = t.number;
      serializable = t.serializable;
      phase = phase;
      place = place;
      verdict = verdict;
      count = t.count;
      entries = t.entries;
    }

-- the first n entries in use, and e as entry i
abbrev pub with_entry : ℕ → ℕ → Entry → Transaction → Transaction
with_entry n i e t =
    record {
      number = t.number;
      serializable = t.serializable;
      phase = t.phase;
      place = t.place;
      verdict = t.verdict;
      count = n;
      entries = set t.entries i e;
    }
