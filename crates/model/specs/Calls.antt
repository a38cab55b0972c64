-- The calls over decoded sheets: refused by the first condition that holds, or an answer and a write. Document 01, "Transaction".
use Rattle.std.specs.Prelude.{◌+◌, ◌&&◌}
use Rattle.lists.specs.Basics.{ℕ, Bool, not, cond, get_or, replicate}
use Rattle.model.specs.Types.{Key, Image, Record, Columns, Entry, Transaction, Recovery}
use Rattle.types.specs.declared.Reading.TheVariants.{Again, First}
use Rattle.model.specs.Records.{line_of, by_found}
use Rattle.model.specs.Groups.{is_lower}
use Rattle.model.specs.Images.{is_absent, columns_of}
use Rattle.model.specs.Transactions.{open_phase, withdraw_phase, no_verdict, no_entry, held_at, reading, entry_as, with_put, moved, with_entry}
use Rattle.model.specs.Writes.{Sheets, nothing, issue, add_line, remove_line}
use Rattle.model.specs.Visits.{meeting, is_again, recovered, recovery_write}
use Rattle.model.specs.Results.{Call, begin, read, second, put, advance, abort, visit, add, remove, Answer, returned, answered, visited, acknowledged, Result, made, unless}
use Rattle.model.specs.Conditions.{is_new, takes_two, held_entry, conditions}
use Rattle.model.specs.Steps.{units_of, step}

-- "Begin .. gives that number, checked or not as the caller says, phase open, no entries."
abbrev pub new_transaction : ℕ → Bool → Transaction
new_transaction n serializable =
    record {
      number = n;
      serializable = cond serializable 1 0;
      phase = open_phase;
      place = 0;
      verdict = no_verdict;
      count = 0;
      entries = replicate 8 no_entry;
    }

-- a held key: "as last put, else as first read"
abbrev pub read_held : Transaction → Entry → Result Answer
read_held t e = made (answered (reading e) t) nothing

-- the transaction with one more entry
abbrev pub holding : Entry → Transaction → Transaction
holding e t = with_entry (t.count + 1) t.count e t

-- "a new key is visited and then held"; "answer *again* (read too, holding no entry)"
unfoldable pub read_new : Transaction → Recovery → Record → Bool → Image → Result Answer
read_new t v r absent seen =
    cond (is_again v) (made (answered Again t) (recovery_write v r))
    (made (answered (reading (entry_as r.key absent seen)) (holding (entry_as r.key absent seen) t)) (recovery_write v r))

-- what a second call sees of a line: where the storage can't be read consistently it "answers and holds these columns; if the line is ABSENT it answers absent and
-- holds 0", which an ABSENT line has
unfoldable pub seen_second : Bool → Columns → Record → Image
seen_second lower c r =
    cond (lower && not (is_absent r))
    (record { version = r.image.version; txid = r.image.txid; column1 = c.column1; column2 = c.column2 })
    r.image

-- the whole read, by what it sees of the line after the visit
unfoldable pub whole_read : (Record → Image) → Transaction → Key → ℕ → Sheets → Result Answer
whole_read sees t k now s =
    cond (is_new k t)
    (read_new t (meeting now s (line_of k s.lines)) (line_of k s.lines) (is_absent (recovered (meeting now s (line_of k s.lines)) (line_of k s.lines)))
    (sees (recovered (meeting now s (line_of k s.lines)) (line_of k s.lines))))
    (read_held t (held_entry k t))

-- "The first .. answers the plain sheet's columns and writes nothing", whatever the state of the line
abbrev pub first_read : Transaction → Record → Result Answer
first_read t r = made (answered (First (columns_of r.image)) t) nothing

-- "Put replaces an earlier put."
unfoldable pub after_put : Transaction → Key → Columns → Transaction
after_put t k c = by_found (held_at k t) t (λ (i : ℕ). with_entry t.count i (with_put c (get_or t.entries i no_entry)) t)

-- What an accepted call comes to, whether or not it would be refused.
unfoldable pub outcome : Call → Sheets → Result Answer
-- "Begin raises the issued count by one"
outcome (begin b) s = made (returned (new_transaction (s.coordinator.issued + 1) b)) issue
outcome (read t k now) s =
    cond (takes_two (units_of s) k t) (first_read t (line_of k s.lines)) (whole_read (λ (r : Record). r.image) t k now s)
outcome (second t k now c) s =
    whole_read (seen_second (is_lower (units_of s) k) c) t k now s
outcome (put t k c) s = made (returned (after_put t k c)) nothing
outcome (advance t now) s = made (returned (step t now s).transaction) (step t now s).write
-- "Abort turns open, prepare, check or decide into withdraw."
outcome (abort t) s = made (returned (moved withdraw_phase 0 t.verdict t)) nothing
outcome (visit k now) s =
    made (visited (meeting now s (line_of k s.lines)))
    (recovery_write (meeting now s (line_of k s.lines)) (line_of k s.lines))
-- "uses up a spare", "makes a spare": the sheet has as many lines as before
outcome (add k) s = made acknowledged (add_line k)
outcome (remove k) s = made acknowledged (remove_line k)

-- Every call: refused by the first of its conditions that holds, or what an accepted one comes to.
unfoldable pub result_of : Call → Sheets → Result Answer
result_of c s = unless (conditions c s) (outcome c s)
