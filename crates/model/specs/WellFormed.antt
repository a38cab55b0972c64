-- Well-formed transactions (refusal 3): a line for each clause of document 01, "Transaction". Where it leaves room, docs/DECISIONS.md says what was decided.
use Rattle.std.specs.Prelude.{◌&&◌, ◌||◌, ◌∷◌}
use Rattle.lists.specs.Basics.{ℕ, eqb, leb, ltb, Bool, true, false, not, cond, List, [], length, all, any}
use Rattle.model.specs.Types.{Image, Columns, Entry, Transaction}
use Rattle.model.specs.Layouts.{image_layout, columns_layout}
use Rattle.model.specs.Lines.{row_good}
use Rattle.model.specs.Records.{image_numbers, absence, key_in_range, same_key}
use Rattle.model.specs.Transactions.{by_phase, decide_phase, no_verdict, committed_verdict, aborted_verdict, is_put, was_absent, is_empty}
use Rattle.model.specs.Transactions.{held, puts, to_validate}
use Rattle.model.specs.Coordinator.{Letter}
use Rattle.model.specs.Groups.{group_count}
use Rattle.model.specs.Writes.{Sheets}

-- the image's numbers are in the ranges of a record's
unfoldable pub image_in_range : Image → Bool
image_in_range m = row_good image_layout (image_numbers m)

-- neither put column is too large
unfoldable pub columns_in_range : Columns → Bool
columns_in_range c = row_good columns_layout (c.column1 ∷ c.column2 ∷ [])

-- "a put entry has version at most 99998", and its put columns are in range; those of an entry without put mean nothing
unfoldable pub put_fits : Entry → Bool
put_fits e = not (is_put e) || leb e.seen.version 99998 && columns_in_range e.put

-- An entry by itself.
unfoldable pub entry_formed : ℕ → Entry → Bool
entry_formed issued e =
    leb e.absent 1
    && leb e.wrote 1
    && image_in_range e.seen  -- "values are in range"
    && leb e.seen.txid issued  -- "TxIDs read are at most the issued count"
    && cond (was_absent e) (absence e.seen) (leb 1 e.seen.version)  -- document 02, note 7: "an absent one follows the ABSENT line's rule, any other has version at least 1"
    && put_fits e
    && key_in_range e.key  -- document 02, note 6: "a held key without a line is now well formed"

-- "entries with distinct keys"
unfoldable pub distinct_keys : List Entry → Bool
distinct_keys [] = true
distinct_keys (e ∷ es) = not (any (λ (f : Entry). same_key f.key e.key) es) && distinct_keys es

-- "place is below the number of groups (prepare, finish, undo) or of entries without put (check), else 0"; a number that is no phase has no place. Entries
-- without put are those to validate, so that "only a checked one is in check", or one that holds such entries: another has no place there.
unfoldable pub place_formed : List Letter → Transaction → Bool
place_formed us t =
    by_phase t.phase (eqb t.place 0) (ltb t.place (group_count us (puts t))) (ltb t.place (length (to_validate us t)))
    (eqb t.place 0) (eqb t.place 0) (ltb t.place (group_count us (puts t))) (ltb t.place (group_count us (puts t)))
    (eqb t.place 0) false

-- "Verdict is committed in finish, aborted in undo, either in done, none elsewhere."
unfoldable pub verdict_formed : Transaction → Bool
verdict_formed t =
    by_phase t.phase (eqb t.verdict no_verdict) (eqb t.verdict no_verdict) (eqb t.verdict no_verdict)
    (eqb t.verdict no_verdict) (eqb t.verdict no_verdict) (eqb t.verdict committed_verdict)
    (eqb t.verdict aborted_verdict) (eqb t.verdict committed_verdict || eqb t.verdict aborted_verdict) false

-- What can be told from the units and the issued count.
unfoldable pub formed : List Letter → ℕ → Transaction → Bool
formed us issued t =
    leb 1 t.number
    && leb t.number issued  -- "its number is 1 to the issued count"
    && leb t.serializable 1
    && leb t.count 8  -- "up to 8 entries"
    && all (entry_formed issued) (held t)
    && distinct_keys (held t)
    && (not (eqb t.phase decide_phase) || not (is_empty (puts t)))  -- "decide has a put"
    && place_formed us t
    && verdict_formed t

unfoldable pub well_formed : Sheets → Transaction → Bool
well_formed s t = formed s.coordinator.units s.coordinator.issued t
