-- Which refusals each call can give, in the order in which they are asked. Document 01, "Numbered refusals"; 1 and 2, of the sheets themselves,
-- come before these (ByteCalls).
use Rattle.std.specs.Prelude.{◌&&◌, ◌∷◌}
use Rattle.lists.specs.Basics.{ℕ, eqb, leb, Bool, true, false, not, List, [], length, get_or}
use Rattle.model.specs.Types.{Key, Record, Decision, Entry, Transaction}
use Rattle.model.specs.Records.{key_in_range, has_line, line_of, is_missing, by_found}
use Rattle.model.specs.Coordinator.{Letter, decision}
use Rattle.model.specs.Groups.{is_lower}
use Rattle.model.specs.Refusals.{Condition, refuse}
use Rattle.model.specs.Transactions.{by_phase, open_phase, no_entry, held_at}
use Rattle.model.specs.Images.{is_absent, by_decision}
use Rattle.model.specs.Writes.{Sheets}
use Rattle.model.specs.Visits.{meeting, is_busy}
use Rattle.model.specs.WellFormed.{columns_in_range, well_formed}
use Rattle.model.specs.Steps.{units_of}
use Rattle.model.specs.Results.{Call, begin, read, second, put, advance, abort, visit, add, remove}

-- the key is not held, so that a read visits its line
abbrev pub is_new : Key → Transaction → Bool
is_new k t = is_missing (held_at k t)

-- "There a read of a new key takes two calls."
abbrev pub takes_two : List Letter → Key → Transaction → Bool
takes_two us k t = is_new k t && is_lower us k

-- the entry that holds the key, if there is one
abbrev pub held_entry : Key → Transaction → Entry
held_entry k t = by_found (held_at k t) no_entry (λ (i : ℕ). get_or t.entries i no_entry)

-- the visit of the key would find its line undecided, and its owner not expired
abbrev pub busy : Key → ℕ → Sheets → Bool
busy k now s = is_busy (meeting now s (line_of k s.lines))

abbrev pub not_open : Transaction → Bool
not_open t = not (eqb t.phase open_phase)

-- the decision on the transaction's own coordinator line
abbrev pub own_decision : Transaction → Sheets → Decision
own_decision t s = decision t.number s.coordinator

-- "call not for this phase; also finish not COMMITTED, undo not ABORTED, decide or withdraw finding COMMITTED"
unfoldable pub cannot_advance : Transaction → Sheets → Bool
cannot_advance t s =
    by_phase t.phase false false false (by_decision (own_decision t s) false true false)
    (by_decision (own_decision t s) false true false) (by_decision (own_decision t s) true false true)
    (by_decision (own_decision t s) true true false) true true

-- "Abort turns open, prepare, check or decide into withdraw."
unfoldable pub cannot_abort : Transaction → Bool
cannot_abort t = by_phase t.phase false false false false true true true true true

-- every line of the record sheet has a record
abbrev pub no_spare : Sheets → Bool
no_spare s = leb s.size (length s.lines)

-- "an ABSENT line of version 0"
unfoldable pub is_blank : Record → Bool
is_blank r = is_absent r && eqb r.image.version 0

-- of adding, where the sheet is full or not, and of removing
abbrev pub add_conditions : Bool → Key → List Record → List Condition
add_conditions full k rs = refuse 5 (not (key_in_range k)) ∷ refuse 14 (has_line k rs) ∷ refuse 15 full ∷ []

abbrev pub remove_conditions : Key → List Record → List Condition
remove_conditions k rs = refuse 5 (not (key_in_range k)) ∷ refuse 6 (not (has_line k rs)) ∷ refuse 16 (not (is_blank (line_of k rs))) ∷ []

unfoldable pub conditions : Call → Sheets → List Condition
conditions (begin serializable) s = refuse 8 (eqb s.coordinator.issued (length s.coordinator.decisions)) ∷ []
conditions (read t k now) s =
    refuse 3 (not (well_formed s t))
    ∷ refuse 4 (not_open t)
    ∷ refuse 5 (not (key_in_range k))
    ∷ refuse 6 (not (has_line k s.lines))
    ∷ refuse 9 (is_new k t && leb 8 t.count)
    ∷ refuse 12 (is_new k t && not (is_lower (units_of s) k) && busy k now s)  -- "The first, never refused with 12"
    ∷ []
conditions (second t k now c) s =
    refuse 3 (not (well_formed s t))
    ∷ refuse 4 (not_open t)
    ∷ refuse 5 (not (key_in_range k))
    ∷ refuse 6 (not (has_line k s.lines))
    ∷ refuse 7 (takes_two (units_of s) k t && not (columns_in_range c))  -- "7 if too large"; "For any other read either call is the whole one, without 7."
    ∷ refuse 9 (is_new k t && leb 8 t.count)
    ∷ refuse 12 (is_new k t && busy k now s)
    ∷ []
conditions (put t k c) s =
    refuse 3 (not (well_formed s t))
    ∷ refuse 4 (not_open t)
    ∷ refuse 5 (not (key_in_range k))
    ∷ refuse 6 (not (has_line k s.lines))
    ∷ refuse 7 (not (columns_in_range c))
    ∷ refuse 10 (is_new k t)
    ∷ refuse 11 (leb 99999 (held_entry k t).seen.version)
    ∷ []
conditions (advance t now) s = refuse 3 (not (well_formed s t)) ∷ refuse 4 (cannot_advance t s) ∷ []
conditions (abort t) s = refuse 3 (not (well_formed s t)) ∷ refuse 4 (cannot_abort t) ∷ []
conditions (visit k now) s = refuse 5 (not (key_in_range k)) ∷ refuse 6 (not (has_line k s.lines)) ∷ refuse 12 (busy k now s) ∷ []
conditions (add k) s = add_conditions (no_spare s) k s.lines
conditions (remove k) s = remove_conditions k s.lines

-- the numbers that a call can give, and no others
unfoldable pub refusals : Call → List ℕ
refusals (begin serializable) = 1 ∷ 2 ∷ 8 ∷ []
refusals (read t k now) = 1 ∷ 2 ∷ 3 ∷ 4 ∷ 5 ∷ 6 ∷ 9 ∷ 12 ∷ []
refusals (second t k now c) = 1 ∷ 2 ∷ 3 ∷ 4 ∷ 5 ∷ 6 ∷ 7 ∷ 9 ∷ 12 ∷ []
refusals (put t k c) = 1 ∷ 2 ∷ 3 ∷ 4 ∷ 5 ∷ 6 ∷ 7 ∷ 10 ∷ 11 ∷ []
refusals (advance t now) = 1 ∷ 2 ∷ 3 ∷ 4 ∷ []
refusals (abort t) = 1 ∷ 2 ∷ 3 ∷ 4 ∷ []
refusals (visit k now) = 1 ∷ 2 ∷ 5 ∷ 6 ∷ 12 ∷ []
refusals (add k) = 1 ∷ 2 ∷ 5 ∷ 14 ∷ 15 ∷ []
refusals (remove k) = 1 ∷ 2 ∷ 5 ∷ 6 ∷ 16 ∷ []
