-- The step table: what an advance does in each of the eight phases, whether or not it would be refused. Document 01, "Transaction".
use Rattle.std.specs.Prelude.{◌+◌, ◌&&◌, ◌||◌}
use Rattle.lists.specs.Basics.{ℕ, eqb, ltb, Bool, not, cond, List, map, length, get_or, all, any}
use Rattle.model.specs.Types.{Key, Committed, Aborted, Entry, Transaction}
use Rattle.model.specs.Records.{has_line, line_of}
use Rattle.model.specs.Coordinator.{Letter, decision}
use Rattle.model.specs.Transactions.{by_phase, prepare_phase, validate_phase, decide_phase, withdraw_phase, finish_phase, undo_phase, done_phase}
use Rattle.model.specs.Transactions.{committed_verdict, aborted_verdict, is_serializable, is_empty, held, puts, to_validate, no_entry, moved}
use Rattle.model.specs.Groups.{is_lower, group_count, group}
use Rattle.model.specs.Images.{unchanged, same_columns, by_decision}
use Rattle.model.specs.Writes.{Sheets, Write, nothing, decide, commit, prepare, forward, back}

-- the transaction that comes back, and what is written
pub record Step : Type 0 where
  pub transaction : Transaction
  pub write : Write

abbrev pub units_of : Sheets → List Letter
units_of s = s.coordinator.units

-- "The condition of an entry": total, and false where its key has no line. Where the storage can't be read consistently "its conditions there compare columns
-- besides TxID and version".
unfoldable pub holds : Sheets → Entry → Bool
holds s e =
    has_line e.key s.lines
    && unchanged e (line_of e.key s.lines)
    && (not (is_lower (units_of s) e.key) || same_columns e (line_of e.key s.lines))

abbrev pub groups_of : Transaction → Sheets → ℕ
groups_of t s = group_count (units_of s) (puts t)

-- the puts of the group at the transaction's place
abbrev pub group_at : Transaction → Sheets → List Entry
group_at t s = group (units_of s) (puts t) t.place

abbrev pub keys_of : List Entry → List Key
keys_of es = map (λ (e : Entry). e.key) es

-- to a phase without a verdict, at place 0, with nothing written
abbrev pub to : ℕ → Transaction → Step
to phase t = record { transaction = moved phase 0 t.verdict t; write = nothing }

-- nothing changes, where there is no step
abbrev pub no_step : Transaction → Step
no_step t = record { transaction = t; write = nothing }

-- to done, committed
abbrev pub commits : Transaction → Transaction
commits t = moved done_phase 0 committed_verdict t

-- the transaction holds a key, put or not, of a storage that can't be read consistently
abbrev pub holds_lower : List Letter → Transaction → Bool
holds_lower us t = any (λ (e : Entry). is_lower us e.key) (held t)

-- "one group and not checked"; "a transaction holding such a key doesn't use one-phase"
unfoldable pub one_phase_allowed : Transaction → Sheets → Bool
one_phase_allowed t s = eqb (groups_of t s) 1 && not (is_serializable t) && not (holds_lower (units_of s) t)

-- "no puts: to check if checked with entries", or with such entries if not, "else done, committed"
unfoldable pub open_without_puts : List Letter → Transaction → Step
open_without_puts us t = cond (is_empty (to_validate us t)) (record { transaction = commits t; write = nothing }) (to validate_phase t)

-- "if all conditions in the group hold, write the puts as COMMITTED under this number, version + 1, to done, committed (one-phase); if not, to withdraw"
unfoldable pub one_phase : Transaction → Sheets → Step
one_phase t s =
    cond (all (holds s) (group_at t s))
    (record { transaction = commits t; write = commit t.number (group_at t s) })
    (to withdraw_phase t)

unfoldable pub open_step : Transaction → Sheets → Step
open_step t s = cond (is_empty (puts t)) (open_without_puts (units_of s) t) (cond (one_phase_allowed t s) (one_phase t s) (to prepare_phase t))

-- "after the last check (if checked with entries not put) or decide"
abbrev pub after_prepare : List Letter → Transaction → ℕ
after_prepare us t = cond (is_empty (to_validate us t)) decide_phase validate_phase

-- the next group, or after the last another phase and its verdict
unfoldable pub next_group : ℕ → Transaction → Sheets → Transaction
next_group after t s =
    cond (ltb (t.place + 1) (groups_of t s)) (moved t.phase (t.place + 1) t.verdict t)
    (moved after 0 t.verdict t)

-- "if all conditions in the group hold, write its lines PREPARED ..; next group .. If one fails, nothing is written; to withdraw."
unfoldable pub prepare_step : Transaction → ℕ → Sheets → Step
prepare_step t now s =
    cond (all (holds s) (group_at t s))
    (record { transaction = next_group (after_prepare (units_of s) t) t s; write = prepare t.number now (group_at t s) })
    (to withdraw_phase t)

-- "next, after the last decide, or done, committed, without puts"
unfoldable pub next_entry : List Letter → Transaction → Transaction
next_entry us t =
    cond (ltb (t.place + 1) (length (to_validate us t))) (moved validate_phase (t.place + 1) t.verdict t)
    (cond (is_empty (puts t)) (commits t) (moved decide_phase 0 t.verdict t))

-- "one entry without put, in the order read; its condition holds: next .. Fails: withdraw."
unfoldable pub validate_step : Transaction → Sheets → Step
validate_step t s =
    cond (holds s (get_or (to_validate (units_of s) t) t.place no_entry))
    (record { transaction = next_entry (units_of s) t; write = nothing })
    (to withdraw_phase t)

-- "own line `-`: write COMMITTED, to finish. ABORTED: to undo, aborted."
unfoldable pub decide_step : Transaction → Sheets → Step
decide_step t s =
    by_decision (decision t.number s.coordinator)
    (record { transaction = moved finish_phase 0 committed_verdict t; write = decide t.number Committed })
    (no_step t)
    (record { transaction = moved undo_phase 0 aborted_verdict t; write = nothing })

-- "to undo, or to done if there are no puts; aborted either way"
abbrev pub withdrawn : Transaction → Transaction
withdrawn t = moved (cond (is_empty (puts t)) done_phase undo_phase) 0 aborted_verdict t

-- "write ABORTED if `-`"
unfoldable pub withdraw_step : Transaction → Sheets → Step
withdraw_step t s =
    by_decision (decision t.number s.coordinator)
    (record { transaction = withdrawn t; write = decide t.number Aborted })
    (no_step t)
    (record { transaction = withdrawn t; write = nothing })

-- "roll forward, or back, the group's lines that are PREPARED by this number, skip the rest; next group, then done"
unfoldable pub finish_step : Transaction → Sheets → Step
finish_step t s = record { transaction = next_group done_phase t s; write = forward t.number (keys_of (group_at t s)) }

unfoldable pub undo_step : Transaction → Sheets → Step
undo_step t s = record { transaction = next_group done_phase t s; write = back t.number (keys_of (group_at t s)) }

-- "Every call is a decision over eight phases."
unfoldable pub step : Transaction → ℕ → Sheets → Step
step t now s =
    by_phase t.phase (open_step t s) (prepare_step t now s) (validate_step t s) (decide_step t s) (withdraw_step t s)
    (finish_step t s) (undo_step t s) (no_step t) (no_step t)
