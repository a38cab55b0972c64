-- Closing an order in one call, over decoded sheets: steps one after another until it is done, or until the next would write beyond a limit. Document 02,
-- note 1: "a call that advances a transaction to done, with nothing between, and reports how many atomic writes it made".
use Rattle.std.specs.Prelude.{◌+◌, ◌-◌, ◌&&◌, ◌||◌, ◌∷◌, ◌++◌}
use Rattle.lists.specs.Basics.{ℕ, zero, suc, eqb, Bool, true, false, not, cond, List, [], any}
use Rattle.model.specs.Types.{Decision, Transaction}
use Rattle.model.specs.Refusals.{Condition, refuse}
use Rattle.model.specs.Transactions.{by_phase, done_phase, is_empty}
use Rattle.model.specs.Images.{by_decision}
use Rattle.model.specs.Writes.{Sheets, Write, nothing, issue, decide, commit, prepare, forward, back, add_line, remove_line, is_of, apply}
use Rattle.model.specs.WellFormed.{well_formed}
use Rattle.model.specs.Results.{Call, advance}
use Rattle.model.specs.Conditions.{own_decision}
use Rattle.model.specs.Steps.{step}
use Rattle.model.specs.Histories.{written, after}

-- "A step that changes no line makes none": rolling is a write only where some line is rolled, putting only where there is something to put.
unfoldable pub changes : Write → Sheets → Bool
changes nothing s = false
changes issue s = true
changes (decide n d) s = true
changes (commit n es) s = not (is_empty es)
changes (prepare n now es) s = not (is_empty es)
changes (forward n ks) s = any (is_of n ks) s.lines
changes (back n ks) s = any (is_of n ks) s.lines
changes (add_line k) s = true
changes (remove_line k) s = true

-- A close under way: "the transaction as it stands", both sheets, how many more writes the limit allows, and "how many atomic writes it made".
pub record Run : Type 0 where
  pub transaction : Transaction
  pub sheets : Sheets
  pub left : ℕ
  pub writes : ℕ

-- the next step writes
abbrev pub step_writes : ℕ → Run → Bool
step_writes now x = changes (step x.transaction now x.sheets).write x.sheets

-- "before a step that would write beyond it returns the transaction as it stands", and where it is done
abbrev pub stops : ℕ → Run → Bool
stops now x = eqb x.transaction.phase done_phase || step_writes now x && eqb x.left 0

-- One more step, counted if it writes: "the report equals the writes of the step table". A step that writes nothing is made whatever the limit.
abbrev pub goes_on : ℕ → Run → Run
goes_on now x =
    record {
      transaction = (step x.transaction now x.sheets).transaction;
      sheets = apply (step x.transaction now x.sheets).write x.sheets;
      left = cond (step_writes now x) (x.left - 1) x.left;
      writes = cond (step_writes now x) (x.writes + 1) x.writes;
    }

-- one turn: a step, or nothing where it stops
unfoldable pub turn : ℕ → Run → Run
turn now x = cond (stops now x) x (goes_on now x)

-- "advances a transaction to done, with nothing between": so many turns at one clock reading
unfoldable pub closing : ℕ → ℕ → Run → Run
closing zero now x = x
closing (suc n) now x = closing n now (turn now x)

-- "the call takes a limit on its writes", and has made none
abbrev pub starting : Transaction → ℕ → Sheets → Run
starting t limit s = record { transaction = t; sheets = s; left = limit; writes = 0 }

-- "advances made one after another up to there"
unfoldable pub closing_calls : ℕ → ℕ → Run → List Call
closing_calls zero now x = []
closing_calls (suc n) now x = cond (stops now x) [] (advance x.transaction now ∷ []) ++ closing_calls n now (turn now x)

-- "The report equals the writes of the step table": how many of these calls write, made one after another
unfoldable pub writes_in : List Call → Sheets → ℕ
writes_in [] s = 0
writes_in (c ∷ cs) s = cond (changes (written c s) s) 1 0 + writes_in cs (after c s)

-- turns enough for every order: one from open, one for each group in prepare and in finish, one for each entry in check, one to decide, with eight entries
abbrev pub most_steps : ℕ
most_steps = 18

-- "refused as one advance would be, and also with 4, before any write, if the own line is COMMITTED in a phase before finish": by phase and own line
unfoldable pub close_barred : ℕ → Decision → Bool
close_barred p d =
    by_phase p (by_decision d false true false) (by_decision d false true false) (by_decision d false true false)
    (by_decision d false true false) (by_decision d false true false) (by_decision d true false true) (by_decision d true true false)
    true true

abbrev pub cannot_close : Transaction → Sheets → Bool
cannot_close t s = close_barred t.phase (own_decision t s)

-- in that order, after 1 and 2 of the sheets themselves
unfoldable pub close_conditions : Transaction → Sheets → List Condition
close_conditions t s = refuse 3 (not (well_formed s t)) ∷ refuse 4 (cannot_close t s) ∷ []
