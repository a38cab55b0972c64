-- By whether an entry is to be validated.
use Rattle.std.specs.Prelude.{◌≡◌}
use Rattle.std.proofs.Common.{◌∙◌}
use Rattle.lists.specs.Basics.{sym, true, false, not-true, not-false}
use Rattle.model.specs.Transactions.{is_empty, to_validate}
use Rattle.transactions.specs.Units.{units_in}
use Rattle.transactions.proofs.stages.after_prepare.Goals as goal

pub returns-then-validates : goal.returns-then-validates
returns-then-validates c =
    let a = c.args in
    let e : is_empty (to_validate (units_in a.letters.now) a.t) ≡ false = not-true _ (sym c.validates.ensures ∙ c.if-validates.true) in rw e

pub returns : goal.returns
returns c =
    let a = c.args in
    let e : is_empty (to_validate (units_in a.letters.now) a.t) ≡ true = not-false _ (sym c.validates.ensures ∙ c.if-validates.false) in rw e
