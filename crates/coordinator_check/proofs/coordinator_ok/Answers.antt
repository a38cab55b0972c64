-- A sheet that keeps the rules has nine letters, and those that it is read to have are theirs.
use Rattle.std.proofs.Common.{◌∙◌}
use Rattle.lists.specs.Basics.{sym, ap, arith}
use Rattle.model.specs.Coordinator.{all_capitals, coordinator_accepted}
use Rattle.sheet_laws.specs.Decisions.{readable_length}
use Rattle.sheet_laws.specs.Letters.{units-said}
use Rattle.coordinator_check.proofs.coordinator_ok.Goals as goal

pub returns-then-not-coordinator_readable : goal.returns-then-not-coordinator_readable
unfolding coordinator_accepted
returns-then-not-coordinator_readable c =
    let e = sym c.if-not-coordinator_readable.ensures in
    rw e

pub slice_bounds-capitals-end : goal.slice_bounds-capitals-end
slice_bounds-capitals-end c = let l = readable_length _ (sym c.if-not-coordinator_readable.ensures) in omega arith

pub returns : goal.returns
unfolding coordinator_accepted
returns c =
    let s = c.args.coordinator.now in
    let e = (sym c.if-not-coordinator_readable.ensures) in
    rw e (c.capitals.ensures ∙ ap all_capitals (units-said s e))
