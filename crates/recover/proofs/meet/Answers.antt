-- The definition's parts in turn: whether the line is prepared, its owner's decision, whether the owner has expired.
use Rattle.std.proofs.Common.{◌∙◌}
use Rattle.lists.specs.Basics.{sym}
use Rattle.model.specs.Images.{recovery}
use Rattle.model.specs.Visits.{meeting}
use Rattle.recover.proofs.meet.Goals as goal

pub returns-then-not-is_prepared : goal.returns-then-not-is_prepared
unfolding meeting recovery
returns-then-not-is_prepared c = rw (sym c.is_prepared.ensures ∙ c.if-not-is_prepared.true)

pub returns : goal.returns
unfolding meeting recovery
returns c =
    rw (sym c.is_prepared.ensures ∙ c.if-not-is_prepared.false)
    (rw (c.decision_at-owner.ensures, c.txid-n.ensures) at c.pending.ensures)
