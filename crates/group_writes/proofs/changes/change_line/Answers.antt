-- By the effect; a line that the number has not prepared stays, and is its own text.
use Rattle.std.proofs.Common.{◌∙◌}
use Rattle.lists.specs.Basics.{sym}
use Rattle.group_writes.specs.Changes.{changed, line_stays}
use Rattle.group_writes.proofs.changes.change_line.Goals as goal

pub returns-in-Commit : goal.returns-in-Commit
unfolding changed
returns-in-Commit c = rw c.in-Commit.is c.commit.ensures

pub returns-in-Prepare : goal.returns-in-Prepare
unfolding changed
returns-in-Prepare c = rw c.in-Prepare.is c.prepare.ensures

pub returns-then-prepared_by : goal.returns-then-prepared_by
unfolding changed
returns-then-prepared_by c =
    rw (
      c.in-Forward.is,
      sym c.prepared_by.ensures ∙ c.if-prepared_by.true,
    )
    c.roll_forward.ensures

pub returns-else-prepared_by : goal.returns-else-prepared_by
unfolding changed
returns-else-prepared_by c =
    rw (c.in-Forward.is, sym c.prepared_by.ensures ∙ c.if-prepared_by.false)
    (line_stays _ _ c.requires)

pub returns-then-prepared_by-2 : goal.returns-then-prepared_by-2
unfolding changed
returns-then-prepared_by-2 c =
    rw (
      c.in-Back.is,
      sym c.prepared_by-in-Back.ensures ∙ c.if-prepared_by-2.true,
    )
    c.roll_back.ensures

pub returns-else-prepared_by-2 : goal.returns-else-prepared_by-2
unfolding changed
returns-else-prepared_by-2 c =
    rw (c.in-Back.is, sym c.prepared_by-in-Back.ensures ∙ c.if-prepared_by-2.false)
    (line_stays _ _ c.requires)
