-- By the test for a 9 at the end of before version.
use Rattle.lists.specs.Basics.{eq-eqb, ne_eqb}
use Rattle.model.specs.Layouts.{record_layout, offset}
use Rattle.record_check.specs.Relations.{follows}
use Rattle.record_check.proofs.version_follows.Goals as goal

pub returns-then-line-eq57 : goal.returns-then-line-eq57
unfolding follows offset record_layout
returns-then-line-eq57 c = rw (eq-eqb _ 57 c.if-line-eq57.true, c.figure-then-line-eq57.ensures.value, c.figure.ensures.value)

pub returns : goal.returns
unfolding follows offset record_layout
returns c = rw (ne_eqb _ 57 c.if-line-eq57.false, c.load-2.ensures.value, c.load.ensures.value)
