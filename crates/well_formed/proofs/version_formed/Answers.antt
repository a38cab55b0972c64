-- By the flag.
use Rattle.lists.specs.Basics.{eq-eqb, ne_eqb}
use Rattle.well_formed.proofs.version_formed.Goals as goal

pub returns-then-e-eq1 : goal.returns-then-e-eq1
returns-then-e-eq1 c = rw (eq-eqb _ 1 c.if-e-eq1.true) c.is_absence.ensures

pub returns : goal.returns
returns c = rw (ne_eqb _ 1 c.if-e-eq1.false)
