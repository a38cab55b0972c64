-- By whether the version is 0.
use Rattle.lists.specs.Basics.{eq-eqb, ne_eqb}
use Rattle.model.specs.Records.{absence}
use Rattle.codec.proofs.records.is_absence.Goals as goal

pub returns-then-m-eq0 : goal.returns-then-m-eq0
unfolding absence
returns-then-m-eq0 c = rw (eq-eqb _ 0 c.if-m-eq0.true)

pub returns : goal.returns
unfolding absence
returns c = rw (ne_eqb _ 0 c.if-m-eq0.false)
