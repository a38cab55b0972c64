-- By whether there is a put, and whether the record was read absent.
use Rattle.lists.specs.Basics.{eq-eqb, ne_eqb}
use Rattle.model.specs.Transactions.{reading}
use Rattle.transactions.proofs.reading.Goals as goal

pub returns-then-e-eq1 : goal.returns-then-e-eq1
unfolding reading
returns-then-e-eq1 c = rw (eq-eqb _ _ c.if-e-eq1.true)

pub returns-then-e-eq1-2 : goal.returns-then-e-eq1-2
unfolding reading
returns-then-e-eq1-2 c = rw (ne_eqb _ _ c.if-e-eq1.false, eq-eqb _ _ c.if-e-eq1-2.true)

pub returns : goal.returns
unfolding reading
returns c = rw (ne_eqb _ _ c.if-e-eq1.false, ne_eqb _ _ c.if-e-eq1-2.false)
