-- Condition by condition, in their order.
use Rattle.lists.specs.Basics.{eq-eqb, ne_eqb, le-leb, lt-leb}
use Rattle.model.specs.Refusals.{refusal_of}
use Rattle.model.specs.Greatest.{greatest_conditions}
use Rattle.greatest.proofs.fits.Goals as goal

pub returns-then-count-lt1 : goal.returns-then-count-lt1
unfolding greatest_conditions refusal_of
returns-then-count-lt1 c = rw (lt-leb _ _ c.if-count-lt1.true)

pub returns-then-count-gt8 : goal.returns-then-count-gt8
unfolding greatest_conditions refusal_of
returns-then-count-gt8 c = rw (le-leb _ _ c.if-count-lt1.false, lt-leb _ _ c.if-count-gt8.true)

pub returns-then-records-count : goal.returns-then-records-count
unfolding greatest_conditions refusal_of
returns-then-records-count c = rw (le-leb _ _ c.if-count-lt1.false, le-leb _ _ c.if-count-gt8.false, ne_eqb _ _ c.if-records-count.true)

pub returns-then-coordinator-ne-LEAST_COORDINATOR_BYTES : goal.returns-then-coordinator-ne-LEAST_COORDINATOR_BYTES
unfolding greatest_conditions refusal_of
returns-then-coordinator-ne-LEAST_COORDINATOR_BYTES c =
    rw (le-leb _ _ c.if-count-lt1.false, le-leb _ _ c.if-count-gt8.false, eq-eqb _ _ c.if-records-count.false, ne_eqb _ _ c.if-coordinator-ne-LEAST_COORDINATOR_BYTES.true)

pub returns : goal.returns
unfolding greatest_conditions refusal_of
returns c =
    rw (le-leb _ _ c.if-count-lt1.false, le-leb _ _ c.if-count-gt8.false, eq-eqb _ _ c.if-records-count.false, eq-eqb _ _ c.if-coordinator-ne-LEAST_COORDINATOR_BYTES.false)
