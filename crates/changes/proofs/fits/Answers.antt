-- Case by case in the order of the conditions.
use Rattle.lists.specs.Basics.{refl, eq-eqb, ne_eqb, le-leb, lt-leb}
use Rattle.model.specs.Refusals.{refusal_of}
use Rattle.model.specs.Changes.{length_conditions}
use Rattle.changes.proofs.fits.Goals as goal

pub returns-then-records_before-records-clause-answer : goal.returns-then-records_before-records-clause-answer
unfolding length_conditions refusal_of
returns-then-records_before-records-clause-answer c = rw (ne_eqb _ _ c.if-records_before-records.true) refl

pub returns-then-records_before-ne0-clause-answer : goal.returns-then-records_before-ne0-clause-answer
unfolding length_conditions refusal_of
returns-then-records_before-ne0-clause-answer c = rw (eq-eqb _ _ c.if-records_before-records.false, ne_eqb _ _ c.if-records_before-ne0.true) refl

pub returns-then-records_before-ge4294967296-clause-answer : goal.returns-then-records_before-ge4294967296-clause-answer
unfolding length_conditions refusal_of
returns-then-records_before-ge4294967296-clause-answer c = rw (eq-eqb _ _ c.if-records_before-records.false, eq-eqb _ _ c.if-records_before-ne0.false, le-leb _ _ c.if-records_before-ge4294967296.true) refl

pub returns-then-lines-ne2-clause-answer : goal.returns-then-lines-ne2-clause-answer
unfolding length_conditions refusal_of
returns-then-lines-ne2-clause-answer c =
    rw (eq-eqb _ _ c.if-records_before-records.false, eq-eqb _ _ c.if-records_before-ne0.false, lt-leb _ _ c.if-records_before-ge4294967296.false)
    (rw (ne_eqb _ _ c.if-lines-ne2.true) refl)

pub returns-then-coordinator_before-coordinator-clause-answer : goal.returns-then-coordinator_before-coordinator-clause-answer
unfolding length_conditions refusal_of
returns-then-coordinator_before-coordinator-clause-answer c =
    rw (eq-eqb _ _ c.if-records_before-records.false, eq-eqb _ _ c.if-records_before-ne0.false, lt-leb _ _ c.if-records_before-ge4294967296.false)
    (rw (eq-eqb _ _ c.if-lines-ne2.false, ne_eqb _ _ c.if-coordinator_before-coordinator.true) refl)

pub returns-clause-answer : goal.returns-clause-answer
unfolding length_conditions refusal_of
returns-clause-answer c =
    rw (eq-eqb _ _ c.if-records_before-records.false, eq-eqb _ _ c.if-records_before-ne0.false, lt-leb _ _ c.if-records_before-ge4294967296.false)
    (rw (eq-eqb _ _ c.if-lines-ne2.false, eq-eqb _ _ c.if-coordinator_before-coordinator.false) refl)
