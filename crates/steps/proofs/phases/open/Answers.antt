-- By the tests, in the order of the step table.
use Rattle.std.proofs.Common.{◌∙◌}
use Rattle.lists.specs.Basics.{sym, arith, not-true, not-false}
use Rattle.sheet_laws.specs.Decisions.{readable_length}
use Rattle.steps.specs.Ready.{records_accepted_lem, coordinator_readable_lem, few, units}
use Rattle.steps.specs.Stepped.{wrote_nothing}
use Rattle.steps.specs.Cases.{stepped_as, open_done, open_validates, open_prepares, open_one_phase}
use Rattle.steps.proofs.phases.open.Goals as goal

pub has_puts-requires : goal.has_puts-requires
has_puts-requires c = few _ _ _ _ c.requires

pub slice_bounds-validates-end : goal.slice_bounds-validates-end
slice_bounds-validates-end c = omega (arith, readable_length _ (coordinator_readable_lem _ _ _ _ c.requires))

pub validates-requires : goal.validates-requires
validates-requires c = few _ _ _ _ c.requires

pub returns-then-not-validates : goal.returns-then-not-validates
returns-then-not-validates c =
    stepped_as (open_done _ _ (not-false _ (sym c.has_puts.ensures ∙ c.if-not-has_puts.true)) (not-false _ (rw (units _ _ _ _ c.requires) at (sym c.validates.ensures ∙ c.if-not-validates.true)))) (wrote_nothing _ _ (records_accepted_lem _ _ _ _ c.requires) (coordinator_readable_lem _ _ _ _ c.requires) _ _ c.commits.ensures)

pub returns-then-not-has_puts : goal.returns-then-not-has_puts
returns-then-not-has_puts c =
    stepped_as (open_validates _ _ (not-false _ (sym c.has_puts.ensures ∙ c.if-not-has_puts.true)) (not-true _ (rw (units _ _ _ _ c.requires) at (sym c.validates.ensures ∙ c.if-not-validates.false)))) (wrote_nothing _ _ (records_accepted_lem _ _ _ _ c.requires) (coordinator_readable_lem _ _ _ _ c.requires) _ _ c.to_phase.ensures)

pub slice_bounds-one_phase_allowed-end : goal.slice_bounds-one_phase_allowed-end
slice_bounds-one_phase_allowed-end c = omega (arith, readable_length _ (coordinator_readable_lem _ _ _ _ c.requires))

pub one_phase_allowed-requires : goal.one_phase_allowed-requires
one_phase_allowed-requires c = few _ _ _ _ c.requires

pub returns-then-not-one_phase_allowed : goal.returns-then-not-one_phase_allowed
returns-then-not-one_phase_allowed c =
    stepped_as (open_prepares _ _ (not-true _ (sym c.has_puts.ensures ∙ c.if-not-has_puts.false)) (sym (c.one_phase_allowed.ensures _ c.requires.grouped.count (units _ _ _ _ c.requires)) ∙ c.if-not-one_phase_allowed.true)) (wrote_nothing _ _ (records_accepted_lem _ _ _ _ c.requires) (coordinator_readable_lem _ _ _ _ c.requires) _ _ c.to_phase-then-not-one_phase_allowed.ensures)

pub one_phase-requires : goal.one_phase-requires
one_phase-requires c = c.requires

pub returns : goal.returns
returns c =
    stepped_as (open_one_phase _ _ (not-true _ (sym c.has_puts.ensures ∙ c.if-not-has_puts.false)) (sym (c.one_phase_allowed.ensures _ c.requires.grouped.count (units _ _ _ _ c.requires)) ∙ c.if-not-one_phase_allowed.false)) c.one_phase.ensures
