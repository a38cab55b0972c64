-- By whether the conditions hold.
use Rattle.std.proofs.Common.{◌∙◌}
use Rattle.lists.specs.Basics.{refl, sym}
use Rattle.steps.specs.Ready.{records_accepted_lem, coordinator_readable_lem, may_write}
use Rattle.steps.specs.Stepped.{wrote_nothing, wrote-lines}
use Rattle.model.specs.Writes.{decisions_after}
use Rattle.steps.specs.Cases.{stepped_as, one_phase_fails, one_phase-commits}
use Rattle.steps.proofs.phases.one_phase.Goals as goal

pub group_holds-requires : goal.group_holds-requires
group_holds-requires c = may_write _ _ _ _ c.requires

pub commit_group-requires : goal.commit_group-requires
commit_group-requires c =
    record { ready = may_write _ _ _ _ c.requires; conditions = sym c.group_holds.ensures ∙ c.if-group_holds.true }

pub returns-then-group_holds : goal.returns-then-group_holds
unfolding decisions_after
returns-then-group_holds c =
    stepped_as
    (one_phase-commits _ _
    (sym c.group_holds.ensures ∙ c.if-group_holds.true))
    (wrote-lines _ _ _ refl (coordinator_readable_lem _ _ _ _ c.requires) _ _ _
    c.commits.ensures c.commit_group.ensures)

pub returns : goal.returns
returns c = stepped_as (one_phase_fails _ _ (sym c.group_holds.ensures ∙ c.if-group_holds.false))
    (wrote_nothing _ _ (records_accepted_lem _ _ _ _ c.requires)
    (coordinator_readable_lem _ _ _ _ c.requires) _ _ c.to_phase.ensures)
