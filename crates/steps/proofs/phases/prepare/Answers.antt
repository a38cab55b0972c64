-- By whether the conditions hold.
use Rattle.std.proofs.Common.{◌∙◌}
use Rattle.lists.specs.Basics.{refl, sym, ap, ℕ, arith, not-false}
use Rattle.sheet_laws.specs.Decisions.{readable_length}
use Rattle.steps.specs.Ready.{records_accepted_lem, coordinator_readable_lem, few, units, may_write, place_prepare}
use Rattle.steps.specs.Stepped.{wrote_nothing, wrote-lines}
use Rattle.model.specs.Writes.{decisions_after}
use Rattle.steps.specs.Cases.{stepped_as, prepare_fails, prepare_writes}
use Rattle.model.specs.Steps.{next_group}
use Rattle.model.specs.ByteCalls.{sheets_of}
use Rattle.steps.proofs.phases.prepare.Goals as goal

pub group_holds-requires : goal.group_holds-requires
group_holds-requires c = may_write _ _ _ _ c.requires.ready

pub returns-then-not-group_holds : goal.returns-then-not-group_holds
returns-then-not-group_holds c = stepped_as (prepare_fails _ _ _ (sym c.group_holds.ensures ∙ c.if-not-group_holds.true))
    (wrote_nothing _ _ (records_accepted_lem _ _ _ _ c.requires.ready)
    (coordinator_readable_lem _ _ _ _ c.requires.ready) _ _ c.to_phase.ensures)

pub prepare_group-requires : goal.prepare_group-requires
prepare_group-requires c =
    record {
      ready = may_write _ _ _ _ c.requires.ready;
      conditions = sym c.group_holds.ensures ∙ not-false _
          c.if-not-group_holds.false-raw;
    }

pub slice_bounds-after_prepare-end : goal.slice_bounds-after_prepare-end
slice_bounds-after_prepare-end c =
    omega (arith, readable_length _ (coordinator_readable_lem _ _ _ _ c.requires.ready))

pub after_prepare-requires : goal.after_prepare-requires
after_prepare-requires c = few _ _ _ _ c.requires.ready

pub next_group-requires : goal.next_group-requires
next_group-requires c =
    let p = c.requires in
    place_prepare _ _ _ _ p.ready p.phase

pub returns : goal.returns
unfolding decisions_after
returns c =
    let a = c.args in
    let s = sheets_of a.records.now a.coordinator.now in
    let p = c.requires.ready in
    stepped_as
    (prepare_writes _ _ _
    (sym c.group_holds.ensures ∙ not-false _
    c.if-not-group_holds.false-raw))
    (wrote-lines _ _ _ refl (coordinator_readable_lem _ _ _ _ p) _ _ _
    (c.next_group.ensures _ p.grouped.count ∙ ap (λ (q : ℕ). next_group q a.t s) (rw (units _ _ _ _ p) at c.after_prepare.ensures))
    c.prepare_group.ensures)
