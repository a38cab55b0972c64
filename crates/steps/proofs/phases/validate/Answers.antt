-- By whether the entry's condition holds; nothing is written.
use Rattle.std.proofs.Common.{◌∙◌}
use Rattle.lists.specs.Basics.{sym, arith}
use Rattle.sheet_laws.specs.Decisions.{readable_length}
use Rattle.held_lines.specs.Located.{indexed_in}
use Rattle.steps.specs.Ready.{records_accepted_lem, coordinator_readable_lem, few, units, place_validate, validate_held}
use Rattle.steps.specs.Stepped.{wrote_nothing}
use Rattle.steps.specs.Cases.{stepped_as, validate_fails, validate_passes}
use Rattle.steps.proofs.phases.validate.Goals as goal

pub slice_bounds-letters-end : goal.slice_bounds-letters-end
slice_bounds-letters-end c = omega (arith, readable_length _ (coordinator_readable_lem _ _ _ _ c.requires.ready))

pub to_validate-e-requires : goal.to_validate-e-requires
to_validate-e-requires c = few _ _ _ _ c.requires.ready

pub index_of-index-requires : goal.index_of-index-requires
index_of-index-requires c = few _ _ _ _ c.requires.ready

pub holds-requires : goal.holds-requires
holds-requires c =
    let p = c.requires in (
      records_accepted_lem _ _ _ _ p.ready,
      c.index_of-index.ensures ∙ indexed_in _ _ _ _ p.ready.indexed
          (rw (c.to_validate-e.ensures, units _ _ _ _ p.ready) (validate_held _ _ (place_validate _ _ _ _ p.ready p.phase))),
    )

pub returns-then-not-holds : goal.returns-then-not-holds
returns-then-not-holds c =
    let a = c.args in
    let p = c.requires.ready in
    stepped_as
    (validate_fails _ _
    (rw (c.to_validate-e.ensures, units _ _ _ _ p) at
    (sym (c.holds.ensures a.coordinator.now (units _ _ _ _ p)) ∙ c.if-not-holds.true)))
    (wrote_nothing _ _ (records_accepted_lem _ _ _ _ p) (coordinator_readable_lem _ _ _ _ p) _ _ c.to_phase.ensures)

pub next_entry-requires : goal.next_entry-requires
next_entry-requires c =
    let p = c.requires in
    (few _ _ _ _ p.ready, rw (units _ _ _ _ p.ready) (place_validate _ _ _ _ p.ready p.phase))

pub returns : goal.returns
returns c =
    let a = c.args in
    let p = c.requires.ready in
    stepped_as
    (validate_passes _ _
    (rw (c.to_validate-e.ensures, units _ _ _ _ p) at
    (sym (c.holds.ensures a.coordinator.now (units _ _ _ _ p)) ∙ c.if-not-holds.false)))
    (wrote_nothing _ _ (records_accepted_lem _ _ _ _ p) (coordinator_readable_lem _ _ _ _ p) _ _ (rw (units _ _ _ _ p) at c.next_entry.ensures))
