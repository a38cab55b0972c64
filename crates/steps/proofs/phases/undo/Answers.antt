-- The group's lines are written, and the next group comes.
use Rattle.lists.specs.Basics.{refl}
use Rattle.steps.specs.Ready.{coordinator_readable_lem, may_write, place_undo}
use Rattle.steps.specs.Stepped.{wrote-lines}
use Rattle.model.specs.Writes.{decisions_after}
use Rattle.model.specs.Steps.{undo_step}
use Rattle.steps.proofs.phases.undo.Goals as goal

pub back_group-requires : goal.back_group-requires
back_group-requires c = may_write _ _ _ _ c.requires.ready

pub next_group-requires : goal.next_group-requires
next_group-requires c = let p = c.requires in place_undo _ _ _ _ p.ready p.phase

pub returns : goal.returns
unfolding undo_step decisions_after
returns c =
    wrote-lines _ _ _ refl (coordinator_readable_lem _ _ _ _ c.requires.ready) _ _ _
    (c.next_group.ensures _ c.requires.ready.grouped.count)
    c.back_group.ensures
