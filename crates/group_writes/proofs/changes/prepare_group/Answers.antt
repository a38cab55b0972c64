-- The change of a whole group is the model's write.
use Rattle.lists.specs.Basics.{arith}
use Rattle.group_writes.specs.Changes.{written}
use Rattle.group_writes.specs.Ready.{may_prepare}
use Rattle.group_writes.proofs.changes.prepare_group.Goals as goal

pub change_group-requires : goal.change_group-requires
change_group-requires c =
    may_prepare _ _ _ _ c.requires.ready _ (omega (arith, c.ranges)) c.requires.conditions

pub returns : goal.returns
unfolding written
returns c = c.change_group.ensures
