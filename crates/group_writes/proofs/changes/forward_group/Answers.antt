-- The change of a whole group is the model's write.
use Rattle.group_writes.specs.Changes.{written}
use Rattle.group_writes.specs.Ready.{may_forward}
use Rattle.group_writes.proofs.changes.forward_group.Goals as goal

pub change_group-requires : goal.change_group-requires
unfolding written
change_group-requires c = may_forward _ _ _ _ c.requires

pub returns : goal.returns
unfolding written
returns c = c.change_group.ensures
