-- The change of a whole group is the model's write.
use Rattle.group_writes.specs.Changes.{written}
use Rattle.group_writes.specs.Ready.{may_commit}
use Rattle.group_writes.proofs.changes.commit_group.Goals as goal

pub change_group-requires : goal.change_group-requires
unfolding written
change_group-requires c = may_commit _ _ _ _ c.requires.ready c.requires.conditions

pub returns : goal.returns
unfolding written
returns c = c.change_group.ensures
