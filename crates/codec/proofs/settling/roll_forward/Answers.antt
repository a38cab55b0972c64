-- Rolled forward is settled as COMMITTED with the line's own image.
use Rattle.lists.specs.Basics.{rules}
use Rattle.model.specs.Images.{rolled_forward}
use Rattle.codec.proofs.settling.roll_forward.Goals as goal

pub settle-requires : goal.settle-requires
unfolding rolled_forward
settle-requires c = search rules

pub returns : goal.returns
unfolding rolled_forward
returns c = c.settle.ensures
