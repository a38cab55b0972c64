-- Rolled back is settled with the before image and its state.
use Rattle.lists.specs.Basics.{sym}
use Rattle.model.specs.Images.{rolled_back}
use Rattle.codec.proofs.settling.roll_back.Goals as goal

pub returns : goal.returns
unfolding rolled_back
returns c = rw (sym c.before_state-state.ensures) c.settle.ensures
