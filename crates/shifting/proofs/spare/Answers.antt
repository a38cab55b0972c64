-- The line of spaces.
use Rattle.lists.specs.Basics.{rules}
use Rattle.model.specs.Spares.{spare_line}
use Rattle.shifting.proofs.spare.Goals as goal

pub returns : goal.returns
unfolding spare_line
returns c = search rules
