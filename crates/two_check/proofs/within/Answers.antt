-- Both tests as they are said.
use Rattle.lists.specs.Basics.{refl}
use Rattle.two_check.proofs.within.Goals as goal

pub returns : goal.returns
returns c = refl
