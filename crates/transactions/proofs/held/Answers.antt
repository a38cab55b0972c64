-- The first entries, as many as the count says, and it is at most 8.
use Rattle.lists.specs.Basics.{refl, arith, length-take}
use Rattle.model.specs.Transactions.{held}
use Rattle.transactions.proofs.held.Goals as goal

pub returns : goal.returns
unfolding held
returns c = record { entries = refl; few = omega (arith, c.requires, length-take c.args.t.now.count c.args.t.now.entries) }
