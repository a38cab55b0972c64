-- The count is that of the lines after the head.
use Rattle.lists.specs.Basics.{ap, eqb}
use Rattle.admission.proofs.all_spent.Goals as goal

pub returns : goal.returns
returns c = ap (eqb c.args.issued) c.count.ensures
