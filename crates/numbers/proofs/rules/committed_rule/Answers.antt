-- The code is the definition, with what is before judged by `no_before`.
use Rattle.model.specs.Records.{committed_rule}
use Rattle.numbers.proofs.rules.committed_rule.Goals as goal

pub returns : goal.returns
unfolding committed_rule
returns c = rw c.no_before.ensures
