-- The code is the definition, with the before image judged by `before_rule`.
use Rattle.model.specs.Records.{prepared_rule}
use Rattle.numbers.proofs.rules.prepared_rule.Goals as goal

pub returns : goal.returns
unfolding prepared_rule
returns c = rw c.before_rule.ensures
