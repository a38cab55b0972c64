-- The code is the definition, with the image judged by `is_absence` and what is before by `no_before`.
use Rattle.model.specs.Records.{absent_rule}
use Rattle.numbers.proofs.rules.absent_rule.Goals as goal

pub returns : goal.returns
unfolding absent_rule
returns c = rw (c.no_before.ensures, c.is_absence.ensures)
