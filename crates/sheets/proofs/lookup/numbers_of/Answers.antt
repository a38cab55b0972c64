-- Field by field.
use Rattle.lists.specs.Basics.{rules}
use Rattle.model.specs.Records.{key_numbers}
use Rattle.sheets.proofs.lookup.numbers_of.Goals as goal

pub returns : goal.returns
unfolding key_numbers
returns c = search rules
