-- The word compared is that of a pending line.
use Rattle.std.proofs.Common.{◌∙◌}
use Rattle.model.specs.Layouts.{record_layout, offset}
use Rattle.model.specs.Records.{state_number}
use Rattle.codec.specs.Parts.{prepared-said}
use Rattle.codec.proofs.reading.is_prepared.Goals as goal

pub returns : goal.returns
unfolding record_layout offset state_number
returns c = c.has_word.ensures ∙ prepared-said c.args.records.now c.args.i
