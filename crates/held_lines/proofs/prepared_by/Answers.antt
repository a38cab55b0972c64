-- The definition's two tests, each of one field.
use Rattle.model.specs.Images.{prepared_by}
use Rattle.held_lines.proofs.prepared_by.Goals as goal

pub returns : goal.returns
unfolding prepared_by
returns c = rw (c.is_prepared.ensures, c.txid.ensures)
