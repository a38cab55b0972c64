-- The two tests are those of the line.
use Rattle.model.specs.Images.{same_columns}
use Rattle.held_lines.proofs.same_columns.Goals as goal

pub returns : goal.returns
unfolding same_columns
returns c = rw c.columns-columns.ensures
