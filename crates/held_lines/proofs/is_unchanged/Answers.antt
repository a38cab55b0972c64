-- The three tests are those of the line.
use Rattle.model.specs.Images.{unchanged}
use Rattle.held_lines.proofs.is_unchanged.Goals as goal

pub returns : goal.returns
unfolding unchanged
returns c =
    rw (c.is_prepared.ensures, c.txid.ensures, c.version.ensures)
