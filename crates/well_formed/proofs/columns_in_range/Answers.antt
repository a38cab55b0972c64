-- Each column is bounded from above only.
use Rattle.well_formed.specs.Formed.{columns-ranged}
use Rattle.well_formed.proofs.columns_in_range.Goals as goal

pub returns : goal.returns
returns c = columns-ranged c.args.c
