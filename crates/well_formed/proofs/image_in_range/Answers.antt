-- Each number is bounded from above only.
use Rattle.well_formed.specs.Formed.{image-ranged}
use Rattle.well_formed.proofs.image_in_range.Goals as goal

pub returns : goal.returns
returns c = image-ranged c.args.m
