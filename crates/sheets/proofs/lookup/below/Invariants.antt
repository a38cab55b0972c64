-- The rank is kept between low and high: the line in the middle has a smaller key exactly if it stands below the rank.
use Rattle.std.specs.Prelude.{◌-◌}
use Rattle.sheets.specs.Search.{Between}
use Rattle.sheets.proofs.lookup.below.Given as goal

abbrev pub invariant-loop-low : goal.invariant-loop-low
invariant-loop-low l = Between l.records l.key l.low l.high

abbrev pub decreases-loop-low : goal.decreases-loop-low
decreases-loop-low l = l.high - l.low
