-- The loop's invariant: no line before i has kept the number from having expired, so that those from i on decide as all do. One that does ends it.
use Rattle.std.specs.Prelude.{◌-◌}
use Rattle.recover.specs.Clocks.{AllowedTo}
use Rattle.recover.proofs.number_expired.Given as goal

abbrev pub invariant-loop-i : goal.invariant-loop-i
invariant-loop-i l = AllowedTo l.clock l.n l.records l.i

abbrev pub decreases-loop-i : goal.decreases-loop-i
decreases-loop-i l = l.count - l.i
