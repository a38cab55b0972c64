-- The lines before i are spares.
use Rattle.std.specs.Prelude.{◌-◌}
use Rattle.numbers.specs.Spares.{SparedTo}
use Rattle.numbers.proofs.records.fill_spares.Given as goal

abbrev pub invariant-loop-i : goal.invariant-loop-i
invariant-loop-i l = SparedTo l.i-end l.records l.i

abbrev pub decreases-loop-i : goal.decreases-loop-i
decreases-loop-i l = l.i-end - l.i
