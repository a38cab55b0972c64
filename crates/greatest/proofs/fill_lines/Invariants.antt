-- One turn writes line i: those before it are in the target.
use Rattle.std.specs.Prelude.{◌-◌}
use Rattle.greatest.specs.Filling.{LaidTo}
use Rattle.greatest.proofs.fill_lines.Given as goal

abbrev pub invariant-loop-i : goal.invariant-loop-i
invariant-loop-i l = LaidTo l.count l.records l.i

abbrev pub decreases-loop-i : goal.decreases-loop-i
decreases-loop-i l = l.count - l.i
