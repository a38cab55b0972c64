-- The loop's invariant: the records before i are good, so that those from i on decide as all do. A number that is not issued ends it.
use Rattle.std.specs.Prelude.{◌-◌}
use Rattle.coordinator_check.specs.Issued.{NamedTo}
use Rattle.coordinator_check.proofs.all_issued.Given as goal

abbrev pub invariant-loop-i : goal.invariant-loop-i
invariant-loop-i l = NamedTo l.records l.coordinator l.i

abbrev pub decreases-loop-i : goal.decreases-loop-i
decreases-loop-i l = l.count - l.i
