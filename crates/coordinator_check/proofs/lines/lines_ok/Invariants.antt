-- The loop's invariant: the lines up to k, whose columns are `number`, are good, or one is not, and the others decide with them.
use Rattle.std.specs.Prelude.{◌-◌}
use Rattle.coordinator_check.specs.Passes.{JudgedTo}
use Rattle.coordinator_check.proofs.lines.lines_ok.Given as goal

abbrev pub invariant-loop-k : goal.invariant-loop-k
invariant-loop-k l = JudgedTo l.words l.sheet l.after l.to l.k l.number l.good

abbrev pub decreases-loop-k : goal.decreases-loop-k
decreases-loop-k l = l.to - l.k
