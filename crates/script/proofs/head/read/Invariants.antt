-- Each figure that was read is one of four columns, and the others are still 0.
use Rattle.std.specs.Prelude.{◌≤◌, All}
use Rattle.script.proofs.head.read.Given as goal

abbrev pub invariant-loop-i : goal.invariant-loop-i
invariant-loop-i g l = All (λ n. n ≤ 9999) l.lines
