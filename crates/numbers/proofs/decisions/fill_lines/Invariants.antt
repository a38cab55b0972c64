-- One turn writes line i over its part of the target: those before i are there.
use Rattle.numbers.specs.DecisionFills.{WrittenTo}
use Rattle.numbers.proofs.decisions.fill_lines.Given as goal

abbrev pub invariant-loop-i : goal.invariant-loop-i
invariant-loop-i l = WrittenTo l.decisions l.lines l.i
