-- One turn reads a line and stores its decision: those before it are there.
use Rattle.lists.specs.Basics.{length}
use Rattle.numbers.specs.DecisionFills.{ReadTo}
use Rattle.numbers.proofs.decisions.fill_decisions.Given as goal

abbrev pub invariant-loop-i : goal.invariant-loop-i
invariant-loop-i l = (goal.iterator-loop-i).can_next l.i-iterator × (goal.iterator-loop-i).is_finite l.i-iterator × ReadTo l.lines l.numbers (length l.yielded)
