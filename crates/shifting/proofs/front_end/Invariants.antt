-- The lines behind the last one compared are spares.
use Rattle.shifting.specs.Counting.{SparesFrom}
use Rattle.shifting.proofs.front_end.Given as goal

abbrev pub invariant-loop-n : goal.invariant-loop-n
invariant-loop-n l = SparesFrom l.width l.s l.n
