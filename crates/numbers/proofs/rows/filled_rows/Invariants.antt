-- The rows from i on are spares.
use Rattle.numbers.specs.Spares.{SparesFrom}
use Rattle.numbers.proofs.rows.filled_rows.Given as goal

abbrev pub invariant-loop-i : goal.invariant-loop-i
invariant-loop-i l = SparesFrom l.numbers l.i
