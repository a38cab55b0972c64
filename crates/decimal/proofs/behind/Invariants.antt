-- The loop keeps that the bytes to come, read behind the figure so far, end where all bytes do.
use Rattle.std.specs.Prelude.{◌≡◌, drop}
use Rattle.decimal.specs.Cut.{digits_behind}
use Rattle.decimal.proofs.behind.Given as goal

abbrev pub invariant-loop-b : goal.invariant-loop-b
invariant-loop-b l = digits_behind l.high l.v (drop l.b-index l.s) ≡ digits_behind l.high l.first l.s
