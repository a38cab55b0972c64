-- The loop keeps that the bytes already compared are equal; one pair that differs tells the lists apart.
use Rattle.std.specs.Prelude.{◌≡◌, ◌≤◌}
use Rattle.lists.specs.Basics.{length, drop}
use Rattle.decimal.proofs.same.Given as goal

abbrev pub invariant-loop-i : goal.invariant-loop-i
invariant-loop-i l = (l.i ≤ length l.s) × (length l.s ≡ length l.t) × (drop l.i l.s ≡ drop l.i l.t)
