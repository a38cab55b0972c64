-- So many times eight bytes are written, and then the rest.
use Rattle.std.specs.Prelude.{◌≡◌, ◌-◌, ◌*◌, ◌/◌, ◌≤◌}
use Rattle.lists.specs.Basics.{length}
use Rattle.two_join.specs.Joins.{written}
use Rattle.two_join.proofs.copy_part.Given as goal

abbrev pub invariant-loop-k : goal.invariant-loop-k
invariant-loop-k l = (l.eights ≡ l.n / 8) × ((l.k ≤ l.eights) × ((length l.target ≡ length l.initial.target) × (l.target ≡ written l.initial.target l.from l.at l.start (l.k * 8))))

abbrev pub decreases-loop-k : goal.decreases-loop-k
decreases-loop-k l = l.eights - l.k
