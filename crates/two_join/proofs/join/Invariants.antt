-- The first i lines are joined; a turn joins one more.
use Rattle.std.specs.Prelude.{◌-◌, ◌*◌, ◌≤◌, ◌≡◌}
use Rattle.lists.specs.Basics.{length, take}
use Rattle.two_join.specs.Joins.{first_joined}
use Rattle.model.specs.Layouts.{record_bytes}
use Rattle.two_join.proofs.join.Given as goal

abbrev pub invariant-loop-i : goal.invariant-loop-i
invariant-loop-i l = (l.i ≤ l.n) × ((length l.target ≡ length l.initial.target) × (take (l.i * record_bytes) l.target ≡ first_joined l.plain l.book l.i))

abbrev pub decreases-loop-i : goal.decreases-loop-i
decreases-loop-i l = l.n - l.i
