-- The entries before i are placed.
use Rattle.std.specs.Prelude.{◌≡◌, ◌≤◌, ◌-◌}
use Rattle.lists.specs.Basics.{length, map}
use Rattle.model.specs.Transactions.{held}
use Rattle.transactions.specs.Units.{units_in}
use Rattle.put_groups.specs.GroupsIn.{filled, group_of, no_groups}
use Rattle.put_groups.proofs.groups_of.Given as goal

abbrev pub invariant-loop-i : goal.invariant-loop-i
invariant-loop-i l = (l.i ≤ length (held l.fn.t)) × (l.of ≡ filled (map (group_of (units_in l.letters) l.fn.t) (held l.fn.t)) no_groups l.i)

abbrev pub decreases-loop-i : goal.decreases-loop-i
decreases-loop-i l = l.i-end - l.i
