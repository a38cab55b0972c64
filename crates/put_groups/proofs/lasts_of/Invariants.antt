-- The entries before i are judged.
use Rattle.std.specs.Prelude.{◌≡◌, ◌≤◌, ◌-◌}
use Rattle.lists.specs.Basics.{length}
use Rattle.model.specs.Transactions.{held}
use Rattle.transactions.specs.Units.{units_in}
use Rattle.put_groups.specs.Scopes.{last_scopes, no_scopes}
use Rattle.put_groups.specs.GroupsIn.{filled}
use Rattle.put_groups.proofs.lasts_of.Given as goal

abbrev pub invariant-loop-i : goal.invariant-loop-i
invariant-loop-i l = (l.i ≤ length (held l.t)) × (l.lasts ≡ filled (last_scopes (units_in l.letters) (held l.t)) no_scopes l.i)

abbrev pub decreases-loop-i : goal.decreases-loop-i
decreases-loop-i l = l.i-end - l.i
