-- The changes that are left make of the lines as they are what all of them make of the lines as they were.
use Rattle.std.specs.Prelude.{◌≡◌, ◌-◌}
use Rattle.lists.specs.Basics.{length}
use Rattle.model.specs.Transactions.{held}
use Rattle.group_writes.specs.Turns.{leaves, Underway}
use Rattle.group_writes.proofs.changes.change_group.Given as goal

abbrev pub invariant-loop-i : goal.invariant-loop-i
invariant-loop-i l = (length l.records ≡ length l.initial.records) × Underway l.c l.coordinator l.fn.t l.located.indices (leaves l.c l.coordinator l.fn.t l.initial.records (held l.fn.t)) l.records l.i

abbrev pub decreases-loop-i : goal.decreases-loop-i
decreases-loop-i l = l.i-end - l.i
