-- The turns from i on, from the close as it now stands, come to what all turns come to from its start.
use Rattle.std.specs.Prelude.{◌≡◌, ◌-◌}
use Rattle.lists.specs.Basics.{length}
use Rattle.model.specs.Closing.{closing, most_steps}
use Rattle.closing.specs.Running.{running, Underway}
use Rattle.closing.proofs.run.Given as goal

abbrev pub invariant-loop-i : goal.invariant-loop-i
invariant-loop-i l = (length l.records ≡ length l.initial.records)
    × ((length l.coordinator ≡ length l.initial.coordinator) × Underway l.clock (closing most_steps l.clock (running l.initial.x l.initial.records l.initial.coordinator)) l.located l.x l.records l.coordinator l.i)

abbrev pub decreases-loop-i : goal.decreases-loop-i
decreases-loop-i l = most_steps - l.i
