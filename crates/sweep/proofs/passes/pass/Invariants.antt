-- The keys from line i on, visited from the sheets as they now are, come to what all keys come to from the first sheets.
use Rattle.std.specs.Prelude.{◌≡◌, ◌-◌}
use Rattle.lists.specs.Basics.{length}
use Rattle.sweep.specs.Passes.{both, VisitedTo}
use Rattle.sweep.proofs.passes.pass.Given as goal

abbrev pub invariant-loop-i : goal.invariant-loop-i
invariant-loop-i l = (length l.records ≡ length l.initial.records) × ((length l.coordinator ≡ length l.initial.coordinator) × VisitedTo l.clock (both l.initial.records l.initial.coordinator) (both l.records l.coordinator) l.i)

abbrev pub decreases-loop-i : goal.decreases-loop-i
decreases-loop-i l = l.n - l.i
