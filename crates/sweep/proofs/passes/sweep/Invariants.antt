-- Each pass is over the keys of the first sheets, which every pass keeps, and two passes are a sweep.
use Rattle.std.specs.Prelude.{◌≡◌, ◌-◌}
use Rattle.lists.specs.Basics.{length}
use Rattle.sweep.specs.Passes.{both, PassedTo}
use Rattle.sweep.proofs.passes.sweep.Given as goal

abbrev pub invariant-loop-turn : goal.invariant-loop-turn
invariant-loop-turn l = (length l.records ≡ length l.initial.records) × ((length l.coordinator ≡ length l.initial.coordinator) × PassedTo l.clock (both l.initial.records l.initial.coordinator) (both l.records l.coordinator) l.turn)

abbrev pub decreases-loop-turn : goal.decreases-loop-turn
decreases-loop-turn l = 2 - l.turn
