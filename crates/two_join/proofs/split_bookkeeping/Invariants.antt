-- The first i lines are cut; a turn cuts one more.
use Rattle.std.specs.Prelude.{◌-◌, ◌*◌, ◌≤◌, ◌≡◌}
use Rattle.lists.specs.Basics.{length, take}
use Rattle.model.specs.Layouts.{record_bytes}
use Rattle.model.specs.TwoSheets.{bookkeeping_bytes, bookkeeping_line}
use Rattle.two_join.specs.Splits.{first_cut}
use Rattle.two_join.proofs.split_bookkeeping.Given as goal

abbrev pub invariant-loop-i : goal.invariant-loop-i
invariant-loop-i l = (l.i ≤ l.n) × ((length l.book ≡ length l.initial.book) × (take (l.i * bookkeeping_bytes) l.book ≡ first_cut record_bytes bookkeeping_line l.area l.i))

abbrev pub decreases-loop-i : goal.decreases-loop-i
decreases-loop-i l = l.n - l.i
