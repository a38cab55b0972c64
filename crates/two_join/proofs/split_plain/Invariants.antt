-- The first i lines are cut; a turn cuts one more.
use Rattle.std.specs.Prelude.{◌-◌, ◌*◌, ◌≤◌, ◌≡◌}
use Rattle.lists.specs.Basics.{length, take}
use Rattle.model.specs.Layouts.{record_bytes}
use Rattle.model.specs.TwoSheets.{plain_bytes, plain_line}
use Rattle.two_join.specs.Splits.{first_cut}
use Rattle.two_join.proofs.split_plain.Given as goal

abbrev pub invariant-loop-i : goal.invariant-loop-i
invariant-loop-i l = (l.i ≤ l.n) × ((length l.plain ≡ length l.initial.plain) × (take (l.i * plain_bytes) l.plain ≡ first_cut record_bytes plain_line l.area l.i))

abbrev pub decreases-loop-i : goal.decreases-loop-i
decreases-loop-i l = l.n - l.i
