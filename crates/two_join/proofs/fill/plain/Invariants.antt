-- The first i lines are filled; a turn fills one more.
use Rattle.std.specs.Prelude.{◌-◌, ◌*◌, ◌≤◌, ◌≡◌}
use Rattle.lists.specs.Basics.{length, take}
use Rattle.model.specs.Layouts.{record_bytes}
use Rattle.model.specs.TwoSheets.{plain_bytes}
use Rattle.two_laws.specs.Deciding.{fill_plain}
use Rattle.two_join.specs.Splits.{first_cut}
use Rattle.two_join.proofs.fill.plain.Given as goal

abbrev pub invariant-loop-i : goal.invariant-loop-i
invariant-loop-i l = (l.i ≤ l.n) × ((length l.target ≡ length l.initial.target) × (take (l.i * record_bytes) l.target ≡ first_cut plain_bytes fill_plain l.plain l.i))

abbrev pub decreases-loop-i : goal.decreases-loop-i
decreases-loop-i l = l.n - l.i
