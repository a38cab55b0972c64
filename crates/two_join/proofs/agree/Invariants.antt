-- Whole lines, as many, or not; then line by line: the lines from i on agree as all do.
use Rattle.std.specs.Prelude.{◌-◌, ◌≤◌, ◌≡◌}
use Rattle.lists.specs.Basics.{pieces}
use Rattle.two_laws.specs.Deciding.{lines_agree}
use Rattle.two_join.specs.Agrees.{agree_from}
use Rattle.model.specs.TwoSheets.{plain_bytes, bookkeeping_bytes}
use Rattle.two_join.proofs.agree.Given as goal

abbrev pub invariant-loop-i : goal.invariant-loop-i
invariant-loop-i l = (l.i ≤ l.n) × (agree_from l.plain l.book l.n l.i ≡ lines_agree (pieces plain_bytes l.n l.plain) (pieces bookkeeping_bytes l.n l.book))

abbrev pub decreases-loop-i : goal.decreases-loop-i
decreases-loop-i l = l.n - l.i
