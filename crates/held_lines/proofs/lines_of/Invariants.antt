-- Of the entries before i each has its index.
use Rattle.std.specs.Prelude.{◌≡◌, ◌-◌, ◌≤◌}
use Rattle.lists.specs.Basics.{length}
use Rattle.model.specs.Records as sheet
use Rattle.held_lines.specs.Located.{indices_of}
use Rattle.held_lines.proofs.lines_of.Given as goal

abbrev pub invariant-loop-i : goal.invariant-loop-i
invariant-loop-i l = (l.i ≤ l.fn.t.count) × ((length l.indices ≡ 8) × (l.indices ≡ indices_of (sheet.records l.records) l.fn.t l.i))

abbrev pub decreases-loop-i : goal.decreases-loop-i
decreases-loop-i l = l.i-end - l.i
