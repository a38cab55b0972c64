-- No line before i differs, so that the first of those from i on is the first of all.
use Rattle.std.specs.Prelude.{◌≡◌, ◌-◌, ◌≤◌}
use Rattle.model.specs.Changes.{first_of}
use Rattle.changes.proofs.first_differing.Given as goal

abbrev pub invariant-loop-i : goal.invariant-loop-i
invariant-loop-i l = (l.i ≤ l.lines) × (first_of l.before l.after l.i (l.lines - l.i) ≡ first_of l.before l.after 0 l.lines)

abbrev pub decreases-loop-i : goal.decreases-loop-i
decreases-loop-i l = l.lines - l.i
