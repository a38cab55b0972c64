-- No line before i begins so; line i agrees from field f on. A field that differs passes the line, and five that agree are a match.
use Rattle.std.specs.Prelude.{◌≡◌, ◌-◌, ◌/◌}
use Rattle.lists.specs.Basics.{length}
use Rattle.sheets.specs.Search.{Passed, Agreed}
use Rattle.model.specs.Layouts.{record_bytes}
use Rattle.sheets.proofs.lookup.find_line.Given as goal

abbrev pub invariant-loop-f : goal.invariant-loop-f
invariant-loop-f l = (l.i ≡ l.initial.i) × Agreed l.records l.text l.initial.i l.f

abbrev pub decreases-loop-f : goal.decreases-loop-f
decreases-loop-f l = l.f

abbrev pub invariant-lines : goal.invariant-lines
invariant-lines l = (l.n ≡ length l.records / record_bytes) × Passed l.records l.text l.i

abbrev pub decreases-lines : goal.decreases-lines
decreases-lines l = l.n - l.i
