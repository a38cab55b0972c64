-- The loop's invariant: what is left from line i on decides as the whole does. A line that is not good, or a key that does not rise, ends it.
use Rattle.std.specs.Prelude.{◌≡◌, ◌-◌, ◌*◌}
use Rattle.lists.specs.Basics.{drop}
use Rattle.record_check.specs.Sheet.{lines_pass}
use Rattle.model.specs.Layouts.{record_bytes}
use Rattle.record_check.proofs.lines_pass.Given as goal

abbrev pub invariant-loop-i : goal.invariant-loop-i
invariant-loop-i l = lines_pass (l.n - l.i) (drop (l.i * record_bytes) l.s) ≡ lines_pass l.n l.s
