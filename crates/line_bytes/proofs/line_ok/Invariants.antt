-- The loop's invariant: what is judged so far, and what is left from byte i on, make up the whole pass.
use Rattle.std.specs.Prelude.{◌≡◌, ◌-◌, ◌≤◌, ◌&&◌}
use Rattle.line_bytes.specs.Tables.{rest}
use Rattle.line_bytes.proofs.line_ok.Given as goal

abbrev pub invariant-loop-i : goal.invariant-loop-i
invariant-loop-i l = (1 ≤ l.i) × ((l.good && rest l.i l.low l.high l.also l.line) ≡ rest 1 l.low l.high l.also l.line)

abbrev pub decreases-loop-i : goal.decreases-loop-i
decreases-loop-i l = l.n - l.i
