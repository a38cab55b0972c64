-- The loop's invariant: the digits so far are taken in, as a number below 16 to their count, and that number with the digits that are left is the figure.
use Rattle.std.specs.Prelude.{◌≡◌, ◌^◌, ◌<◌, ◌≤◌}
use Rattle.decimal.specs.Digits.{figure_at, digits_left}
use Rattle.line_bytes.proofs.figure.Given as goal

abbrev pub invariant-loop-b : goal.invariant-loop-b
invariant-loop-b l = (l.b-index ≤ l.n) × (l.v < 16 ^ l.b-index) × (digits_left l.v l.at l.n l.b-index l.s ≡ figure_at l.at l.n l.s)
