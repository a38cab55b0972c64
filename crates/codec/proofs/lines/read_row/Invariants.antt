-- Fields before i are in the row, and the bytes from `at` on are those of the others.
use Rattle.model.specs.Layouts.{layout}
use Rattle.codec.specs.Rows.{ReadTo}
use Rattle.codec.proofs.lines.read_row.Given as goal

abbrev pub invariant-loop-i : goal.invariant-loop-i
invariant-loop-i l = ReadTo (layout l.fn.l) l.line l.row l.at l.i
