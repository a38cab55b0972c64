-- Fields before i are in the line, and the others follow; LF ends it.
use Rattle.model.specs.Layouts.{layout}
use Rattle.codec.specs.Rows.{WrittenTo}
use Rattle.codec.proofs.lines.write_row.Given as goal

abbrev pub invariant-loop-i : goal.invariant-loop-i
invariant-loop-i l = WrittenTo (layout l.fn.l) l.row l.line l.at l.i
