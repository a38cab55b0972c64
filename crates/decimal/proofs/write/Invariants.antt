-- The loop keeps that the columns set, behind the text of what is left of the figure, are the whole field's text.
use Rattle.std.specs.Prelude.{◌≡◌, ◌++◌, length, drop}
use Rattle.decimal.specs.Field.{ahead, field_text}
use Rattle.decimal.proofs.write.Given as goal

abbrev pub invariant-loop-i : goal.invariant-loop-i
invariant-loop-i l = ahead l.i l.rest ++ drop l.i l.s ≡ field_text (length l.fn.s) l.v
