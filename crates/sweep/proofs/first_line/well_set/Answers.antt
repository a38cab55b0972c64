-- The definition's three figures and LF, read from the input itself; the first that cannot be read decides.
use Rattle.std.proofs.Common.{◌∙◌}
use Rattle.lists.specs.Basics.{sym, ap, not}
use Rattle.decimal.specs.Field.{is_number}
use Rattle.sweep.specs.FirstLine.{first_wrong, second_wrong, third_wrong, figures-set}
use Rattle.sweep.proofs.first_line.well_set.Goals as goal

pub returns-then-is_none : goal.returns-then-is_none
returns-then-is_none c = first_wrong c.args.input.now c.requires (ap is_number (sym c.read.ensures) ∙ (c.is_none.ensures ∙ ap not c.if-is_none.true))

pub returns-then-is_none-2 : goal.returns-then-is_none-2
returns-then-is_none-2 c = second_wrong c.args.input.now c.requires (ap is_number (sym c.read-2.ensures) ∙ (c.is_none-2.ensures ∙ ap not c.if-is_none-2.true))

pub returns-then-is_none-3 : goal.returns-then-is_none-3
returns-then-is_none-3 c = third_wrong c.args.input.now c.requires (ap is_number (sym c.read-3.ensures) ∙ (c.is_none-3.ensures ∙ ap not c.if-is_none-3.true))

pub returns : goal.returns
returns c = figures-set c.args.input.now c.requires (ap is_number (sym c.read.ensures) ∙ (c.is_none.ensures ∙ ap not c.if-is_none.false)) (ap is_number (sym c.read-2.ensures) ∙ (c.is_none-2.ensures ∙ ap not c.if-is_none-2.false)) (ap is_number (sym c.read-3.ensures) ∙ (c.is_none-3.ensures ∙ ap not c.if-is_none-3.false))
