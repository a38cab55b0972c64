-- In range, and the record keeps the rule of its state.
use Rattle.std.proofs.Common.{◌∙◌}
use Rattle.lists.specs.Basics.{sym, ap, rules}
use Rattle.model.specs.Layouts.{layout, record_layout}
use Rattle.model.specs.Records.{state_rule}
use Rattle.numbers.specs.RowsPass.{row_out, row_in}
use Rattle.numbers.proofs.rows.row_ok.Goals as goal

pub row_good-requires : goal.row_good-requires
unfolding layout record_layout
row_good-requires c = search rules

pub returns-then-row_good : goal.returns-then-row_good
unfolding layout
returns-then-row_good c = c.state_rule.ensures ∙ (ap state_rule c.record_of.ensures ∙ row_in c.args.row.now (sym c.row_good.ensures ∙ c.if-row_good.true))

pub returns-else-row_good : goal.returns-else-row_good
unfolding layout
returns-else-row_good c = c.if-row_good.false ∙ row_out c.args.row.now (sym c.row_good.ensures ∙ c.if-row_good.false)
