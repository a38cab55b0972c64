-- The row read where line i was found is that of its record.
use Rattle.std.proofs.Common.{◌∙◌}
use Rattle.lists.specs.Basics.{sym, refl}
use Rattle.model.specs.Layouts.{layout, record_layout}
use Rattle.sheet_laws.specs.Lines.{line_bytes}
use Rattle.sheet_laws.specs.ByIndex.{record_past}
use Rattle.codec.specs.Parts.{found-length, found-record, line-past}
use Rattle.codec.proofs.records.record_at.Goals as goal

pub read_row-requires-clause-line_len : goal.read_row-requires-clause-line_len
unfolding layout record_layout line_bytes
read_row-requires-clause-line_len c = found-length c.args.records.now c.args.i _ (sym c.in-Some.is ∙ c.line_at.ensures)

pub read_row-requires-clause-row_len : goal.read_row-requires-clause-row_len
unfolding layout record_layout
read_row-requires-clause-row_len c = refl

pub returns-in-Some : goal.returns-in-Some
unfolding layout
returns-in-Some c = c.record_of.ensures ∙ found-record c.args.records.now c.args.i _ (sym c.in-Some.is ∙ c.line_at.ensures) _ c.read_row.ensures

pub returns-in-None : goal.returns-in-None
returns-in-None c = sym (record_past _ _ (line-past c.args.records.now c.args.i _ (sym c.in-None.is ∙ c.line_at.ensures)))
