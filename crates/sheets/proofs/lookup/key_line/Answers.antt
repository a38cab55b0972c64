-- The key's numbers are written as a row of a key line.
use Rattle.std.proofs.Common.{◌∙◌}
use Rattle.lists.specs.Basics.{ap, rules}
use Rattle.model.specs.Layouts.{layout, key_layout, record_layout}
use Rattle.model.specs.Lines.{line_text}
use Rattle.sheet_laws.specs.Lines.{line_bytes}
use Rattle.sheets.proofs.lookup.key_line.Goals as goal

pub numbers_of-row-requires : goal.numbers_of-row-requires
unfolding key_layout layout line_bytes record_layout
numbers_of-row-requires c = search rules

pub slice_bounds-write_row-end : goal.slice_bounds-write_row-end
unfolding key_layout layout line_bytes record_layout
slice_bounds-write_row-end c = search rules

pub slice_bounds-write_row-end-2 : goal.slice_bounds-write_row-end-2
unfolding key_layout layout line_bytes record_layout
slice_bounds-write_row-end-2 c = search rules

pub write_row-requires : goal.write_row-requires
unfolding key_layout layout line_bytes record_layout
write_row-requires c = search rules

pub returns : goal.returns
unfolding layout
returns c = c.write_row.ensures ∙ ap (line_text key_layout) c.numbers_of-row.ensures
