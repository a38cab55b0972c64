-- The key's numbers and zeros are the numbers of the record.
use Rattle.lists.specs.Basics.{refl}
use Rattle.model.specs.Layouts.{layout, record_layout}
use Rattle.model.specs.Records.{record_text, record_numbers, key_numbers, image_numbers, state_number, before_number}
use Rattle.sheet_laws.specs.Lines.{line_bytes}
use Rattle.adding.proofs.absent_line.Goals as goal

pub write_row-requires : goal.write_row-requires
unfolding layout record_layout line_bytes
write_row-requires c =
    record { row_len = refl; line_len = refl }

pub returns : goal.returns
unfolding layout record_text record_numbers key_numbers image_numbers state_number before_number
returns c = c.write_row.ensures
