-- The constant is the text of nothing and zeros, by computation.
use Rattle.lists.specs.Basics.{bytes}
use Rattle.decimal.specs.Field.{ahead, field_text}
use Rattle.model.specs.Layouts.{offset, record_layout, words}
use Rattle.model.specs.Lines.{field_bytes}
use Rattle.model.specs.Records.{image_numbers, before_number}
use Rattle.sheet_laws.specs.Spans.{fields_text}
use Rattle.codec.proofs.parts.put_nothing.Goals as goal

pub returns : goal.returns
unfolding ahead field_bytes field_text fields_text image_numbers before_number offset record_layout words bytes
returns c = c.put_at.ensures
