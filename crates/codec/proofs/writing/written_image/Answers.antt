-- The digits make the version, which is low enough for one more.
use Rattle.lists.specs.Basics.{refl, arith}
use Rattle.model.specs.Layouts.{image_field, record_layout, offset}
use Rattle.model.specs.Records.{record_numbers, key_numbers, image_numbers}
use Rattle.sheet_laws.specs.Singles.{line_number_lem, line-figure}
use Rattle.sheet_laws.specs.Lines.{field_at}
use Rattle.codec.proofs.writing.written_image.Goals as goal

pub overflow_cast-version : goal.overflow_cast-version
unfolding record_layout offset field_at record_numbers key_numbers image_numbers
overflow_cast-version c =
    let a = c.args in
    let m = line_number_lem a.line.now c.requires.set image_field (omega arith) in
    let e = line-figure a.line.now c.requires.set image_field (omega arith) refl in
    omega arith

pub overflow_add-result : goal.overflow_add-result
unfolding record_layout offset field_at record_numbers key_numbers image_numbers
overflow_add-result c =
    let a = c.args in
    let m = line_number_lem a.line.now c.requires.set image_field (omega arith) in
    let e = line-figure a.line.now c.requires.set image_field (omega arith) refl in
    omega arith

pub returns : goal.returns
unfolding record_layout offset field_at record_numbers key_numbers image_numbers
returns c =
    let a = c.args in
    rw (c.figure-version.ensures.value, line-figure a.line.now c.requires.set image_field (omega arith) refl)
