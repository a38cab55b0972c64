-- The figures are those of the image's last two fields.
use Rattle.std.specs.Prelude.{◌+◌}
use Rattle.lists.specs.Basics.{refl, arith}
use Rattle.model.specs.Layouts.{image_field, record_layout, offset}
use Rattle.model.specs.Records.{record_numbers, key_numbers, image_numbers}
use Rattle.sheet_laws.specs.Singles.{figure-told}
use Rattle.codec.proofs.reading.columns.Goals as goal

pub overflow_cast-result : goal.overflow_cast-result
unfolding record_layout offset
overflow_cast-result c =
    let a = c.args in
    let t = figure-told a.records.now a.i (image_field + 2) c.requires (omega arith) _ refl c.figure.ensures in omega (arith, t.fits)

pub overflow_cast-result-2 : goal.overflow_cast-result-2
unfolding record_layout offset
overflow_cast-result-2 c =
    let a = c.args in
    let t = figure-told a.records.now a.i (image_field + 3) c.requires (omega arith) _ refl c.figure-2.ensures in omega (arith, t.fits)

pub returns : goal.returns
unfolding record_layout offset record_numbers key_numbers image_numbers
returns c =
    let a = c.args in
    λ j. record { column1 = (figure-told a.records.now a.i (image_field + 2) c.requires (omega arith) _ refl c.figure.ensures).is j; column2 = (figure-told a.records.now a.i (image_field + 3) c.requires (omega arith) _ refl c.figure-2.ensures).is j }
