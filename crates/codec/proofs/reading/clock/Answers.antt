-- The figure is that of the clock's field.
use Rattle.lists.specs.Basics.{refl, arith}
use Rattle.model.specs.Layouts.{clock_field, record_layout, offset}
use Rattle.model.specs.Records.{record_numbers, key_numbers, image_numbers}
use Rattle.sheet_laws.specs.Singles.{figure-told}
use Rattle.codec.proofs.reading.clock.Goals as goal

pub overflow_cast-result : goal.overflow_cast-result
unfolding record_layout offset
overflow_cast-result c =
    let a = c.args in
    let t = figure-told a.records.now a.i clock_field c.requires (omega arith) _ refl c.figure.ensures in
    omega (arith, t.fits)

pub returns : goal.returns
unfolding record_layout offset record_numbers key_numbers image_numbers
returns c =
    let a = c.args in
    (figure-told a.records.now a.i clock_field c.requires (omega arith) _ refl c.figure.ensures).is
