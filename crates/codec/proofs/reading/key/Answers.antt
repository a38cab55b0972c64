-- The figures are those of the first five fields.
use Rattle.lists.specs.Basics.{refl, arith}
use Rattle.model.specs.Layouts.{record_layout, offset}
use Rattle.model.specs.Records.{record_numbers, key_numbers, image_numbers}
use Rattle.sheet_laws.specs.Singles.{figure-told}
use Rattle.codec.proofs.reading.key.Goals as goal

pub overflow_cast-result : goal.overflow_cast-result
unfolding record_layout offset
overflow_cast-result c =
    let a = c.args in
    let t = figure-told a.records.now a.i 0 c.requires (omega arith) _ refl c.figure.ensures in omega (arith, t.fits)

pub overflow_cast-result-2 : goal.overflow_cast-result-2
unfolding record_layout offset
overflow_cast-result-2 c =
    let a = c.args in
    let t = figure-told a.records.now a.i 1 c.requires (omega arith) _ refl c.figure-2.ensures in omega (arith, t.fits)

pub overflow_cast-result-3 : goal.overflow_cast-result-3
unfolding record_layout offset
overflow_cast-result-3 c =
    let a = c.args in
    let t = figure-told a.records.now a.i 2 c.requires (omega arith) _ refl c.figure-3.ensures in omega (arith, t.fits)

pub overflow_cast-result-4 : goal.overflow_cast-result-4
unfolding record_layout offset
overflow_cast-result-4 c =
    let a = c.args in
    let t = figure-told a.records.now a.i 3 c.requires (omega arith) _ refl c.figure-4.ensures in omega (arith, t.fits)

pub overflow_cast-result-5 : goal.overflow_cast-result-5
unfolding record_layout offset
overflow_cast-result-5 c =
    let a = c.args in
    let t = figure-told a.records.now a.i 4 c.requires (omega arith) _ refl c.figure-5.ensures in omega (arith, t.fits)

pub returns : goal.returns
unfolding record_layout offset record_numbers key_numbers image_numbers
returns c =
    let a = c.args in
    λ j. record {
      storage = (figure-told a.records.now a.i 0 c.requires (omega arith) _ refl c.figure.ensures).is j;
      namespace = (figure-told a.records.now a.i 1 c.requires (omega arith) _ refl c.figure-2.ensures).is j;
      table = (figure-told a.records.now a.i 2 c.requires (omega arith) _ refl c.figure-3.ensures).is j;
      partition = (figure-told a.records.now a.i 3 c.requires (omega arith) _ refl c.figure-4.ensures).is j;
      clustering = (figure-told a.records.now a.i 4 c.requires (omega arith) _ refl c.figure-5.ensures).is j;
    }
