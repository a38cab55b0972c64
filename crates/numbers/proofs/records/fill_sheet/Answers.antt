-- The first part of the target comes back as the lines of the records, then the rest as spares: both make the whole.
use Rattle.lists.specs.Basics.{length-take, arith}
use Rattle.numbers.specs.Spares.{write_few, write_room, write_fits, write_rest, write_whole, write_behind}
use Rattle.numbers.proofs.records.fill_sheet.Goals as goal

pub overflow_mul-end : goal.overflow_mul-end
overflow_mul-end c =
    let a = c.args in
    let l = write_few a.numbers.now a.records.now c.filled_rows-n.result c.requires.numbers_len c.requires.records_len c.filled_rows-n.ensures in
    omega arith

pub overflow_mul-filled : goal.overflow_mul-filled
overflow_mul-filled c =
    let a = c.args in
    let l = write_room a.numbers.now a.records.now c.filled_rows-n.result c.requires.numbers_len c.requires.records_len c.filled_rows-n.ensures in
    omega arith

pub slice_bounds-fill_records-end : goal.slice_bounds-fill_records-end
slice_bounds-fill_records-end c =
    let a = c.args in
    let l = write_few a.numbers.now a.records.now c.filled_rows-n.result c.requires.numbers_len c.requires.records_len c.filled_rows-n.ensures in
    simp length-take (omega arith)

pub slice_bounds-fill_records-end-2 : goal.slice_bounds-fill_records-end-2
slice_bounds-fill_records-end-2 c =
    let a = c.args in
    let l = write_room a.numbers.now a.records.now c.filled_rows-n.result c.requires.numbers_len c.requires.records_len c.filled_rows-n.ensures in
    omega arith

pub slice_bounds-fill_records-end-3 : goal.slice_bounds-fill_records-end-3
slice_bounds-fill_records-end-3 c =
    let a = c.args in
    let l = write_room a.numbers.now a.records.now c.filled_rows-n.result c.requires.numbers_len c.requires.records_len c.filled_rows-n.ensures in
    simp length-take (omega arith)

pub fill_records-requires : goal.fill_records-requires
fill_records-requires c =
    let a = c.args in
    write_fits a.numbers.now a.records.now c.filled_rows-n.result c.requires.numbers_len c.requires.records_len c.filled_rows-n.ensures

pub slice_bounds-fill_spares-count : goal.slice_bounds-fill_spares-count
slice_bounds-fill_spares-count c =
    let a = c.args in
    omega (arith, write_rest a.numbers.now a.records.now c.filled_rows-n.result c.requires.numbers_len c.requires.records_len c.filled_rows-n.ensures c.fill_records.new.records c.fill_records.auto.records)

pub slice_bounds-fill_spares-start : goal.slice_bounds-fill_spares-start
slice_bounds-fill_spares-start c =
    let a = c.args in
    omega (arith, write_rest a.numbers.now a.records.now c.filled_rows-n.result c.requires.numbers_len c.requires.records_len c.filled_rows-n.ensures c.fill_records.new.records c.fill_records.auto.records)

pub fill_spares-requires : goal.fill_spares-requires
fill_spares-requires c =
    let a = c.args in
    write_whole a.numbers.now a.records.now c.filled_rows-n.result c.requires.numbers_len c.requires.records_len c.filled_rows-n.ensures c.fill_records.new.records c.fill_records.auto.records

pub returns : goal.returns
returns c =
    let a = c.args in
    write_behind a.numbers.now a.records.now c.filled_rows-n.result c.requires.numbers_len c.requires.records_len c.filled_rows-n.ensures c.fill_records.new.records c.fill_records.auto.records c.fill_spares.new.records c.fill_records.ensures c.fill_spares.ensures
