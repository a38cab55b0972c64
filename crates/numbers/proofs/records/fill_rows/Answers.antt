-- The first part of the target comes back as the numbers of the record lines, then the rest as zeros: both make the whole.
use Rattle.lists.specs.Basics.{length-take, arith}
use Rattle.numbers.specs.Spares.{read_few, read_room, read_fits, read_rest, read_behind}
use Rattle.numbers.proofs.records.fill_rows.Goals as goal

pub slice_bounds-fill_numbers-end : goal.slice_bounds-fill_numbers-end
slice_bounds-fill_numbers-end c =
    let a = c.args in
    let l = read_few a.records.now a.numbers.now c.front_end-end.result c.requires.records_len c.requires.numbers_len c.front_end-end.ensures in
    simp length-take (omega arith)

pub slice_bounds-fill_numbers-end-2 : goal.slice_bounds-fill_numbers-end-2
slice_bounds-fill_numbers-end-2 c =
    let a = c.args in
    let l = read_room a.records.now a.numbers.now c.front_end-end.result c.requires.records_len c.requires.numbers_len c.front_end-end.ensures in
    omega arith

pub slice_bounds-fill_numbers-end-3 : goal.slice_bounds-fill_numbers-end-3
slice_bounds-fill_numbers-end-3 c =
    let a = c.args in
    let l = read_room a.records.now a.numbers.now c.front_end-end.result c.requires.records_len c.requires.numbers_len c.front_end-end.ensures in
    simp length-take (omega arith)

pub fill_numbers-requires : goal.fill_numbers-requires
fill_numbers-requires c =
    let a = c.args in
    read_fits a.records.now a.numbers.now c.front_end-end.result c.requires.records_len c.requires.numbers_len c.front_end-end.ensures

pub slice_bounds-fill-count : goal.slice_bounds-fill-count
slice_bounds-fill-count c =
    let a = c.args in
    omega (arith, read_rest a.records.now a.numbers.now c.front_end-end.result c.requires.records_len c.requires.numbers_len c.front_end-end.ensures c.fill_numbers.new.numbers c.fill_numbers.auto.numbers)

pub slice_bounds-fill-start : goal.slice_bounds-fill-start
slice_bounds-fill-start c =
    let a = c.args in
    omega (arith, read_rest a.records.now a.numbers.now c.front_end-end.result c.requires.records_len c.requires.numbers_len c.front_end-end.ensures c.fill_numbers.new.numbers c.fill_numbers.auto.numbers)

pub returns : goal.returns
returns c =
    let a = c.args in
    read_behind a.records.now a.numbers.now c.front_end-end.result c.requires.records_len c.requires.numbers_len c.front_end-end.ensures c.fill_numbers.new.numbers c.fill_numbers.auto.numbers c.fill.new.self c.fill_numbers.ensures (c.fill.ensures.after (λ y e. e))
