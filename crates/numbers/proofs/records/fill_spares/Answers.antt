-- The lines before i are spares.
use Rattle.std.specs.Prelude.{◌/◌}
use Rattle.lists.specs.Basics.{length, arith}
use Rattle.model.specs.Layouts.{record_bytes}
use Rattle.numbers.specs.Spares.{spared-first, spared_room, spared_next, spared_last}
use Rattle.numbers.proofs.records.fill_spares.Goals as goal

pub loop-i-init : goal.loop-i-init
loop-i-init c =
    let a = c.args in
    spared-first a.records.now c.requires

pub slice_bounds-copy_from_slice-end : goal.slice_bounds-copy_from_slice-end
slice_bounds-copy_from_slice-end c =
    let a = c.args in
    omega (arith, spared_room (length a.records.now / record_bytes) c.loop-i.i c.loop-i.records c.loop-i.invariant)

pub loop-i-preserved : goal.loop-i-preserved
loop-i-preserved c =
    let a = c.args in
    spared_next (length a.records.now / record_bytes) c.loop-i.i c.loop-i.records _ _ c.loop-i-test.true c.spare-line.ensures c.copy_from_slice.ensures.after c.loop-i.invariant

pub shape_of-records : goal.shape_of-records
shape_of-records c =
    let a = c.args in
    omega (arith, spared_room (length a.records.now / record_bytes) c.loop-i.i c.loop-i.records c.loop-i.invariant, c.requires)

pub returns : goal.returns
returns c =
    let a = c.args in
    spared_last (length a.records.now / record_bytes) c.loop-i.i c.loop-i.records c.loop-i-test.false c.loop-i.invariant
