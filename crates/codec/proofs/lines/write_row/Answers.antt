-- Fields before i are in the line, and the others follow; LF ends it.
use Rattle.std.specs.Prelude.{◌<◌}
use Rattle.lists.specs.Basics.{ap, List, length, get_or, arith}
use Rattle.model.specs.Layouts.{layout, no_column}
use Rattle.model.specs.Types.{Column}
use Rattle.codec.specs.Rows.{write_first, field_ends, write_next, write_last, column_wide}
use Rattle.codec.proofs.lines.write_row.Goals as goal

pub loop-i-init : goal.loop-i-init
loop-i-init c = write_first _ _ _ c.requires.line_len

pub overflow_add-end : goal.overflow_add-end
overflow_add-end c =
    let inside : c.loop-i.i < length (layout c.args.l) = rw c.columns-c-items.ensures at c.loop-i-test.true in
    let here = ap (λ (cs : List Column). get_or cs c.loop-i.i no_column) c.columns-c-items.ensures in
    let e = field_ends (layout c.args.l) c.loop-i.i c.loop-i.at (length c.loop-i.line) _ inside here c.loop-i.invariant.left in
    omega arith

pub slice_bounds-write_field-end : goal.slice_bounds-write_field-end
slice_bounds-write_field-end c =
    let inside : c.loop-i.i < length (layout c.args.l) = rw c.columns-c-items.ensures at c.loop-i-test.true in
    let here = ap (λ (cs : List Column). get_or cs c.loop-i.i no_column) c.columns-c-items.ensures in
    let e = field_ends (layout c.args.l) c.loop-i.i c.loop-i.at (length c.loop-i.line) _ inside here c.loop-i.invariant.left in
    omega arith

pub write_field-requires-clause-c_value : goal.write_field-requires-clause-c_value
write_field-requires-clause-c_value c =
    let inside : c.loop-i.i < length (layout c.args.l) = rw c.columns-c-items.ensures at c.loop-i-test.true in
    let here = ap (λ (cs : List Column). get_or cs c.loop-i.i no_column) c.columns-c-items.ensures in
    column_wide _ _ _ inside here

pub loop-i-preserved : goal.loop-i-preserved
loop-i-preserved c =
    let inside : c.loop-i.i < length (layout c.args.l) = rw c.columns-c-items.ensures at c.loop-i-test.true in
    let here = ap (λ (cs : List Column). get_or cs c.loop-i.i no_column) c.columns-c-items.ensures in
    write_next _ _ _ _ _ _ _ c.requires.row_len inside here c.write_field.ensures (column_wide _ _ _ inside here) c.loop-i.invariant

pub bounds-line-at : goal.bounds-line-at
bounds-line-at c = (write_last _ _ _ _ _ (rw c.columns-c-items.ensures at c.loop-i-test.false) c.loop-i.invariant).1

pub returns : goal.returns
returns c = (write_last _ _ _ _ _ (rw c.columns-c-items.ensures at c.loop-i-test.false) c.loop-i.invariant).0
