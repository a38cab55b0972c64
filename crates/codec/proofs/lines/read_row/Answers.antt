-- Fields before i are in the row, and the bytes from `at` on are those of the others.
use Rattle.std.specs.Prelude.{◌<◌}
use Rattle.std.proofs.Common.{◌∙◌}
use Rattle.lists.specs.Basics.{ap, List, length, get_or, arith}
use Rattle.decimal.specs.Field.{number}
use Rattle.model.specs.Layouts.{layout, no_column}
use Rattle.model.specs.Types.{Column}
use Rattle.codec.specs.Rows.{read_first, field_ends, read_next, read_last}
use Rattle.codec.proofs.lines.read_row.Goals as goal

pub loop-i-init : goal.loop-i-init
loop-i-init c = read_first _ _ _ c.requires.line_len c.requires.row_len

pub overflow_add-end : goal.overflow_add-end
overflow_add-end c =
    let inside : c.loop-i.i < length (layout c.args.l) = rw c.columns-c-items.ensures at c.loop-i-test.true in
    let here = ap (λ (cs : List Column). get_or cs c.loop-i.i no_column) c.columns-c-items.ensures in
    let e = field_ends (layout c.args.l) c.loop-i.i c.loop-i.at (length c.args.line.now) _ inside here c.loop-i.invariant.left in
    omega arith

pub slice_bounds-read_field-end : goal.slice_bounds-read_field-end
slice_bounds-read_field-end c =
    let inside : c.loop-i.i < length (layout c.args.l) = rw c.columns-c-items.ensures at c.loop-i-test.true in
    let here = ap (λ (cs : List Column). get_or cs c.loop-i.i no_column) c.columns-c-items.ensures in
    let e = field_ends (layout c.args.l) c.loop-i.i c.loop-i.at (length c.args.line.now) _ inside here c.loop-i.invariant.left in
    omega arith

pub loop-i-preserved : goal.loop-i-preserved
loop-i-preserved c =
    let inside : c.loop-i.i < length (layout c.args.l) = rw c.columns-c-items.ensures at c.loop-i-test.true in
    let here = ap (λ (cs : List Column). get_or cs c.loop-i.i no_column) c.columns-c-items.ensures in
    read_next _ _ _ _ _ _ _ inside here (c.unwrap_or.ensures ∙ ap number c.read_field.ensures) c.loop-i.invariant

pub returns : goal.returns
returns c = read_last _ _ _ _ _ (rw c.columns-c-items.ensures at c.loop-i-test.false) c.loop-i.invariant
