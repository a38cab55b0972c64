-- One turn writes line i over its part of the target: those before i are there.
use Rattle.std.specs.Prelude.{◌≡◌, ◌+◌, ◌-◌, ◌*◌}
use Rattle.std.proofs.Common.{◌∙◌}
use Rattle.lists.specs.Basics.{refl, length, length-take, length-drop, arith}
use Rattle.model.specs.Layouts.{layout, line_layout, coordinator_bytes}
use Rattle.sheet_laws.specs.Lines.{line_bytes}
use Rattle.numbers.specs.DecisionFills.{written-first, written_room, written_next, written_last}
use Rattle.numbers.proofs.decisions.fill_lines.Goals as goal

pub loop-i-init : goal.loop-i-init
loop-i-init c = written-first _ _ c.requires.lines_len

pub slice_bounds-write_row-end-in-loop-i : goal.slice_bounds-write_row-end-in-loop-i
slice_bounds-write_row-end-in-loop-i c = let r = written_room c.args.decisions.now c.loop-i.lines c.loop-i.i c.loop-i.invariant in omega arith

pub write_row-requires : goal.write_row-requires
unfolding layout line_layout line_bytes
write_row-requires c = let r = written_room c.args.decisions.now c.loop-i.lines c.loop-i.i c.loop-i.invariant in
    record { row_len = refl; line_len = simp (length-take, length-drop) (omega arith) }

pub loop-i-preserved : goal.loop-i-preserved
unfolding layout
loop-i-preserved c =
    let a = c.args in
    let r = written_room a.decisions.now c.loop-i.lines c.loop-i.i c.loop-i.invariant in
    let k : length c.write_row.new.line ≡ c.loop-i.i * coordinator_bytes + coordinator_bytes - c.loop-i.i * coordinator_bytes =
    c.write_row.auto.line ∙ simp (length-take, length-drop) (omega arith) in
    written_next a.decisions.now c.loop-i.lines _ c.loop-i.i c.loop-i-test.true k c.write_row.ensures c.loop-i.invariant

pub shape_of-lines : goal.shape_of-lines
shape_of-lines c = let r = written_room c.args.decisions.now c.loop-i.lines c.loop-i.i c.loop-i.invariant in omega arith

pub returns : goal.returns
returns c = written_last c.args.decisions.now c.loop-i.lines c.loop-i.i c.loop-i-test.false c.loop-i.invariant
