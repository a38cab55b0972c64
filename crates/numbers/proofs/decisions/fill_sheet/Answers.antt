-- The head comes back as its line, then the rest of the target as the lines: both make the whole.
use Rattle.std.specs.Prelude.{◌≡◌, ◌*◌, ◌++◌}
use Rattle.std.proofs.Common.{◌∙◌}
use Rattle.lists.specs.Basics.{sym, ap, ap₂, ℕ, List, length, drop, length-take, length-drop, arith, joined}
use Rattle.model.specs.Layouts.{layout, head_layout, coordinator_bytes, head_fields}
use Rattle.sheet_laws.specs.Lines.{line_bytes}
use Rattle.numbers.specs.DecisionFills.{line_texts, sheet_for}
use Rattle.lists.specs.Fill.{rest_part, front_length, front_rest, front_back, front_same}
use Rattle.numbers.proofs.decisions.fill_sheet.Goals as goal

pub slice_bounds-write_row-end : goal.slice_bounds-write_row-end
unfolding head_layout layout line_bytes
slice_bounds-write_row-end c = simp length-take (omega arith)

pub slice_bounds-write_row-end-2 : goal.slice_bounds-write_row-end-2
unfolding head_layout layout line_bytes
slice_bounds-write_row-end-2 c = omega arith

pub slice_bounds-write_row-end-3 : goal.slice_bounds-write_row-end-3
unfolding head_layout layout line_bytes
slice_bounds-write_row-end-3 c = simp length-take (omega arith)

pub write_row-requires : goal.write_row-requires
unfolding head_layout layout line_bytes
write_row-requires c =
    record { row_len = simp length-take (omega arith); line_len = simp length-take (omega arith) }

pub slice_bounds-fill_lines-count-2 : goal.slice_bounds-fill_lines-count-2
slice_bounds-fill_lines-count-2 c = let e = front_length coordinator_bytes c.write_row.new.line c.args.coordinator.now c.write_row.auto.line (omega arith) in omega arith

pub slice_bounds-fill_lines-start-2 : goal.slice_bounds-fill_lines-start-2
slice_bounds-fill_lines-start-2 c = let e = front_length coordinator_bytes c.write_row.new.line c.args.coordinator.now c.write_row.auto.line (omega arith) in omega arith

pub fill_lines-requires : goal.fill_lines-requires
fill_lines-requires c =
    let a = c.args in
    let k : length (drop coordinator_bytes a.coordinator.now) ≡ length (drop head_fields a.numbers.now) * coordinator_bytes = rw (length-drop coordinator_bytes a.coordinator.now) (omega arith) in
    let e = ap length (rest_part head_fields a.numbers.now) in
    record { few_lines = omega arith; lines_len = ap length (front_rest coordinator_bytes c.write_row.new.line a.coordinator.now c.write_row.auto.line (omega arith)) ∙ (k ∙ ap (λ (n : ℕ). n * coordinator_bytes) (sym e)) }

pub shape_of-coordinator : goal.shape_of-coordinator
shape_of-coordinator c = front_same coordinator_bytes c.write_row.new.line c.args.coordinator.now c.write_row.auto.line (omega arith) c.fill_lines.new.lines c.fill_lines.auto.lines

pub returns : goal.returns
unfolding layout sheet_for
returns c =
    let a = c.args in
    front_back coordinator_bytes c.write_row.new.line a.coordinator.now c.write_row.auto.line (omega arith) c.fill_lines.new.lines
    ∙ ap₂ ◌++◌ c.write_row.ensures (c.fill_lines.ensures ∙ ap (λ (x : List ℕ). joined (line_texts 1 x)) (rest_part head_fields a.numbers.now))
