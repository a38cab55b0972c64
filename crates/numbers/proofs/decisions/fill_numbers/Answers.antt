-- The head comes back as its row, then the rest of the target as the decisions: both make the whole.
use Rattle.std.specs.Prelude.{◌≡◌, ◌/◌, ◌++◌}
use Rattle.std.proofs.Common.{◌∙◌}
use Rattle.lists.specs.Basics.{sym, ap, ap₂, ℕ, List, map, length, drop, length-take, length-drop, arith}
use Rattle.model.specs.Lines.{lines_of}
use Rattle.numbers.specs.DecisionFills.{decision_field, numbers_in}
use Rattle.lists.specs.Fill.{front_same, rest_part, front_length, front_rest, front_back}
use Rattle.model.specs.Layouts.{layout, head_layout, coordinator_bytes, head_fields}
use Rattle.sheet_laws.specs.Lines.{line_bytes}
use Rattle.numbers.proofs.decisions.fill_numbers.Goals as goal

pub slice_bounds-read_row-end : goal.slice_bounds-read_row-end
unfolding head_layout layout line_bytes
slice_bounds-read_row-end c = simp length-take (omega arith)

pub slice_bounds-read_row-end-2 : goal.slice_bounds-read_row-end-2
unfolding head_layout layout line_bytes
slice_bounds-read_row-end-2 c = omega arith

pub slice_bounds-read_row-end-3 : goal.slice_bounds-read_row-end-3
unfolding head_layout layout line_bytes
slice_bounds-read_row-end-3 c = simp length-take (omega arith)

pub read_row-requires : goal.read_row-requires
unfolding head_layout layout line_bytes
read_row-requires c =
    record { line_len = simp length-take (omega arith); row_len = simp length-take (omega arith) }

pub slice_bounds-fill_decisions-count-2 : goal.slice_bounds-fill_decisions-count-2
slice_bounds-fill_decisions-count-2 c = let e = front_length head_fields c.read_row.new.row c.args.numbers.now c.read_row.auto.row (omega arith) in omega arith

pub slice_bounds-fill_decisions-start-2 : goal.slice_bounds-fill_decisions-start-2
slice_bounds-fill_decisions-start-2 c = let e = front_length head_fields c.read_row.new.row c.args.numbers.now c.read_row.auto.row (omega arith) in omega arith

pub fill_decisions-requires : goal.fill_decisions-requires
fill_decisions-requires c =
    let a = c.args in
    let k : length (drop head_fields a.numbers.now) ≡ length (drop coordinator_bytes a.coordinator.now) / coordinator_bytes = rw length-drop (omega arith) in
    ap length (front_rest head_fields c.read_row.new.row a.numbers.now c.read_row.auto.row (omega arith))
    ∙ (k ∙ ap (λ (x : List ℕ). length x / coordinator_bytes) (sym (rest_part coordinator_bytes a.coordinator.now)))

pub shape_of-numbers : goal.shape_of-numbers
shape_of-numbers c = front_same head_fields c.read_row.new.row c.args.numbers.now c.read_row.auto.row (omega arith) c.fill_decisions.new.numbers c.fill_decisions.auto.numbers

pub returns : goal.returns
unfolding layout numbers_in
returns c =
    let a = c.args in
    front_back head_fields c.read_row.new.row a.numbers.now c.read_row.auto.row (omega arith) c.fill_decisions.new.numbers
    ∙ ap₂ ◌++◌ c.read_row.ensures (c.fill_decisions.ensures ∙ ap (λ (x : List ℕ). map decision_field (lines_of coordinator_bytes x)) (rest_part coordinator_bytes a.coordinator.now))
