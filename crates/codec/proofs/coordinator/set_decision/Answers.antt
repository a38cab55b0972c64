-- The part of the line comes back as the new line, and nothing else was lent.
use Rattle.std.specs.Prelude.{◌≡◌, ◌+◌, ◌-◌, ◌*◌, ◌≤◌, ◌∷◌}
use Rattle.std.proofs.Common.{◌∙◌}
use Rattle.lists.specs.Basics.{refl, sym, ap, ℕ, false, [], length, length-take, length-drop, arith}
use Rattle.model.specs.Layouts.{layout, line_layout, coordinator_bytes}
use Rattle.model.specs.Lines.{line_text}
use Rattle.sheet_laws.specs.Lines.{line_bytes}
use Rattle.sheet_laws.specs.Decisions.{number_has_line}
use Rattle.codec.specs.Casts.{decision_cast}
use Rattle.codec.specs.Parts.{line_ends, room_part}
use Rattle.codec.proofs.coordinator.set_decision.Goals as goal

pub slice_bounds-write_row-end-then-has_line : goal.slice_bounds-write_row-end-then-has_line
slice_bounds-write_row-end-then-has_line c =
    let a = c.args in
    let e : a.n * coordinator_bytes + coordinator_bytes ≤ length a.coordinator.now = line_ends a.n a.coordinator.now (sym c.has_line.ensures ∙ c.if-has_line.true) in
    omega arith

pub write_row-requires : goal.write_row-requires
unfolding layout line_layout line_bytes
write_row-requires c =
    let a = c.args in
    let e : a.n * coordinator_bytes + coordinator_bytes ≤ length a.coordinator.now = line_ends a.n a.coordinator.now (sym c.has_line.ensures ∙ c.if-has_line.true) in
    record { row_len = refl; line_len = simp (length-take, length-drop) (omega arith) }

pub returns-then-has_line : goal.returns-then-has_line
unfolding layout
returns-then-has_line c =
    let a = c.args in
    let e : a.n * coordinator_bytes + coordinator_bytes ≤ length a.coordinator.now = line_ends a.n a.coordinator.now (sym c.has_line.ensures ∙ c.if-has_line.true) in
    let k : length c.write_row.new.line ≡ a.n * coordinator_bytes + coordinator_bytes - a.n * coordinator_bytes =
    c.write_row.auto.line ∙ simp (length-take, length-drop) (omega arith) in
    room_part (number_has_line a.n a.coordinator.now) coordinator_bytes (a.n * coordinator_bytes) _ _ _ (sym c.has_line.ensures ∙ c.if-has_line.true) k
    (c.write_row.ensures ∙ ap (λ (d : ℕ). line_text line_layout (a.n ∷ d ∷ [])) (decision_cast a.d))

pub returns-else-has_line : goal.returns-else-has_line
returns-else-has_line c =
    let a = c.args in
    let h : number_has_line a.n a.coordinator.now ≡ false = sym c.has_line.ensures ∙ c.if-has_line.false in rw h
