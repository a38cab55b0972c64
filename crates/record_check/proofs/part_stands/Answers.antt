-- Each table is a part of the tables lent, at its offset.
use Rattle.std.specs.Prelude.{◌≡◌, ◌+◌, ◌-◌, ◌*◌}
use Rattle.std.proofs.Common.{◌∙◌}
use Rattle.lists.specs.Basics.{ap, ℕ, length, arith}
use Rattle.record_check.specs.Tables.{row_bytes, table_bytes, tables-length, part_stands, tables_room}
use Rattle.record_check.proofs.part_stands.Goals as goal

-- the part of a row is as long as that of the line
part : (at from end : ℕ) → at + end - (at + from) ≡ end - from
part at from end = omega arith

pub slice_bounds-line_ok-end-2 : goal.slice_bounds-line_ok-end-2
slice_bounds-line_ok-end-2 c =
    let pre = c.requires in
    let l = ap length pre.lent_tables ∙ tables-length in
    omega (arith, pre.known_kind, pre.from_le_end, pre.end_le_row_bytes)

pub slice_bounds-line_ok-end-3 : goal.slice_bounds-line_ok-end-3
slice_bounds-line_ok-end-3 c =
    let pre = c.requires in
    let l = ap length pre.lent_tables ∙ tables-length in
    omega (arith, pre.known_kind, pre.from_le_end, pre.end_le_row_bytes)

pub slice_bounds-line_ok-end-4 : goal.slice_bounds-line_ok-end-4
slice_bounds-line_ok-end-4 c =
    let pre = c.requires in
    let l = ap length pre.lent_tables ∙ tables-length in
    omega (arith, pre.known_kind, pre.from_le_end, pre.end_le_row_bytes)

pub line_ok-requires : goal.line_ok-requires
line_ok-requires c =
    let a = c.args in
    rw (part (a.kind * table_bytes) a.from a.end, c.requires.lent_tables)
    (tables_room a.kind c.requires.known_kind a.from (a.end - a.from) (omega (arith, c.requires.from_le_end, c.requires.end_le_row_bytes)))

pub returns : goal.returns
unfolding part_stands
returns c =
    let a = c.args in
    let at = a.kind * table_bytes in
    rw (part at a.from a.end, part (at + row_bytes) a.from a.end, part (at + row_bytes + row_bytes) a.from a.end, c.requires.lent_tables) at c.line_ok.ensures
