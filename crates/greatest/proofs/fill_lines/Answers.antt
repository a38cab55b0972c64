-- One turn writes line i: those before it are in the target.
use Rattle.std.specs.Prelude.{◌≡◌, ◌+◌, ◌-◌, ◌*◌}
use Rattle.std.proofs.Common.{◌∙◌}
use Rattle.lists.specs.Basics.{refl, length, length-take, length-drop, arith}
use Rattle.model.specs.Layouts.{layout, record_layout, record_bytes}
use Rattle.model.specs.Records.{state_number, before_number, key_numbers, image_numbers, record_numbers, record_text}
use Rattle.sheet_laws.specs.Lines.{line_bytes}
use Rattle.greatest.specs.Filling.{laid_first, laid_next, laid_last}
use Rattle.greatest.proofs.fill_lines.Goals as goal

pub loop-i-init : goal.loop-i-init
loop-i-init c = laid_first _ _ c.requires.records_len

pub write_row-requires : goal.write_row-requires
unfolding layout record_layout line_bytes
write_row-requires c =
    record { row_len = refl; line_len = simp (length-take, length-drop) (omega arith) }

pub loop-i-preserved : goal.loop-i-preserved
unfolding layout state_number before_number key_numbers image_numbers record_numbers record_text
loop-i-preserved c =
    let a = c.args in
    let k : length c.write_row.new.line ≡ c.loop-i.i * record_bytes + record_bytes - c.loop-i.i * record_bytes =
    c.write_row.auto.line ∙ simp (length-take, length-drop) (omega arith) in
    laid_next a.count c.loop-i.records _ c.loop-i.i c.loop-i-test.true k c.write_row.ensures c.loop-i.invariant

pub shape_of-records : goal.shape_of-records
shape_of-records c = omega arith

pub returns : goal.returns
returns c =
    let a = c.args in
    laid_last a.count c.loop-i.records c.loop-i.i c.loop-i-test.false c.loop-i.invariant
