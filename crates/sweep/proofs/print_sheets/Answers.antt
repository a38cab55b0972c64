-- The sheets are visited in two beginnings, and the record sheet is then put after the coordinator sheet.
use Rattle.std.specs.Prelude.{◌-◌}
use Rattle.std.proofs.Common.{◌∙◌}
use Rattle.lists.specs.Basics.{sym, ap, subst, length, length-take, arith}
use Rattle.sweep.specs.FirstLine.{Small, records_from, first_small, accepted_input}
use Rattle.sweep.specs.Sizes.{parts}
use Rattle.sweep.specs.Output.{sheets-printed}
use Rattle.lists.specs.Fill.{front_length}
use Rattle.model.specs.Visitor.{first_bytes}
use Rattle.sweep.proofs.print_sheets.Goals as goal

pub numbers-requires : goal.numbers-requires
numbers-requires c = (accepted_input c.args.input.now c.requires.accepted).fits.long

pub records_from-from-requires : goal.records_from-from-requires
records_from-from-requires c = subst Small (sym c.numbers.ensures) (first_small c.args.input.now)

pub overflow_sub-r : goal.overflow_sub-r
overflow_sub-r c = let p = parts c.args.input.now c.records_from-from.result (c.records_from-from.ensures ∙ ap records_from c.numbers.ensures) c.requires.accepted in omega arith

pub slice_bounds-visit_sheets-end : goal.slice_bounds-visit_sheets-end
slice_bounds-visit_sheets-end c = let p = parts c.args.input.now c.records_from-from.result (c.records_from-from.ensures ∙ ap records_from c.numbers.ensures) c.requires.accepted in omega (arith, c.requires.work_room, c.requires.output_room)

pub slice_bounds-visit_sheets-end-2 : goal.slice_bounds-visit_sheets-end-2
slice_bounds-visit_sheets-end-2 c = let p = parts c.args.input.now c.records_from-from.result (c.records_from-from.ensures ∙ ap records_from c.numbers.ensures) c.requires.accepted in simp length-take (omega (arith, c.requires.work_room, c.requires.output_room))

pub slice_bounds-visit_sheets-end-3 : goal.slice_bounds-visit_sheets-end-3
slice_bounds-visit_sheets-end-3 c = let p = parts c.args.input.now c.records_from-from.result (c.records_from-from.ensures ∙ ap records_from c.numbers.ensures) c.requires.accepted in omega (arith, c.requires.work_room, c.requires.output_room)

pub slice_bounds-visit_sheets-end-4 : goal.slice_bounds-visit_sheets-end-4
slice_bounds-visit_sheets-end-4 c = let p = parts c.args.input.now c.records_from-from.result (c.records_from-from.ensures ∙ ap records_from c.numbers.ensures) c.requires.accepted in simp length-take (omega (arith, c.requires.work_room, c.requires.output_room))

pub visit_sheets-requires : goal.visit_sheets-requires
visit_sheets-requires c = let p = parts c.args.input.now c.records_from-from.result (c.records_from-from.ensures ∙ ap records_from c.numbers.ensures) c.requires.accepted in
    record {
      accepted = c.requires.accepted;
      lines = simp length-take (omega (arith, c.requires.work_room, c.requires.output_room));
      decisions = simp length-take (omega (arith, c.requires.work_room, c.requires.output_room));
    }

pub slice_bounds-put-end : goal.slice_bounds-put-end
slice_bounds-put-end c =
    let a = c.args in
    let p = parts a.input.now c.records_from-from.result (c.records_from-from.ensures ∙ ap records_from c.numbers.ensures) c.requires.accepted in let e = front_length (c.records_from-from.result - first_bytes) c.visit_sheets.new.coordinator a.output.now c.visit_sheets.auto.coordinator (omega (arith, c.requires.output_room)) in omega (arith, c.requires.output_room)

pub slice_bounds-put-end-2 : goal.slice_bounds-put-end-2
slice_bounds-put-end-2 c =
    let a = c.args in
    let p = parts a.input.now c.records_from-from.result (c.records_from-from.ensures ∙ ap records_from c.numbers.ensures) c.requires.accepted in let e = front_length (length a.input.now - c.records_from-from.result) c.visit_sheets.new.records a.work.now c.visit_sheets.auto.records (omega (arith, c.requires.work_room)) in omega (arith, c.requires.work_room)

pub slice_bounds-put-end-3 : goal.slice_bounds-put-end-3
slice_bounds-put-end-3 c =
    let a = c.args in
    let p = parts a.input.now c.records_from-from.result (c.records_from-from.ensures ∙ ap records_from c.numbers.ensures) c.requires.accepted in let e = front_length (length a.input.now - c.records_from-from.result) c.visit_sheets.new.records a.work.now c.visit_sheets.auto.records (omega (arith, c.requires.work_room)) in simp length-take (omega (arith, c.requires.work_room))

pub returns : goal.returns
returns c =
    let a = c.args in
    let p = parts a.input.now c.records_from-from.result (c.records_from-from.ensures ∙ ap records_from c.numbers.ensures) c.requires.accepted in
    let all = sheets-printed a.input.now a.work.now a.output.now c.visit_sheets.new.records c.visit_sheets.new.coordinator _ c.records_from-from.result p c.requires c.visit_sheets.auto.records c.visit_sheets.auto.coordinator c.visit_sheets.ensures.lines c.visit_sheets.ensures.decisions c.put.ensures in
    record { answer = all.0; output = all.1.0; work = all.1.1 }
