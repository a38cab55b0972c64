-- Both slices hold the input's sheets before the passes, which then leave the definition's.
use Rattle.std.proofs.Common.{◌∙◌}
use Rattle.lists.specs.Basics.{sym, ap, ap₂, subst, arith}
use Rattle.sweep.specs.declared.FirstLine.{FirstLine}
use Rattle.model.specs.Visitor.{swept}
use Rattle.model.specs.ByteHistories.{Bytes, Passing}
use Rattle.sweep.specs.FirstLine.{Small, records_from, first_small, accepted_input}
use Rattle.sweep.specs.Sizes.{parts}
use Rattle.sweep.specs.Output.{loaded}
use Rattle.sweep.proofs.visit_sheets.Goals as goal

pub numbers-first-requires : goal.numbers-first-requires
numbers-first-requires c = (accepted_input c.args.input.now c.requires.accepted).fits.long

pub records_from-from-requires : goal.records_from-from-requires
records_from-from-requires c = subst Small (sym c.numbers-first.ensures) (first_small c.args.input.now)

pub slice_bounds-put-end : goal.slice_bounds-put-end
slice_bounds-put-end c = let p = parts c.args.input.now c.records_from-from.result (c.records_from-from.ensures ∙ ap records_from c.numbers-first.ensures) c.requires.accepted in omega arith

pub slice_bounds-put-count-2 : goal.slice_bounds-put-count-2
slice_bounds-put-count-2 c = let p = parts c.args.input.now c.records_from-from.result (c.records_from-from.ensures ∙ ap records_from c.numbers-first.ensures) c.requires.accepted in omega arith

pub slice_bounds-put-start-2 : goal.slice_bounds-put-start-2
slice_bounds-put-start-2 c = let p = parts c.args.input.now c.records_from-from.result (c.records_from-from.ensures ∙ ap records_from c.numbers-first.ensures) c.requires.accepted in omega arith

pub sweep-requires : goal.sweep-requires
sweep-requires c =
    let a = c.args in
    subst Passing (sym (loaded a.input.now a.records.now a.coordinator.now _ _ c.records_from-from.result c.requires (c.records_from-from.ensures ∙ ap records_from c.numbers-first.ensures) c.put-2.ensures c.put.ensures)) (accepted_input a.input.now c.requires.accepted).passing

pub returns : goal.returns
returns c =
    let a = c.args in
    let e = loaded a.input.now a.records.now a.coordinator.now _ _ c.records_from-from.result c.requires (c.records_from-from.ensures ∙ ap records_from c.numbers-first.ensures) c.put-2.ensures c.put.ensures in
    let v = c.sweep.ensures ∙ ap₂ swept (ap (λ (f : FirstLine). f.clock) c.numbers-first.ensures) e in
    record { lines = ap (λ (b : Bytes). b.records) v; decisions = ap (λ (b : Bytes). b.coordinator) v }
