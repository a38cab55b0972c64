-- An input that does not fit is refused by 1; one that fits is refused as its two parts are.
use Rattle.std.proofs.Common.{◌∙◌}
use Rattle.lists.specs.Basics.{sym, ap, ap₂, subst, ℕ, List, arith}
use Rattle.model.specs.Refusals.{refusal_of}
use Rattle.model.specs.SheetCalls.{check_conditions}
use Rattle.sweep.specs.FirstLine.{Small, fit, records_from, records-within, unfit_refused, fit_refused, first_small, coordinator-part, records-part}
use Rattle.sweep.proofs.first_line.check.Goals as goal

pub returns-then-not-fits : goal.returns-then-not-fits
returns-then-not-fits c = sym (unfit_refused c.args.input.now (sym c.fits.ensures ∙ c.if-not-fits.true))

pub numbers-requires : goal.numbers-requires
numbers-requires c = (fit c.args.input.now (sym c.fits.ensures ∙ c.if-not-fits.false)).long

pub records_from-from-requires : goal.records_from-from-requires
records_from-from-requires c = subst Small (sym c.numbers.ensures) (first_small c.args.input.now)

pub slice_bounds-check-count : goal.slice_bounds-check-count
slice_bounds-check-count c =
    let a = c.args in
    let w = records-within a.input.now c.records_from-from.result (c.records_from-from.ensures ∙ ap records_from c.numbers.ensures) (fit a.input.now (sym c.fits.ensures ∙ c.if-not-fits.false)) in w.1

pub slice_bounds-check-start : goal.slice_bounds-check-start
slice_bounds-check-start c =
    let a = c.args in
    let w = records-within a.input.now c.records_from-from.result (c.records_from-from.ensures ∙ ap records_from c.numbers.ensures) (fit a.input.now (sym c.fits.ensures ∙ c.if-not-fits.false)) in omega arith

pub slice_bounds-check-end-2 : goal.slice_bounds-check-end-2
slice_bounds-check-end-2 c =
    let a = c.args in
    let w = records-within a.input.now c.records_from-from.result (c.records_from-from.ensures ∙ ap records_from c.numbers.ensures) (fit a.input.now (sym c.fits.ensures ∙ c.if-not-fits.false)) in omega arith

pub returns : goal.returns
returns c =
    let a = c.args in
    let e = c.records_from-from.ensures ∙ ap records_from c.numbers.ensures in
    c.check.ensures
    ∙ (ap₂ (λ (rs cs : List ℕ). refusal_of (check_conditions rs cs)) (records-part a.input.now c.records_from-from.result e) (coordinator-part a.input.now c.records_from-from.result e)
    ∙ sym (fit_refused a.input.now (sym c.fits.ensures ∙ c.if-not-fits.false)))
