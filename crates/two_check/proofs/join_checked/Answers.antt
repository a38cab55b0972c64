-- The lines first, then the coordinator sheet beside what stands in the area.
use Rattle.std.proofs.Common.{◌∙◌}
use Rattle.lists.specs.Basics.{sym, eqb, eqb-true, eqb-false, length-take, arith}
use Rattle.two_check.specs.Areas.{few, check_bad, check_unfit, check_fit}
use Rattle.two_check.proofs.join_checked.Goals as goal

pub returns-then-is_bad-clause-answer : goal.returns-then-is_bad-clause-answer
returns-then-is_bad-clause-answer c =
    let a = c.args in
    let e = eqb-true _ 1 (sym c.is_bad.ensures ∙ c.if-is_bad.true) in
    e ∙ check_bad a.plain.now a.book.now a.coordinator.now _ _ c.join_lines-lines.ensures e

pub returns-then-is_bad-clause-joined : goal.returns-then-is_bad-clause-joined
returns-then-is_bad-clause-joined c = c.join_lines-lines.ensures.joined

pub slice_bounds-fits-end : goal.slice_bounds-fits-end
slice_bounds-fits-end c =
    let a = c.args in
    omega (arith, c.requires.1 (few a.plain.now a.book.now a.coordinator.now _ _ c.join_lines-lines.ensures (eqb-false _ 1 (sym c.is_bad.ensures ∙ c.if-is_bad.false))), c.join_lines-lines.auto.area)

pub slice_bounds-fits-end-2 : goal.slice_bounds-fits-end-2
slice_bounds-fits-end-2 c =
    let a = c.args in
    simp length-take (omega (arith, c.requires.1 (few a.plain.now a.book.now a.coordinator.now _ _ c.join_lines-lines.ensures (eqb-false _ 1 (sym c.is_bad.ensures ∙ c.if-is_bad.false))), c.join_lines-lines.auto.area))

pub fits-requires : goal.fits-requires
fits-requires c = (c.join_lines-lines.ensures.names (eqb-false _ 1 (sym c.is_bad.ensures ∙ c.if-is_bad.false))).accepted

pub returns-then-not-fits : goal.returns-then-not-fits
returns-then-not-fits c =
    let a = c.args in
    record { answer = check_unfit a.plain.now a.book.now a.coordinator.now _ _ c.join_lines-lines.ensures (eqb-false _ 1 (sym c.is_bad.ensures ∙ c.if-is_bad.false)) _ c.fits.ensures c.if-not-fits.true; joined = λ z. absurd (omega (arith, z)) }

pub returns : goal.returns
returns c =
    let a = c.args in
    record { answer = check_fit a.plain.now a.book.now a.coordinator.now _ _ c.join_lines-lines.ensures (eqb-false _ 1 (sym c.is_bad.ensures ∙ c.if-is_bad.false)) _ c.fits.ensures c.if-not-fits.false; joined = c.join_lines-lines.ensures.joined }
