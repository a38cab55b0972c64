-- Refused by what is asked of the sheets, or what is told of both joined.
use Rattle.std.proofs.Common.{◌∙◌}
use Rattle.lists.specs.Basics.{sym, ap, true, false, length-take, arith}
use Rattle.model.specs.Refusals.{refused_with}
use Rattle.model.specs.Told.{ranked_by, numbered, passed_up}
use Rattle.two_adding.specs.Placing.{place_refused, joined_good, place_told}
use Rattle.two_adding.proofs.place_in.Goals as goal

pub returns-in_err-join_checked : goal.returns-in_err-join_checked
returns-in_err-join_checked c =
    let a = c.args in
    ap ranked_by (passed_up c.from_residual.ensures.1) ∙ place_refused a.add a.full a.key a.plain.now a.book.now a.coordinator.now _ (ap refused_with (sym c.in_err-join_checked.was) ∙ c.join_checked.ensures.answer) (numbered _)

pub overflow_mul-n : goal.overflow_mul-n
overflow_mul-n c =
    omega (arith, (c.join_checked.ensures.joined (ap refused_with c.in_ok-join_checked.was)).fits, c.join_checked.auto.area)

pub slice_bounds-to_add-end : goal.slice_bounds-to_add-end
slice_bounds-to_add-end c =
    omega (arith, (c.join_checked.ensures.joined (ap refused_with c.in_ok-join_checked.was)).fits, c.join_checked.auto.area)

pub slice_bounds-to_add-end-then-add : goal.slice_bounds-to_add-end-then-add
slice_bounds-to_add-end-then-add c =
    simp length-take (omega (arith, (c.join_checked.ensures.joined (ap refused_with c.in_ok-join_checked.was)).fits, c.join_checked.auto.area))

pub to_add-requires : goal.to_add-requires
to_add-requires c =
    let a = c.args in
    joined_good a.add a.full a.key a.plain.now a.book.now a.coordinator.now (sym c.join_checked.ensures.answer ∙ ap refused_with c.in_ok-join_checked.was) _ (c.join_checked.ensures.joined (ap refused_with c.in_ok-join_checked.was)).joined

pub returns-then-add : goal.returns-then-add
returns-then-add c =
    let a = c.args in
    place_told a.add a.full a.key a.plain.now a.book.now a.coordinator.now (sym c.join_checked.ensures.answer ∙ ap refused_with c.in_ok-join_checked.was) _ (c.join_checked.ensures.joined (ap refused_with c.in_ok-join_checked.was)).joined true c.if-add.true _ c.to_add.ensures

pub slice_bounds-to_remove-end : goal.slice_bounds-to_remove-end
slice_bounds-to_remove-end c =
    omega (arith, (c.join_checked.ensures.joined (ap refused_with c.in_ok-join_checked.was)).fits, c.join_checked.auto.area)

pub slice_bounds-to_remove-end-2 : goal.slice_bounds-to_remove-end-2
slice_bounds-to_remove-end-2 c =
    simp length-take (omega (arith, (c.join_checked.ensures.joined (ap refused_with c.in_ok-join_checked.was)).fits, c.join_checked.auto.area))

pub to_remove-requires : goal.to_remove-requires
to_remove-requires c =
    let a = c.args in
    joined_good a.add a.full a.key a.plain.now a.book.now a.coordinator.now (sym c.join_checked.ensures.answer ∙ ap refused_with c.in_ok-join_checked.was) _ (c.join_checked.ensures.joined (ap refused_with c.in_ok-join_checked.was)).joined

pub returns : goal.returns
returns c =
    let a = c.args in
    place_told a.add a.full a.key a.plain.now a.book.now a.coordinator.now (sym c.join_checked.ensures.answer ∙ ap refused_with c.in_ok-join_checked.was) _ (c.join_checked.ensures.joined (ap refused_with c.in_ok-join_checked.was)).joined false c.if-add.false _ c.to_remove.ensures
