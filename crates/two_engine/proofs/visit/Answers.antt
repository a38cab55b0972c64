-- Refused first, or the call on the lines before the spares.
use Rattle.std.proofs.Common.{◌∙◌}
use Rattle.lists.specs.Basics.{ap, subst, ℕ, refl, length-take, arith}
use Rattle.model.specs.TwoSheets.{plain_bytes, bookkeeping_bytes}
use Rattle.sheet_laws.specs.Fronts.{sized-whole}
use Rattle.lists.specs.Basics.{[]}
use Rattle.model.specs.Results as model
use Rattle.model.specs.Operations.{once}
use Rattle.answers.specs.Answers.{in_numbers, to_visited}
use Rattle.answers.specs.Outcomes.{passed_up, numbered_lem}
use Rattle.model.specs.Refusals.{refused_with}
use Rattle.two_engine.specs.Forms.{Forms, front-plain, front-bookkeeping}
use Rattle.two_engine.specs.Performing.{forms_refused, forms_passed, visited_blind}
use Rattle.two_engine.proofs.visit.Goals as goal

pub returns-in_err-check_forms : goal.returns-in_err-check_forms
returns-in_err-check_forms c =
    let a = c.args in
    let no = (subst (Forms a.plain.now a.book.now a.coordinator.now) (ap refused_with c.in_err-check_forms.was) c.check_forms.ensures).refused (numbered_lem _) in
    let up = ap in_numbers (passed_up c.from_residual.ensures.1) in
    forms_refused to_visited (once (model.visit a.key a.clock)) a.plain.now a.book.now a.coordinator.now _ no (numbered_lem _) up

pub front_end-p-requires : goal.front_end-p-requires
front_end-p-requires c =
    let a = c.args in
    record { s_len = sized-whole plain_bytes a.plain.now (c.check_forms.ensures.fit (ap refused_with c.in_ok-check_forms.was)).plain; le_width = omega arith; width_le_record_bytes = omega arith }

pub front_end-b-requires : goal.front_end-b-requires
front_end-b-requires c =
    let a = c.args in
    record { s_len = sized-whole bookkeeping_bytes a.book.now (c.check_forms.ensures.fit (ap refused_with c.in_ok-check_forms.was)).bookkeeping; le_width = omega arith; width_le_record_bytes = omega arith }

pub slice_bounds-visit-end : goal.slice_bounds-visit-end
slice_bounds-visit-end c =
    let a = c.args in
    omega (arith, c.front_end-p.ensures, front-plain a.plain.now a.book.now [] (c.check_forms.ensures.fit (ap refused_with c.in_ok-check_forms.was)).plain (c.check_forms.ensures.fit (ap refused_with c.in_ok-check_forms.was)).bookkeeping)

pub slice_bounds-visit-end-2 : goal.slice_bounds-visit-end-2
slice_bounds-visit-end-2 c =
    let a = c.args in
    simp length-take (omega (arith, c.front_end-p.ensures, front-plain a.plain.now a.book.now [] (c.check_forms.ensures.fit (ap refused_with c.in_ok-check_forms.was)).plain (c.check_forms.ensures.fit (ap refused_with c.in_ok-check_forms.was)).bookkeeping))

pub slice_bounds-visit-end-3 : goal.slice_bounds-visit-end-3
slice_bounds-visit-end-3 c =
    let a = c.args in
    omega (arith, c.front_end-b.ensures, front-bookkeeping a.plain.now a.book.now [] (c.check_forms.ensures.fit (ap refused_with c.in_ok-check_forms.was)).plain (c.check_forms.ensures.fit (ap refused_with c.in_ok-check_forms.was)).bookkeeping)

pub slice_bounds-visit-end-4 : goal.slice_bounds-visit-end-4
slice_bounds-visit-end-4 c =
    let a = c.args in
    simp length-take (omega (arith, c.front_end-b.ensures, front-bookkeeping a.plain.now a.book.now [] (c.check_forms.ensures.fit (ap refused_with c.in_ok-check_forms.was)).plain (c.check_forms.ensures.fit (ap refused_with c.in_ok-check_forms.was)).bookkeeping))

pub returns : goal.returns
returns c =
    let a = c.args in
    forms_passed a.plain.now a.book.now a.coordinator.now ((c.check_forms.ensures.fit (ap refused_with c.in_ok-check_forms.was))) (once (model.visit a.key a.clock)) refl (to_visited) (visited_blind) _ _ c.front_end-p.ensures c.front_end-b.ensures c.visit.ensures
