-- Refused first, or told of the lines before the spares.
use Rattle.lists.specs.Basics.{ap, subst, sym, length-take, arith}
use Rattle.model.specs.TwoSheets.{plain_bytes, bookkeeping_bytes}
use Rattle.sheet_laws.specs.Fronts.{sized-whole}
use Rattle.lists.specs.Basics.{[]}
use Rattle.model.specs.Types.{Ranked}
use Rattle.model.specs.Refusals.{refused_with}
use Rattle.model.specs.Told.{ranked_by, numbered, passed_up}
use Rattle.two_engine.specs.Forms.{KeyForms, front-plain, front-bookkeeping}
use Rattle.two_engine.specs.Lookups.{Ranks, line_refused, line-passed}
use Rattle.two_engine.proofs.lookup.line_told.Goals as goal

pub returns-in_err-check_forms : goal.returns-in_err-check_forms
returns-in_err-check_forms c =
    let a = c.args in
    subst (λ (r : Ranked). Ranks a.plain.now a.book.now a.key r) (sym (ap ranked_by (passed_up c.from_residual.ensures.1))) (line_refused a.plain.now a.book.now a.key _ ((subst (KeyForms a.plain.now a.book.now) (ap refused_with c.in_err-check_forms.was) c.check_forms.ensures).refused (numbered _)) (numbered _))

pub front_end-p-requires : goal.front_end-p-requires
front_end-p-requires c =
    let a = c.args in
    record { s_len = sized-whole plain_bytes a.plain.now (c.check_forms.ensures.fit (ap refused_with c.in_ok-check_forms.was)).plain; le_width = omega arith; width_le_record_bytes = omega arith }

pub front_end-b-requires : goal.front_end-b-requires
front_end-b-requires c =
    let a = c.args in
    record { s_len = sized-whole bookkeeping_bytes a.book.now (c.check_forms.ensures.fit (ap refused_with c.in_ok-check_forms.was)).bookkeeping; le_width = omega arith; width_le_record_bytes = omega arith }

pub slice_bounds-line_of-end : goal.slice_bounds-line_of-end
slice_bounds-line_of-end c =
    let a = c.args in
    simp length-take (omega (arith, c.front_end-p.ensures, front-plain a.plain.now a.book.now [] (c.check_forms.ensures.fit (ap refused_with c.in_ok-check_forms.was)).plain (c.check_forms.ensures.fit (ap refused_with c.in_ok-check_forms.was)).bookkeeping))

pub slice_bounds-line_of-end-2 : goal.slice_bounds-line_of-end-2
slice_bounds-line_of-end-2 c =
    let a = c.args in
    simp length-take (omega (arith, c.front_end-b.ensures, front-bookkeeping a.plain.now a.book.now [] (c.check_forms.ensures.fit (ap refused_with c.in_ok-check_forms.was)).plain (c.check_forms.ensures.fit (ap refused_with c.in_ok-check_forms.was)).bookkeeping))

pub returns : goal.returns
returns c =
    let a = c.args in
    line-passed a.plain.now a.book.now a.key ((c.check_forms.ensures.fit (ap refused_with c.in_ok-check_forms.was))) _ _ c.front_end-p.ensures c.front_end-b.ensures _ c.line_of.ensures
