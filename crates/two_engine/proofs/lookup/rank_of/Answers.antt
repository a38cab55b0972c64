-- Refused first, or told of the lines before the spares.
use Rattle.std.specs.Prelude.{◌≤◌}
use Rattle.std.proofs.Common.{◌∙◌}
use Rattle.lists.specs.Basics.{ap, subst, sym, length-take, arith}
use Rattle.model.specs.TwoSheets.{plain_bytes, bookkeeping_bytes}
use Rattle.sheet_laws.specs.Fronts.{sized-whole}
use Rattle.lists.specs.Basics.{[]}
use Rattle.model.specs.Types.{Ranked}
use Rattle.model.specs.Refusals.{refused_with}
use Rattle.model.specs.Told.{ranked_by, numbered, passed_up}
use Rattle.two_engine.specs.Forms.{KeyForms, front-plain, front-bookkeeping}
use Rattle.two_engine.specs.Lookups.{rank_refused, rank-passed}
use Rattle.two_engine.proofs.lookup.rank_of.Goals as goal

pub returns-in_err-check_forms : goal.returns-in_err-check_forms
returns-in_err-check_forms c =
    let a = c.args in
    let e = ap ranked_by (passed_up c.from_residual.ensures.1) in
    record { told = e ∙ rank_refused a.plain.now a.book.now a.key _ ((subst (KeyForms a.plain.now a.book.now) (ap refused_with c.in_err-check_forms.was) c.check_forms.ensures).refused (numbered _)) (numbered _); few = subst (λ (r : Ranked). r.rank.below ≤ 500) (sym e) (omega arith) }

pub front_end-p-requires : goal.front_end-p-requires
front_end-p-requires c =
    let a = c.args in
    record { s_len = sized-whole plain_bytes a.plain.now (c.check_forms.ensures.fit (ap refused_with c.in_ok-check_forms.was)).plain; le_width = omega arith; width_le_record_bytes = omega arith }

pub front_end-b-requires : goal.front_end-b-requires
front_end-b-requires c =
    let a = c.args in
    record { s_len = sized-whole bookkeeping_bytes a.book.now (c.check_forms.ensures.fit (ap refused_with c.in_ok-check_forms.was)).bookkeeping; le_width = omega arith; width_le_record_bytes = omega arith }

pub slice_bounds-rank_of-end : goal.slice_bounds-rank_of-end
slice_bounds-rank_of-end c =
    let a = c.args in
    simp length-take (omega (arith, c.front_end-p.ensures, front-plain a.plain.now a.book.now [] (c.check_forms.ensures.fit (ap refused_with c.in_ok-check_forms.was)).plain (c.check_forms.ensures.fit (ap refused_with c.in_ok-check_forms.was)).bookkeeping))

pub slice_bounds-rank_of-end-2 : goal.slice_bounds-rank_of-end-2
slice_bounds-rank_of-end-2 c =
    let a = c.args in
    simp length-take (omega (arith, c.front_end-b.ensures, front-bookkeeping a.plain.now a.book.now [] (c.check_forms.ensures.fit (ap refused_with c.in_ok-check_forms.was)).plain (c.check_forms.ensures.fit (ap refused_with c.in_ok-check_forms.was)).bookkeeping))

pub returns : goal.returns
returns c =
    let a = c.args in
    record { told = rank-passed a.plain.now a.book.now a.key ((c.check_forms.ensures.fit (ap refused_with c.in_ok-check_forms.was))) _ _ c.front_end-p.ensures c.front_end-b.ensures _ c.rank_of.ensures.told; few = c.rank_of.ensures.few }
