-- Refused first, or by the check of the lines before the spares.
use Rattle.std.proofs.Common.{◌∙◌}
use Rattle.lists.specs.Basics.{ap, subst, ap₂, ℕ, length-take, take, arith}
use Rattle.model.specs.TwoSheets.{plain_bytes, bookkeeping_bytes}
use Rattle.sheet_laws.specs.Fronts.{sized-whole}
use Rattle.lists.specs.Basics.{[]}
use Rattle.model.specs.Spares.{front}
use Rattle.model.specs.Refusals.{refusal_of}
use Rattle.model.specs.TwoSheets.{full_conditions}
use Rattle.model.specs.Refusals.{refused_with}
use Rattle.model.specs.Told.{numbered, passed_up}
use Rattle.two_engine.specs.Forms.{Forms, front-plain, front-bookkeeping, refusal_cut}
use Rattle.two_engine.proofs.check.Goals as goal

pub returns-in_err-check_forms : goal.returns-in_err-check_forms
returns-in_err-check_forms c =
    let a = c.args in
    ap refused_with (passed_up c.from_residual.ensures.1) ∙ (subst (Forms a.plain.now a.book.now a.coordinator.now) (ap refused_with c.in_err-check_forms.was) c.check_forms.ensures).refused (numbered _)

pub front_end-p-requires : goal.front_end-p-requires
front_end-p-requires c =
    let a = c.args in
    record { s_len = sized-whole plain_bytes a.plain.now (c.check_forms.ensures.fit (ap refused_with c.in_ok-check_forms.was)).plain; le_width = omega arith; width_le_record_bytes = omega arith }

pub front_end-b-requires : goal.front_end-b-requires
front_end-b-requires c =
    let a = c.args in
    record { s_len = sized-whole bookkeeping_bytes a.book.now (c.check_forms.ensures.fit (ap refused_with c.in_ok-check_forms.was)).bookkeeping; le_width = omega arith; width_le_record_bytes = omega arith }

pub slice_bounds-check-end : goal.slice_bounds-check-end
slice_bounds-check-end c =
    let a = c.args in
    simp length-take (omega (arith, c.front_end-p.ensures, front-plain a.plain.now a.book.now [] (c.check_forms.ensures.fit (ap refused_with c.in_ok-check_forms.was)).plain (c.check_forms.ensures.fit (ap refused_with c.in_ok-check_forms.was)).bookkeeping))

pub slice_bounds-check-end-2 : goal.slice_bounds-check-end-2
slice_bounds-check-end-2 c =
    let a = c.args in
    simp length-take (omega (arith, c.front_end-b.ensures, front-bookkeeping a.plain.now a.book.now [] (c.check_forms.ensures.fit (ap refused_with c.in_ok-check_forms.was)).plain (c.check_forms.ensures.fit (ap refused_with c.in_ok-check_forms.was)).bookkeeping))

pub returns : goal.returns
unfolding front
returns c =
    let a = c.args in
    c.check.ensures ∙ (ap₂ (λ (m n : ℕ). refusal_of (full_conditions (take m a.plain.now) (take n a.book.now) a.coordinator.now)) c.front_end-p.ensures c.front_end-b.ensures ∙ refusal_cut a.plain.now a.book.now ((c.check_forms.ensures.fit (ap refused_with c.in_ok-check_forms.was))) a.coordinator.now)
