-- Refused by the check or by what is told of the place, or the line put in there.
use Rattle.std.proofs.Common.{◌∙◌}
use Rattle.lists.specs.Basics.{refl, sym, ap, List, ℕ, length, length-take, arith, joined}
use Rattle.model.specs.Layouts.{record_bytes}
use Rattle.model.specs.Lines.{lines_of}
use Rattle.model.specs.Refusals.{refused_with}
use Rattle.model.specs.Told.{ranked_by, numbered, passed_up}
use Rattle.model.specs.Results as calls
use Rattle.sheet_laws.specs.Spared.{accepted_whole}
use Rattle.call_laws.specs.Lifting.{passing_parts}
use Rattle.shifting.specs.Shifted.{insert_at}
use Rattle.adding.specs.Calls.{check_refuses, accepted_front, add_refuses, add_within, add_wide, add_made}
use Rattle.adding.proofs.add.Goals as goal

pub returns-in_err-check : goal.returns-in_err-check
returns-in_err-check c =
    let a = c.args in
    let o = check_refuses (calls.add a.key) a.records.now a.coordinator.now _ (ap refused_with (sym c.in_err-check.was) ∙ c.check.ensures) (numbered _) in
    record { answer = ap refused_with (passed_up c.from_residual.ensures.1) ∙ o.said; lines = o.sheet }

pub lines_end-end-requires : goal.lines_end-end-requires
lines_end-end-requires c =
    let a = c.args in
    (passing_parts (record { records = a.records.now; coordinator = a.coordinator.now }) (sym c.check.ensures ∙ ap refused_with c.in_ok-check.was)).0

pub slice_bounds-to_add-end-2 : goal.slice_bounds-to_add-end-2
slice_bounds-to_add-end-2 c = simp length-take (omega (arith, c.lines_end-end.ensures.within))

pub to_add-requires : goal.to_add-requires
to_add-requires c =
    let a = c.args in
    accepted_front a.key a.records.now a.coordinator.now (sym c.check.ensures ∙ ap refused_with c.in_ok-check.was) _ c.lines_end-end.ensures.is

pub returns-in_err-rank : goal.returns-in_err-rank
returns-in_err-rank c =
    let a = c.args in
    let o = add_refuses a.key a.records.now a.coordinator.now (sym c.check.ensures ∙ ap refused_with c.in_ok-check.was) _ c.lines_end-end.ensures.is _ refl _ (ap ranked_by (sym c.in_err-rank.was) ∙ c.to_add.ensures) (numbered _) in
    record { answer = ap refused_with (passed_up c.from_residual-in_err-rank.ensures.1) ∙ o.said; lines = o.sheet }

pub insert_line-requires : goal.insert_line-requires
insert_line-requires c =
    let a = c.args in
    let within = add_within a.key a.records.now a.coordinator.now (sym c.check.ensures ∙ ap refused_with c.in_ok-check.was) _ c.lines_end-end.ensures.is _ refl _ (ap ranked_by (sym c.in_ok-rank.was) ∙ c.to_add.ensures) refl in
    record { s_len = accepted_whole a.records.now (passing_parts (record { records = a.records.now; coordinator = a.coordinator.now }) (sym c.check.ensures ∙ ap refused_with c.in_ok-check.was)).0; at_in_bounds = omega (arith, within.0, within.1); text_len = ap length c.absent_line-line.ensures ∙ add_wide a.key a.records.now a.coordinator.now (sym c.check.ensures ∙ ap refused_with c.in_ok-check.was) _ c.lines_end-end.ensures.is _ refl _ (ap ranked_by (sym c.in_ok-rank.was) ∙ c.to_add.ensures) refl }

pub returns : goal.returns
returns c =
    let a = c.args in
    let o = add_made a.key a.records.now a.coordinator.now (sym c.check.ensures ∙ ap refused_with c.in_ok-check.was) _ c.lines_end-end.ensures.is _ refl _ (ap ranked_by (sym c.in_ok-rank.was) ∙ c.to_add.ensures) refl _ (c.insert_line.ensures ∙ ap (λ (t : List ℕ). joined (insert_at c.in_ok-rank.rank.below t (lines_of record_bytes a.records.now))) c.absent_line-line.ensures) in
    record { answer = o.said; lines = o.sheet }
