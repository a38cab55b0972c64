-- Refused by the check or by what is told of the place, or the line taken out there.
use Rattle.std.proofs.Common.{◌∙◌}
use Rattle.lists.specs.Basics.{refl, sym, ap, length-take, arith}
use Rattle.model.specs.Refusals.{refused_with}
use Rattle.model.specs.Told.{ranked_by, numbered, passed_up}
use Rattle.model.specs.Results as calls
use Rattle.sheet_laws.specs.Spared.{accepted_whole}
use Rattle.call_laws.specs.Lifting.{passing_parts}
use Rattle.adding.specs.Calls.{check_refuses, accepted_front, remove_refuses, remove_within, remove_made}
use Rattle.adding.proofs.remove.Goals as goal

pub returns-in_err-check : goal.returns-in_err-check
returns-in_err-check c =
    let a = c.args in
    let o = check_refuses (calls.remove a.key) a.records.now a.coordinator.now _ (ap refused_with (sym c.in_err-check.was) ∙ c.check.ensures) (numbered _) in
    record { answer = ap refused_with (passed_up c.from_residual.ensures.1) ∙ o.said; lines = o.sheet }

pub lines_end-end-requires : goal.lines_end-end-requires
lines_end-end-requires c =
    let a = c.args in
    (passing_parts (record { records = a.records.now; coordinator = a.coordinator.now }) (sym c.check.ensures ∙ ap refused_with c.in_ok-check.was)).0

pub slice_bounds-to_remove-end-2 : goal.slice_bounds-to_remove-end-2
slice_bounds-to_remove-end-2 c = simp length-take (omega (arith, c.lines_end-end.ensures.within))

pub to_remove-requires : goal.to_remove-requires
to_remove-requires c =
    let a = c.args in
    accepted_front a.key a.records.now a.coordinator.now (sym c.check.ensures ∙ ap refused_with c.in_ok-check.was) _ c.lines_end-end.ensures.is

pub returns-in_err-rank : goal.returns-in_err-rank
returns-in_err-rank c =
    let a = c.args in
    let o = remove_refuses a.key a.records.now a.coordinator.now (sym c.check.ensures ∙ ap refused_with c.in_ok-check.was) _ c.lines_end-end.ensures.is _ (ap ranked_by (sym c.in_err-rank.was) ∙ c.to_remove.ensures) (numbered _) in
    record { answer = ap refused_with (passed_up c.from_residual-in_err-rank.ensures.1) ∙ o.said; lines = o.sheet }

pub remove_line-requires : goal.remove_line-requires
remove_line-requires c =
    let a = c.args in
    record { s_len = accepted_whole a.records.now (passing_parts (record { records = a.records.now; coordinator = a.coordinator.now }) (sym c.check.ensures ∙ ap refused_with c.in_ok-check.was)).0; at_in_bounds = remove_within a.key a.records.now a.coordinator.now (sym c.check.ensures ∙ ap refused_with c.in_ok-check.was) _ c.lines_end-end.ensures.is _ (ap ranked_by (sym c.in_ok-rank.was) ∙ c.to_remove.ensures) refl; le_width = omega arith; width_le_record_bytes = omega arith }

pub returns : goal.returns
returns c =
    let a = c.args in
    let o = remove_made a.key a.records.now a.coordinator.now (sym c.check.ensures ∙ ap refused_with c.in_ok-check.was) _ c.lines_end-end.ensures.is _ (ap ranked_by (sym c.in_ok-rank.was) ∙ c.to_remove.ensures) refl _ c.remove_line.ensures in
    record { answer = o.said; lines = o.sheet }
