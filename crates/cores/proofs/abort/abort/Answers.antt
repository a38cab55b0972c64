-- Case by case in the order of the refusals.
use Rattle.std.proofs.Common.{◌∙◌, Ok, Err}
use Rattle.lists.specs.Basics.{sym, ap}
use Rattle.types.specs.declared.Refusal.{Refusal}
use Rattle.model.specs.Types.{Transaction}
use Rattle.model.specs.ByteCalls.{sheets_of}
use Rattle.admission.specs.Admission.{unformed_by, formed_by}
use Rattle.answers.specs.Answers.{in_numbers, to_returned}
use Rattle.answers.specs.Outcomes.{passed_up}
use Rattle.cores.specs.Aborting.{abort_ill, abort_late, abort_made}
use Rattle.cores.proofs.abort.abort.Goals as goal

pub judge-requires : goal.judge-requires
judge-requires c = c.requires.decisions

pub returns-in_err-judge : goal.returns-in_err-judge
returns-in_err-judge c =
    let a = c.args in
    let u = unformed_by a.t a.coordinator.now c.judge.ensures a.records.now c.in_err-judge.was in
    ap in_numbers (passed_up c.from_residual.ensures.1 ∙ ap (λ (r : Refusal). Err r) u.1)
    ∙ ap (to_returned a.t) (sym (abort_ill a.t (sheets_of a.records.now a.coordinator.now) u.0))

pub returns-then-cannot_abort : goal.returns-then-cannot_abort
returns-then-cannot_abort c =
    let a = c.args in
    let f = (formed_by a.t a.coordinator.now c.judge.ensures a.records.now c.in_ok-judge.was).0 in
    ap (to_returned a.t) (sym (abort_late a.t (sheets_of a.records.now a.coordinator.now) f (sym c.cannot_abort.ensures ∙ c.if-cannot_abort.true)))

pub returns : goal.returns
returns c =
    let a = c.args in
    let f = (formed_by a.t a.coordinator.now c.judge.ensures a.records.now c.in_ok-judge.was).0 in
    ap (λ (u : Transaction). Ok u) c.moved.ensures
    ∙ ap (to_returned a.t) (sym (abort_made a.t (sheets_of a.records.now a.coordinator.now) f (sym c.cannot_abort.ensures ∙ c.if-cannot_abort.false)))
