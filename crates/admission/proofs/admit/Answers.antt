-- One that isn't well formed is refused; of any other the lines are found, and that those and its groups are what is wanted is found alone.
use Rattle.std.proofs.Common.{◌∙◌, Err}
use Rattle.lists.specs.Basics.{ap}
use Rattle.types.specs.declared.Refusal.{Refusal}
use Rattle.model.specs.ByteCalls.{sheets_of}
use Rattle.call_laws.specs.Transactions.{well_formed-parts}
use Rattle.answers.specs.Outcomes.{passed_up}
use Rattle.admission.specs.Admission.{unformed_by, formed_by, keys_ranged_lem, admitted-not}
use Rattle.admission.proofs.admit.Goals as goal

pub returns-in_err-groups : goal.returns-in_err-groups
returns-in_err-groups c =
    let a = c.args in
    let u = unformed_by a.t a.coordinator.now c.judge.ensures a.records.now c.in_err-groups.was in
    passed_up c.from_residual.ensures.1 ∙ ap (λ (r : Refusal). Err r) u.1
    ∙ admitted-not (sheets_of a.records.now a.coordinator.now) a.t u.0

pub lines_of-indices-requires : goal.lines_of-indices-requires
lines_of-indices-requires c =
    let a = c.args in
    let s = sheets_of a.records.now a.coordinator.now in
    let f = (formed_by a.t a.coordinator.now c.judge.ensures a.records.now c.in_ok-groups.was).0 in
    (c.requires.lines, ((well_formed-parts s a.t f).0.few, keys_ranged_lem s a.t f))
