-- Case by case in the order of the refusals; an accepted call is the step of its phase.
use Rattle.std.proofs.Common.{◌∙◌, Err}
use Rattle.lists.specs.Basics.{refl, sym, ap}
use Rattle.types.specs.declared.Refusal.{Refusal}
use Rattle.model.specs.Types.{Decision}
use Rattle.model.specs.ByteCalls.{sheets_of}
use Rattle.call_laws.specs.Accepted.{outcome_refused}
use Rattle.admission.specs.Admission.{admitted_by, ill_by, admitted_ready}
use Rattle.answers.specs.Answers.{in_numbers, to_returned}
use Rattle.answers.specs.Outcomes.{passed_up}
use Rattle.well_formed.specs.Barred.{forbids}
use Rattle.cores.specs.Advancing.{advance_ill, advance_forbidden, step-outcome}
use Rattle.cores.proofs.advance.advance.Goals as goal

pub returns-in_err-located : goal.returns-in_err-located
returns-in_err-located c =
    let a = c.args in
    let u = ill_by (sheets_of a.records.now a.coordinator.now) a.t c.admit.ensures c.in_err-located.was in
    outcome_refused (to_returned a.t) a.records.now a.coordinator.now 3
    (advance_ill a.t a.clock a.records.now a.coordinator.now u.0)
    (ap in_numbers (passed_up c.from_residual.ensures.1 ∙ ap (λ (r : Refusal). Err r) u.1))

pub returns-then-forbids : goal.returns-then-forbids
returns-then-forbids c =
    let a = c.args in
    let f = admitted_by (sheets_of a.records.now a.coordinator.now) a.t c.admit.ensures c.in_ok-located.was in
    outcome_refused (to_returned a.t) a.records.now a.coordinator.now 4
    (advance_forbidden a.t a.clock a.records.now a.coordinator.now f.0
    (ap (λ (d : Decision). forbids a.t.phase d) (sym c.decision_at-own.ensures) ∙ (sym c.forbids.ensures ∙ c.if-forbids.true))) refl

pub step-requires : goal.step-requires
step-requires c =
    let a = c.args in
    let f = admitted_by (sheets_of a.records.now a.coordinator.now) a.t c.admit.ensures c.in_ok-located.was in
    let r = admitted_ready a.t a.records.now a.coordinator.now c.well_formed.0 _ f.1 f.0 in
    record {
      fit = c.requires.fit;
      formed = f.0;
      indexed = r.0;
      grouped = r.1;
    }

pub returns : goal.returns
returns c =
    let a = c.args in
    let f = admitted_by (sheets_of a.records.now a.coordinator.now) a.t c.admit.ensures c.in_ok-located.was in
    step-outcome a.t a.clock a.records.now a.coordinator.now f.0
    (ap (λ (d : Decision). forbids a.t.phase d) (sym c.decision_at-own.ensures) ∙ (sym c.forbids.ensures ∙ c.if-forbids.false)) c.step.ensures
