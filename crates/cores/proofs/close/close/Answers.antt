-- Case by case in the order of the refusals; an accepted call is the run of its steps.
use Rattle.std.proofs.Common.{◌∙◌, Err}
use Rattle.lists.specs.Basics.{refl, sym, ap, arith}
use Rattle.types.specs.declared.Refusal.{Refusal}
use Rattle.model.specs.Types.{Decision}
use Rattle.model.specs.Closing.{close_barred}
use Rattle.model.specs.ByteCalls.{sheets_of}
use Rattle.admission.specs.Admission.{admitted_by, ill_by}
use Rattle.answers.specs.Answers.{in_numbers}
use Rattle.answers.specs.Outcomes.{passed_up}
use Rattle.closing.specs.Running.{starts_sure}
use Rattle.cores.specs.Closing.{close_ill, close_barred_lem, close_free, close_refused, close_ended}
use Rattle.cores.proofs.close.close.Goals as goal

pub returns-in_err-located : goal.returns-in_err-located
returns-in_err-located c =
    let a = c.args in
    let s = sheets_of a.records.now a.coordinator.now in
    let u = ill_by s a.t c.admit.ensures c.in_err-located.was in
    let all = close_refused a.t a.records.now a.coordinator.now a.clock a.limit 3 (close_ill a.t s u.0) (λ z. omega (arith, z))
    (ap in_numbers (passed_up c.from_residual.ensures.1 ∙ ap (λ (r : Refusal). Err r) u.1)) in
    record { answer = all.0; lines = all.1.0; decisions = all.1.1 }

pub returns-then-bars : goal.returns-then-bars
returns-then-bars c =
    let a = c.args in
    let s = sheets_of a.records.now a.coordinator.now in
    let f = admitted_by s a.t c.admit.ensures c.in_ok-located.was in
    let all = close_refused a.t a.records.now a.coordinator.now a.clock a.limit 4
    (close_barred_lem a.t s f.0
    (ap (λ (d : Decision). close_barred a.t.phase d) (sym c.decision_at-own.ensures)
    ∙ (sym c.bars.ensures ∙ c.if-bars.true))) (λ z. omega (arith, z)) refl in
    record { answer = all.0; lines = all.1.0; decisions = all.1.1 }

pub run-ran-requires : goal.run-ran-requires
run-ran-requires c =
    let a = c.args in
    let s = sheets_of a.records.now a.coordinator.now in
    let f = admitted_by s a.t c.admit.ensures c.in_ok-located.was in
    starts_sure a.t a.records.now a.coordinator.now c.well_formed.0 _ f.1 c.requires.fit
    (close_free a.t s f.0
    (ap (λ (d : Decision). close_barred a.t.phase d) (sym c.decision_at-own.ensures)
    ∙ (sym c.bars.ensures ∙ c.if-bars.false))) a.limit (omega arith)

pub returns : goal.returns
returns c =
    let a = c.args in
    let s = sheets_of a.records.now a.coordinator.now in
    let f = admitted_by s a.t c.admit.ensures c.in_ok-located.was in
    let all = close_ended a.t a.records.now a.coordinator.now a.clock a.limit
    (close_free a.t s f.0
    (ap (λ (d : Decision). close_barred a.t.phase d) (sym c.decision_at-own.ensures)
    ∙ (sym c.bars.ensures ∙ c.if-bars.false))) c.run-ran.ensures in
    record { answer = all.0; lines = all.1.0; decisions = all.1.1 }
