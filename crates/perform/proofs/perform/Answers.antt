-- Case by case, what the call answers and leaves is what the law of its kind wants.
use Rattle.std.proofs.Common.{◌∙◌, Ok, Result}
use Rattle.lists.specs.Basics.{sym, ap, ℕ}
use Rattle.types.specs.declared.Refusal.{Refusal}
use Rattle.model.specs.Types.{Recovery}
use Rattle.answers.specs.declared.Performed.{Performed}
use Rattle.answers.specs.Answers.{in_numbers}
use Rattle.answers.specs.Outcomes.{passed_up, mapped, mapped_by}
use Rattle.perform.specs.Performing.{of_returned, of_read, of_visited, of_closed, of_issued, begun, was_read, was_second, was_put, advanced, aborted, was_visited, was_closed}
use Rattle.perform.proofs.perform.Goals as goal

pub issue-requires : goal.issue-requires
issue-requires c = c.requires.decisions

pub returns-in_err-number-in-Begin : goal.returns-in_err-number-in-Begin
returns-in_err-number-in-Begin c =
    let a = c.args in
    let all = begun a.request a.t a.records.now a.coordinator.now c.requires _ _ c.in-Begin.is c.issue.ensures
    (ap in_numbers (passed_up c.from_residual.ensures.1) ∙ sym (ap (λ (r : Result ℕ Refusal). mapped (of_issued c.in-Begin.serializable) (in_numbers r)) c.in_err-number-in-Begin.was)) in
    record { answer = all.0; lines = all.1.0; decisions = all.1.1 }

pub returns-in_ok-number-in-Begin : goal.returns-in_ok-number-in-Begin
returns-in_ok-number-in-Begin c =
    let a = c.args in
    let all = begun a.request a.t a.records.now a.coordinator.now c.requires _ _ c.in-Begin.is c.issue.ensures
    (ap (λ (p : Performed). Ok p) (c.from.ensures ∙ ap of_returned c.new_transaction.ensures)
    ∙ sym (ap (λ (r : Result ℕ Refusal). mapped (of_issued c.in-Begin.serializable) (in_numbers r)) c.in_ok-number-in-Begin.was)) in
    record { answer = all.0; lines = all.1.0; decisions = all.1.1 }

pub returns-in-Read : goal.returns-in-Read
returns-in-Read c =
    let a = c.args in
    let all = was_read a.request a.t a.records.now a.coordinator.now c.requires _ _ _ c.in-Read.is (mapped_by of_read c.read.result _ c.map.ensures.cases) c.read.ensures in
    record { answer = all.0; lines = all.1.0; decisions = all.1.1 }

pub returns-in-Second : goal.returns-in-Second
returns-in-Second c =
    let a = c.args in
    let all = was_second a.request a.t a.records.now a.coordinator.now c.requires _ _ _ _ c.in-Second.is (mapped_by of_read c.second.result _ c.map-in-Second.ensures.cases) c.second.ensures in
    record { answer = all.0; lines = all.1.0; decisions = all.1.1 }

pub returns-in-Put : goal.returns-in-Put
returns-in-Put c =
    let a = c.args in
    let all = was_put a.request a.t a.records.now a.coordinator.now c.requires _ _ _ c.in-Put.is (mapped_by of_returned c.put.result _ c.map-in-Put.ensures.cases) c.put.ensures in
    record { answer = all.0; lines = all.1.0; decisions = all.1.1 }

pub returns-in-Advance : goal.returns-in-Advance
returns-in-Advance c =
    let a = c.args in
    let all = advanced a.request a.t a.records.now a.coordinator.now c.requires _ _ c.in-Advance.is (mapped_by of_returned c.advance.result _ c.map-in-Advance.ensures.cases) c.advance.ensures in
    record { answer = all.0; lines = all.1.0; decisions = all.1.1 }

pub returns-in-Abort : goal.returns-in-Abort
returns-in-Abort c =
    let a = c.args in
    let all = aborted a.request a.t a.records.now a.coordinator.now c.requires _ c.in-Abort.is (mapped_by of_returned c.abort.result _ c.map-in-Abort.ensures.cases) c.abort.ensures in
    record { answer = all.0; lines = all.1.0; decisions = all.1.1 }

pub returns-in_err-met-in-Visit : goal.returns-in_err-met-in-Visit
returns-in_err-met-in-Visit c =
    let a = c.args in
    let all = was_visited a.request a.t a.records.now a.coordinator.now c.requires _ _ _ c.in-Visit.is
    (ap in_numbers (passed_up c.from_residual-in_err-met-in-Visit.ensures.1) ∙ sym (ap (λ (r : Result Recovery Refusal). mapped (of_visited a.t) (in_numbers r)) c.in_err-met-in-Visit.was)) c.visit.ensures in
    record { answer = all.0; lines = all.1.0; decisions = all.1.1 }

pub returns-in_ok-met-in-Visit : goal.returns-in_ok-met-in-Visit
returns-in_ok-met-in-Visit c =
    let a = c.args in
    let all = was_visited a.request a.t a.records.now a.coordinator.now c.requires _ _ _ c.in-Visit.is
    (sym (ap (λ (r : Result Recovery Refusal). mapped (of_visited a.t) (in_numbers r)) c.in_ok-met-in-Visit.was)) c.visit.ensures in
    record { answer = all.0; lines = all.1.0; decisions = all.1.1 }

pub returns-in-Close : goal.returns-in-Close
returns-in-Close c =
    let a = c.args in
    let all = was_closed a.request a.t a.records.now a.coordinator.now c.requires _ _ _ c.in-Close.is (mapped_by of_closed c.close.result _ c.map-in-Close.ensures.cases) (c.close.ensures.answer, (c.close.ensures.lines, c.close.ensures.decisions)) in
    record { answer = all.0; lines = all.1.0; decisions = all.1.1 }
