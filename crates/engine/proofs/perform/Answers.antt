-- Refused by the check, or the call on the lines of records of accepted sheets.
use Rattle.std.proofs.Common.{◌∙◌}
use Rattle.lists.specs.Basics.{ap, arith, length-take, sym}
use Rattle.call_laws.specs.Lifting.{passing_parts}
use Rattle.model.specs.Requests.{operation_of}
use Rattle.call_laws.specs.ByPlace.{request_calm}
use Rattle.engine.specs.Fronts.{front-within, accepted_front, operation_passed}
use Rattle.engine.specs.Responses.{turned_away_as}
use Rattle.answers.specs.Answers.{in_numbers, to_performed}
use Rattle.answers.specs.Outcomes.{passed_up, free_by, refused_by}
use Rattle.engine.specs.Fronts.{performed_blind}
use Rattle.engine.proofs.perform.Goals as goal

pub returns-in_err-check : goal.returns-in_err-check
returns-in_err-check c =
    let a = c.args in
    let r = refused_by c.check.ensures c.in_err-check.was in
    let all = turned_away_as (to_performed a.t) (operation_of a.request a.t) a.records.now a.coordinator.now _ r.0 (λ z. r.1 (sym r.0 ∙ z)) (ap in_numbers (passed_up c.from_residual.ensures.1)) in
    record { answer = all.0; lines = all.1.0; decisions = all.1.1 }

pub lines_end-end-requires : goal.lines_end-end-requires
lines_end-end-requires c =
    let a = c.args in
    (passing_parts (record { records = a.records.now; coordinator = a.coordinator.now }) (free_by c.check.ensures c.in_ok-check.was)).0

pub slice_bounds-perform-end : goal.slice_bounds-perform-end
slice_bounds-perform-end c =
    let a = c.args in
    front-within a.records.now a.coordinator.now (free_by c.check.ensures c.in_ok-check.was) _ c.lines_end-end.ensures.is

pub slice_bounds-perform-end-2 : goal.slice_bounds-perform-end-2
slice_bounds-perform-end-2 c =
    let a = c.args in
    simp length-take (omega (arith, front-within a.records.now a.coordinator.now (free_by c.check.ensures c.in_ok-check.was) _ c.lines_end-end.ensures.is))

pub perform-requires : goal.perform-requires
perform-requires c =
    let a = c.args in
    accepted_front a.records.now a.coordinator.now (free_by c.check.ensures c.in_ok-check.was) _ c.lines_end-end.ensures.is

pub returns : goal.returns
returns c =
    let a = c.args in
    let all = operation_passed a.records.now a.coordinator.now (free_by c.check.ensures c.in_ok-check.was) _ c.lines_end-end.ensures.is (to_performed a.t) (λ n r. performed_blind a.t n r) (operation_of a.request a.t) (request_calm a.request a.t) (c.perform.ensures.answer, (c.perform.ensures.lines, c.perform.ensures.decisions)) in
    record { answer = all.0; lines = all.1.0; decisions = all.1.1 }
