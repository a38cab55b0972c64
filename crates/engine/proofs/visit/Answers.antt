-- Refused by the check, or the call on the lines of records of accepted sheets.
use Rattle.std.proofs.Common.{◌∙◌}
use Rattle.lists.specs.Basics.{ap, arith, length-take, refl, sym}
use Rattle.call_laws.specs.Lifting.{passing_parts}
use Rattle.model.specs.Results as model
use Rattle.call_laws.specs.Accepted.{turned_away_lem}
use Rattle.engine.specs.Fronts.{front-within, accepted_front, call_passed}
use Rattle.answers.specs.Answers.{in_numbers, to_visited}
use Rattle.answers.specs.Outcomes.{passed_up, free_by, refused_by}
use Rattle.engine.proofs.visit.Goals as goal

pub returns-in_err-check : goal.returns-in_err-check
returns-in_err-check c =
    let a = c.args in
    let r = refused_by c.check.ensures c.in_err-check.was in
    let o = turned_away_lem (to_visited) (model.visit a.key a.clock) a.records.now a.coordinator.now _ r.0 (λ z. r.1 (sym r.0 ∙ z)) (ap in_numbers (passed_up c.from_residual.ensures.1)) in
    record { answer = o.said; lines = o.sheet; decisions = o.decisions }

pub lines_end-end-requires : goal.lines_end-end-requires
lines_end-end-requires c =
    let a = c.args in
    (passing_parts (record { records = a.records.now; coordinator = a.coordinator.now }) (free_by c.check.ensures c.in_ok-check.was)).0

pub slice_bounds-visit-end : goal.slice_bounds-visit-end
slice_bounds-visit-end c =
    let a = c.args in
    front-within a.records.now a.coordinator.now (free_by c.check.ensures c.in_ok-check.was) _ c.lines_end-end.ensures.is

pub slice_bounds-visit-end-2 : goal.slice_bounds-visit-end-2
slice_bounds-visit-end-2 c =
    let a = c.args in
    simp length-take (omega (arith, front-within a.records.now a.coordinator.now (free_by c.check.ensures c.in_ok-check.was) _ c.lines_end-end.ensures.is))

pub visit-requires : goal.visit-requires
visit-requires c =
    let a = c.args in
    accepted_front a.records.now a.coordinator.now (free_by c.check.ensures c.in_ok-check.was) _ c.lines_end-end.ensures.is

pub returns : goal.returns
returns c =
    let a = c.args in
    let o = call_passed a.records.now a.coordinator.now (free_by c.check.ensures c.in_ok-check.was) _ c.lines_end-end.ensures.is (to_visited) (model.visit a.key a.clock) refl c.visit.ensures in
    record { answer = o.said; lines = o.sheet; decisions = o.decisions }
