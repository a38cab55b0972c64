-- Refused by the check, or a number issued beside an accepted record sheet.
use Rattle.std.specs.Prelude.{◌≡◌}
use Rattle.std.proofs.Common.{◌∙◌}
use Rattle.lists.specs.Basics.{ap, refl, sym}
use Rattle.model.specs.Spares.{record_lines}
use Rattle.model.specs.Refusals.{refusal_of}
use Rattle.model.specs.SheetCalls.{check_conditions}
use Rattle.model.specs.Results.{begin}
use Rattle.call_laws.specs.Accepted.{accepted, turned_away_lem, let_pass}
use Rattle.answers.specs.Answers.{in_numbers, to_issued}
use Rattle.answers.specs.Outcomes.{passed_up, free_by, refused_by}
use Rattle.engine.specs.Issuing.{issues_on}
use Rattle.engine.proofs.issue.Goals as goal

pub returns-in_err-check : goal.returns-in_err-check
returns-in_err-check c =
    let a = c.args in
    let r = refused_by c.check.ensures c.in_err-check.was in
    issues_on (λ b. turned_away_lem to_issued (begin b) a.records.now a.coordinator.now _ r.0 (λ z. r.1 (sym r.0 ∙ z)) (ap in_numbers (passed_up c.from_residual.ensures.1)))

pub issue-requires : goal.issue-requires
issue-requires c =
    let a = c.args in
    (accepted a.records.now a.coordinator.now (free_by c.check.ensures c.in_ok-check.was)).decisions

pub returns : goal.returns
returns c =
    let a = c.args in
    let passed : refusal_of (check_conditions a.records.now a.coordinator.now) ≡ 0 = free_by c.check.ensures c.in_ok-check.was in
    issues_on (λ b. let_pass to_issued (begin b) a.records.now a.coordinator.now refl passed
    (c.issue.ensures.beside b (record_lines a.records.now) (accepted a.records.now a.coordinator.now passed)))
