-- Case by case in the order of the refusals.
use Rattle.std.proofs.Common.{◌∙◌, Err}
use Rattle.lists.specs.Basics.{sym, ap, true, false, List, ℕ}
use Rattle.types.specs.declared.Refusal.{Refusal}
use Rattle.model.specs.ByteCalls.{sheets_of}
use Rattle.model.specs.Refusals.{refused_with}
use Rattle.answers.specs.Outcomes.{passed_up}
use Rattle.admission.specs.Admission.{unformed_by, formed_by, open_ill, open_not, open_key}
use Rattle.admission.proofs.open_refusal.Goals as goal

pub returns-in_err-judge : goal.returns-in_err-judge
returns-in_err-judge c =
    let a = c.args in
    λ (rs : List ℕ).
    let u = unformed_by a.t a.coordinator.now c.judge.ensures rs c.in_err-judge.was in
    ap refused_with (passed_up c.from_residual.ensures.1 ∙ ap (λ (r : Refusal). Err r) u.1)
    ∙ open_ill a.t a.key (sheets_of rs a.coordinator.now) u.0

pub returns-then-not_open : goal.returns-then-not_open
returns-then-not_open c =
    let a = c.args in
    λ (rs : List ℕ). open_not a.t a.key (sheets_of rs a.coordinator.now) (formed_by a.t a.coordinator.now c.judge.ensures rs c.in_ok-judge.was).0 (sym c.not_open.ensures ∙ c.if-not_open.true)

pub returns-then-not-key_in_range : goal.returns-then-not-key_in_range
returns-then-not-key_in_range c =
    let a = c.args in
    λ (rs : List ℕ). open_key a.t a.key (sheets_of rs a.coordinator.now) false (formed_by a.t a.coordinator.now c.judge.ensures rs c.in_ok-judge.was).0 (sym c.not_open.ensures ∙ c.if-not_open.false) (sym c.key_in_range.ensures ∙ c.if-not-key_in_range.true)

pub returns : goal.returns
returns c =
    let a = c.args in
    λ (rs : List ℕ). open_key a.t a.key (sheets_of rs a.coordinator.now) true (formed_by a.t a.coordinator.now c.judge.ensures rs c.in_ok-judge.was).0 (sym c.not_open.ensures ∙ c.if-not_open.false) (sym c.key_in_range.ensures ∙ c.if-not-key_in_range.false)
