-- By the conditions in order; where none holds, what was filled is what the coordinator's numbers are.
use Rattle.std.specs.Prelude.{◌+◌}
use Rattle.std.proofs.Common.{◌∙◌}
use Rattle.lists.specs.Basics.{sym, ap, ℕ, length-drop, arith}
use Rattle.model.specs.Layouts.{coordinator_bytes, head_fields}
use Rattle.sheet_laws.specs.Decisions.{accepted_parts, readable_length}
use Rattle.numbers.specs.DecisionAnswers.{read_misfit, read_bad, read_done}
use Rattle.numbers.proofs.decisions.read_coordinator.Goals as goal

pub overflow_add-count : goal.overflow_add-count
overflow_add-count c = omega (arith, c.count.ensures, length-drop coordinator_bytes c.args.coordinator.now)

pub returns-then-numbers-count : goal.returns-then-numbers-count
returns-then-numbers-count c =
    let a = c.args in
    let all = read_misfit a.coordinator.now a.numbers.now (λ e. c.if-numbers-count.true (e ∙ ap (λ (n : ℕ). head_fields + n) (sym c.count.ensures))) in
    record { answer = all.0; target = all.1 }

pub returns-then-not-coordinator_ok : goal.returns-then-not-coordinator_ok
returns-then-not-coordinator_ok c =
    let a = c.args in
    let all = read_bad a.coordinator.now a.numbers.now (c.if-numbers-count.false ∙ ap (λ (n : ℕ). head_fields + n) c.count.ensures) (sym c.coordinator_ok.ensures ∙ c.if-not-coordinator_ok.true) in
    record { answer = all.0; target = all.1 }

pub fill_numbers-requires : goal.fill_numbers-requires
fill_numbers-requires c =
    record { whole_head = readable_length c.args.coordinator.now (accepted_parts _ (sym c.coordinator_ok.ensures ∙ c.if-not-coordinator_ok.false)).0; numbers_len = c.if-numbers-count.false ∙ ap (λ (n : ℕ). head_fields + n) c.count.ensures }

pub returns : goal.returns
returns c =
    let a = c.args in
    let all = read_done a.coordinator.now a.numbers.now _ (c.if-numbers-count.false ∙ ap (λ (n : ℕ). head_fields + n) c.count.ensures) (sym c.coordinator_ok.ensures ∙ c.if-not-coordinator_ok.false) c.fill_numbers.ensures in
    record { answer = all.0; target = all.1 }
