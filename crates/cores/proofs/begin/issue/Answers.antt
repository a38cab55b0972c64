-- Case by case in the order of the refusals; the count raised in the bytes is the number issued.
use Rattle.std.specs.Prelude.{◌+◌}
use Rattle.std.proofs.Common.{◌∙◌}
use Rattle.lists.specs.Basics.{ap, ℕ, arith}
use Rattle.cores.specs.Begins.{spent_by, issue_spent, number_fits, issue_made}
use Rattle.cores.proofs.begin.issue.Goals as goal

pub returns-then-all_spent : goal.returns-then-all_spent
returns-then-all_spent c =
    issue_spent c.args.coordinator.now c.requires (spent_by c.args.coordinator.now c.issued-issued.ensures c.all_spent.ensures ∙ c.if-all_spent.true)

pub overflow_add-n : goal.overflow_add-n
overflow_add-n c =
    let l = number_fits c.args.coordinator.now c.requires (spent_by c.args.coordinator.now c.issued-issued.ensures c.all_spent.ensures ∙ c.if-all_spent.false) in
    rw c.issued-issued.ensures (omega arith)

pub returns : goal.returns
returns c =
    let read = c.issued-issued.ensures in
    issue_made c.args.coordinator.now c.requires (spent_by c.args.coordinator.now read c.all_spent.ensures ∙ c.if-all_spent.false) _ _
    (ap (λ (n : ℕ). n + 1) read) (rw read at c.set_issued.ensures)
