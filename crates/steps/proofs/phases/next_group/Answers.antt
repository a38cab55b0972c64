-- By whether there is a group more.
use Rattle.std.proofs.Common.{◌∙◌}
use Rattle.lists.specs.Basics.{sym, ap, ℕ, lt-ltb, le-ltb}
use Rattle.model.specs.Transactions.{moved}
use Rattle.model.specs.Steps.{next_group}
use Rattle.steps.specs.Cases.{number_is}
use Rattle.steps.proofs.phases.next_group.Goals as goal

pub returns-then-next-groups : goal.returns-then-next-groups
unfolding next_group
returns-then-next-groups c = λ s e. rw (sym e, lt-ltb _ _ c.if-next-groups.true) c.moved.ensures

pub returns : goal.returns
unfolding next_group
returns c = λ s e. rw (sym e, le-ltb _ _ c.if-next-groups.false) (c.to_phase.ensures ∙ ap (λ (n : ℕ). moved n 0 c.args.t.verdict c.args.t) (number_is c.args.after))
