-- By the state.
use Rattle.std.proofs.Common.{◌∙◌}
use Rattle.lists.specs.Basics.{sym, ap}
use Rattle.model.specs.Types.{State}
use Rattle.model.specs.Records.{by_state, absent_rule, committed_rule, prepared_rule}
use Rattle.numbers.proofs.rules.state_rule.Goals as goal

pub returns-in-Absent : goal.returns-in-Absent
returns-in-Absent c =
    let r = c.args.r in
    c.absent_rule.ensures ∙ sym (ap (λ (s : State). by_state s (absent_rule r) (committed_rule r) (prepared_rule r)) c.in-Absent.is)

pub returns-in-Committed : goal.returns-in-Committed
returns-in-Committed c =
    let r = c.args.r in
    c.committed_rule.ensures ∙ sym (ap (λ (s : State). by_state s (absent_rule r) (committed_rule r) (prepared_rule r)) c.in-Committed.is)

pub returns-in-Prepared : goal.returns-in-Prepared
returns-in-Prepared c =
    let r = c.args.r in
    c.prepared_rule.ensures ∙ sym (ap (λ (s : State). by_state s (absent_rule r) (committed_rule r) (prepared_rule r)) c.in-Prepared.is)
