-- By the before state.
use Rattle.std.proofs.Common.{◌∙◌}
use Rattle.lists.specs.Basics.{sym, ap, leb, Bool, false}
use Rattle.model.specs.Types.{Record, Before}
use Rattle.model.specs.Records.{by_before, absence, before_rule}
use Rattle.numbers.proofs.rules.before_rule.Goals as goal

-- the rule, if the before state is b
abbrev ruled : Record → Before → Bool
ruled r b = by_before b false (absence r.before) (leb 1 r.before.version)

pub returns-in-Nothing : goal.returns-in-Nothing
unfolding before_rule
returns-in-Nothing c = sym (ap (ruled c.args.r) c.in-Nothing.is)

pub returns-in-Absent : goal.returns-in-Absent
unfolding before_rule
returns-in-Absent c = c.is_absence.ensures ∙ sym (ap (ruled c.args.r) c.in-Absent.is)

pub returns-in-Committed : goal.returns-in-Committed
unfolding before_rule
returns-in-Committed c = sym (ap (ruled c.args.r) c.in-Committed.is)
