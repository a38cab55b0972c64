-- By the state: only an ABSENT record is looked at further.
use Rattle.std.specs.Prelude.{◌&&◌}
use Rattle.lists.specs.Basics.{sym, ap, eqb, true, false}
use Rattle.model.specs.Types.{State}
use Rattle.model.specs.Records.{by_state}
use Rattle.model.specs.Conditions.{is_blank}
use Rattle.adding.proofs.is_blank.Goals as goal

pub returns-in-Absent : goal.returns-in-Absent
unfolding is_blank
returns-in-Absent c =
    let a = c.args in
    sym (ap (λ (x : State). by_state x true false false && eqb a.r.image.version 0) c.in-Absent.is)

pub returns-in-Committed : goal.returns-in-Committed
unfolding is_blank
returns-in-Committed c =
    let a = c.args in
    sym (ap (λ (x : State). by_state x true false false && eqb a.r.image.version 0) c.in-Committed.is)

pub returns-in-Prepared : goal.returns-in-Prepared
unfolding is_blank
returns-in-Prepared c =
    let a = c.args in
    sym (ap (λ (x : State). by_state x true false false && eqb a.r.image.version 0) c.in-Prepared.is)
