-- By what the visit came to: nothing written, one line, or one decision.
use Rattle.std.proofs.Common.{inl, inr}
use Rattle.lists.specs.Basics.{rules}
use Rattle.model.specs.Visits.{recovery_write}
use Rattle.call_laws.specs.Accepted.{written_nothing}
use Rattle.recover.specs.Recovering.{pending, settle_forward, settle_back, settle_again}
use Rattle.recover.proofs.settle.Goals as goal

pub returns-in-Stays : goal.returns-in-Stays
unfolding recovery_write
returns-in-Stays c =
    let w = written_nothing c.args.records.now c.args.decisions.now c.requires.standing.accepted in
    elim c.in-Stays.is [
      | inl e ↦ rw e w
      | inr e ↦ rw e w
    ]

pub returns-in-Forward : goal.returns-in-Forward
unfolding recovery_write pending
returns-in-Forward c =
    let a = c.args in
    rw c.in-Forward.is
    (settle_forward a.records.now a.decisions.now a.i c.requires.standing
    (rw c.in-Forward.is at c.requires.pending)
    (search rules))

pub returns-in-Back : goal.returns-in-Back
unfolding recovery_write pending
returns-in-Back c =
    let a = c.args in
    rw c.in-Back.is
    (settle_back a.records.now a.decisions.now a.i c.requires.standing
    (rw c.in-Back.is at c.requires.pending)
    (search rules))

pub returns-in-Again : goal.returns-in-Again
unfolding recovery_write pending
returns-in-Again c =
    let a = c.args in
    rw c.in-Again.is
    (settle_again a.records.now a.decisions.now a.i c.requires.standing
    (rw c.in-Again.is at
    c.requires.pending)
    (rw c.txid-owner.ensures at c.set_decision.ensures))
