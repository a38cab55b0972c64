-- By whose line it is: nobody's, another number's, the number's own.
use Rattle.std.proofs.Common.{◌∙◌}
use Rattle.lists.specs.Basics.{sym}
use Rattle.model.specs.Images.{line_expired}
use Rattle.recover.specs.Clocks.{allows_still, allows_other, allows_own}
use Rattle.recover.specs.Recovering.{line_at}
use Rattle.recover.proofs.line_allows.Goals as goal

pub returns-then-not-is_prepared : goal.returns-then-not-is_prepared
returns-then-not-is_prepared c =
    let a = c.args in
    allows_still a.clock a.n (line_at a.records.now a.i) (sym c.is_prepared.ensures ∙ c.if-not-is_prepared.true)

pub returns-then-txid-n : goal.returns-then-txid-n
returns-then-txid-n c =
    let a = c.args in
    allows_other a.clock a.n (line_at a.records.now a.i) (λ e. c.if-txid-n.true (c.txid.ensures ∙ e))

pub returns : goal.returns
unfolding line_expired
returns c =
    let a = c.args in
    let p = sym c.is_prepared.ensures ∙ c.if-not-is_prepared.false in
    let e = sym c.txid.ensures ∙ c.if-txid-n.false in
    (rw c.clock.ensures at c.has_expired.ensures) ∙ allows_own a.clock a.n (line_at a.records.now a.i) p e
