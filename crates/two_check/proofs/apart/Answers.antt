-- Either sheet alone, one after the other.
use Rattle.std.proofs.Common.{◌∙◌}
use Rattle.lists.specs.Basics.{sym, arith}
use Rattle.two_check.specs.Areas.{apart-plain, apart-bookkeeping, apart_keys}
use Rattle.two_check.proofs.apart.Goals as goal

pub returns-then-not-plain_alone : goal.returns-then-not-plain_alone
returns-then-not-plain_alone c =
    let a = c.args in
    apart-plain a.plain.now a.book.now _ (sym c.if-not-plain_alone.true ∙ c.plain_alone.ensures)

pub bookkeeping_alone-requires : goal.bookkeeping_alone-requires
bookkeeping_alone-requires c =
    λ l. omega (arith, c.requires.1 l, c.plain_alone.auto.area)

pub returns-then-not-bookkeeping_alone : goal.returns-then-not-bookkeeping_alone
returns-then-not-bookkeeping_alone c =
    let a = c.args in
    apart-bookkeeping a.plain.now a.book.now _ _ (sym c.if-not-plain_alone.false ∙ c.plain_alone.ensures) c.bookkeeping_alone.ensures c.if-not-bookkeeping_alone.true

pub returns : goal.returns
returns c =
    let a = c.args in
    apart_keys a.plain.now a.book.now _ _ (sym c.if-not-plain_alone.false ∙ c.plain_alone.ensures) c.bookkeeping_alone.ensures c.if-not-bookkeeping_alone.false
