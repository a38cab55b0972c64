-- Lines that aren't whole or too many are refused by their number, the others by the check of the filled sheet.
use Rattle.lists.specs.Basics.{length-take, arith}
use Rattle.two_check.specs.Areas.{plain-cut, plain_many, plain_filled_lem}
use Rattle.two_check.proofs.plain_alone.Goals as goal

pub returns-then-plain-lines : goal.returns-then-plain-lines
returns-then-plain-lines c =
    let a = c.args in
    plain-cut a.plain.now c.if-plain-lines.true

pub returns-then-lines-gt500 : goal.returns-then-lines-gt500
returns-then-lines-gt500 c =
    let a = c.args in
    plain_many a.plain.now c.if-lines-gt500.true

pub slice_bounds-plain_fills-end : goal.slice_bounds-plain_fills-end
slice_bounds-plain_fills-end c = omega (arith, c.requires (omega (arith, c.if-lines-gt500.false)))

pub slice_bounds-plain_fills-end-2 : goal.slice_bounds-plain_fills-end-2
slice_bounds-plain_fills-end-2 c = simp length-take (omega (arith, c.requires (omega (arith, c.if-lines-gt500.false))))

pub plain_fills-requires : goal.plain_fills-requires
plain_fills-requires c = simp length-take (omega (arith, c.requires (omega (arith, c.if-lines-gt500.false))))

pub returns : goal.returns
returns c =
    let a = c.args in
    plain_filled_lem a.plain.now _ c.if-plain-lines.false c.plain_fills.ensures
