-- Lines that aren't whole or too many are refused by their number, the others by the check of the filled sheet, which stays in the area.
use Rattle.std.proofs.Common.{◌∙◌}
use Rattle.lists.specs.Basics.{length-take, arith}
use Rattle.model.specs.TwoSheets.{bookkeeping_bytes}
use Rattle.two_check.specs.Areas.{joined_size, front_is, bookkeeping-cut, bookkeeping_many, bookkeeping-filled}
use Rattle.two_check.proofs.bookkeeping_alone.Goals as goal

pub returns-then-book-lines : goal.returns-then-book-lines
returns-then-book-lines c =
    let a = c.args in
    bookkeeping-cut a.book.now _ c.if-book-lines.true

pub returns-then-lines-gt500 : goal.returns-then-lines-gt500
returns-then-lines-gt500 c =
    let a = c.args in
    bookkeeping_many a.book.now _ c.if-lines-gt500.true

pub slice_bounds-bookkeeping_fills-end : goal.slice_bounds-bookkeeping_fills-end
slice_bounds-bookkeeping_fills-end c = omega (arith, c.requires (omega (arith, c.if-lines-gt500.false)))

pub slice_bounds-bookkeeping_fills-end-2 : goal.slice_bounds-bookkeeping_fills-end-2
slice_bounds-bookkeeping_fills-end-2 c = simp length-take (omega (arith, c.requires (omega (arith, c.if-lines-gt500.false))))

pub bookkeeping_fills-requires : goal.bookkeeping_fills-requires
bookkeeping_fills-requires c = simp length-take (omega (arith, c.requires (omega (arith, c.if-lines-gt500.false))))

pub returns : goal.returns
returns c =
    let a = c.args in
    bookkeeping-filled a.book.now _ _ c.if-book-lines.false (front_is (joined_size bookkeeping_bytes a.book.now) c.bookkeeping_fills.new.target a.area.now c.bookkeeping_fills.auto.target (c.requires (omega (arith, c.if-lines-gt500.false))) ∙ c.bookkeeping_fills.ensures.filled) c.bookkeeping_fills.ensures.answer
