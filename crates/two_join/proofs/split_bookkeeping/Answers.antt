-- The first i lines are cut; a turn cuts one more.
use Rattle.std.specs.Prelude.{◌*◌, ◌/◌, ◌≡◌}
use Rattle.std.proofs.Common.{◌∙◌}
use Rattle.lists.specs.Basics.{refl, length, arith}
use Rattle.model.specs.Layouts.{record_bytes}
use Rattle.model.specs.TwoSheets.{bookkeeping_bytes, bookkeeping_line, bookkeeping_part}
use Rattle.two_laws.specs.TwoLines.{length-bookkeeping_line}
use Rattle.two_join.specs.Splits.{line-turn, no_cut, all-cut}
use Rattle.two_join.proofs.split_bookkeeping.Goals as goal

pub loop-i-init : goal.loop-i-init
loop-i-init c =
    let a = c.args in
    (omega arith, (refl, no_cut record_bytes bookkeeping_line a.area.now a.book.now (0 * bookkeeping_bytes) (omega arith)))

pub loop-i-preserved : goal.loop-i-preserved
loop-i-preserved c =
    let a = c.args in
    let q = c.requires in
    let l = c.loop-i in
    let t = c.loop-i-test.true in
    let n : length l.book ≡ length a.book.now = c.loop-i.invariant.1.0 in
    let r = line-turn record_bytes bookkeeping_line a.area.now bookkeeping_bytes length-bookkeeping_line l.book _ l.i (omega (arith, t)) (omega (arith, q, t, n)) l.invariant.1.1 c.bookkeeping_at.ensures in
    (omega (arith, t), (r.0 ∙ n, r.1))

pub returns : goal.returns
unfolding bookkeeping_part
returns c =
    let a = c.args in
    let q = c.requires in
    let l = c.loop-i in
    let f : l.i ≡ length a.area.now / record_bytes = omega (arith, l.invariant.0, c.loop-i-test.false) in
    all-cut record_bytes bookkeeping_line a.area.now l.book l.i (l.i * bookkeeping_bytes) (omega (arith, l.invariant.1.0, q, f)) f l.invariant.1.1
