-- The first i lines are filled; a turn fills one more.
use Rattle.std.specs.Prelude.{◌*◌, ◌/◌, ◌≡◌}
use Rattle.std.proofs.Common.{◌∙◌}
use Rattle.lists.specs.Basics.{refl, length, arith}
use Rattle.model.specs.Layouts.{record_bytes}
use Rattle.model.specs.TwoSheets.{plain_bytes}
use Rattle.two_laws.specs.Deciding.{fill_plain, filled_plain}
use Rattle.two_laws.specs.TwoLines.{length-fill_plain}
use Rattle.two_join.specs.Splits.{line-turn, no_cut, all-cut}
use Rattle.two_join.proofs.fill.plain.Goals as goal

pub loop-i-init : goal.loop-i-init
loop-i-init c =
    let a = c.args in
    (omega arith, (refl, no_cut plain_bytes fill_plain a.plain.now a.target.now (0 * record_bytes) (omega arith)))

pub loop-i-preserved : goal.loop-i-preserved
loop-i-preserved c =
    let a = c.args in
    let q = c.requires in
    let l = c.loop-i in
    let t = c.loop-i-test.true in
    let n : length l.target ≡ length a.target.now = c.loop-i.invariant.1.0 in
    let r = line-turn plain_bytes fill_plain a.plain.now record_bytes length-fill_plain l.target _ l.i (omega (arith, t)) (omega (arith, q, t, n)) l.invariant.1.1 c.plain_at.ensures in
    (omega (arith, t), (r.0 ∙ n, r.1))

pub returns : goal.returns
unfolding filled_plain
returns c =
    let a = c.args in
    let q = c.requires in
    let l = c.loop-i in
    let f : l.i ≡ length a.plain.now / plain_bytes = omega (arith, l.invariant.0, c.loop-i-test.false) in
    all-cut plain_bytes fill_plain a.plain.now l.target l.i (l.i * record_bytes) (omega (arith, l.invariant.1.0, q, f)) f l.invariant.1.1
