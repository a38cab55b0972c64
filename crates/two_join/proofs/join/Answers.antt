-- The first i lines are joined; a turn joins one more.
use Rattle.std.specs.Prelude.{◌/◌, ◌≡◌}
use Rattle.std.proofs.Common.{◌∙◌}
use Rattle.lists.specs.Basics.{refl, arith, length}
use Rattle.two_join.specs.Joins.{turn, all-joined, no_line}
use Rattle.model.specs.Layouts.{record_bytes}
use Rattle.two_join.proofs.join.Goals as goal

pub loop-i-init : goal.loop-i-init
loop-i-init c =
    let a = c.args in
    (omega arith, (refl, no_line a.target.now a.plain.now a.book.now))

pub loop-i-preserved : goal.loop-i-preserved
loop-i-preserved c =
    let a = c.args in
    let q = c.requires in
    let l = c.loop-i in
    let t = c.loop-i-test.true in
    let n : length l.target ≡ length a.target.now = c.loop-i.invariant.1.0 in
    let r = turn l.target _ a.plain.now a.book.now l.i (omega (arith, q.plain_len, t)) (omega (arith, q.book_len, t)) (omega (arith, q.target_len, t, n)) l.invariant.1.1 c.join_at.ensures in
    (omega (arith, t), (r.0 ∙ n, r.1))

pub returns : goal.returns
returns c =
    let a = c.args in
    let q = c.requires in
    let l = c.loop-i in
    let m = length a.target.now in
    let f : l.i ≡ m / record_bytes = omega (arith, l.invariant.0, c.loop-i-test.false) in
    all-joined l.target a.plain.now a.book.now m l.i l.invariant.1.0 q.target_len q.plain_len q.book_len f l.invariant.1.1
