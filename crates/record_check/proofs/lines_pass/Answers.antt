-- The loop's invariant: what is left from line i on decides as the whole does. A line that is not good, or a key that does not rise, ends it.
use Rattle.std.specs.Prelude.{◌≡◌, ◌-◌}
use Rattle.std.proofs.Common.{◌∙◌}
use Rattle.lists.specs.Basics.{sym, and-false, arith}
use Rattle.record_check.specs.Sheet.{lines_pass, pass_next}
use Rattle.record_check.proofs.lines_pass.Goals as goal

pub loop-i-init : goal.loop-i-init
loop-i-init c =
    let a = c.args in
    let e : a.n - 0 ≡ a.n = omega arith in
    rw e

pub returns-then-not-line_good : goal.returns-then-not-line_good
returns-then-not-line_good c =
    let l = c.loop-i in
    let f = sym c.if-not-line_good.ensures in
    sym (sym l.invariant ∙ (pass_next l.i c.args.n c.args.s.now c.loop-i-test.true ∙ rw f))

pub returns-then-not-key_rises : goal.returns-then-not-key_rises
returns-then-not-key_rises c =
    let l = c.loop-i in
    let f = sym c.if-not-key_rises.ensures in
    sym (sym l.invariant ∙ (pass_next l.i c.args.n c.args.s.now c.loop-i-test.true ∙ rw (f, and-false)))

pub loop-i-preserved : goal.loop-i-preserved
loop-i-preserved c =
    let l = c.loop-i in
    let f = sym c.if-not-line_good.ensures in
    let g = sym c.if-not-key_rises.ensures in
    rw (f, g) at (sym (pass_next l.i c.args.n c.args.s.now c.loop-i-test.true)) ∙ l.invariant

pub returns : goal.returns
unfolding lines_pass
returns c =
    let l = c.loop-i in
    let e : c.args.n - l.i ≡ 0 = omega arith in
    rw e at l.invariant
