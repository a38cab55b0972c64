-- No line from `last` on differs, so that the lines before it reach as far as all do.
use Rattle.std.specs.Prelude.{◌≡◌, ◌+◌, ◌-◌}
use Rattle.std.proofs.Common.{◌∙◌}
use Rattle.lists.specs.Basics.{refl, sym, arith}
use Rattle.changes.specs.Lines.{reach_here, reach_less, reach_none}
use Rattle.changes.proofs.last_reach.Goals as goal

pub loop-last-init : goal.loop-last-init
loop-last-init c = refl

pub returns-then-line_differs-clause-value : goal.returns-then-line_differs-clause-value
returns-then-line_differs-clause-value c =
    let l = c.loop-last in
    let e : l.last - 1 + 1 ≡ l.last = omega arith in
    e ∙ (sym (reach_here c.args.before.now c.args.after.now l.last c.loop-last-test.true (sym c.if-line_differs.ensures)) ∙ l.invariant)

pub loop-last-preserved : goal.loop-last-preserved
loop-last-preserved c =
    let l = c.loop-last in
    reach_less c.args.before.now c.args.after.now l.last c.loop-last-test.true (sym c.if-line_differs.ensures) ∙ l.invariant

pub returns-clause-value : goal.returns-clause-value
returns-clause-value c = sym (reach_none c.args.before.now c.args.after.now c.loop-last.last (omega arith)) ∙ c.loop-last.invariant
