-- No line before i differs, so that the first of those from i on is the first of all.
use Rattle.std.specs.Prelude.{◌≡◌}
use Rattle.std.proofs.Common.{◌∙◌}
use Rattle.lists.specs.Basics.{sym, arith}
use Rattle.changes.specs.Lines.{first-all, first-here, first_later, first-none}
use Rattle.changes.proofs.first_differing.Goals as goal

pub loop-i-init : goal.loop-i-init
loop-i-init c = (omega arith, first-all _ _ _)

pub returns-then-line_differs-clause-value : goal.returns-then-line_differs-clause-value
returns-then-line_differs-clause-value c =
    let a = c.args in
    let l = c.loop-i in
    sym (first-here a.before.now a.after.now l.i a.lines
    c.loop-i-test.true (sym c.if-line_differs.ensures))
    ∙ l.invariant.1

pub loop-i-preserved : goal.loop-i-preserved
loop-i-preserved c =
    let a = c.args in
    let l = c.loop-i in (
      omega arith,
      first_later a.before.now a.after.now l.i a.lines
          c.loop-i-test.true (sym c.if-line_differs.ensures)
          ∙ l.invariant.1,
    )

pub returns-clause-value : goal.returns-clause-value
returns-clause-value c =
    let a = c.args in
    let l = c.loop-i in
    let e : l.i ≡ a.lines = omega arith in
    sym (first-none a.before.now a.after.now l.i a.lines e) ∙ l.invariant.1
