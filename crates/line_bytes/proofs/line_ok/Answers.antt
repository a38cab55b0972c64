-- The loop's invariant: what is judged so far, and what is left from byte i on, make up the whole pass.
use Rattle.std.proofs.Common.{◌∙◌}
use Rattle.lists.specs.Basics.{refl, sym, arith}
use Rattle.line_bytes.specs.Tables.{rest, line_ok}
use Rattle.line_bytes.specs.Turns.{lengths, rest_next, rest_end}
use Rattle.line_bytes.proofs.line_ok.Goals as goal

pub returns-then-not-as_long : goal.returns-then-not-as_long
unfolding line_ok
returns-then-not-as_long c = rw (sym c.if-not-as_long.ensures)

pub loop-i-init : goal.loop-i-init
loop-i-init c = (omega arith, refl)

pub stands-good-requires : goal.stands-good-requires
stands-good-requires c =
    let a = c.args in
    let l = c.loop-i in
    let t = lengths a.line.now a.low.now a.high.now a.also.now (sym c.if-not-as_long.ensures) in
    omega (arith, c.requires l.i)

pub loop-i-preserved : goal.loop-i-preserved
loop-i-preserved c =
    let a = c.args in
    let l = c.loop-i in (
      omega arith,
      rest_next
          l.good
          c.stands-good.result
          (rest 1 a.low.now a.high.now a.also.now a.line.now)
          l.i
          a.low.now
          a.high.now
          a.also.now
          a.line.now
          c.loop-i-test.true
          l.invariant.1
          c.stands-good.ensures,
    )

pub returns : goal.returns
unfolding line_ok
returns c =
    let a = c.args in
    let l = c.loop-i in
    rw (sym c.if-not-as_long.ensures)
    (sym (rest_end l.good l.i a.low.now a.high.now a.also.now a.line.now c.loop-i-test.false) ∙ l.invariant.1)
