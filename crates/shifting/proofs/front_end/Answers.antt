-- The lines behind the last one compared are spares.
use Rattle.lists.specs.Basics.{sym, arith}
use Rattle.shifting.specs.Counting.{spares-first, no_spare_lem, one-spare, none_left}
use Rattle.shifting.proofs.front_end.Goals as goal

pub loop-n-init : goal.loop-n-init
loop-n-init c = spares-first c.args.width c.args.s.now

pub returns-then-not-is_spare : goal.returns-then-not-is_spare
returns-then-not-is_spare c =
    let l = c.loop-n in
    no_spare_lem c.args.width c.args.s.now l.n c.loop-n-test.true l.invariant (sym c.if-not-is_spare.ensures)

pub loop-n-preserved : goal.loop-n-preserved
loop-n-preserved c =
    let l = c.loop-n in
    one-spare c.args.width c.args.s.now l.n c.loop-n-test.true l.invariant (sym c.if-not-is_spare.ensures)

pub returns : goal.returns
returns c = none_left c.args.width c.args.s.now c.loop-n.n (omega arith) c.loop-n.invariant
