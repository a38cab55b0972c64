-- The loop's invariant: the lines up to k, whose columns are `number`, are good, or one is not, and the others decide with them.
use Rattle.lists.specs.Basics.{arith}
use Rattle.coordinator_check.specs.Numbers.{now_fits, next_fits}
use Rattle.coordinator_check.specs.Passes.{judged-first, judged_next, judged_last}
use Rattle.coordinator_check.proofs.lines.lines_ok.Goals as goal

pub loop-k-init : goal.loop-k-init
loop-k-init c = judged-first _ _ _ _ _ c.requires.ready

pub next-number-requires : goal.next-number-requires
next-number-requires c =
    let r = c.requires.ready in
    now_fits _ _ c.loop-k.invariant.counted (omega arith)

pub line_ok-good-requires : goal.line_ok-good-requires
line_ok-good-requires c =
    let p = c.requires in
    let r = c.requires.ready in
    record { start_in_bounds = omega arith; number_bound = next_fits _ _ _ c.loop-k.invariant.counted c.next-number.ensures (omega arith); table = p.table }

pub loop-k-preserved : goal.loop-k-preserved
loop-k-preserved c =
    let r = c.requires.ready in
    judged_next _ _ _ _ _ _ _ _ _ c.loop-k-test.true r.few c.next-number.ensures c.line_ok-good.ensures
    c.loop-k.invariant

pub returns : goal.returns
returns c = judged_last _ _ _ _ _ _ _ c.loop-k-test.false c.loop-k.invariant
