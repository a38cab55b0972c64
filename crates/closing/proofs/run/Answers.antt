-- The turns from i on, from the close as it now stands, come to what all turns come to from its start.
use Rattle.lists.specs.Basics.{refl, arith}
use Rattle.closing.specs.Running.{underway_next, underway_last}
use Rattle.closing.proofs.run.Goals as goal

pub loop-i-init : goal.loop-i-init
loop-i-init c = (refl, (refl, record { sure = c.requires; rest = refl }))

pub turn-x-requires : goal.turn-x-requires
turn-x-requires c = c.loop-i.invariant.1.1.sure

pub loop-i-preserved : goal.loop-i-preserved
loop-i-preserved c =
    let u = c.loop-i.invariant.1.1 in
    let l = c.loop-i-test.true in
    (omega arith, (omega arith, underway_next _ _ _ _ _ _ _ (omega (arith, l)) u _ _ _ c.turn-x.ensures))

pub shape_of-records : goal.shape_of-records
shape_of-records c = c.loop-i.invariant.0

pub shape_of-coordinator : goal.shape_of-coordinator
shape_of-coordinator c = c.loop-i.invariant.1.0

pub returns : goal.returns
returns c = underway_last _ _ _ _ _ _ _ _ _ c.loop-i.i (omega (arith, c.loop-i-test.false)) c.loop-i.invariant.1.1
