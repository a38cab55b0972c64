-- Each pass is over the keys of the first sheets, which every pass keeps, and two passes are a sweep.
use Rattle.lists.specs.Basics.{refl, arith}
use Rattle.call_laws.specs.Lifting.{passing_parts}
use Rattle.sweep.specs.Passes.{both, sweep_first, sweep_next, sweep_last, still_lined}
use Rattle.sweep.proofs.passes.sweep.Goals as goal

pub lines_end-end-requires : goal.lines_end-end-requires
lines_end-end-requires c =
    let a = c.args in
    (passing_parts (both a.records.now a.coordinator.now) c.requires).0

pub loop-turn-init : goal.loop-turn-init
loop-turn-init c = (refl, (refl, sweep_first _ _ c.requires))

pub pass-requires : goal.pass-requires
pass-requires c =
    let a = c.args in
    still_lined (both a.records.now a.coordinator.now) _ _ (record { passing = c.requires; at = c.lines_end-end.ensures.is }) c.loop-turn.invariant.1.1.kept

pub loop-turn-preserved : goal.loop-turn-preserved
loop-turn-preserved c =
    (omega arith, (omega arith, sweep_next _ _ (both c.loop-turn.records c.loop-turn.coordinator) _ _ (omega arith) (omega (arith, c.loop-turn-test.true)) c.loop-turn.invariant.1.1 c.pass.ensures))

pub shape_of-records : goal.shape_of-records
shape_of-records c = c.loop-turn.invariant.0

pub shape_of-coordinator : goal.shape_of-coordinator
shape_of-coordinator c = c.loop-turn.invariant.1.0

pub returns : goal.returns
returns c = sweep_last _ _ _ c.loop-turn.turn (omega (arith, c.loop-turn-test.false)) c.loop-turn.invariant.1.1
