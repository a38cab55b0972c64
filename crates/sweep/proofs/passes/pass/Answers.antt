-- The keys from line i on, visited from the sheets as they now are, come to what all keys come to from the first sheets.
use Rattle.lists.specs.Basics.{refl, arith}
use Rattle.sweep.specs.Passes.{both, pass-first, pass_next, pass_last, still_lined}
use Rattle.sweep.proofs.passes.pass.Goals as goal

pub loop-i-init : goal.loop-i-init
loop-i-init c = (refl, (refl, pass-first _ _ c.requires.passing))

pub visit_line-requires : goal.visit_line-requires
visit_line-requires c =
    let a = c.args in
    record { lined = still_lined _ _ a.end c.requires c.loop-i.invariant.1.1.kept; i_bound = omega (arith, c.loop-i-test.true) }

pub loop-i-preserved : goal.loop-i-preserved
loop-i-preserved c =
    let a = c.args in
    (omega arith, (omega arith, pass_next _ _ (both c.loop-i.records c.loop-i.coordinator) _ a.end _ (omega arith) c.requires (omega (arith, c.loop-i-test.true)) c.loop-i.invariant.1.1 c.visit_line.ensures))

pub shape_of-records : goal.shape_of-records
shape_of-records c = c.loop-i.invariant.0

pub shape_of-coordinator : goal.shape_of-coordinator
shape_of-coordinator c = c.loop-i.invariant.1.0

pub returns : goal.returns
returns c =
    let a = c.args in
    pass_last _ _ _ a.end c.loop-i.i c.requires (omega (arith, c.loop-i-test.false)) c.loop-i.invariant.1.1
