-- The line is that of its key, and its visit on the lines of sheets that pass is the definition's.
use Rattle.lists.specs.Basics.{length-take, arith}
use Rattle.engine.specs.Fronts.{front-within}
use Rattle.sweep.specs.Passes.{line_stands, line-visited}
use Rattle.sweep.proofs.passes.visit_line.Goals as goal

pub slice_bounds-visit_line-end : goal.slice_bounds-visit_line-end
slice_bounds-visit_line-end c =
    let a = c.args in
    front-within a.records.now a.coordinator.now c.requires.lined.passing a.end c.requires.lined.at

pub slice_bounds-visit_line-end-2 : goal.slice_bounds-visit_line-end-2
slice_bounds-visit_line-end-2 c =
    let a = c.args in
    simp length-take (omega (arith, front-within a.records.now a.coordinator.now c.requires.lined.passing a.end c.requires.lined.at))

pub visit_line-requires : goal.visit_line-requires
visit_line-requires c =
    let a = c.args in
    line_stands a.records.now a.coordinator.now a.end a.i c.requires.lined c.requires.i_bound

pub returns : goal.returns
returns c =
    let a = c.args in
    line-visited a.records.now a.coordinator.now a.end a.i a.clock c.requires.lined c.visit_line.ensures
