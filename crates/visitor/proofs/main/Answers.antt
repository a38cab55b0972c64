-- What `run` answers lies within the output.
use Rattle.lists.specs.Basics.{sym}
use Rattle.std.proofs.Math.Seq.{length-take-le}
use Rattle.sweep.specs.Output.{answer-within}
use Rattle.visitor.proofs.main.Goals as goal

pub slice_bounds-output-end : goal.slice_bounds-output-end
slice_bounds-output-end c = answer-within _ _ _ _ _ c.run-printed.ensures.answer c.run-printed.ensures.output

pub slice_bounds-write-end : goal.slice_bounds-write-end
slice_bounds-write-end c = sym (length-take-le _ _ (answer-within _ _ _ _ _ c.run-printed.ensures.answer c.run-printed.ensures.output))
