-- The text is made in an array, and put over the first bytes.
use Rattle.lists.specs.Basics.{length-append, length-take, arith, bytes}
use Rattle.sweep.specs.Output.{refusal_printed}
use Rattle.sweep.proofs.print_refusal.Goals as goal

pub slice_bounds-put-end-2 : goal.slice_bounds-put-end-2
slice_bounds-put-end-2 c = simp length-take (omega (arith, c.requires))

pub slice_bounds-put-end-3 : goal.slice_bounds-put-end-3
slice_bounds-put-end-3 c = simp length-append (omega (arith, c.write.auto.s))

pub returns : goal.returns
unfolding bytes
returns c =
    let a = c.args in
    refusal_printed a.n c.write.new.s _ a.output.now c.requires c.write.auto.s c.write.ensures c.put.ensures
