-- The first word is what stands before the first space, and the other words are read after it.
use Rattle.std.specs.Prelude.{◌≡◌}
use Rattle.std.proofs.Common.{◌∙◌}
use Rattle.lists.specs.Basics.{ap₂, length, length-take, arith}
use Rattle.script.specs.Lines.{called, up_to, said_read}
use Rattle.script.proofs.scan.parse.Goals as goal

pub slice_bounds-kind_of-end : goal.slice_bounds-kind_of-end
slice_bounds-kind_of-end c = simp length-take (omega arith)

pub returns : goal.returns
returns c = let a = c.args in
    let s = c.args.line.now in
    let end = c.end_of-end.result in
    let e : end ≡ length (up_to 32 s) = omega arith in
    c.called.ensures ∙ (ap₂ (called a.two) c.kind_of-kind.ensures c.numbers_after-numbers.ensures ∙ said_read a.two s end e)
