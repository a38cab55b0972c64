-- Each byte written is the next one of the other slice.
use Rattle.lists.specs.Basics.{length-set, arith}
use Rattle.two_join.specs.Joins.{eight_written}
use Rattle.two_join.proofs.copy_eight.Goals as goal

pub bounds-target-at-2 : goal.bounds-target-at-2
bounds-target-at-2 c = simp length-set (omega arith)

pub bounds-target-at-3 : goal.bounds-target-at-3
bounds-target-at-3 c = simp length-set (omega arith)

pub bounds-target-at-4 : goal.bounds-target-at-4
bounds-target-at-4 c = simp length-set (omega arith)

pub bounds-target-at-5 : goal.bounds-target-at-5
bounds-target-at-5 c = simp length-set (omega arith)

pub bounds-target-at-6 : goal.bounds-target-at-6
bounds-target-at-6 c = simp length-set (omega arith)

pub bounds-target-at-7 : goal.bounds-target-at-7
bounds-target-at-7 c = simp length-set (omega arith)

pub bounds-target-at-8 : goal.bounds-target-at-8
bounds-target-at-8 c = simp length-set (omega arith)

pub shape_of-target : goal.shape_of-target
shape_of-target c = simp length-set

pub returns : goal.returns
returns c =
    let a = c.args in
    eight_written a.target.now a.from.now a.at a.start c.requires.at_in_bounds c.requires.start_in_bounds
