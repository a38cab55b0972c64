-- The quotient, times the width, is no more than the whole.
use Rattle.lists.specs.Basics.{length, arith, rules}
use native.Mathlib.Nat.{div-mul-le_self}
use Rattle.model.specs.Spares.{sized}
use Rattle.record_check.proofs.is_sized.Goals as goal

pub nonzero_div-n : goal.nonzero_div-n
nonzero_div-n c = omega (arith, c.requires.le_width)

pub overflow_mul-result : goal.overflow_mul-result
overflow_mul-result c =
    let a = c.args in
    omega (arith, div-mul-le_self (length a.s.now) a.width, c.ranges)

pub returns : goal.returns
unfolding sized
returns c = search rules
