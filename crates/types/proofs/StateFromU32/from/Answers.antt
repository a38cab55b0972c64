-- By the number: past the last word, two more than some number.
use Rattle.types.specs.Numbers.{state_of, state_else}
use Rattle.types.proofs.StateFromU32.from.Goals as goal

pub returns-in-0 : goal.returns-in-0
unfolding state_of
returns-in-0 c = rw c.in-0.is

pub returns-in-1 : goal.returns-in-1
unfolding state_of
returns-in-1 c = rw c.in-1.is

pub returns-in_default : goal.returns-in_default
returns-in_default c = state_else _ c.in_default.in_default-own.rest.0.1 c.in_default.in_default-own.rest.1
