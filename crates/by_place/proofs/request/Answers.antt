-- By the number of the call; past those that are matched it is an abort.
use Rattle.lists.specs.Basics.{sym}
use Rattle.lists.specs.Chosen.{past_arms}
use Rattle.by_place.specs.Asked.{request_of, past_calls}
use Rattle.by_place.proofs.request.Goals as goal

pub returns-in-0 : goal.returns-in-0
unfolding request_of
returns-in-0 c = rw c.in-0.is

pub returns-in-1 : goal.returns-in-1
unfolding request_of
returns-in-1 c = rw c.in-1.is

pub returns-in-2 : goal.returns-in-2
unfolding request_of
returns-in-2 c = rw c.in-2.is

pub returns-in-3 : goal.returns-in-3
unfolding request_of
returns-in-3 c = rw c.in-3.is

pub returns-in-4 : goal.returns-in-4
unfolding request_of
returns-in-4 c = rw c.in-4.is

pub returns-in-5 : goal.returns-in-5
unfolding request_of
returns-in-5 c = rw c.in-5.is

pub returns-in-6 : goal.returns-in-6
unfolding request_of
returns-in-6 c = rw c.in-6.is

pub returns-in-7 : goal.returns-in-7
unfolding request_of
returns-in-7 c = rw c.in-7.is

pub returns-in_default : goal.returns-in_default
returns-in_default c =
    let a = c.args in
    sym (past_calls a.call a.key a.columns a.clock a.limit (past_arms 8 a.call c.in_default.in_default-own.rest))
