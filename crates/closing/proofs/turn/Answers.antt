-- By the tests, in the order in which the code asks: done, a step that writes nothing, the limit used up, a step that writes.
use Rattle.std.proofs.Common.{◌∙◌}
use Rattle.lists.specs.Basics.{refl, sym, arith, rules}
use Rattle.closing.specs.Running.{sure_ready, turned_done, turned_quiet, turned_spent, turned_writes}
use Rattle.closing.proofs.turn.Goals as goal

pub returns-then-x : goal.returns-then-x
returns-then-x c = turned_done _ _ _ _ _ c.requires c.if-x.true

pub writes-requires : goal.writes-requires
writes-requires c = sure_ready _ _ _ _ c.requires

pub step-next-requires : goal.step-next-requires
step-next-requires c = sure_ready _ _ _ _ c.requires

pub returns-then-not-writes : goal.returns-then-not-writes
returns-then-not-writes c =
    let f = c.ranges in
    turned_quiet c.args.clock _ _ _ _ c.requires (omega (arith, f)) _ _ _ c.step-next.ensures
    c.if-x.false
    (sym (c.writes.ensures _)
    ∙ c.if-not-writes.true)
    refl refl

pub returns-then-x-eq0 : goal.returns-then-x-eq0
returns-then-x-eq0 c =
    turned_spent _ _ _ _ _ c.requires
    (sym (c.writes.ensures _) ∙ c.if-not-writes.false) c.if-x-eq0.true

pub step-next-requires-2 : goal.step-next-requires-2
step-next-requires-2 c = sure_ready _ _ _ _ c.requires

pub overflow_add-result : goal.overflow_add-result
overflow_add-result c =
    let h = c.requires.counted in
    let z = c.if-x-eq0.false in
    search (rules, h, z)

pub returns : goal.returns
returns c =
    let f = c.ranges in
    turned_writes c.args.clock _ _ _ _ c.requires (omega (arith, f)) _ _ _ c.step-next-2.ensures
    c.if-x.false
    (sym (c.writes.ensures _) ∙ c.if-not-writes.false)
    c.if-x-eq0.false refl refl
