-- Each return is one case of `following`.
use Rattle.std.specs.Prelude.{◌*◌, ◌/◌, ◌%◌, ◌^◌}
use Rattle.lists.specs.Basics.{eq-eqb, ne_eqb, lt-ltb, le-ltb}
use Rattle.coordinator_check.specs.Numbers.{following}
use Rattle.coordinator_check.proofs.lines.next.Goals as goal

pub returns-then-number-lt956301312 : goal.returns-then-number-lt956301312
unfolding following
returns-then-number-lt956301312 c = rw (lt-ltb c.args.number (57 * 2 ^ 24) c.if-number-lt956301312.true)

pub returns-then-tens-ne57 : goal.returns-then-tens-ne57
unfolding following
returns-then-tens-ne57 c =
    let n = c.args.number in
    rw (c.gain.ensures.value, le-ltb n (57 * 2 ^ 24) c.if-number-lt956301312.false, ne_eqb (n / 2 ^ 16 % 256) 57 c.if-tens-ne57.true)

pub returns : goal.returns
unfolding following
returns c =
    let n = c.args.number in
    rw (c.gain-2.ensures.value, le-ltb n (57 * 2 ^ 24) c.if-number-lt956301312.false, eq-eqb (n / 2 ^ 16 % 256) 57 c.if-tens-ne57.false)
