-- The rows from i on are spares.
use Rattle.std.specs.Prelude.{◌≡◌, ◌+◌, ◌-◌}
use Rattle.std.proofs.Common.{◌∙◌}
use Rattle.lists.specs.Basics.{sym, subst, arith}
use Rattle.numbers.specs.Spares.{SparesFrom, spares-first, no_spare_lem, one-spare}
use Rattle.numbers.proofs.rows.filled_rows.Goals as goal

pub loop-i-init : goal.loop-i-init
loop-i-init c = spares-first c.args.numbers.now

pub returns-then-not-all_zero : goal.returns-then-not-all_zero
returns-then-not-all_zero c =
    let here : c.loop-i.i ≡ c.loop-i.i - 1 + 1 = omega arith in
    no_spare_lem c.args.numbers.now (c.loop-i.i - 1) (subst (SparesFrom c.args.numbers.now) here c.loop-i.invariant) (sym c.all_zero.ensures ∙ c.if-not-all_zero.true)

pub loop-i-preserved : goal.loop-i-preserved
loop-i-preserved c =
    let here : c.loop-i.i ≡ c.loop-i.i - 1 + 1 = omega arith in
    one-spare c.args.numbers.now (c.loop-i.i - 1) (subst (SparesFrom c.args.numbers.now) here c.loop-i.invariant) (sym c.all_zero.ensures ∙ c.if-not-all_zero.false)
