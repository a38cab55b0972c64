-- The loop keeps that the bytes to come, read behind the figure so far, end where all bytes do.
use Rattle.std.specs.Prelude.{Some, None}
use Rattle.std.proofs.Common.{◌∙◌}
use Rattle.lists.specs.Basics.{refl, sym}
use Rattle.decimal.specs.Cut.{behind_zero, one_behind, none_behind}
use Rattle.decimal.proofs.behind.Goals as goal

pub loop-b-init : goal.loop-b-init
loop-b-init c = refl

pub returns-then-v-eq0 : goal.returns-then-v-eq0
returns-then-v-eq0 c = sym (behind_zero c.args.high c.args.s.now c.loop-b.b-index c.loop-b-test.true c.loop-b.v c.if-v-eq0.true) ∙ c.loop-b.invariant

pub returns-in_err-v : goal.returns-in_err-v
returns-in_err-v c = c.from_residual.ensures ∙ (sym (one_behind c.args.high c.args.s.now c.loop-b.b-index c.loop-b-test.true c.loop-b.v None c.in_err-v.ensures c.if-v-eq0.false) ∙ c.loop-b.invariant)

pub loop-b-preserved : goal.loop-b-preserved
loop-b-preserved c = sym (one_behind c.args.high c.args.s.now c.loop-b.b-index c.loop-b-test.true c.loop-b.v (Some c.in_ok-v.v) c.in_ok-v.ensures c.if-v-eq0.false) ∙ c.loop-b.invariant

pub returns : goal.returns
returns c = sym (none_behind c.args.high c.loop-b.v c.args.s.now c.loop-b.b-index c.loop-b-test.false) ∙ c.loop-b.invariant
