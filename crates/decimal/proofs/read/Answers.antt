-- By where the spaces end, and what the digits behind them make.
use Rattle.std.specs.Prelude.{Some, None}
use Rattle.std.proofs.Common.{◌∙◌}
use Rattle.lists.specs.Basics.{lt-leb, le-leb}
use Rattle.decimal.specs.Cut.{spaces_read, digits_read}
use Rattle.decimal.proofs.read.Goals as goal

pub returns-in_err-start : goal.returns-in_err-start
returns-in_err-start c = c.from_residual.ensures ∙ spaces_read c.args.low c.args.high c.args.s.now c.in_err-start.ensures

pub returns-in_err-v : goal.returns-in_err-v
returns-in_err-v c =
    c.from_residual-in_err-v.ensures ∙ digits_read c.args.low c.args.high c.args.s.now c.in_ok-start.start None c.in_ok-start.ensures c.in_err-v.ensures

pub returns-then-v-low : goal.returns-then-v-low
returns-then-v-low c =
    rw (lt-leb c.args.low c.in_ok-v.v c.if-v-low.true) at (digits_read c.args.low c.args.high c.args.s.now c.in_ok-start.start (Some c.in_ok-v.v) c.in_ok-start.ensures c.in_ok-v.ensures)

pub returns : goal.returns
returns c =
    rw (le-leb c.args.low c.in_ok-v.v c.if-v-low.false) at (digits_read c.args.low c.args.high c.args.s.now c.in_ok-start.start (Some c.in_ok-v.v) c.in_ok-start.ensures c.in_ok-v.ensures)
