-- The first digit, and those behind it.
use Rattle.std.specs.Prelude.{Some, None}
use Rattle.std.proofs.Common.{◌∙◌}
use Rattle.decimal.specs.Cut.{first_digit, no_digit}
use Rattle.decimal.proofs.digits.Goals as goal

pub returns-in_err-first : goal.returns-in_err-first
returns-in_err-first c = c.from_residual.ensures ∙ no_digit c.args.high c.args.s.now c.in_err-first.ensures.cases

pub returns-in_err-digit : goal.returns-in_err-digit
returns-in_err-digit c =
    c.from_residual-in_err-digit.ensures
    ∙ first_digit c.args.high c.in_ok-first.first.now None c.args.s.now c.in_ok-first.rest.now c.in_err-digit.ensures c.in_ok-first.ensures.cases.0

pub returns : goal.returns
returns c =
    c.behind.ensures
    ∙ first_digit c.args.high c.in_ok-first.first.now (Some c.in_ok-digit.field-0) c.args.s.now c.in_ok-first.rest.now c.in_ok-digit.ensures c.in_ok-first.ensures.cases.0
