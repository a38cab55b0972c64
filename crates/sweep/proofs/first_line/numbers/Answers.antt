-- Each figure, read from the input itself, is the definition's number.
use Rattle.std.proofs.Common.{◌∙◌}
use Rattle.lists.specs.Basics.{ap}
use Rattle.decimal.specs.Field.{number}
use Rattle.sweep.specs.FirstLine.{lines_read, decisions_read_lem, clock_read}
use Rattle.sweep.proofs.first_line.numbers.Goals as goal

pub returns : goal.returns
returns c =
    let a1 = c.args in
    let a = c.unwrap_or-lines.ensures ∙ (ap number c.read.ensures ∙ lines_read a1.input.now) in
    let b = c.unwrap_or-decisions.ensures ∙ (ap number c.read-2.ensures ∙ decisions_read_lem a1.input.now) in
    let d = c.unwrap_or-clock.ensures ∙ (ap number c.read-3.ensures ∙ clock_read a1.input.now) in
    λ i. record { lines = a i; decisions = b i; clock = d i }
