-- Case by case in the order of the refusals.
use Rattle.std.proofs.Common.{◌∙◌, Err}
use Rattle.lists.specs.Basics.{sym, ap, arith}
use Rattle.types.specs.declared.Refusal.{Refusal}
use Rattle.transactions.specs.Held.{held_below}
use Rattle.answers.specs.Answers.{in_numbers, to_returned}
use Rattle.answers.specs.Outcomes.{passed_up, some_of, none_of}
use Rattle.cores.specs.Putting.{put_large, put_new, put_over_lem}
use Rattle.cores.proofs.put.put_held.Goals as goal

pub returns-then-not-columns_in_range : goal.returns-then-not-columns_in_range
returns-then-not-columns_in_range c =
    let a = c.args in
    ap (to_returned a.t) (sym (put_large a.t a.key a.columns (sym c.columns_in_range.ensures ∙ c.if-not-columns_in_range.true)))

pub returns-in_err-i : goal.returns-in_err-i
returns-in_err-i c =
    let a = c.args in
    let n = none_of c.ok_or.ensures.ok_part c.ok_or.ensures.value c.in_err-i.was in
    ap in_numbers (passed_up c.from_residual.ensures.1 ∙ ap (λ (r : Refusal). Err r) n.1)
    ∙ ap (to_returned a.t)
    (sym (put_new a.t a.key a.columns (sym c.columns_in_range.ensures ∙ c.if-not-columns_in_range.false) (sym c.held_at.ensures ∙ n.0)))

pub put_at-requires : goal.put_at-requires
put_at-requires c =
    let a = c.args in
    let l = held_below a.t a.key _ (sym c.held_at.ensures ∙ some_of c.ok_or.ensures.ok_part c.in_ok-i.was) in
    let m = c.requires in
    omega arith

pub returns : goal.returns
returns c =
    let a = c.args in
    c.put_at.ensures ∙ ap (to_returned a.t)
    (sym (put_over_lem a.t a.key a.columns _ (sym c.columns_in_range.ensures ∙ c.if-not-columns_in_range.false)
    (sym c.held_at.ensures ∙ some_of c.ok_or.ensures.ok_part c.in_ok-i.was)))
