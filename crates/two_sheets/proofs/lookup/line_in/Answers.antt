-- Case by case in the order of the refusals; the search is on the joined sheet.
use Rattle.std.proofs.Common.{◌∙◌}
use Rattle.lists.specs.Basics.{sym, ap, subst, true, length-take, arith}
use Rattle.model.specs.Records.{records_accepted}
use Rattle.model.specs.Refusals.{refused_with}
use Rattle.model.specs.Told.{ranked_by, numbered, passed_up}
use Rattle.two_laws.specs.Decision.{joined_accepted}
use Rattle.two_sheets.specs.Lookups.{Ranks, ranks_refused, ranks_out, ranks_line}
use Rattle.two_sheets.proofs.lookup.line_in.Goals as goal

pub returns-in_err-join_lines : goal.returns-in_err-join_lines
returns-in_err-join_lines c =
    let a = c.args in
    subst (Ranks true a.plain.now a.book.now a.key) (sym (ap ranked_by (passed_up c.from_residual.ensures.1))) (ranks_refused a.plain.now a.book.now a.key true _ (ap refused_with (sym c.in_err-join_lines.was) ∙ c.join_lines.ensures.told) (numbered _))

pub returns-then-not-key_in_range : goal.returns-then-not-key_in_range
returns-then-not-key_in_range c =
    let a = c.args in
    ranks_out a.plain.now a.book.now a.key (sym (ap refused_with c.in_ok-join_lines.was) ∙ c.join_lines.ensures.told) true (sym c.key_in_range.ensures ∙ c.if-not-key_in_range.true)

pub overflow_mul-n : goal.overflow_mul-n
overflow_mul-n c = omega (arith, (c.join_lines.ensures.joined (ap refused_with c.in_ok-join_lines.was)).fits, c.join_lines.auto.area)

pub slice_bounds-line-end : goal.slice_bounds-line-end
slice_bounds-line-end c = omega (arith, (c.join_lines.ensures.joined (ap refused_with c.in_ok-join_lines.was)).fits, c.join_lines.auto.area)

pub slice_bounds-line-end-2 : goal.slice_bounds-line-end-2
slice_bounds-line-end-2 c =
    simp length-take (omega (arith, (c.join_lines.ensures.joined (ap refused_with c.in_ok-join_lines.was)).fits, c.join_lines.auto.area))

pub line-requires : goal.line-requires
line-requires c =
    let a = c.args in
    record { records_value = ap records_accepted (c.join_lines.ensures.joined (ap refused_with c.in_ok-join_lines.was)).joined ∙ joined_accepted a.plain.now a.book.now (sym (ap refused_with c.in_ok-join_lines.was) ∙ c.join_lines.ensures.told); key_value = (sym c.key_in_range.ensures ∙ c.if-not-key_in_range.false) }

pub returns : goal.returns
returns c =
    let a = c.args in
    ranks_line a.plain.now a.book.now a.key (sym (ap refused_with c.in_ok-join_lines.was) ∙ c.join_lines.ensures.told) (sym c.key_in_range.ensures ∙ c.if-not-key_in_range.false) _ (c.join_lines.ensures.joined (ap refused_with c.in_ok-join_lines.was)).joined _ c.line.ensures.told c.line.ensures.few (simp length-take (omega (arith, (c.join_lines.ensures.joined (ap refused_with c.in_ok-join_lines.was)).fits, c.join_lines.auto.area))) (c.join_lines.ensures.joined (ap refused_with c.in_ok-join_lines.was)).same
