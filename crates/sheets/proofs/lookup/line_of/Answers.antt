-- Case by case in the order of the refusals; what is found is found among the lines before the spares.
use Rattle.std.specs.Prelude.{◌≤◌}
use Rattle.std.proofs.Common.{◌∙◌}
use Rattle.lists.specs.Basics.{sym, ap, subst, ℕ, length-take, take, arith}
use Rattle.model.specs.Records.{records_accepted}
use Rattle.model.specs.Spares.{front}
use Rattle.sheet_laws.specs.Spared.{accepted_lines}
use Rattle.model.specs.Types.{Ranked}
use Rattle.model.specs.Records.{records}
use Rattle.model.specs.SheetCalls.{line_among}
use Rattle.sheets.specs.Answers.{lookup_bad, lookup_out, line-told}
use Rattle.sheets.proofs.lookup.line_of.Goals as goal

pub returns-then-not-sheet_ok : goal.returns-then-not-sheet_ok
returns-then-not-sheet_ok c =
    let a = c.args in
    record { told = (lookup_bad a.records.now a.key (sym c.sheet_ok.ensures ∙ c.if-not-sheet_ok.true)).line; few = omega arith }

pub returns-then-not-key_in_range : goal.returns-then-not-key_in_range
returns-then-not-key_in_range c =
    let a = c.args in
    record { told = (lookup_out a.records.now a.key ((sym c.sheet_ok.ensures ∙ c.if-not-sheet_ok.false)) (sym c.key_in_range.ensures ∙ c.if-not-key_in_range.true)).line; few = omega arith }

pub lines_end-end-requires : goal.lines_end-end-requires
lines_end-end-requires c = (sym c.sheet_ok.ensures ∙ c.if-not-sheet_ok.false)

pub slice_bounds-line-end : goal.slice_bounds-line-end
slice_bounds-line-end c = simp length-take (omega (arith, c.lines_end-end.ensures.is, c.lines_end-end.ensures.within))

pub line-requires : goal.line-requires
unfolding front
line-requires c =
    let a = c.args in
    record { records_value = ap (λ (n : ℕ). records_accepted (take n a.records.now)) c.lines_end-end.ensures.is ∙ accepted_lines a.records.now ((sym c.sheet_ok.ensures ∙ c.if-not-sheet_ok.false)); key_value = (sym c.key_in_range.ensures ∙ c.if-not-key_in_range.false) }

pub returns : goal.returns
unfolding front
returns c =
    let a = c.args in
    record { told = c.line.ensures.told ∙ (ap (λ (n : ℕ). line_among (records (take n a.records.now)) a.key) c.lines_end-end.ensures.is ∙ line-told a.records.now a.key ((sym c.sheet_ok.ensures ∙ c.if-not-sheet_ok.false)) ((sym c.key_in_range.ensures ∙ c.if-not-key_in_range.false))); few = c.line.ensures.few }
