-- Case by case in the order of the refusals; what is found is found among the lines before the spares.
use Rattle.std.specs.Prelude.{◌≤◌}
use Rattle.std.proofs.Common.{◌∙◌}
use Rattle.lists.specs.Basics.{sym, ap, subst, ℕ, length-take, take, arith}
use Rattle.model.specs.Records.{records_accepted}
use Rattle.model.specs.Spares.{front}
use Rattle.model.specs.Layouts.{record_bytes}
use Rattle.sheet_laws.specs.Spared.{accepted_lines}
use Rattle.model.specs.Types.{Rank, Ranked}
use Rattle.model.specs.Records.{records, ranked}
use Rattle.sheet_laws.specs.Ranks.{rank-few}
use Rattle.sheets.specs.Answers.{lookup_bad, lookup_out, told}
use Rattle.sheets.proofs.lookup.rank_of.Goals as goal

pub returns-then-not-sheet_ok : goal.returns-then-not-sheet_ok
returns-then-not-sheet_ok c =
    let a = c.args in
    record { told = (lookup_bad a.records.now a.key (sym c.sheet_ok.ensures ∙ c.if-not-sheet_ok.true)).rank; few = omega arith }

pub returns-then-not-key_in_range : goal.returns-then-not-key_in_range
returns-then-not-key_in_range c =
    let a = c.args in
    record { told = (lookup_out a.records.now a.key ((sym c.sheet_ok.ensures ∙ c.if-not-sheet_ok.false)) (sym c.key_in_range.ensures ∙ c.if-not-key_in_range.true)).rank; few = omega arith }

pub lines_end-end-requires : goal.lines_end-end-requires
lines_end-end-requires c = (sym c.sheet_ok.ensures ∙ c.if-not-sheet_ok.false)

pub slice_bounds-rank-end : goal.slice_bounds-rank-end
slice_bounds-rank-end c = simp length-take (omega (arith, c.lines_end-end.ensures.is, c.lines_end-end.ensures.within))

pub rank-requires : goal.rank-requires
unfolding front
rank-requires c =
    let a = c.args in
    record { records_value = ap (λ (n : ℕ). records_accepted (take n a.records.now)) c.lines_end-end.ensures.is ∙ accepted_lines a.records.now ((sym c.sheet_ok.ensures ∙ c.if-not-sheet_ok.false)); key_value = (sym c.key_in_range.ensures ∙ c.if-not-key_in_range.false) }

pub returns : goal.returns
unfolding front
returns c =
    let a = c.args in
    let e = c.rank.ensures ∙ ap (λ (n : ℕ). ranked a.key (records (take n a.records.now))) c.lines_end-end.ensures.is in
    record { told = ap (λ (r : Rank). record { refusal = 0; rank = r }) e ∙ sym (told a.records.now a.key ((sym c.sheet_ok.ensures ∙ c.if-not-sheet_ok.false)) ((sym c.key_in_range.ensures ∙ c.if-not-key_in_range.false))); few = subst (λ (r : Rank). r.below ≤ 500) (sym e) (rank-few a.key (front record_bytes a.records.now) (accepted_lines a.records.now ((sym c.sheet_ok.ensures ∙ c.if-not-sheet_ok.false)))) }
