-- Case by case in the order of the refusals; what is asked of the records is asked of the lines before the spares.
use Rattle.std.proofs.Common.{◌∙◌}
use Rattle.lists.specs.Basics.{sym, ap, ℕ, length-take, take, arith}
use Rattle.model.specs.Records.{records_accepted}
use Rattle.model.specs.Spares.{front}
use Rattle.sheet_laws.specs.Spared.{accepted_lines}
use Rattle.model.specs.SheetCalls.{all_issued}
use Rattle.sheet_laws.specs.Decisions.{accepted_parts}
use Rattle.sheets.specs.Answers.{check_bad, check_coordinator, check_unissued, check_good}
use Rattle.sheets.proofs.check.check.Goals as goal

pub returns-then-not-sheet_ok : goal.returns-then-not-sheet_ok
returns-then-not-sheet_ok c =
    let a = c.args in
    check_bad a.records.now a.coordinator.now (sym c.sheet_ok.ensures ∙ c.if-not-sheet_ok.true)

pub returns-then-not-coordinator_ok : goal.returns-then-not-coordinator_ok
returns-then-not-coordinator_ok c =
    let a = c.args in
    check_coordinator a.records.now a.coordinator.now ((sym c.sheet_ok.ensures ∙ c.if-not-sheet_ok.false)) (sym c.coordinator_ok.ensures ∙ c.if-not-coordinator_ok.true)

pub lines_end-end-requires : goal.lines_end-end-requires
lines_end-end-requires c = (sym c.sheet_ok.ensures ∙ c.if-not-sheet_ok.false)

pub slice_bounds-all_issued-end : goal.slice_bounds-all_issued-end
slice_bounds-all_issued-end c = simp length-take (omega (arith, c.lines_end-end.ensures.is, c.lines_end-end.ensures.within))

pub all_issued-requires : goal.all_issued-requires
unfolding front
all_issued-requires c =
    let a = c.args in
    record { records_value = ap (λ (n : ℕ). records_accepted (take n a.records.now)) c.lines_end-end.ensures.is ∙ accepted_lines a.records.now ((sym c.sheet_ok.ensures ∙ c.if-not-sheet_ok.false)); coordinator_value = (accepted_parts _ ((sym c.coordinator_ok.ensures ∙ c.if-not-coordinator_ok.false))).0 }

pub returns-then-not-all_issued : goal.returns-then-not-all_issued
unfolding front
returns-then-not-all_issued c =
    let a = c.args in
    check_unissued a.records.now a.coordinator.now ((sym c.sheet_ok.ensures ∙ c.if-not-sheet_ok.false)) ((sym c.coordinator_ok.ensures ∙ c.if-not-coordinator_ok.false)) (ap (λ (n : ℕ). all_issued (take n a.records.now) a.coordinator.now) (sym c.lines_end-end.ensures.is) ∙ (sym c.all_issued.ensures ∙ c.if-not-all_issued.true))

pub returns : goal.returns
unfolding front
returns c =
    let a = c.args in
    check_good a.records.now a.coordinator.now ((sym c.sheet_ok.ensures ∙ c.if-not-sheet_ok.false)) ((sym c.coordinator_ok.ensures ∙ c.if-not-coordinator_ok.false)) (ap (λ (n : ℕ). all_issued (take n a.records.now) a.coordinator.now) (sym c.lines_end-end.ensures.is) ∙ (sym c.all_issued.ensures ∙ c.if-not-all_issued.false))
