-- By the case of the letter of the line's storage, and which call it is.
use Rattle.std.proofs.Common.{◌∙◌}
use Rattle.lists.specs.Basics.{refl, sym, arith}
use Rattle.recover.specs.Recovering.{line_at}
use Rattle.call_laws.specs.Accepted.{outcome_refused}
use Rattle.answers.specs.Answers.{to_read}
use Rattle.reads.specs.Fetching.{asked_as, letter_case, has_letters, goes_first, goes_whole, goes_large, goes_whole_second}
use Rattle.reads.proofs.fetch_new.Goals as goal

pub slice_bounds-is_lower-end : goal.slice_bounds-is_lower-end
slice_bounds-is_lower-end c =
    let a = c.args in
    omega (arith, has_letters a.t a.clock a.records.now a.coordinator.now a.i c.requires)

pub returns-then-is_lower : goal.returns-then-is_lower
returns-then-is_lower c =
    let a = c.args in
    asked_as a.t (line_at a.records.now a.i).key a.clock a.records.now a.coordinator.now c.in-None.is
    (goes_first a.t a.clock a.records.now a.coordinator.now a.i c.requires (sym (letter_case a.t a.clock a.records.now a.coordinator.now a.i c.requires _ _ c.record_at-storage.ensures c.is_lower-is_lower.ensures) ∙ c.if-is_lower.true) c.first.ensures)

pub returns-else-is_lower : goal.returns-else-is_lower
returns-else-is_lower c =
    let a = c.args in
    goes_whole a.t a.clock a.records.now a.coordinator.now a.i c.requires a.handed (sym (letter_case a.t a.clock a.records.now a.coordinator.now a.i c.requires _ _ c.record_at-storage.ensures c.is_lower-is_lower.ensures) ∙ c.if-is_lower.false) c.read_new.ensures

pub returns-then-not-is_lower : goal.returns-then-not-is_lower
returns-then-not-is_lower c =
    let a = c.args in
    goes_whole a.t a.clock a.records.now a.coordinator.now a.i c.requires a.handed (sym (letter_case a.t a.clock a.records.now a.coordinator.now a.i c.requires _ _ c.record_at-storage.ensures c.is_lower-is_lower.ensures) ∙ c.if-not-is_lower.true) c.read_new-then-not-is_lower.ensures

pub returns-then-not-columns_in_range : goal.returns-then-not-columns_in_range
returns-then-not-columns_in_range c =
    let a = c.args in
    asked_as a.t (line_at a.records.now a.i).key a.clock a.records.now a.coordinator.now c.in-Some.is
    (outcome_refused (to_read a.t) a.records.now a.coordinator.now 7
    (goes_large a.t a.clock a.records.now a.coordinator.now a.i c.requires _ (sym (letter_case a.t a.clock a.records.now a.coordinator.now a.i c.requires _ _ c.record_at-storage.ensures c.is_lower-is_lower.ensures) ∙ c.if-not-is_lower.false) (sym c.columns_in_range.ensures ∙ c.if-not-columns_in_range.true)) refl)

pub returns-else-not-columns_in_range : goal.returns-else-not-columns_in_range
returns-else-not-columns_in_range c =
    let a = c.args in
    asked_as a.t (line_at a.records.now a.i).key a.clock a.records.now a.coordinator.now c.in-Some.is
    (goes_whole_second a.t a.clock a.records.now a.coordinator.now a.i c.requires _ (sym (letter_case a.t a.clock a.records.now a.coordinator.now a.i c.requires _ _ c.record_at-storage.ensures c.is_lower-is_lower.ensures) ∙ c.if-not-is_lower.false) (sym c.columns_in_range.ensures ∙ c.if-not-columns_in_range.false) c.read_new-in-Some.ensures)
