-- Case by case in the order of the refusals; a line that was found is visited there.
use Rattle.std.proofs.Common.{◌∙◌}
use Rattle.lists.specs.Basics.{refl, sym}
use Rattle.model.specs.ByteCalls.{sheets_of}
use Rattle.sheets.specs.Answers.{is_found}
use Rattle.call_laws.specs.Accepted.{outcome_refused}
use Rattle.recover.specs.Recovering.{standing}
use Rattle.answers.specs.Answers.{to_visited}
use Rattle.visits.specs.Visiting.{visit_out, visit_none, visit_found}
use Rattle.visits.proofs.visit.Goals as goal

pub returns-then-not-key_in_range : goal.returns-then-not-key_in_range
returns-then-not-key_in_range c =
    let a = c.args in
    outcome_refused to_visited a.records.now a.coordinator.now 5
    (visit_out a.key a.clock (sheets_of a.records.now a.coordinator.now) (sym c.key_in_range.ensures ∙ c.if-not-key_in_range.true)) refl

pub find-requires : goal.find-requires
find-requires c =
    record { records_value = c.requires.lines; key_value = sym c.key_in_range.ensures ∙ c.if-not-key_in_range.false }

pub returns-in-None : goal.returns-in-None
returns-in-None c =
    let a = c.args in
    outcome_refused to_visited a.records.now a.coordinator.now 6
    (visit_none a.key a.clock (sheets_of a.records.now a.coordinator.now)
    (sym c.key_in_range.ensures ∙ c.if-not-key_in_range.false)
    (is_found _ _ c.requires.lines c.find.ensures ∙ c.in-None.is)) refl

pub visit_line-requires : goal.visit_line-requires
visit_line-requires c =
    let a = c.args in
    standing a.records.now a.coordinator.now a.key _ c.requires (is_found _ _ c.requires.lines c.find.ensures ∙ c.in-Some.is)

pub returns-in-Some : goal.returns-in-Some
returns-in-Some c =
    let a = c.args in
    visit_found a.key a.clock a.records.now a.coordinator.now _ (is_found _ _ c.requires.lines c.find.ensures ∙ c.in-Some.is) c.visit_line.ensures
