-- The visit on the joined sheet, split where it is accepted.
use Rattle.std.specs.Prelude.{◌*◌, ◌/◌}
use Rattle.std.proofs.Common.{◌∙◌}
use Rattle.lists.specs.Basics.{refl, sym, ap, ℕ}
use Rattle.model.specs.Layouts.{record_bytes}
use Rattle.model.specs.Results as model
use Rattle.model.specs.Operations.{once}
use Rattle.model.specs.TwoSheets.{plain_bytes, bookkeeping_bytes}
use Rattle.answers.specs.Answers.{in_numbers, to_visited}
use Rattle.answers.specs.Outcomes.{passed_up}
use Rattle.two_sheets.specs.Performing.{accepted_area, plain_size, bookkeeping-size, nothing_split, both_split, visited_tells, visit_said, visit_lines, visit_decisions}
use Rattle.two_sheets.proofs.visit_joined.Goals as goal

pub visit-requires : goal.visit-requires
visit-requires c =
    let a = c.args in
    accepted_area a.plain.now a.book.now a.coordinator.now a.area.now c.requires

pub returns-in_err-met : goal.returns-in_err-met
returns-in_err-met c =
    let a = c.args in
    let h = c.visit.ensures in
    let up = ap in_numbers (passed_up c.from_residual.ensures.1) in
    nothing_split to_visited (once (model.visit a.key a.clock)) a.plain.now a.book.now a.coordinator.now a.area.now c.requires visited_tells _ _ _ (up ∙ sym (ap in_numbers c.in_err-met.was) ∙ visit_said a.key a.clock a.area.now a.coordinator.now h) (visit_lines a.key a.clock a.area.now a.coordinator.now h) (visit_decisions a.key a.clock a.area.now a.coordinator.now h) up

pub split_plain-requires : goal.split_plain-requires
split_plain-requires c =
    let a = c.args in
    plain_size a.plain.now a.book.now a.coordinator.now a.area.now c.requires ∙ ap (λ (n : ℕ). n / record_bytes * plain_bytes) (sym c.visit.auto.records)

pub split_bookkeeping-requires : goal.split_bookkeeping-requires
split_bookkeeping-requires c =
    let a = c.args in
    bookkeeping-size a.plain.now a.book.now a.coordinator.now a.area.now c.requires ∙ ap (λ (n : ℕ). n / record_bytes * bookkeeping_bytes) (sym c.visit.auto.records)

pub returns : goal.returns
returns c =
    let a = c.args in
    let h = c.visit.ensures in
    both_split to_visited (once (model.visit a.key a.clock)) a.plain.now a.book.now a.coordinator.now a.area.now c.requires visited_tells _ _ _ (ap in_numbers (sym c.in_ok-met.was) ∙ visit_said a.key a.clock a.area.now a.coordinator.now h) (visit_lines a.key a.clock a.area.now a.coordinator.now h) (visit_decisions a.key a.clock a.area.now a.coordinator.now h) refl c.split_plain.ensures c.split_bookkeeping.ensures
