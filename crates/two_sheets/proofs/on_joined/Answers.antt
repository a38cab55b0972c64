-- The call on the joined sheet, split where it is accepted.
use Rattle.std.specs.Prelude.{◌*◌, ◌/◌}
use Rattle.std.proofs.Common.{◌∙◌}
use Rattle.lists.specs.Basics.{refl, sym, ap, ℕ}
use Rattle.model.specs.Layouts.{record_bytes}
use Rattle.model.specs.Requests.{operation_of}
use Rattle.model.specs.TwoSheets.{plain_bytes, bookkeeping_bytes}
use Rattle.answers.specs.Answers.{in_numbers, to_performed}
use Rattle.answers.specs.Outcomes.{passed_up}
use Rattle.two_sheets.specs.Performing.{accepted_area, plain_size, bookkeeping-size, nothing_split, both_split, performed_tells}
use Rattle.two_sheets.proofs.on_joined.Goals as goal

pub perform-requires : goal.perform-requires
perform-requires c =
    let a = c.args in
    accepted_area a.plain.now a.book.now a.coordinator.now a.area.now c.requires

pub returns-in_err-performed : goal.returns-in_err-performed
returns-in_err-performed c =
    let a = c.args in
    let up = ap in_numbers (passed_up c.from_residual.ensures.1) in
    nothing_split (to_performed a.t) (operation_of a.request a.t) a.plain.now a.book.now a.coordinator.now a.area.now c.requires (performed_tells a.t) _ _ _ (up ∙ sym (ap in_numbers c.in_err-performed.was) ∙ c.perform.ensures.answer) c.perform.ensures.lines c.perform.ensures.decisions up

pub split_plain-requires : goal.split_plain-requires
split_plain-requires c =
    let a = c.args in
    plain_size a.plain.now a.book.now a.coordinator.now a.area.now c.requires ∙ ap (λ (n : ℕ). n / record_bytes * plain_bytes) (sym c.perform.auto.records)

pub split_bookkeeping-requires : goal.split_bookkeeping-requires
split_bookkeeping-requires c =
    let a = c.args in
    bookkeeping-size a.plain.now a.book.now a.coordinator.now a.area.now c.requires ∙ ap (λ (n : ℕ). n / record_bytes * bookkeeping_bytes) (sym c.perform.auto.records)

pub returns : goal.returns
returns c =
    let a = c.args in
    let said = ap in_numbers (sym c.in_ok-performed.was) in
    both_split (to_performed a.t) (operation_of a.request a.t) a.plain.now a.book.now a.coordinator.now a.area.now c.requires (performed_tells a.t) _ _ _ (said ∙ c.perform.ensures.answer) c.perform.ensures.lines c.perform.ensures.decisions refl c.split_plain.ensures c.split_bookkeeping.ensures
