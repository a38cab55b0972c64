-- Refused by what is asked of the sheets, or the visit on both joined.
use Rattle.std.proofs.Common.{◌∙◌}
use Rattle.lists.specs.Basics.{sym, ap}
use Rattle.model.specs.Results as model
use Rattle.model.specs.Operations.{once}
use Rattle.answers.specs.Answers.{in_numbers, to_visited}
use Rattle.answers.specs.Outcomes.{passed_up, refused_by}
use Rattle.two_sheets.specs.Performing.{sheets_refused}
use Rattle.two_sheets.proofs.visit_area.Goals as goal

pub returns-in_err-join_checked : goal.returns-in_err-join_checked
returns-in_err-join_checked c =
    let a = c.args in
    let no = refused_by c.join_checked.ensures.answer c.in_err-join_checked.was in
    sheets_refused to_visited (once (model.visit a.key a.clock)) a.plain.now a.book.now a.coordinator.now _ no.0 (λ z. no.1 (sym no.0 ∙ z)) (ap in_numbers (passed_up c.from_residual.ensures.1))
