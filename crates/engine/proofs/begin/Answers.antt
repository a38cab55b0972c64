-- The transaction of the number issued is that of the begin.
use Rattle.std.proofs.Common.{◌∙◌, Ok, Result}
use Rattle.lists.specs.Basics.{sym, ap, ℕ}
use Rattle.types.specs.declared.Refusal.{Refusal}
use Rattle.model.specs.Types.{Transaction}
use Rattle.answers.specs.Answers.{in_numbers}
use Rattle.answers.specs.Outcomes.{passed_up, mapped}
use Rattle.engine.specs.Issuing.{begun_of, issued-begun}
use Rattle.engine.proofs.begin.Goals as goal

pub returns-in_err-number : goal.returns-in_err-number
returns-in_err-number c =
    let a = c.args in
    let o = c.issue.ensures in
    let g = begun_of a.serializable in
    record {
      answer = ap in_numbers (passed_up c.from_residual.ensures.1)
          ∙ (sym (ap (λ (r : Result ℕ Refusal). mapped g (in_numbers r)) c.in_err-number.was)
          ∙ (ap (mapped g) (o.answer a.serializable) ∙ issued-begun a.serializable a.records.now a.coordinator.now));
      decisions = o.decisions a.serializable;
    }

pub returns : goal.returns
returns c =
    let a = c.args in
    let o = c.issue.ensures in
    let g = begun_of a.serializable in
    record {
      answer = ap (λ (t : Transaction). Ok t) c.new_transaction.ensures
          ∙ (sym (ap (λ (r : Result ℕ Refusal). mapped g (in_numbers r)) c.in_ok-number.was)
          ∙ (ap (mapped g) (o.answer a.serializable) ∙ issued-begun a.serializable a.records.now a.coordinator.now));
      decisions = o.decisions a.serializable;
    }
