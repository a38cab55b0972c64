-- The engine's answer is that of the definition, and its number is the definition's.
use Rattle.std.proofs.Common.{◌∙◌}
use Rattle.lists.specs.Basics.{sym, ap, ℕ, false}
use Rattle.model.specs.Results.{begin}
use Rattle.model.specs.ByteCalls.{result_on}
use Rattle.answers.specs.Answers.{in_numbers}
use Rattle.by_place.specs.Numbers.{one_number, begin_numbered}
use Rattle.c_api.proofs.rapyheo_begin.Goals as goal

pub returns-in-Ok : goal.returns-in-Ok
returns-in-Ok c =
    let a = c.args in
    let o = c.issue.ensures in
    record {
      answer = ap (one_number (λ (n : ℕ). n)) (sym (ap in_numbers c.in-Ok.is) ∙ o.answer false) ∙ begin_numbered (result_on (begin false) a.records.now a.coordinator.now);
      decisions = o.decisions false;
    }

pub returns-in-Err : goal.returns-in-Err
returns-in-Err c =
    let a = c.args in
    let o = c.issue.ensures in
    record {
      answer = c.refused.ensures
          ∙ (ap (one_number (λ (n : ℕ). n)) (sym (ap in_numbers c.in-Err.is) ∙ o.answer false) ∙ begin_numbered (result_on (begin false) a.records.now a.coordinator.now));
      decisions = o.decisions false;
    }
