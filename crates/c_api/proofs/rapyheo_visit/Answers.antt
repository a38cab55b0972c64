-- The engine's answer is that of the definition, and its number is the definition's.
use Rattle.std.proofs.Common.{◌∙◌}
use Rattle.lists.specs.Basics.{sym, ap}
use Rattle.model.specs.Types.{Key}
use Rattle.model.specs.Results.{visit}
use Rattle.model.specs.ByteCalls.{result_on}
use Rattle.answers.specs.Answers.{in_numbers, reply_number}
use Rattle.by_place.specs.Numbers.{one_number, visit_numbered}
use Rattle.c_api.proofs.rapyheo_visit.Goals as goal

pub returns-in-Ok : goal.returns-in-Ok
returns-in-Ok c =
    let a = c.args in
    let k : Key = record { storage = a.storage; namespace = a.namespace; table = a.table; partition = a.partition; clustering = a.clustering } in
    record {
      answer = c.recovery_number.ensures ∙ (ap (one_number reply_number) (sym (ap in_numbers c.in-Ok.is) ∙ c.visit.ensures.answer) ∙ visit_numbered (result_on (visit k a.clock) a.records.now a.coordinator.now));
      lines = c.visit.ensures.lines;
      decisions = c.visit.ensures.decisions;
    }

pub returns-in-Err : goal.returns-in-Err
returns-in-Err c =
    let a = c.args in
    let k : Key = record { storage = a.storage; namespace = a.namespace; table = a.table; partition = a.partition; clustering = a.clustering } in
    record {
      answer = c.refused.ensures ∙ (ap (one_number reply_number) (sym (ap in_numbers c.in-Err.is) ∙ c.visit.ensures.answer) ∙ visit_numbered (result_on (visit k a.clock) a.records.now a.coordinator.now));
      lines = c.visit.ensures.lines;
      decisions = c.visit.ensures.decisions;
    }
