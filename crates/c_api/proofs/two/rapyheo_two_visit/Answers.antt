-- The answer is that of the definition, and its number is the definition's.
use Rattle.std.proofs.Common.{◌∙◌}
use Rattle.lists.specs.Basics.{sym, ap}
use Rattle.model.specs.Types.{Key}
use Rattle.model.specs.Results.{visit}
use Rattle.model.specs.Operations.{once}
use Rattle.model.specs.TwoCalls.{response_two}
use Rattle.answers.specs.Answers.{in_numbers, reply_number}
use Rattle.two_check.specs.Areas.{two}
use Rattle.by_place.specs.Numbers.{one_number, visit_numbered}
use Rattle.c_api.proofs.two.rapyheo_two_visit.Goals as goal

pub returns-in-Ok : goal.returns-in-Ok
returns-in-Ok c =
    let a = c.args in
    let k : Key = record { storage = a.storage; namespace = a.namespace; table = a.table; partition = a.partition; clustering = a.clustering } in
    record {
      answer = c.recovery_number.ensures ∙ (ap (one_number reply_number) (sym (ap in_numbers c.in-Ok.is) ∙ c.visit.ensures.0) ∙ visit_numbered (response_two (once (visit k a.clock)) (two a.plain.now a.book.now a.coordinator.now)));
      plain = c.visit.ensures.1.0;
      bookkeeping = c.visit.ensures.1.1.0;
      decisions = c.visit.ensures.1.1.1;
    }

pub returns-in-Err : goal.returns-in-Err
returns-in-Err c =
    let a = c.args in
    let k : Key = record { storage = a.storage; namespace = a.namespace; table = a.table; partition = a.partition; clustering = a.clustering } in
    record {
      answer = c.refused.ensures ∙ (ap (one_number reply_number) (sym (ap in_numbers c.in-Err.is) ∙ c.visit.ensures.0) ∙ visit_numbered (response_two (once (visit k a.clock)) (two a.plain.now a.book.now a.coordinator.now)));
      plain = c.visit.ensures.1.0;
      bookkeeping = c.visit.ensures.1.1.0;
      decisions = c.visit.ensures.1.1.1;
    }
