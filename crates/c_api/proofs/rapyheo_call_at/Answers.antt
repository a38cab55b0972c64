-- `is_named` says whether the place is one of the list, and the number that of a call. If so the call is made on the transaction there and what it returns is put back;
-- if not, the sheets go to `unlisted`. The laws of the call by place turn what was called into the contract.
use Rattle.std.specs.Prelude.{Result as Either}
use Rattle.std.proofs.Common.{◌∙◌}
use Rattle.lists.specs.Basics.{sym, ap, rules}
use Rattle.answers.specs.Answers.{in_numbers, number_in}
use Rattle.answers.specs.declared.Performed.{Performed}
use Rattle.types.specs.declared.Refusal.{Refusal}
use Rattle.by_place.specs.Numbers.{one_number}
use Rattle.c_api.specs.ByPlace.{naming-within, named_here, calls-named, calls_unnamed}
use Rattle.c_api.proofs.rapyheo_call_at.Goals as goal

pub slice_copy_out-t : goal.slice_copy_out-t
slice_copy_out-t c = naming-within _ _ _ _ (sym c.is_named.ensures ∙ c.if-not-is_named.false)

pub offset_bounds-list-place : goal.offset_bounds-list-place
offset_bounds-list-place c =
    let below = naming-within _ _ _ _ (sym c.is_named.ensures ∙ c.if-not-is_named.false) in
    search rules

pub put_back-requires : goal.put_back-requires
put_back-requires c = naming-within _ _ _ _ (sym c.is_named.ensures ∙ c.if-not-is_named.false)

pub returns-then-not-is_named : goal.returns-then-not-is_named
returns-then-not-is_named c =
    let a = c.args in
    let out = c.unlisted in
    let all = calls_unnamed a.list.now a.place a.call a.storage a.namespace a.table a.partition a.clustering a.column1 a.column2 a.clock a.limit a.records.now a.coordinator.now
    out.result out.new.records out.new.coordinator (sym c.is_named.ensures ∙ c.if-not-is_named.true) out.ensures.answer out.ensures.lines out.ensures.decisions in
    record { answer = all.0; transactions = all.1.0; lines = all.1.1.0; decisions = all.1.1.1 }

pub returns-in-Ok : goal.returns-in-Ok
returns-in-Ok c =
    let a = c.args in
    let named = sym c.is_named.ensures ∙ c.if-not-is_named.false in
    let here = named_here a.list.now a.place (naming-within _ _ _ _ named) in
    let o = c.perform-performed.ensures in
    let all = calls-named a.list.now a.place a.call a.storage a.namespace a.table a.partition a.clustering a.column1 a.column2 a.clock a.limit a.records.now a.coordinator.now
    (in_numbers c.perform-performed.result) c.perform-performed.new.records c.perform-performed.new.coordinator named (rw (here, c.request-request.ensures) at o.answer) (rw (here, c.request-request.ensures) at o.lines) (rw (here, c.request-request.ensures) at o.decisions) in
    record {
      answer = c.number.ensures ∙ (ap (λ (r : Either Performed Refusal). one_number (λ (p : Performed). number_in p.reply) (in_numbers r)) (sym c.in-Ok.is) ∙ all.0);
      transactions = c.put_back.ensures ∙ all.1.0;
      lines = all.1.1.0;
      decisions = all.1.1.1;
    }

pub returns-in-Err : goal.returns-in-Err
returns-in-Err c =
    let a = c.args in
    let named = sym c.is_named.ensures ∙ c.if-not-is_named.false in
    let here = named_here a.list.now a.place (naming-within _ _ _ _ named) in
    let o = c.perform-performed.ensures in
    let all = calls-named a.list.now a.place a.call a.storage a.namespace a.table a.partition a.clustering a.column1 a.column2 a.clock a.limit a.records.now a.coordinator.now
    (in_numbers c.perform-performed.result) c.perform-performed.new.records c.perform-performed.new.coordinator named (rw (here, c.request-request.ensures) at o.answer) (rw (here, c.request-request.ensures) at o.lines) (rw (here, c.request-request.ensures) at o.decisions) in
    record {
      answer = c.refused.ensures ∙ (ap (λ (r : Either Performed Refusal). one_number (λ (p : Performed). number_in p.reply) (in_numbers r)) (sym c.in-Err.is) ∙ all.0);
      transactions = c.put_back.ensures ∙ all.1.0;
      lines = all.1.1.0;
      decisions = all.1.1.1;
    }
