-- Case by case in the order of the refusals; a key that has a line is read there.
use Rattle.std.proofs.Common.{◌∙◌, Err}
use Rattle.lists.specs.Basics.{sym, ap}
use Rattle.types.specs.declared.Refusal.{Refusal}
use Rattle.model.specs.ByteCalls.{sheets_of}
use Rattle.sheets.specs.Answers.{is_found}
use Rattle.call_laws.specs.Accepted.{outcome_refused}
use Rattle.admission.specs.Admission.{opened}
use Rattle.answers.specs.Answers.{in_numbers, to_read}
use Rattle.answers.specs.Outcomes.{passed_up, some_of, none_of, free_by, refused_by}
use Rattle.reads.specs.Fetching.{fetch_away, fetch_none}
use Rattle.reads.proofs.fetch.Goals as goal

pub open_refusal-requires : goal.open_refusal-requires
open_refusal-requires c = c.requires.decisions

pub returns-in_err-open_refusal : goal.returns-in_err-open_refusal
returns-in_err-open_refusal c =
    let a = c.args in
    let r = refused_by (c.open_refusal.ensures a.records.now) c.in_err-open_refusal.was in
    outcome_refused (to_read a.t) a.records.now a.coordinator.now _
    (fetch_away a.handed a.t a.key a.clock (sheets_of a.records.now a.coordinator.now) _ r.0 (λ z. r.1 (sym r.0 ∙ z)))
    (ap in_numbers (passed_up c.from_residual.ensures.1))

pub find-requires : goal.find-requires
find-requires c =
    let a = c.args in
    record { records_value = c.requires.lines; key_value = (opened a.t a.key (sheets_of a.records.now a.coordinator.now) (free_by (c.open_refusal.ensures a.records.now) c.in_ok-open_refusal.was)).ranged }

pub returns-in_err-i : goal.returns-in_err-i
returns-in_err-i c =
    let a = c.args in
    let n = none_of c.ok_or.ensures.ok_part c.ok_or.ensures.value c.in_err-i.was in
    outcome_refused (to_read a.t) a.records.now a.coordinator.now 6
    (fetch_none a.handed a.t a.key a.clock (sheets_of a.records.now a.coordinator.now)
    (free_by (c.open_refusal.ensures a.records.now) c.in_ok-open_refusal.was)
    (is_found _ _ c.requires.lines c.find.ensures ∙ n.0))
    (ap in_numbers (passed_up c.from_residual-in_err-i.ensures.1 ∙ ap (λ (r : Refusal). Err r) n.1))

pub fetch_found-requires : goal.fetch_found-requires
fetch_found-requires c =
    let a = c.args in
    record {
      accepted = c.requires;
      free = free_by (c.open_refusal.ensures a.records.now) c.in_ok-open_refusal.was;
      index = is_found _ _ c.requires.lines c.find.ensures ∙ some_of c.ok_or.ensures.ok_part c.in_ok-i.was;
    }
