-- Case by case in the order of the refusals; a key that has a line is put as its entry tells.
use Rattle.std.proofs.Common.{◌∙◌, Err}
use Rattle.lists.specs.Basics.{sym, ap}
use Rattle.types.specs.declared.Refusal.{Refusal}
use Rattle.model.specs.ByteCalls.{sheets_of}
use Rattle.sheets.specs.Answers.{is_found}
use Rattle.admission.specs.Admission.{opened}
use Rattle.answers.specs.Answers.{in_numbers, to_returned}
use Rattle.answers.specs.Outcomes.{passed_up, some_of, none_of, free_by, refused_by}
use Rattle.cores.specs.Putting.{put_away, put_none, put_found}
use Rattle.cores.proofs.put.put.Goals as goal

pub open_refusal-requires : goal.open_refusal-requires
open_refusal-requires c = c.requires.decisions

pub returns-in_err-open_refusal : goal.returns-in_err-open_refusal
returns-in_err-open_refusal c =
    let a = c.args in
    let r = refused_by (c.open_refusal.ensures a.records.now) c.in_err-open_refusal.was in
    ap in_numbers (passed_up c.from_residual.ensures.1)
    ∙ ap (to_returned a.t) (sym (put_away a.t a.key a.columns (sheets_of a.records.now a.coordinator.now) _ r.0 (λ z. r.1 (sym r.0 ∙ z))))

pub find-requires : goal.find-requires
find-requires c =
    let a = c.args in
    let o = opened a.t a.key (sheets_of a.records.now a.coordinator.now) (free_by (c.open_refusal.ensures a.records.now) c.in_ok-open_refusal.was) in
    record { records_value = c.requires.lines; key_value = o.ranged }

pub returns-in_err-ok_or : goal.returns-in_err-ok_or
returns-in_err-ok_or c =
    let a = c.args in
    let n = none_of c.ok_or.ensures.ok_part c.ok_or.ensures.value c.in_err-ok_or.was in
    ap in_numbers (passed_up c.from_residual-in_err-ok_or.ensures.1 ∙ ap (λ (r : Refusal). Err r) n.1)
    ∙ ap (to_returned a.t)
    (sym (put_none a.t a.key a.columns (sheets_of a.records.now a.coordinator.now)
    (free_by (c.open_refusal.ensures a.records.now) c.in_ok-open_refusal.was)
    (is_found _ _ c.requires.lines c.find.ensures ∙ n.0)))

pub put_held-requires : goal.put_held-requires
put_held-requires c =
    let a = c.args in
    (opened a.t a.key (sheets_of a.records.now a.coordinator.now) (free_by (c.open_refusal.ensures a.records.now) c.in_ok-open_refusal.was)).few

pub returns : goal.returns
returns c =
    let a = c.args in
    c.put_held.ensures ∙ ap (to_returned a.t)
    (sym (put_found a.t a.key a.columns (sheets_of a.records.now a.coordinator.now)
    (free_by (c.open_refusal.ensures a.records.now) c.in_ok-open_refusal.was) _
    (is_found _ _ c.requires.lines c.find.ensures ∙ some_of c.ok_or.ensures.ok_part c.in_ok-ok_or.was)))
