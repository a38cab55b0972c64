-- Refused as the conditions say, with both targets as they came; else both are filled, the coordinator's with the bytes of its definition.
use Rattle.std.proofs.Common.{◌∙◌}
use Rattle.lists.specs.Basics.{sym, ap, bytes, joined}
use Rattle.answers.specs.Answers.{in_numbers}
use Rattle.answers.specs.Outcomes.{passed_up, free_by, refused_by}
use Rattle.greatest.specs.Answers.{coordinator_bytes_lem, fits, answer_refused, answer_made}
use Rattle.greatest.proofs.greatest.Goals as goal

pub returns-in_err-fits : goal.returns-in_err-fits
returns-in_err-fits c =
    let a = c.args in
    let r = refused_by c.fits.ensures c.in_err-fits.was in
    let all = answer_refused a.count a.records.now a.coordinator.now _ r.0 (λ z. r.1 (sym r.0 ∙ z)) (ap in_numbers (passed_up c.from_residual.ensures.1)) in
    record { answer = all.0; records = all.1.0; coordinator = all.1.1 }

pub fill_lines-requires : goal.fill_lines-requires
fill_lines-requires c =
    let a = c.args in
    let f = fits a.count a.records.now a.coordinator.now (free_by c.fits.ensures c.in_ok-fits.was) in
    record { count_bound = f.few; records_len = f.records }

pub transaction-requires : goal.transaction-requires
transaction-requires c =
    let a = c.args in
    (fits a.count a.records.now a.coordinator.now (free_by c.fits.ensures c.in_ok-fits.was)).few

pub copy_from_slice-requires : goal.copy_from_slice-requires
copy_from_slice-requires c =
    let a = c.args in
    (fits a.count a.records.now a.coordinator.now (free_by c.fits.ensures c.in_ok-fits.was)).coordinator

pub returns : goal.returns
unfolding bytes joined
returns c =
    let a = c.args in
    let free = free_by c.fits.ensures c.in_ok-fits.was in
    let all = answer_made a.count a.records.now a.coordinator.now _ _ _ free c.transaction.ensures c.fill_lines.ensures
    (c.copy_from_slice.ensures.after ∙ sym coordinator_bytes_lem) in
    record { answer = all.0; records = all.1.0; coordinator = all.1.1 }
