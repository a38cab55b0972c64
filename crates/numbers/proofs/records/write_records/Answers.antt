-- Case by case in the order of the refusals.
use Rattle.std.proofs.Common.{◌∙◌}
use Rattle.lists.specs.Basics.{sym}
use Rattle.numbers.specs.Answers.{rows_whole, write_bad, write_misfit, write_done}
use Rattle.numbers.proofs.records.write_records.Goals as goal

pub returns-then-not-rows_ok : goal.returns-then-not-rows_ok
returns-then-not-rows_ok c =
    let a = c.args in
    let all = write_bad a.numbers.now a.records.now (sym c.rows_ok.ensures ∙ c.if-not-rows_ok.true) in
    record { answer = all.0; target = all.1 }

pub returns-then-records-numbers : goal.returns-then-records-numbers
returns-then-records-numbers c =
    let a = c.args in
    let all = write_misfit a.numbers.now a.records.now (sym c.rows_ok.ensures ∙ c.if-not-rows_ok.false) c.if-records-numbers.true in
    record { answer = all.0; target = all.1 }

pub fill_sheet-requires : goal.fill_sheet-requires
fill_sheet-requires c =
    let a = c.args in
    record { numbers_len = rows_whole a.numbers.now (sym c.rows_ok.ensures ∙ c.if-not-rows_ok.false); records_len = c.if-records-numbers.false }

pub returns : goal.returns
returns c =
    let a = c.args in
    let all = write_done a.numbers.now a.records.now _ (sym c.rows_ok.ensures ∙ c.if-not-rows_ok.false) c.if-records-numbers.false c.fill_sheet.ensures in
    record { answer = all.0; target = all.1 }
