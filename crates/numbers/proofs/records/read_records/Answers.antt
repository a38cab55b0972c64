-- Case by case in the order of the refusals.
use Rattle.std.proofs.Common.{◌∙◌}
use Rattle.lists.specs.Basics.{sym}
use Rattle.numbers.specs.Answers.{sheet-whole, read_bad, read_misfit, read_done}
use Rattle.numbers.proofs.records.read_records.Goals as goal

pub returns-then-not-sheet_ok : goal.returns-then-not-sheet_ok
returns-then-not-sheet_ok c =
    let a = c.args in
    let all = read_bad a.records.now a.numbers.now (sym c.sheet_ok.ensures ∙ c.if-not-sheet_ok.true) in
    record { answer = all.0; target = all.1 }

pub returns-then-numbers-records : goal.returns-then-numbers-records
returns-then-numbers-records c =
    let a = c.args in
    let all = read_misfit a.records.now a.numbers.now (sym c.sheet_ok.ensures ∙ c.if-not-sheet_ok.false) c.if-numbers-records.true in
    record { answer = all.0; target = all.1 }

pub fill_rows-requires : goal.fill_rows-requires
fill_rows-requires c =
    let a = c.args in
    record { records_len = sheet-whole a.records.now (sym c.sheet_ok.ensures ∙ c.if-not-sheet_ok.false); numbers_len = c.if-numbers-records.false }

pub returns : goal.returns
returns c =
    let a = c.args in
    let all = read_done a.records.now a.numbers.now _ (sym c.sheet_ok.ensures ∙ c.if-not-sheet_ok.false) c.if-numbers-records.false c.fill_rows.ensures in
    record { answer = all.0; target = all.1 }
