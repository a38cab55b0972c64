-- By what is found.
use Rattle.std.proofs.Common.{◌∙◌}
use Rattle.lists.specs.Basics.{sym}
use Rattle.model.specs.Records.{records}
use Rattle.sheet_laws.specs.ByIndex.{length-records}
use Rattle.sheets.specs.Answers.{is_found}
use Rattle.held_lines.specs.Located.{index_found, index_none}
use Rattle.held_lines.proofs.line_index.Goals as goal

pub returns-in-Some : goal.returns-in-Some
returns-in-Some c =
    let a = c.args in
    index_found a.key (records a.records.now) _ (is_found _ _ c.requires.0 c.find.ensures ∙ c.in-Some.is)

pub returns-in-None : goal.returns-in-None
returns-in-None c =
    let a = c.args in
    c.count.ensures ∙ (sym (length-records a.records.now) ∙ index_none a.key (records a.records.now) (is_found _ _ c.requires.0 c.find.ensures ∙ c.in-None.is))
