-- The index of the key's line is its rank; where there is none, the lines with smaller keys are counted.
use Rattle.std.proofs.Common.{◌∙◌}
use Rattle.sheet_laws.specs.Ranks.{found-ranked, missing-ranked, accepted_order}
use Rattle.sheets.specs.Answers.{is_found}
use Rattle.sheets.proofs.lookup.rank.Goals as goal

pub returns-in-Some : goal.returns-in-Some
returns-in-Some c =
    let a = c.args in
    found-ranked a.key _ (accepted_order a.records.now c.requires.records_value) _ (is_found a.records.now a.key c.requires.records_value c.find.ensures ∙ c.in-Some.is)

pub returns-in-None : goal.returns-in-None
returns-in-None c =
    let a = c.args in
    missing-ranked a.key _ (accepted_order a.records.now c.requires.records_value) _ c.below.ensures (is_found a.records.now a.key c.requires.records_value c.find.ensures ∙ c.in-None.is)
