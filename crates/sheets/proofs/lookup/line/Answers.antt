-- By what is found.
use Rattle.std.specs.Prelude.{◌≤◌}
use Rattle.std.proofs.Common.{◌∙◌}
use Rattle.lists.specs.Basics.{sym, subst, arith}
use Rattle.model.specs.Types.{Ranked}
use Rattle.sheet_laws.specs.Ranks.{found-few}
use Rattle.sheets.specs.Answers.{line-none, line-met, is_found}
use Rattle.sheets.proofs.lookup.line.Goals as goal

pub returns-in-Some : goal.returns-in-Some
returns-in-Some c =
    let a = c.args in
    let f = is_found a.records.now a.key c.requires.records_value c.find.ensures ∙ c.in-Some.is in
    record { told = line-met a.records.now a.key c.requires.records_value _ f; few = found-few a.key a.records.now c.requires.records_value _ f }

pub returns-in-None : goal.returns-in-None
returns-in-None c =
    let a = c.args in
    let f = is_found a.records.now a.key c.requires.records_value c.find.ensures ∙ c.in-None.is in
    record { told = line-none a.records.now a.key c.requires.records_value f; few = omega arith }
