-- The line that begins as the key line does is the one that has the key, and stands at its rank.
use Rattle.std.proofs.Common.{◌∙◌}
use Rattle.lists.specs.Basics.{ap, ℕ, List}
use Rattle.model.specs.Layouts.{record_bytes}
use Rattle.model.specs.Lines.{lines_of}
use Rattle.model.specs.Records.{records}
use Rattle.sheet_laws.specs.Ranks.{found_by_rank, accepted_order}
use Rattle.sheets.specs.Search.{found_line, search_is}
use Rattle.sheets.proofs.lookup.find.Goals as goal

pub returns : goal.returns
returns c =
    let a = c.args in
    c.find_line.ensures
    ∙ (ap (λ (t : List ℕ). found_line 0 t (lines_of record_bytes a.records.now)) c.key_line-text.ensures
    ∙ (search_is a.records.now a.key c.requires.records_value c.requires.key_value
    ∙ found_by_rank a.key (records a.records.now) (accepted_order a.records.now c.requires.records_value)))
