-- An index that is none of a line fails the condition; else, by whether the letter is a capital, the line alone decides, or its columns too.
use Rattle.std.specs.Prelude.{◌&&◌}
use Rattle.std.proofs.Common.{◌∙◌}
use Rattle.lists.specs.Basics.{sym, ap, ap₂, List, arith}
use Rattle.model.specs.Records.{records}
use Rattle.model.specs.Coordinator.{Letter}
use Rattle.model.specs.Groups.{is_lower}
use Rattle.model.specs.ByteCalls.{sheets_of}
use Rattle.sheet_laws.specs.ByIndex.{length-records}
use Rattle.held_lines.specs.Located.{line-there, line-nowhere}
use Rattle.held_lines.specs.Lookup.{holds-none, holds_capital, holds_lower_lem}
use Rattle.held_lines.proofs.holds.Goals as goal

pub returns-then-count-index : goal.returns-then-count-index
returns-then-count-index c =
    let a = c.args in
    λ cs u. holds-none (sheets_of a.records.now cs) a.e (line-nowhere a.e.key (records a.records.now) a.index c.requires.1 (omega (arith, length-records a.records.now, c.count.ensures, c.if-count-index.true)))

pub is_unchanged-requires : goal.is_unchanged-requires
is_unchanged-requires c = c.requires.0

pub returns-then-not-is_lower : goal.returns-then-not-is_lower
returns-then-not-is_lower c =
    let a = c.args in
    λ cs u. c.is_unchanged.ensures ∙ holds_capital (sheets_of a.records.now cs) a.e a.index (line-there a.e.key (records a.records.now) a.index c.requires.1 (omega (arith, length-records a.records.now, c.count.ensures, c.if-count-index.false))) (ap (λ (us : List Letter). is_lower us a.e.key) (sym u) ∙ (sym c.is_lower.ensures ∙ c.if-not-is_lower.true))

pub is_unchanged-requires-2 : goal.is_unchanged-requires-2
is_unchanged-requires-2 c = c.requires.0

pub same_columns-requires : goal.same_columns-requires
same_columns-requires c = c.requires.0

pub returns : goal.returns
returns c =
    let a = c.args in
    λ cs u. ap₂ ◌&&◌ c.is_unchanged-2.ensures c.same_columns.ensures ∙ holds_lower_lem (sheets_of a.records.now cs) a.e a.index (line-there a.e.key (records a.records.now) a.index c.requires.1 (omega (arith, length-records a.records.now, c.count.ensures, c.if-count-index.false))) (ap (λ (us : List Letter). is_lower us a.e.key) (sym u) ∙ (sym c.is_lower.ensures ∙ c.if-not-is_lower.false))
