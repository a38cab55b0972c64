-- Each column with its number.
use Rattle.std.proofs.Common.{◌∙◌, rules, tests}
use Rattle.std.proofs.lemmas.Iterator.{YieldsList-from_slice, YieldsList-from_zip}
use Rattle.std.proofs.lemmas.Iterator.Consumers.{YieldsList-at}
use Rattle.std.proofs.lemmas.Iterator.Search.{all_from_yields_List}
use Rattle.lists.specs.Basics.{ℕ}
use Rattle.model.specs.Types.{Column}
use Rattle.model.specs.Layouts.{layout}
use Rattle.model.specs.Lines.{in_range}
use Rattle.codec.specs.Rows.{good_is}
use Rattle.codec.proofs.lines.row_good.Goals as goal

pub returns : goal.returns
returns c =
    let cs = layout c.args.l in
    let row = c.args.row.now in
    all_from_yields_List (λ (p : Column × ℕ). in_range p.0 p.1) c.all.new.self _ c.all.result c.all.ensures.ran
    (YieldsList-from_zip (YieldsList-at c.zip.ensures.first (YieldsList-from_slice cs cc)) (YieldsList-from_slice row c.zip.ensures.second.0)) (λ x b f h. search (rules, tests))
    ∙ good_is cs row c.requires
