use Rattle.std.proofs.Common.{◌∙◌, rules, tests}
use Rattle.std.proofs.lemmas.Iterator.{YieldsList-from_slice}
use Rattle.std.proofs.lemmas.Iterator.Search.{all_from_yields_List}
use Rattle.lists.specs.Basics.{ℕ, eqb}
use Rattle.lists.specs.Chains.{all_is}
use Rattle.numbers.specs.Spares.{zeros_is}
use Rattle.numbers.proofs.rows.all_zero.Goals as goal

pub returns : goal.returns
returns c =
    let row = c.args.row.now in
    let q = λ (x : ℕ). eqb x 0 in
    all_from_yields_List q _ _ c.all.result c.all.ensures.ran (YieldsList-from_slice row cc) (λ x b f h. search (rules, tests))
    ∙ (all_is q row ∙ zeros_is row)
