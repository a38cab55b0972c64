use Rattle.std.proofs.Common.{◌∙◌, rules, tests}
use Rattle.std.proofs.lemmas.Iterator.{YieldsList-from_slice}
use Rattle.std.proofs.lemmas.Iterator.Search.{all_from_yields_List}
use Rattle.lists.specs.Basics.{ℕ, leb}
use Rattle.lists.specs.Chains.{all_is}
use Rattle.numbers.specs.Decisions.{capitals_is}
use Rattle.numbers.proofs.decisions.capitals.Goals as goal

pub returns : goal.returns
returns c =
    let letters = c.args.letters.now in
    let q = λ (n : ℕ). leb n 4 in
    all_from_yields_List q _ _ c.all.result c.all.ensures.ran (YieldsList-from_slice letters cc) (λ x b f h. search (rules, tests))
    ∙ (all_is q letters ∙ capitals_is letters)
