use Rattle.std.proofs.Common.{◌∙◌, rules, tests}
use Rattle.std.proofs.lemmas.Iterator.{YieldsList-from_slice}
use Rattle.std.proofs.lemmas.Iterator.Search.{any_from_yields_List}
use Rattle.model.specs.Types.{Entry}
use Rattle.model.specs.Groups.{is_lower}
use Rattle.model.specs.Transactions.{held}
use Rattle.transactions.specs.Units.{units_in}
use Rattle.transactions.specs.Chains.{any_is}
use Rattle.transactions.proofs.holds_lower.Goals as goal

pub returns : goal.returns
returns c =
    let xs = held c.args.t in
    let q = λ (e : Entry). is_lower (units_in c.args.letters.now) e.key in
    any_from_yields_List q _ _ c.any.result c.any.ensures.ran (YieldsList-from_slice xs cc) (λ x b q k. search (rules, tests))
    ∙ any_is q xs
