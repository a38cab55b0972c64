use Rattle.std.proofs.Common.{◌∙◌, rules, tests}
use Rattle.std.proofs.lemmas.Iterator.{YieldsList-from_slice}
use Rattle.std.proofs.lemmas.Iterator.Search.{all_from_yields_List}
use Rattle.model.specs.Transactions.{held}
use Rattle.model.specs.WellFormed.{entry_formed}
use Rattle.transactions.specs.Chains.{all_is}
use Rattle.well_formed.proofs.entries_formed.Goals as goal

pub returns : goal.returns
returns c =
    let xs = held c.args.t in
    let q = entry_formed c.args.issued in
    all_from_yields_List q _ _ c.all.result c.all.ensures.ran (YieldsList-from_slice xs cc) (λ x b f h. search (rules, tests))
    ∙ all_is q xs
