-- The search is the chain's, and what it finds is what a filter keeps.
use Rattle.std.proofs.Common.{◌∙◌, rules, tests}
use Rattle.std.proofs.lemmas.Iterator.{YieldsList-from_slice}
use Rattle.std.proofs.lemmas.Iterator.Search.{any_from_yields_List}
use Rattle.model.specs.Transactions.{held, is_put, puts}
use Rattle.transactions.specs.Held.{some_kept}
use Rattle.transactions.specs.Chains.{any_is}
use Rattle.transactions.proofs.has_puts.Goals as goal

pub returns : goal.returns
unfolding puts
returns c =
    let xs = held c.args.t in
    any_from_yields_List is_put _ _ c.any.result c.any.ensures.ran (YieldsList-from_slice xs cc) (λ x b q k. search (rules, tests))
    ∙ (any_is is_put xs ∙ some_kept is_put xs)
