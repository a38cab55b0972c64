use Rattle.std.proofs.Common.{◌≡◌, ◌∙◌, rules, tests}
use Rattle.std.proofs.lemmas.Iterator.{YieldsList-from_slice}
use Rattle.std.proofs.lemmas.Iterator.Search.{position_from_yields_List}
use Rattle.model.specs.Types.{Entry}
use Rattle.model.specs.Records.{same_key}
use Rattle.model.specs.Transactions.{held, held_at}
use Rattle.transactions.specs.Chains.{key_test, same_key_is, position_is}
use Rattle.transactions.proofs.held_at.Goals as goal

pub returns : goal.returns
unfolding held_at
returns c =
    let xs = held c.args.t in
    let k = c.args.k in
    let q = λ (e : Entry). same_key e.key k in
    position_from_yields_List q _ _ c.position.result c.position.ensures.ran (YieldsList-from_slice xs cc)
    (λ x b f h. (search (rules, tests), (let e : b ≡ key_test x.now.key k = search (rules, tests) in e ∙ same_key_is x.now.key k)))
    ∙ position_is q xs
