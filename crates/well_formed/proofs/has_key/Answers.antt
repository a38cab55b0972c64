use Rattle.std.proofs.Common.{◌≡◌, ◌∙◌, rules, tests}
use Rattle.std.proofs.lemmas.Iterator.{YieldsList-from_slice}
use Rattle.std.proofs.lemmas.Iterator.Search.{any_from_yields_List}
use Rattle.model.specs.Types.{Entry}
use Rattle.model.specs.Records.{same_key}
use Rattle.transactions.specs.Chains.{any_is, key_test, same_key_is}
use Rattle.well_formed.proofs.has_key.Goals as goal

pub returns : goal.returns
returns c =
    let xs = c.args.entries.now in
    let k = c.args.key in
    let q = λ (e : Entry). same_key e.key k in
    any_from_yields_List q _ _ c.any.result c.any.ensures.ran (YieldsList-from_slice xs cc)
    (λ x b f h. (search (rules, tests), (let e : b ≡ key_test x.now.key k = search (rules, tests) in e ∙ same_key_is x.now.key k)))
    ∙ any_is q xs
