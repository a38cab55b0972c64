use Rattle.std.proofs.Common.{◌∙◌, rules, tests}
use Rattle.std.proofs.lemmas.Iterator.{YieldsList-from_slice}
use Rattle.std.proofs.lemmas.Iterator.Consumers.{YieldsList-from_filter, nth_from_yields_List}
use Rattle.std.proofs.lemmas.Option.{unwrap_or-slice_get}
use Rattle.std.specs.Prelude.{Option, unwrap_or}
use Rattle.std.specs.List.{filter}
use Rattle.lists.specs.Basics.{ap, List, get_or}
use Rattle.model.specs.Types.{Entry}
use Rattle.model.specs.Transactions.{held, must_validate, to_validate, no_entry}
use Rattle.transactions.specs.Chains.{filter_is}
use Rattle.transactions.specs.Units.{units_in}
use Rattle.transactions.proofs.to_validate.Goals as goal

pub returns : goal.returns
unfolding to_validate
returns c =
    let xs = held c.args.t in
    let q = must_validate (units_in c.args.letters.now) c.args.t in
    let n = nth_from_yields_List c.nth.result c.nth.new.self c.args.place c.nth.ensures.ran
    (YieldsList-from_filter _ q (YieldsList-from_slice xs cc) c.filter.ensures.closure (λ x b f h. search (rules, tests))) in
    c.unwrap_or.ensures
    ∙ rw c.copied.ensures (ap (λ (o : Option Entry). unwrap_or o no_entry) n ∙ (unwrap_or-slice_get (filter q xs) c.args.place no_entry ∙ ap (λ (es : List Entry). get_or es c.args.place no_entry) (filter_is q xs)))
