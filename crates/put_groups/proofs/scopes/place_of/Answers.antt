use Rattle.std.specs.Prelude.{◌≡◌}
use Rattle.std.specs.List.{filter}
use Rattle.std.proofs.Common.{rules, tests}
use Rattle.std.proofs.lemmas.Iterator.{YieldsList-from_slice}
use Rattle.std.proofs.lemmas.Iterator.Consumers.{YieldsList-from_filter, count_from_yields_List}
use Rattle.lists.specs.Basics.{length, eq-eqb}
use Rattle.transactions.specs.Units.{units_in}
use Rattle.put_groups.specs.Scopes.{scope_key, before}
use Rattle.put_groups.proofs.scopes.place_of.Goals as goal

pub returns : goal.returns
returns c =
    let q = before (scope_key (units_in c.args.letters.now) c.args.e.key) in
    let n : c.count.result ≡ length (filter q c.args.lasts.now) =
    count_from_yields_List c.filter.result c.count.result c.count.ensures.ran
    (YieldsList-from_filter _ q (YieldsList-from_slice c.args.lasts.now cc) c.filter.ensures.closure (λ x b f h. search (rules, tests))) in
    rw (eq-eqb c.args.e.wrote 1 c.if-e-ne1.false) n
