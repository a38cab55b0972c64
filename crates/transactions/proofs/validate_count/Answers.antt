use Rattle.std.proofs.Common.{◌≡◌, ◌∙◌, rules, tests}
use Rattle.std.proofs.lemmas.Iterator.{YieldsList-from_slice}
use Rattle.std.proofs.lemmas.Iterator.Consumers.{YieldsList-from_filter, count_from_yields_List}
use Rattle.std.proofs.lemmas.List.Sums.{length-filter, count_by-le-length}
use Rattle.lists.specs.Basics.{ap, arith, length}
use Rattle.std.specs.Prelude.{◌≤◌}
use Rattle.std.specs.List.{filter}
use Rattle.model.specs.Transactions.{held, must_validate, to_validate}
use Rattle.transactions.specs.Chains.{filter_is}
use Rattle.transactions.specs.Units.{units_in}
use Rattle.transactions.proofs.validate_count.Goals as goal

counted : (c : goal.After-count) → c.count.result ≡ length (filter (must_validate (units_in c.args.letters.now) c.args.t) (held c.args.t))
counted c =
    let q = must_validate (units_in c.args.letters.now) c.args.t in
    count_from_yields_List c.filter.result c.count.result c.count.ensures.ran
    (YieldsList-from_filter _ q (YieldsList-from_slice (held c.args.t) cc) c.filter.ensures.closure (λ x b f h. search (rules, tests)))

pub overflow_cast-result : goal.overflow_cast-result
overflow_cast-result c =
    let q = must_validate (units_in c.args.letters.now) c.args.t in
    let xs = held c.args.t in
    let h : c.count.result ≤ 8 = omega (arith, counted c, length-filter q xs, count_by-le-length q xs, c.held.ensures.few, ap length c.held.ensures.entries) in
    search rules

pub returns : goal.returns
unfolding to_validate
returns c = counted c ∙ ap length (filter_is _ (held c.args.t))
