-- Those below the issued count first, and then those behind them.
use Rattle.std.proofs.Common.{◌∙◌, rules, tests}
use Rattle.std.proofs.lemmas.Iterator.{YieldsList-from_slice, YieldsList-from_take}
use Rattle.std.proofs.lemmas.Iterator.Adapters.{YieldsList-from_skip}
use Rattle.std.proofs.lemmas.Iterator.Search.{all_from_yields_List}
use Rattle.std.proofs.lemmas.Iterator.Consumers.{YieldsList-at}
use Rattle.lists.specs.Basics.{sym, ℕ, take, drop, eqb, leb}
use Rattle.lists.specs.Chains.{all_is}
use Rattle.numbers.specs.Decisions.{decisions_out, decisions_in}
use Rattle.numbers.proofs.decisions.decisions_pass.Goals as goal

pub returns-then-all : goal.returns-then-all
returns-then-all c =
    let ds = c.args.decisions.now in
    let k = c.args.issued in
    let p = λ (d : ℕ). leb d 2 in
    let q = λ (d : ℕ). eqb d 0 in
    let low = all_from_yields_List p _ _ c.all.result c.all.ensures.ran
    (YieldsList-from_take k (YieldsList-at c.take.ensures.source (YieldsList-from_slice ds cc)) c.take.ensures.count) (λ x b f h. search (rules, tests)) in
    all_from_yields_List q _ _ c.all-then-all.result c.all-then-all.ensures.ran
    (YieldsList-from_skip k (YieldsList-at c.skip.ensures.source (YieldsList-from_slice ds cc)) c.skip.ensures.count) (λ x b f h. search (rules, tests))
    ∙ (all_is q (drop k ds) ∙ decisions_in k ds (sym (all_is p (take k ds)) ∙ (sym low ∙ c.if-all.true)))

pub returns-else-all : goal.returns-else-all
returns-else-all c =
    let ds = c.args.decisions.now in
    let k = c.args.issued in
    let p = λ (d : ℕ). leb d 2 in
    let low = all_from_yields_List p _ _ c.all.result c.all.ensures.ran
    (YieldsList-from_take k (YieldsList-at c.take.ensures.source (YieldsList-from_slice ds cc)) c.take.ensures.count) (λ x b f h. search (rules, tests)) in
    c.if-all.false ∙ decisions_out k ds (sym (all_is p (take k ds)) ∙ (sym low ∙ c.if-all.false))
