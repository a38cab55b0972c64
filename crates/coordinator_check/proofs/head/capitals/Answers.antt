-- The chain asks every letter.
use Rattle.std.proofs.Common.{◌∙◌, rules, tests}
use Rattle.std.proofs.lemmas.Iterator.{YieldsList-from_slice}
use Rattle.std.proofs.lemmas.Iterator.Search.{all_from_yields_List}
use Rattle.lists.specs.Basics.{ℕ, ltb}
use Rattle.coordinator_check.specs.Head.{none_small}
use Rattle.coordinator_check.proofs.head.capitals.Goals as goal

pub returns : goal.returns
returns c =
    let s = c.args.letters.now in
    all_from_yields_List (λ (b : ℕ). ltb b 97) _ _ c.all.result c.all.ensures.ran (YieldsList-from_slice s cc) (λ x b q k. search (rules, tests)) ∙ none_small s
