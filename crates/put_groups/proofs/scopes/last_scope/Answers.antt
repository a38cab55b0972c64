-- The search among the later entries is the chain's.
use Rattle.std.specs.Prelude.{◌≡◌, ◌∷◌, ◌&&◌}
use Rattle.std.specs.Bool.{then_some}
use Rattle.std.proofs.Common.{◌∙◌, rules, tests}
use Rattle.std.proofs.lemmas.Iterator.{YieldsList-from_slice}
use Rattle.std.proofs.lemmas.Iterator.Search.{any_from_yields_List}
use Rattle.lists.specs.Basics.{refl, ap₂, Bool, true, false, not, cond, any, eq-eqb}
use Rattle.model.specs.Types.{Key, Entry, Some, None}
use Rattle.model.specs.Transactions.{is_put}
use Rattle.transactions.specs.Chains.{key_test}
use Rattle.transactions.specs.Units.{units_in}
use Rattle.put_groups.specs.Groups.{same_scope}
use Rattle.put_groups.specs.Scopes.{scope_key}
use Rattle.put_groups.specs.GroupsIn.{again_is}
use Rattle.put_groups.proofs.scopes.last_scope.Goals as goal

chosen : (b : Bool) (k : Key) → then_some (not b) k ≡ cond (not b) (Some k) None
chosen true k = refl
chosen false k = refl

pub returns : goal.returns
returns c =
    let us = units_in c.args.letters.now in
    let e = c.in_ok-e.e.now in
    let later = c.in_ok-e.later.now in
    let q = λ (f : Entry). is_put f && key_test (scope_key us e.key) (scope_key us f.key) in
    let a : c.any-again.result ≡ any (same_scope us e) later =
    any_from_yields_List q _ _ c.any-again.result c.any-again.ensures.ran (YieldsList-from_slice later cc) (λ x b f h. search (rules, tests))
    ∙ again_is us e later in
    let h : c.args.entries.now ≡ e ∷ later = search rules in
    let p : is_put e ≡ true = eq-eqb e.wrote 1 c.if-e-ne1.false in
    c.then_some.ensures
    ∙ (ap₂ (λ (b : Bool) (k : Key). then_some (not b) k) a c.scope-own.ensures
    ∙ rw (h, p) (chosen (any (same_scope us e) later) (scope_key us e.key)))
