-- Groups counted one by one: a group counts at the last put of its scope.
use Rattle.std.specs.Prelude.{◌≡◌, ◌-◌, ◌&&◌, ◌||◌, ◌∷◌}
use Rattle.std.proofs.Common.{◌∙◌}
use Rattle.lists.specs.Basics.{refl, sym, ap, ℕ, suc, eqb, Bool, true, false, not, cond, List, []}
use Rattle.lists.specs.Basics.{any, filter, count, eq_list, eq_list-true}
use Rattle.model.specs.Types.{AtomicityUnit, Entry, Transaction}
use Rattle.types.specs.declared.AtomicityUnit.TheVariants.{Record as RecordUnit, Partition, Table, Namespace, Storage}
use Rattle.model.specs.Coordinator.{Letter}
use Rattle.model.specs.Transactions.{is_put, held, puts}
use Rattle.model.specs.Groups.{unit_fields, scope, add_scope, scopes, group_place, group}
use Rattle.transactions.specs.Held.{tallied}

-- a unit compares the storage at least
pub some_field : (u : AtomicityUnit) → unit_fields u ≡ suc (unit_fields u - 1)
unfolding unit_fields
some_field RecordUnit = refl
some_field Partition = refl
some_field Table = refl
some_field Namespace = refl
some_field Storage = refl

-- a later put of the entry's scope
abbrev pub same_scope : List Letter → Entry → Entry → Bool
same_scope us e f = is_put f && eq_list (scope us e.key) (scope us f.key)

-- the last put of its scope
abbrev pub last_of_scope : List Letter → Entry → List Entry → Bool
last_of_scope us e es = is_put e && not (any (same_scope us e) es)

-- a scope is among those with one more exactly if it is that one or among them
any_added : (s s' : List ℕ) (ss : List (List ℕ)) → any (eq_list s) (add_scope s' ss) ≡ (eq_list s s' || any (eq_list s) ss)
unfolding add_scope any
any_added s s' ss = go (any (eq_list s') ss) refl (eq_list s s') refl
  where
    go : (b : Bool) → any (eq_list s') ss ≡ b → (c : Bool) → eq_list s s' ≡ c → any (eq_list s) (add_scope s' ss) ≡ (eq_list s s' || any (eq_list s) ss)
    go false e c h = rw e
    go true e false h = rw (e, h)
    go true e true h = rw (e, h) (rw (sym (eq_list-true s s' h)) at e)

module _ (us : List Letter) where
  -- the scopes with those of one more entry, if it is a put
  any_more : (b r : Bool) (s : List ℕ) (e : Entry) (es : List Entry) → any (eq_list s) (scopes us es) ≡ r → any (eq_list s) (scopes us (cond b (e ∷ es) es)) ≡ (b && eq_list s (scope us e.key) || r)
  unfolding scopes
  any_more true r s e es h = any_added s (scope us e.key) (scopes us es) ∙ ap (λ (x : Bool). eq_list s (scope us e.key) || x) h
  any_more false r s e es h = h

  any-scopes : (s : List ℕ) (es : List Entry) → any (eq_list s) (scopes us (filter is_put es)) ≡ any (λ (f : Entry). is_put f && eq_list s (scope us f.key)) es
  unfolding any scopes filter
  any-scopes s [] = refl
  any-scopes s (e ∷ es) = any_more (is_put e) (any (λ (f : Entry). is_put f && eq_list s (scope us f.key)) es) s e (filter is_put es) (any-scopes s es)

  -- the last put of its scope, whose scope passes a test
  abbrev pub counts_as : (List ℕ → Bool) → Entry → List Entry → Bool
  counts_as p e es = last_of_scope us e es && p (scope us e.key)

  count_more : (p : List ℕ → Bool) (b a : Bool) (n : ℕ) (e : Entry) (es : List Entry) → any (eq_list (scope us e.key)) (scopes us es) ≡ a → n ≡ count p (scopes us es) → cond (b && not a && p (scope us e.key)) (suc n) n ≡ count p (scopes us (cond b (e ∷ es) es))
  unfolding scopes add_scope count
  count_more p false a n e es h k = k
  count_more p true true n e es h k = rw h k
  count_more p true false n e es h k = rw h (ap (λ (m : ℕ). cond (p (scope us e.key)) (suc m) m) k)

  pub groups_tallied : (p : List ℕ → Bool) (es : List Entry) → tallied (counts_as p) es ≡ count p (scopes us (filter is_put es))
  unfolding tallied filter scopes count
  groups_tallied p [] = refl
  groups_tallied p (e ∷ es) =
      count_more p (is_put e) (any (same_scope us e) es) (tallied (counts_as p) es) e (filter is_put es) (any-scopes (scope us e.key) es) (groups_tallied p es)

-- The group at a place, among all the entries in use.

abbrev pub in_group : List Letter → Transaction → ℕ → Entry → Bool
in_group us t i e = is_put e && eqb (group_place us (puts t) e.key) i

-- what two filters keep is what both tests let pass
module _ (p q : Entry → Bool) where
  both_kept : (a b : Bool) (e : Entry) (es rs : List Entry) → q e ≡ b → filter q es ≡ rs → filter q (cond a (e ∷ es) es) ≡ cond (a && b) (e ∷ rs) rs
  unfolding filter
  both_kept false b e es rs h k = k
  both_kept true true e es rs h k = rw h (ap (λ (x : List Entry). e ∷ x) k)
  both_kept true false e es rs h k = rw h k

  filter-filter : (es : List Entry) → filter q (filter p es) ≡ filter (λ (e : Entry). p e && q e) es
  unfolding filter
  filter-filter [] = refl
  filter-filter (e ∷ es) = both_kept (p e) (q e) e (filter p es) (filter (λ (x : Entry). p x && q x) es) refl (filter-filter es)

pub group-held : (us : List Letter) (t : Transaction) (i : ℕ) → group us (puts t) i ≡ filter (in_group us t i) (held t)
unfolding group puts
group-held us t i = filter-filter is_put (λ (e : Entry). eqb (group_place us (puts t) e.key) i) (held t)
