-- The groups that are found by keys are those of the definitions: entry by entry, the last put of each scope stands for it.
use Rattle.std.specs.Prelude.{◌≡◌, ◌+◌, ◌-◌, ◌≤◌, ◌<◌, ◌&&◌, ◌||◌, ◌∷◌, ◌++◌, Option, is_some}
use Rattle.std.specs.List as std
use Rattle.std.proofs.Common.{◌∙◌}
use Rattle.lists.specs.Basics.{refl, sym, ap, ap₂, ℕ, zero, suc, eqb, Bool, true, false, cond, and-false, or-false, List, []}
use Rattle.lists.specs.Basics.{map, length, take, drop, get_or, set, length-take, take_all, arith, eqb-true, ne_eqb, true≢false, add-one, any, less, eq_list, all}
use Rattle.std.proofs.Math.ListN.{get_or-append}
use Rattle.lists.specs.All.{all_drop}
use Rattle.lists.specs.Chosen.{count-all}
use Rattle.model.specs.Types.{Key, AtomicityUnit, Entry, Transaction, Some, None}
use Rattle.types.specs.declared.AtomicityUnit.TheVariants.{Record as RecordUnit, Partition, Table, Namespace, Storage}
use Rattle.model.specs.Records.{key_numbers, key_less, same_key}
use Rattle.model.specs.Coordinator.{Letter}
use Rattle.model.specs.Transactions.{is_put, held, puts}
use Rattle.model.specs.Groups.{unit_fields, scope, group_count, group_place}
use Rattle.transactions.specs.Held.{entry_at, tallied, tallied-few, length_mapped, mapped_at}
use Rattle.transactions.specs.Chains.{key_test, same_key_is}
use Rattle.put_groups.specs.Groups.{some_field, same_scope, last_of_scope, counts_as, groups_tallied, in_group}
use Rattle.put_groups.specs.Scopes.{unit_of, zeroed, less_test, scope_key, last_scope, last_scopes, no_scopes, lasts_in, before, place_in}

-- Two keys compared by their scopes.

-- the numbers of a key behind the storage, with 0 for those that a unit does not compare
abbrev zeroed_rest : AtomicityUnit → Key → List ℕ
zeroed_rest u k = drop 1 (key_numbers (zeroed u k))

zeroed_first : (u : AtomicityUnit) (k : Key) → key_numbers (zeroed u k) ≡ k.storage ∷ zeroed_rest u k
unfolding key_numbers
zeroed_first RecordUnit k = refl
zeroed_first Partition k = refl
zeroed_first Table k = refl
zeroed_first Namespace k = refl
zeroed_first Storage k = refl

scope_first : (u : AtomicityUnit) (k : Key) → take (unit_fields u) (key_numbers k) ≡ k.storage ∷ take (unit_fields u - 1) (drop 1 (key_numbers k))
unfolding key_numbers
scope_first u k = let n = some_field u in ap (λ (m : ℕ). take m (key_numbers k)) n

module _ (us : List Letter) (a b : Key) where
  -- where the storages differ, they decide; else one unit compares both
  by_scope : (f : List ℕ → List ℕ → Bool) → ((x y : ℕ) (s t s' t' : List ℕ) → eqb x y ≡ false → f (x ∷ s) (y ∷ t) ≡ f (x ∷ s') (y ∷ t')) → ((u : AtomicityUnit) → f (key_numbers (zeroed u a)) (key_numbers (zeroed u b)) ≡ f (take (unit_fields u) (key_numbers a)) (take (unit_fields u) (key_numbers b))) → f (key_numbers (scope_key us a)) (key_numbers (scope_key us b)) ≡ f (scope us a) (scope us b)
  unfolding scope
  by_scope f decided same = go (eqb a.storage b.storage) refl
    where
      u : AtomicityUnit
      u = unit_of us a.storage

      v : AtomicityUnit
      v = unit_of us b.storage

      go : (e : Bool) → eqb a.storage b.storage ≡ e → f (key_numbers (zeroed u a)) (key_numbers (zeroed v b)) ≡ f (take (unit_fields u) (key_numbers a)) (take (unit_fields v) (key_numbers b))
      go true e =
          let h : v ≡ u = ap (unit_of us) (sym (eqb-true a.storage b.storage e)) in
          ap (λ (w : AtomicityUnit). f (key_numbers (zeroed u a)) (key_numbers (zeroed w b))) h
          ∙ (same u ∙ sym (ap (λ (w : AtomicityUnit). f (take (unit_fields u) (key_numbers a)) (take (unit_fields w) (key_numbers b))) h))
      go false e =
          ap₂ f (zeroed_first u a) (zeroed_first v b)
          ∙ (decided a.storage b.storage _ _ _ _ e ∙ sym (ap₂ f (scope_first u a) (scope_first v b)))

  pub scope_same : same_key (scope_key us a) (scope_key us b) ≡ eq_list (scope us a) (scope us b)
  unfolding same_key key_numbers unit_fields
  scope_same = by_scope eq_list (λ x y s t s' t' e. rw e) go
    where
      go : (u : AtomicityUnit) → eq_list (key_numbers (zeroed u a)) (key_numbers (zeroed u b)) ≡ eq_list (take (unit_fields u) (key_numbers a)) (take (unit_fields u) (key_numbers b))
      go RecordUnit = refl
      go Partition = refl
      go Table = refl
      go Namespace = refl
      go Storage = refl

  pub scope_less : key_less (scope_key us a) (scope_key us b) ≡ less (scope us a) (scope us b)
  unfolding key_less key_numbers unit_fields less
  scope_less = by_scope less (λ x y s t s' t' e. rw e) go
    where
      go : (u : AtomicityUnit) → less (key_numbers (zeroed u a)) (key_numbers (zeroed u b)) ≡ less (take (unit_fields u) (key_numbers a)) (take (unit_fields u) (key_numbers b))
      go RecordUnit = refl
      go Partition = refl
      go Table = refl
      go Namespace = refl
      go Storage = refl

-- what the derived `<` of keys answers
derived_less : (a b : Key) → less_test a b ≡ key_less a b
unfolding key_less key_numbers less
derived_less a b = simp (and-false, or-false)

-- A list written from its front over another, of which the rest stays.
module _ {A : Type 0} where
  abbrev pub filled : List A → List A → ℕ → List A
  filled xs ys i = take i xs ++ drop i ys

  written : (xs ys : List A) (d v : A) (i : ℕ) → i < length xs → i < length ys → v ≡ get_or xs i d → set (filled xs ys i) i v ≡ filled xs ys (suc i)
  written [] ys d v i l m e = absurd (omega arith)
  written (x ∷ xs) [] d v i l m e = absurd (omega arith)
  written (x ∷ xs) (y ∷ ys) d v zero l m e = ap (λ (z : A). z ∷ ys) e
  written (x ∷ xs) (y ∷ ys) d v (suc i) l m e = ap (λ (z : List A). x ∷ z) (written xs ys d v i (omega arith) (omega arith) e)

  pub filled_next : (xs ys : List A) (d v : A) (i : ℕ) → i < length xs → i < length ys → v ≡ get_or xs i d → set (filled xs ys i) i v ≡ filled xs ys (i + 1)
  filled_next xs ys d v i l m e = written xs ys d v i l m e ∙ ap (filled xs ys) (sym (add-one i))

  pub filled_last : (xs ys : List A) (n i : ℕ) → length xs ≡ n → i ≤ n → n ≤ i → filled xs ys i ≡ xs ++ drop n ys
  filled_last xs ys n i e l m =
      let h : i ≡ n = omega arith in
      rw h (ap (λ (z : List A). z ++ drop n ys) (take_all n xs (omega (arith, e))))

-- The last puts.

module _ (us : List Letter) where
  pub length_lasts : (es : List Entry) → length (last_scopes us es) ≡ length es
  length_lasts [] = refl
  length_lasts (e ∷ es) = ap suc (length_lasts es)

  pub last_at : (es : List Entry) (i : ℕ) → get_or (last_scopes us es) i None ≡ last_scope us (drop i es)
  last_at [] zero = refl
  last_at [] (suc i) = refl
  last_at (e ∷ es) zero = refl
  last_at (e ∷ es) (suc i) = last_at es i

  -- a later put has the scope
  pub again_is : (e : Entry) (es : List Entry) → std.list_any (λ (f : Entry). is_put f && key_test (scope_key us e.key) (scope_key us f.key)) es ≡ any (same_scope us e) es
  unfolding any
  again_is e [] = refl
  again_is e (f ∷ es) =
      ap₂ ◌||◌ (ap (λ (b : Bool). is_put f && b) (same_key_is (scope_key us e.key) (scope_key us f.key) ∙ scope_same us e.key f.key)) (again_is e es)

  -- A test that no missing scope passes is passed by as many as there are groups whose scope passes it.
  module _ (p : Option Key → Bool) (q : List ℕ → Bool) (nothing : p None ≡ false) (each : (k : Key) → p (Some (scope_key us k)) ≡ q (scope us k)) where
    abbrev is_none : Option Key → Bool
    is_none None = true
    is_none (Some k) = false

    none_kept : (ls : List (Option Key)) → all is_none ls ≡ true → length (std.filter p ls) ≡ 0
    unfolding all
    none_kept [] h = refl
    none_kept (None ∷ ls) h = rw nothing (none_kept ls h)
    none_kept (Some k ∷ ls) h = absurd (true≢false (sym h))

    kept_more : (b : Bool) (k : Key) (ls : List (Option Key)) (n : ℕ) → length (std.filter p ls) ≡ n → length (std.filter p (cond b (Some (scope_key us k)) None ∷ ls)) ≡ cond (b && q (scope us k)) (suc n) n
    kept_more false k ls n e = rw nothing e
    kept_more true k ls n e = go (q (scope us k)) (each k)
      where
        go : (c : Bool) → p (Some (scope_key us k)) ≡ c → length (std.filter p (Some (scope_key us k) ∷ ls)) ≡ cond c (suc n) n
        go true h = rw h (ap suc e)
        go false h = rw h e

    pub lasts_kept : (es : List Entry) (ls : List (Option Key)) → all is_none ls ≡ true → length (std.filter p (last_scopes us es ++ ls)) ≡ tallied (counts_as us q) es
    unfolding tallied
    lasts_kept [] ls h = none_kept ls h
    lasts_kept (e ∷ es) ls h = kept_more (last_of_scope us e es) e.key (last_scopes us es ++ ls) _ (lasts_kept es ls h)

    pub kept_groups : (t : Transaction) → length (std.filter p (lasts_in us t)) ≡ tallied (counts_as us q) (held t)
    unfolding all
    kept_groups t = lasts_kept (held t) (drop (length (held t)) no_scopes) (all_drop is_none (length (held t)) no_scopes refl)

-- The places of the groups.

-- the place of an entry's group; 8, which is no group's place, without a put
abbrev pub group_of : List Letter → Transaction → Entry → ℕ
group_of us t e = cond (is_put e) (group_place us (puts t) e.key) 8

abbrev pub no_groups : List ℕ
no_groups = 8 ∷ 8 ∷ 8 ∷ 8 ∷ 8 ∷ 8 ∷ 8 ∷ 8 ∷ []

-- the place of each entry's group, 8 behind the entries in use
unfoldable pub groups_in : List Letter → Transaction → List ℕ
groups_in us t = map (group_of us t) (held t) ++ drop t.count no_groups

module _ (us : List Letter) (t : Transaction) where
  tallied_all : tallied (counts_as us (λ (s : List ℕ). true)) (held t) ≡ group_count us (puts t)
  unfolding group_count puts
  tallied_all = groups_tallied us (λ (s : List ℕ). true) (held t) ∙ count-all _

  -- as many last puts as groups
  pub count_found : length (std.filter is_some (lasts_in us t)) ≡ group_count us (puts t)
  count_found = kept_groups us is_some (λ (s : List ℕ). true) refl (λ k. refl) t ∙ tallied_all

  pub place_found : (e : Entry) → place_in us (lasts_in us t) e ≡ group_of us t e
  unfolding group_place puts
  place_found e =
      ap (λ (n : ℕ). cond (is_put e) n 8)
      (kept_groups us (before (scope_key us e.key)) (λ (s : List ℕ). less s (scope us e.key)) refl (λ k. derived_less (scope_key us k) (scope_key us e.key) ∙ scope_less us k e.key) t
      ∙ groups_tallied us (λ (s : List ℕ). less s (scope us e.key)) (held t))

  -- there are at most as many groups as entries
  pub groups_few : group_count us (puts t) ≤ t.count
  unfolding held
  groups_few =
      omega (arith, sym tallied_all, tallied-few (counts_as us (λ (s : List ℕ). true)) (held t), length-take t.count t.entries)

  -- an entry is of the group at a place exactly if that is the place found for it
  pub in_group_at : t.count ≤ length t.entries → (i d place : ℕ) → i < t.count → place < 8 → eqb (get_or (groups_in us t) i d) place ≡ in_group us t place (entry_at t i)
  unfolding groups_in
  in_group_at room i d place l m =
      let n = length_mapped t room (group_of us t) in
      ap (λ (x : ℕ). eqb x place)
      (get_or-append (map (group_of us t) (held t)) (drop t.count no_groups) d i (omega arith) ∙ mapped_at t room (group_of us t) i d l)
      ∙ go (is_put (entry_at t i)) (group_place us (puts t) (entry_at t i).key)
    where
      go : (b : Bool) (x : ℕ) → eqb (cond b x 8) place ≡ (b && eqb x place)
      go true x = refl
      go false x = ne_eqb 8 place (λ e. omega (arith, e, m))
