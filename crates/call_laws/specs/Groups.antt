-- Groups: keys whose groups have one place agree in the fields of their unit, and every put is in a group. The places count the scopes below, so that a
-- scope below another has a lower place. Keys of one scope stand together, since a scope is the first fields of a key.
use Rattle.std.specs.Prelude.{◌≡◌, ◌<◌, ◌∷◌}
use Rattle.std.proofs.Common.{◌∙◌}
use Rattle.lists.specs.Basics.{refl, sym, ap, ℕ, eqb, Bool, true, false, cond, List, [], length, take, get_or}
use Rattle.lists.specs.Basics.{arith, eqb-true, any, count, less, eq_list, eq_list_refl, or_else, or_left, or_right}
use Rattle.lists.specs.Order.{less_irrefl, less_trans, less-total, less_between}
use Rattle.lists.specs.Chosen.{count_less, count-all}
use Rattle.model.specs.Types.{Key, AtomicityUnit, Entry}
use Rattle.types.specs.declared.AtomicityUnit.TheVariants.{Record as RecordUnit, Partition, Table, Namespace, Storage}
use Rattle.model.specs.Records.{key_numbers, key_less, same_key}
use Rattle.model.specs.Coordinator.{Letter}
use Rattle.model.specs.Groups.{unit_fields, letter_for, scope, add_scope, scopes, group_count, group_place, group}
use Rattle.sheet_laws.specs.KeyOrder.{same_key_lem}
use Rattle.call_laws.specs.Keys.{has_key, chosen_key}

-- every unit compares the storage
first_field : (u : AtomicityUnit) (k : Key) → get_or (take (unit_fields u) (key_numbers k)) 0 0 ≡ k.storage
unfolding unit_fields key_numbers
first_field RecordUnit k = refl
first_field Partition k = refl
first_field Table k = refl
first_field Namespace k = refl
first_field Storage k = refl

module _ (us : List Letter) where
  add_own : (s : List ℕ) (ss : List (List ℕ)) → any (eq_list s) (add_scope s ss) ≡ true
  unfolding add_scope any
  add_own s ss = go (any (eq_list s) ss) refl
    where
      go : (b : Bool) → any (eq_list s) ss ≡ b → any (eq_list s) (cond b ss (s ∷ ss)) ≡ true
      go true e = e
      go false e = or_left (eq_list s s) (any (eq_list s) ss) (eq_list_refl s)

  add_other : (s x : List ℕ) (ss : List (List ℕ)) → any (eq_list s) ss ≡ true → any (eq_list s) (add_scope x ss) ≡ true
  unfolding add_scope any
  add_other s x ss h = go (any (eq_list x) ss)
    where
      go : (b : Bool) → any (eq_list s) (cond b ss (x ∷ ss)) ≡ true
      go true = h
      go false = or_right (eq_list s x) (any (eq_list s) ss) h

  -- the scope of a key that an entry has is among the scopes
  pub scope-listed : (k : Key) (es : List Entry) → has_key k es ≡ true → any (eq_list (scope us k)) (scopes us es) ≡ true
  unfolding scopes any
  scope-listed k [] h = h
  scope-listed k (e ∷ es) h =
      or_else (same_key e.key k) (has_key k es) h
      (λ g. ap (λ (x : Key). any (eq_list (scope us x)) (add_scope (scope us e.key) (scopes us es))) (sym (same_key_lem e.key k g))
      ∙ add_own (scope us e.key) (scopes us es))
      (λ g n. add_other (scope us k) (scope us e.key) (scopes us es) (scope-listed k es n))

  -- keys of one scope have one storage
  pub scope_storage : (a b : Key) → scope us a ≡ scope us b → a.storage ≡ b.storage
  unfolding scope
  scope_storage a b e =
      sym (first_field (letter_for a.storage us).unit a) ∙ (ap (λ (l : List ℕ). get_or l 0 0) e ∙ first_field (letter_for b.storage us).unit b)

  -- a key between two of one scope has that scope
  pub scope_between : (a k b : Key) → key_less a k ≡ true → key_less k b ≡ true → scope us a ≡ scope us b → scope us k ≡ scope us a
  unfolding scope key_less
  scope_between a k b h g e =
      let u = (letter_for a.storage us).unit in
      let p : a.storage ≡ b.storage = scope_storage a b e in
      let f : take (unit_fields u) (key_numbers a) ≡ take (unit_fields u) (key_numbers b) = e ∙ ap (fields b) (sym p) in
      let m : take (unit_fields u) (key_numbers k) ≡ take (unit_fields u) (key_numbers a) =
      less_between (unit_fields u) (key_numbers a) (key_numbers k) (key_numbers b) h g f in
      let q : k.storage ≡ a.storage = sym (first_field u k) ∙ (ap first m ∙ first_field u a) in
      ap (fields k) q ∙ m
    where
      first : List ℕ → ℕ
      first l = get_or l 0 0

      -- the fields of a key that the unit of a storage compares
      fields : Key → ℕ → List ℕ
      fields x n = take (unit_fields (letter_for n us).unit) (key_numbers x)

  module _ (es : List Entry) where
    -- "Groups go in rising key order": a lower scope has a lower place.
    pub place_lower : (a b : Key) → has_key a es ≡ true → less (scope us a) (scope us b) ≡ true → group_place us es a < group_place us es b
    unfolding group_place
    place_lower a b h l =
        count_less (λ (s : List ℕ). less s (scope us a)) (λ (s : List ℕ). less s (scope us b))
        (λ s g. less_trans s (scope us a) (scope us b) g l)
        (scope us a) (less_irrefl (scope us a)) l (scopes us es) (scope-listed a es h)

    -- "Puts are in one group if their keys agree in the first .. fields."
    pub one-scope : (a b : Key) → has_key a es ≡ true → has_key b es ≡ true → group_place us es a ≡ group_place us es b → scope us a ≡ scope us b
    one-scope a b f g e = less-total (scope us a) (scope us b) (not_lower a b f e) (not_lower b a g (sym e))
      where
        not_lower : (c d : Key) → has_key c es ≡ true → group_place us es c ≡ group_place us es d → less (scope us c) (scope us d) ≡ false
        not_lower c d h p = go (less (scope us c) (scope us d)) refl
          where
            go : (x : Bool) → less (scope us c) (scope us d) ≡ x → x ≡ false
            go true q = let l : group_place us es c < group_place us es d = place_lower c d h q in absurd (omega (arith, l, p))
            go false q = refl

    -- every entry is in one of the groups
    pub place_below : (k : Key) → has_key k es ≡ true → group_place us es k < group_count us es
    unfolding group_place group_count
    place_below k h =
        let l : count (λ (s : List ℕ). less s (scope us k)) (scopes us es) < count (λ (s : List ℕ). true) (scopes us es) =
        count_less (λ (s : List ℕ). less s (scope us k)) (λ (s : List ℕ). true) (λ s g. refl)
        (scope us k) (less_irrefl (scope us k)) refl (scopes us es) (scope-listed k es h) in
        let e : count (λ (s : List ℕ). true) (scopes us es) ≡ length (scopes us es) = count-all (scopes us es) in
        omega (arith, l, e)

    -- a key of a group is a key of the entries, and has the group's place
    pub record InGroup (i : ℕ) (k : Key) : Type 0 where
      pub listed : has_key k es ≡ true
      pub place : group_place us es k ≡ i

    pub in_group_lem : (i : ℕ) (k : Key) → has_key k (group us es i) ≡ true → InGroup i k
    unfolding group
    in_group_lem i k h =
        let b : (has_key k es ≡ true) × (eqb (group_place us es k) i ≡ true) = chosen_key (λ (x : Key). eqb (group_place us es x) i) k es h in
        record { listed = b.0; place = eqb-true (group_place us es k) i b.1 }
