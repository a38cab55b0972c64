-- Scopes compared by the fields of their keys: those that the unit of the first storage compares.
use Rattle.std.specs.Prelude.{◌≡◌, ◌-◌, ◌||◌, ◌∷◌}
use Rattle.std.proofs.Common.{◌∙◌}
use Rattle.lists.specs.Basics.{refl, sym, ap, ℕ, suc, eqb, ltb, Bool, true, false, or-false, List, take, eqb-true, less, eq_list}
use Rattle.model.specs.Types.{Key}
use Rattle.model.specs.Records.{key_numbers}
use Rattle.model.specs.Coordinator.{Letter}
use Rattle.model.specs.Groups.{unit_fields, letter_for, scope}
use Rattle.put_groups.specs.Groups.{some_field}

-- lists that begin differently are compared by their first numbers
module _ (m n x y : ℕ) (s t : List ℕ) (differ : eqb x y ≡ false) where
  first-differs : eq_list (take (suc m) (x ∷ s)) (take (suc n) (y ∷ t)) ≡ false
  unfolding eq_list
  first-differs = rw differ

  first-decides : less (take (suc m) (x ∷ s)) (take (suc n) (y ∷ t)) ≡ ltb x y
  unfolding less
  first-decides = rw differ (or-false (ltb x y))

-- Two scopes are compared in the fields that the unit of the first storage compares: where the storages differ, they decide.
module _ (us : List Letter) (a b : Key) where
  by_scope : (f : List ℕ → List ℕ → Bool) → ((m n x y : ℕ) (s t : List ℕ) → eqb x y ≡ false → f (take (suc m) (x ∷ s)) (take (suc m) (y ∷ t)) ≡ f (take (suc m) (x ∷ s)) (take (suc n) (y ∷ t))) → f (take (unit_fields (letter_for a.storage us).unit) (key_numbers a)) (take (unit_fields (letter_for a.storage us).unit) (key_numbers b)) ≡ f (scope us a) (scope us b)
  unfolding scope key_numbers
  by_scope f decided = go (eqb a.storage b.storage) refl
    where
      go : (e : Bool) → eqb a.storage b.storage ≡ e → f (take (unit_fields (letter_for a.storage us).unit) (key_numbers a)) (take (unit_fields (letter_for a.storage us).unit) (key_numbers b)) ≡ f (scope us a) (scope us b)
      go true e = ap (λ (n : ℕ). f (scope us a) (take (unit_fields (letter_for n us).unit) (key_numbers b))) (eqb-true a.storage b.storage e)
      go false e =
          rw (some_field (letter_for a.storage us).unit, some_field (letter_for b.storage us).unit)
          (decided (unit_fields (letter_for a.storage us).unit - 1) (unit_fields (letter_for b.storage us).unit - 1) a.storage b.storage _ _ e)

  pub scope-same : eq_list (take (unit_fields (letter_for a.storage us).unit) (key_numbers a)) (take (unit_fields (letter_for a.storage us).unit) (key_numbers b)) ≡ eq_list (scope us a) (scope us b)
  scope-same = by_scope eq_list (λ m n x y s t e. first-differs m m x y s t e ∙ sym (first-differs m n x y s t e))

  pub scope-less : less (take (unit_fields (letter_for a.storage us).unit) (key_numbers a)) (take (unit_fields (letter_for a.storage us).unit) (key_numbers b)) ≡ less (scope us a) (scope us b)
  scope-less = by_scope less (λ m n x y s t e. first-decides m m x y s t e ∙ sym (first-decides m n x y s t e))
