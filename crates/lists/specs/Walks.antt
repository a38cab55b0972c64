-- A loop that goes through a list: f of the elements from i on is what was to be computed, w. Each turn takes the element at i off, and past the last
-- nothing is left.
use Rattle.std.specs.Prelude.{◌≡◌, ◌+◌, ◌≤◌, ◌<◌, ◌∷◌}
use Rattle.std.proofs.Common.{◌∙◌}
use Rattle.lists.specs.Kit.{refl, sym, ap, ap₂, ℕ, List, [], length, drop, get_or, drop_of_length-le, drop-cons, arith}
use Rattle.lists.specs.Kit.{add-one}

-- the element at i, by any name, and those after it
pub drop_here : {A : Type 0} (xs : List A) (i : ℕ) (d x : A) → i < length xs → x ≡ get_or xs i d → drop i xs ≡ x ∷ drop (i + 1) xs
drop_here xs i d x l e = drop-cons xs i d l ∙ ap₂ ◌∷◌ (sym e) (ap (λ (k : ℕ). drop k xs) (sym (add-one i)))

pub record LeftFrom {A B : Type 0} (xs : List A) (f : List A → B) (w : B) (i : ℕ) : Type 0 where
  pub reached : i ≤ length xs
  pub rest : f (drop i xs) ≡ w

module _ {A B : Type 0} (xs : List A) (f : List A → B) where
  pub left-first : LeftFrom xs f (f xs) 0
  left-first = record { reached = omega arith; rest = refl }

  -- element i and those after it
  pub left_here : (d x : A) (w : B) (i : ℕ) → i < length xs → x ≡ get_or xs i d → LeftFrom xs f w i → f (x ∷ drop (i + 1) xs) ≡ w
  left_here d x w i l e p = sym (ap f (drop_here xs i d x l e)) ∙ p.rest

  pub left_last : (w : B) (i : ℕ) → length xs ≤ i → LeftFrom xs f w i → f [] ≡ w
  left_last w i l p = ap f (sym (drop_of_length-le xs l)) ∙ p.rest
