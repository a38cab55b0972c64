-- The search of an element that passes a test, for any list and test: whether something is found, what is known of its index, and when another search finds the same.
use Rattle.std.specs.Prelude.{◌≡◌, ◌+◌, ◌<◌, ◌||◌, ◌∷◌}
use Rattle.std.proofs.Common.{◌∙◌}
use Rattle.lists.specs.Basics.{refl, ap, ap₂, subst, ℕ, suc, Bool, true, false, not, cond, List, [], map, length, take, get_or}
use Rattle.lists.specs.Basics.{arith, all, any, and_fst, and_snd, choose_by}
use Rattle.model.specs.Types.{Found, Some, None}
use Rattle.model.specs.Search.{first_from}
use Rattle.model.specs.Records.{is_missing}

module _ {ℓ} {A : Type ℓ} (p : A → Bool) where
  -- something is found exactly if some element passes
  pub some_found : (i : ℕ) (xs : List A) → not (is_missing (first_from p i xs)) ≡ any p xs
  unfolding first_from is_missing any
  some_found i [] = refl
  some_found i (x ∷ xs) = choose_by (λ (f : Found). not (is_missing f) ≡ (p x || any p xs)) (p x) (λ e. rw e) (λ e. rw e (some_found (suc i) xs))

  -- the first element that passes is element m
  pub record FirstAt (xs : List A) (d : A) (m : ℕ) : Type 0 where
    pub within : m < length xs
    pub passes : p (get_or xs m d) ≡ true
    pub before : any p (take m xs) ≡ false

  first_from_lem {κ} : (P : Found → Type κ) (i : ℕ) (xs : List A) (d : A) → (any p xs ≡ false → P None) → ((m : ℕ) → FirstAt xs d m → P (Some (i + m))) → P (first_from p i xs)
  unfolding first_from any
  first_from_lem P i [] d f g = f refl
  first_from_lem P i (x ∷ xs) d f g =
      choose_by P (p x)
      (λ h. let z : i + 0 ≡ i = omega arith in
      subst (λ (n : ℕ). P (Some n)) z (g 0 (record { within = omega arith; passes = h; before = refl })))
      (λ h. first_from_lem P (suc i) xs d
      (λ n. f (ap (λ (b : Bool). b || any p xs) h ∙ n))
      (λ m y. let z : i + suc m ≡ suc i + m = omega arith in
      let l : m < length xs = y.within in
      subst (λ (n : ℕ). P (Some n)) z
      (g (suc m) (record { within = omega arith; passes = y.passes; before = ap (λ (b : Bool). b || any p (take m xs)) h ∙ y.before }))))

  -- a fact about the index found: of none if no element passes, else of the index of the first that does
  pub first_by {κ} : (P : Found → Type κ) (xs : List A) (d : A) → (any p xs ≡ false → P None) → ((m : ℕ) → FirstAt xs d m → P (Some m)) → P (first_from p 0 xs)
  first_by P xs d f g = first_from_lem P 0 xs d f (λ m x. let z : m ≡ 0 + m = omega arith in subst (λ (n : ℕ). P (Some n)) z (g m x))

  -- an index that was found
  pub first_at : (xs : List A) (d : A) (i : ℕ) → first_from p 0 xs ≡ Some i → FirstAt xs d i
  first_at xs d i =
      first_by (λ (f : Found). f ≡ Some i → FirstAt xs d i) xs d (λ n e. let z : ◌≡◌ {A = ℕ} 0 1 = cc in absurd (omega arith))
      (λ m x e. let q : m ≡ i = cc in subst (FirstAt xs d) q x)

  -- elements pass a test where what they are mapped to passes another: both searches find the same index
  pub first-map : {B : Type ℓ} (f : B → A) (g q : B → Bool) → ((x : B) → g x ≡ true → p (f x) ≡ q x) → (i : ℕ) (xs : List B) → all g xs ≡ true → first_from p i (map f xs) ≡ first_from q i xs
  unfolding first_from all
  first-map f g q e i [] h = refl
  first-map f g q e i (x ∷ xs) h =
      ap₂ (λ (b : Bool) (t : Found). cond b (Some i) t) (e x (and_fst (g x) (all g xs) h))
      (first-map f g q e (suc i) xs (and_snd (g x) (all g xs) h))
