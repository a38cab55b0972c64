-- Membership in a list, as data: what tests, choices and indices say of the members. Each goes by induction on the membership.
use Rattle.std.specs.Prelude.{◌≡◌, ◌<◌, ◌∷◌, ◌++◌, ◌⊎◌}
use Rattle.std.proofs.Common.{◌∙◌}
use Rattle.lists.specs.Kit.{refl, sym, ℕ, zero, suc, Bool, true, true≢false, List, [], length, take, get_or, set, inl, inr}
use Rattle.lists.specs.Kit.{arith}
use Rattle.lists.specs.Tests.{and_fst, and_snd, choose_by}
use Rattle.lists.specs.Each.{all, filter}

-- x is one of the elements
pub data Mem {A : Type 0} (x : A) : List A → Type 0 where
  here : {ys : List A} → Mem x (x ∷ ys)
  there : {y : A} {ys : List A} → Mem x ys → Mem x (y ∷ ys)

module _ {A : Type 0} {x : A} where
  pub mem_none : Mem x [] → ⊥
  mem_none m = elim m [ ]

  pub mem_cases : {y : A} {xs : List A} → Mem x (y ∷ xs) → (x ≡ y) ⊎ Mem x xs
  mem_cases here = inl refl
  mem_cases (there m) = inr m

  later : {P : Type 0} {y : A} {xs : List A} → Mem x xs ⊎ P → Mem x (y ∷ xs) ⊎ P
  later (inl m) = inl (there m)
  later (inr p) = inr p

  -- what all pass, a member passes
  pub mem_passes : (p : A → Bool) (xs : List A) → all p xs ≡ true → Mem x xs → p x ≡ true
  unfolding all
  mem_passes p (y ∷ xs) h here = and_fst (p y) (all p xs) h
  mem_passes p (y ∷ xs) h (there m) = mem_passes p xs (and_snd (p y) (all p xs) h) m
  mem_passes p [] h x3 = elim x3 [ ]

  -- a member that passes is among those chosen
  pub mem_filter : (p : A → Bool) (xs : List A) → Mem x xs → p x ≡ true → Mem x (filter p xs)
  unfolding filter
  mem_filter p (y ∷ xs) here h = choose_by (Mem x) (p x) (λ e. here) (λ e. absurd (true≢false (sym h ∙ e)))
  mem_filter p (y ∷ xs) (there m) h = choose_by (Mem x) (p y) (λ e. there (mem_filter p xs m h)) (λ e. mem_filter p xs m h)
  mem_filter p [] x3 h = elim x3 [ ]

  -- a member of the first n + 1 is among the first n, or the next
  pub mem_next : (d : A) (n : ℕ) (xs : List A) → Mem x (take (suc n) xs) → Mem x (take n xs) ⊎ (x ≡ get_or xs n d)
  mem_next d zero (y ∷ xs) here = inr refl
  mem_next d zero (y ∷ xs) (there m) = absurd (mem_none m)
  mem_next d (suc n) (y ∷ xs) here = inl here
  mem_next d (suc n) (y ∷ xs) (there m) = later (mem_next d n xs m)
  mem_next d n [] m = absurd (mem_none m)

  -- One element more at the end.

  pub mem_before : (xs ys : List A) → Mem x xs → Mem x (xs ++ ys)
  mem_before (y ∷ xs) ys here = here
  mem_before (y ∷ xs) ys (there m) = there (mem_before xs ys m)
  mem_before [] ys x'' = elim x'' [ ]

  pub mem_last : (xs : List A) → Mem x (xs ++ (x ∷ []))
  mem_last [] = here
  mem_last (y ∷ xs) = there (mem_last xs)

  pub mem_more : (y : A) (xs : List A) → Mem x (xs ++ (y ∷ [])) → Mem x xs ⊎ (x ≡ y)
  mem_more y [] here = inr refl
  mem_more y [] (there m) = absurd (mem_none m)
  mem_more y (z ∷ xs) here = inl here
  mem_more y (z ∷ xs) (there m) = later (mem_more y xs m)

  -- One element replaced.

  pub mem_set : (y : A) (i : ℕ) (xs : List A) → Mem x (set xs i y) → Mem x xs ⊎ (x ≡ y)
  mem_set y i [] m = inl m
  mem_set y zero (z ∷ xs) here = inr refl
  mem_set y zero (z ∷ xs) (there m) = inl (there m)
  mem_set y (suc i) (z ∷ xs) here = inl here
  mem_set y (suc i) (z ∷ xs) (there m) = later (mem_set y i xs m)

  pub mem_kept : (d y : A) (i : ℕ) (xs : List A) → Mem x xs → Mem x (set xs i y) ⊎ (x ≡ get_or xs i d)
  mem_kept d y zero (z ∷ xs) here = inr refl
  mem_kept d y zero (z ∷ xs) (there m) = inl (there m)
  mem_kept d y (suc i) (z ∷ xs) here = inl here
  mem_kept d y (suc i) (z ∷ xs) (there m) = later (mem_kept d y i xs m)
  mem_kept d y zero [] x3 = elim x3 [ ]
  mem_kept d y (suc i) [] x4 = elim x4 [ ]

-- The element at an index.
module _ {A : Type 0} where
  pub mem_at : (xs : List A) (i : ℕ) (d : A) → i < length xs → Mem (get_or xs i d) xs
  mem_at [] i d l = absurd (omega arith)
  mem_at (x ∷ xs) zero d l = here
  mem_at (x ∷ xs) (suc i) d l = there (mem_at xs i d (omega arith))

  pub mem_set_at : (xs : List A) (i : ℕ) (y : A) → i < length xs → Mem y (set xs i y)
  mem_set_at [] i y l = absurd (omega arith)
  mem_set_at (x ∷ xs) zero y l = here
  mem_set_at (x ∷ xs) (suc i) y l = there (mem_set_at xs i y (omega arith))
