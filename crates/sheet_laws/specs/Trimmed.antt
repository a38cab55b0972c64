-- A list without the elements at its end that pass a test: what the check of a sheet with spares counts.
use Rattle.std.specs.Prelude.{◌≤◌, ◌≡◌, ◌&&◌, ◌∷◌, ◌++◌}
use Rattle.std.proofs.Common.{◌∙◌}
use Rattle.lists.specs.Basics.{ℕ, zero, suc, refl, sym, ap, ap₂, Bool, true, false, not, cond, List, []}
use Rattle.lists.specs.Basics.{map, arith, length, take, drop, replicate, eqb, eqb-true, ne_eqb, and_fst, and_snd, and_both, choose_by}
use Rattle.lists.specs.Basics.{all}
use Rattle.model.specs.Spares.{trimmed}

some_left : (m : ℕ) (b : Bool) → cond (eqb (suc m) 0 && b) 0 (suc (suc m)) ≡ suc (suc m)
some_left m b =
    ap (λ (x : Bool). cond (x && b) 0 (suc (suc m))) (ne_eqb (suc m) 0 (λ e. omega arith))

module _ {ℓ} {A : Type ℓ} (p : A → Bool) where
  -- one that passes at the end makes no difference
  pub trimmed-pass : (x : A) (xs : List A) → p x ≡ true → trimmed p (xs ++ (x ∷ [])) ≡ trimmed p xs
  unfolding trimmed
  trimmed-pass x [] h = ap (λ (b : Bool). cond b 0 1) h
  trimmed-pass x (y ∷ xs) h = ap (λ (n : ℕ). cond (eqb n 0 && p y) 0 (suc n)) (trimmed-pass x xs h)

  pub trimmed_fail : (x : A) (xs : List A) → p x ≡ false → trimmed p (xs ++ (x ∷ [])) ≡ suc (length xs)
  unfolding trimmed
  trimmed_fail x [] h = ap (λ (b : Bool). cond b 0 1) h
  trimmed_fail x (y ∷ xs) h = ap (λ (n : ℕ). cond (eqb n 0 && p y) 0 (suc n)) (trimmed_fail x xs h) ∙ some_left (length xs) (p y)

  pub trimmed_le : (xs : List A) → trimmed p xs ≤ length xs
  unfolding trimmed
  trimmed_le [] = omega arith
  trimmed_le (x ∷ xs) =
      let h : trimmed p xs ≤ length xs = trimmed_le xs in
      choose_by (λ (n : ℕ). n ≤ suc (length xs)) (eqb (trimmed p xs) 0 && p x) (λ e. omega arith) (λ e. omega arith)

  -- from there on all pass
  pub trimmed-rest : (xs : List A) → all p (drop (trimmed p xs) xs) ≡ true
  unfolding trimmed all
  trimmed-rest [] = refl
  trimmed-rest (x ∷ xs) =
      choose_by (λ (n : ℕ). all p (drop n (x ∷ xs)) ≡ true) (eqb (trimmed p xs) 0 && p x)
      (λ e.
      let z : trimmed p xs ≡ 0 = eqb-true (trimmed p xs) 0 (and_fst (eqb (trimmed p xs) 0) (p x) e) in
      and_both (and_snd (eqb (trimmed p xs) 0) (p x) e) (ap (λ (n : ℕ). all p (drop n xs)) (sym z) ∙ trimmed-rest xs))
      (λ e. trimmed-rest xs)

  all-trimmed : (d : A) (n : ℕ) → p d ≡ true → trimmed p (replicate n d) ≡ 0
  unfolding trimmed
  all-trimmed d zero h = refl
  all-trimmed d (suc n) h =
      ap (λ (m : ℕ). cond (eqb m 0 && p d) 0 (suc m)) (all-trimmed d n h) ∙ ap (λ (b : Bool). cond b 0 1) h

  -- elements that fail, and as many as you like behind them that pass
  pub trimmed-behind : (d : A) (n : ℕ) (xs : List A) → p d ≡ true → all (λ (x : A). not (p x)) xs ≡ true → trimmed p (xs ++ replicate n d) ≡ length xs
  unfolding trimmed all
  trimmed-behind d n [] h g = all-trimmed d n h
  trimmed-behind d n (x ∷ xs) h g =
      let e : p x ≡ false = fails (p x) (and_fst (not (p x)) (all (λ (y : A). not (p y)) xs) g) in
      ap₂ (λ (m : ℕ) (b : Bool). cond (eqb m 0 && b) 0 (suc m)) (trimmed-behind d n xs h (and_snd (not (p x)) (all (λ (y : A). not (p y)) xs) g)) e
      ∙ none (length xs)
    where
      fails : (b : Bool) → not b ≡ true → b ≡ false
      fails true q = sym q
      fails false q = refl

      none : (m : ℕ) → cond (eqb m 0 && false) 0 (suc m) ≡ suc m
      none zero = refl
      none (suc m) = some_left m false

module _ {ℓ} {A : Type ℓ} (p : A → Bool) where
  -- more behind that pass make no difference
  pub trimmed_more : (d : A) (n : ℕ) (xs : List A) → p d ≡ true → trimmed p (xs ++ replicate n d) ≡ trimmed p xs
  unfolding trimmed
  trimmed_more d n [] h = all-trimmed p d n h
  trimmed_more d n (x ∷ xs) h = ap (λ (m : ℕ). cond (eqb m 0 && p x) 0 (suc m)) (trimmed_more d n xs h)

  -- what is left has none at its end
  pub trimmed-first : (xs : List A) → trimmed p (take (trimmed p xs) xs) ≡ trimmed p xs
  unfolding trimmed
  trimmed-first [] = refl
  trimmed-first (x ∷ xs) = go (eqb (trimmed p xs) 0 && p x) refl (trimmed-first xs)
    where
      go : (b : Bool) → (eqb (trimmed p xs) 0 && p x) ≡ b → trimmed p (take (trimmed p xs) xs) ≡ trimmed p xs → trimmed p (take (cond b 0 (suc (trimmed p xs))) (x ∷ xs)) ≡ cond b 0 (suc (trimmed p xs))
      go true e h = refl
      go false e h = ap (λ (m : ℕ). cond (eqb m 0 && p x) 0 (suc m)) h ∙ ap (λ (c : Bool). cond c 0 (suc (trimmed p xs))) e

-- the same of what elements are mapped to
pub trimmed-map {ℓ κ} : {A : Type ℓ} {B : Type κ} (p : B → Bool) (q g : A → Bool) (f : A → B) → ((x : A) → g x ≡ true → p (f x) ≡ q x) → (xs : List A) → all g xs ≡ true → trimmed p (map f xs) ≡ trimmed q xs
unfolding trimmed all
trimmed-map p q g f e [] h = refl
trimmed-map p q g f e (x ∷ xs) h =
    ap₂ (λ (n : ℕ) (b : Bool). cond (eqb n 0 && b) 0 (suc n)) (trimmed-map p q g f e xs (and_snd (g x) (all g xs) h)) (e x (and_fst (g x) (all g xs) h))
