-- Laws of `any`, `filter` and `count`: each by induction on the list, with the first element's test at hand.
use Rattle.std.specs.Prelude.{◌≡◌, ◌≤◌, ◌<◌, ◌&&◌, ◌||◌, ◌∷◌}
use Rattle.std.proofs.Common.{◌∙◌}
use Rattle.lists.specs.Kit.{refl, sym, ap, ap₂, ℕ, zero, suc, Bool, true, false, cond, true≢false, List, [], map, length, get_or}
use Rattle.lists.specs.Kit.{arith}
use Rattle.lists.specs.Bytes.{eq_list, eq_list-true}
use Rattle.lists.specs.Tests.{and_fst, and_snd, and_both}
use Rattle.lists.specs.Each.{all, any, filter, count}

-- the first passes, or a later one does
pub or_else : {P : Type 0} (a b : Bool) → (a || b) ≡ true → (a ≡ true → P) → (a ≡ false → b ≡ true → P) → P
or_else true b h f g = f refl
or_else false b h f g = g refl h

pub or_right : (a b : Bool) → b ≡ true → (a || b) ≡ true
or_right true b h = refl
or_right false b h = h

pub or_left : (a b : Bool) → a ≡ true → (a || b) ≡ true
or_left a b h = rw h

-- neither passes
pub or_fst : (a b : Bool) → (a || b) ≡ false → a ≡ false
or_fst true b h = h
or_fst false b h = refl

pub or_snd : (a b : Bool) → (a || b) ≡ false → b ≡ false
or_snd true b h = absurd (true≢false h)
or_snd false b h = h

module _ {ℓ} {A : Type ℓ} where
  -- some element passes both tests if it stands among those that pass the first
  pub any-filter : (p q : A → Bool) (xs : List A) → any q (filter p xs) ≡ any (λ (x : A). p x && q x) xs
  unfolding any filter
  any-filter p q [] = refl
  any-filter p q (x ∷ xs) = go (p x) (any-filter p q xs)
    where
      go : (b : Bool) → any q (filter p xs) ≡ any (λ (y : A). p y && q y) xs → any q (cond b (x ∷ filter p xs) (filter p xs)) ≡ (b && q x || any (λ (y : A). p y && q y) xs)
      go true e = ap (λ (z : Bool). q x || z) e
      go false e = e

  -- a test that holds wherever another does
  pub any_weaken : (p q : A → Bool) → ((x : A) → p x ≡ true → q x ≡ true) → (xs : List A) → any p xs ≡ true → any q xs ≡ true
  unfolding any
  any_weaken p q e [] h = h
  any_weaken p q e (x ∷ xs) h =
      or_else (p x) (any p xs) h (λ g. or_left (q x) (any q xs) (e x g)) (λ g k. or_right (q x) (any q xs) (any_weaken p q e xs k))

  pub any-map : {B : Type ℓ} (f : B → A) (p : A → Bool) (xs : List B) → any p (map f xs) ≡ any (λ (x : B). p (f x)) xs
  unfolding any
  any-map f p [] = refl
  any-map f p (x ∷ xs) = ap (λ (b : Bool). p (f x) || b) (any-map f p xs)

  -- what none passes, no element does
  pub none_at : (p : A → Bool) (xs : List A) (d : A) (i : ℕ) → any p xs ≡ false → i < length xs → p (get_or xs i d) ≡ false
  unfolding any
  none_at p [] d i h l = absurd (omega arith)
  none_at p (x ∷ xs) d zero h l = or_fst (p x) (any p xs) h
  none_at p (x ∷ xs) d (suc i) h l = none_at p xs d i (or_snd (p x) (any p xs) h) (omega arith)

  -- what all pass, an element among them passes
  pub all_any : (p q : A → Bool) (xs : List A) → all p xs ≡ true → any q xs ≡ true → any (λ (x : A). p x && q x) xs ≡ true
  unfolding all any
  all_any p q [] h g = g
  all_any p q (x ∷ xs) h g =
      or_else (q x) (any q xs) g
      (λ e. or_left (p x && q x) _ (and_both (and_fst (p x) (all p xs) h) e))
      (λ e k. or_right (p x && q x) _ (all_any p q xs (and_snd (p x) (all p xs) h) k))

  pub all_filter : (p q : A → Bool) (xs : List A) → all q xs ≡ true → all q (filter p xs) ≡ true
  unfolding all filter
  all_filter p q [] h = refl
  all_filter p q (x ∷ xs) h = go (p x) (all_filter p q xs (and_snd (q x) (all q xs) h))
    where
      go : (b : Bool) → all q (filter p xs) ≡ true → all q (cond b (x ∷ filter p xs) (filter p xs)) ≡ true
      go true e = and_both (and_fst (q x) (all q xs) h) e
      go false e = e

  -- those that were chosen pass the test
  pub filter_passes : (p : A → Bool) (xs : List A) → all p (filter p xs) ≡ true
  unfolding all filter
  filter_passes p [] = refl
  filter_passes p (x ∷ xs) = go (p x) refl (filter_passes p xs)
    where
      go : (b : Bool) → p x ≡ b → all p (filter p xs) ≡ true → all p (cond b (x ∷ filter p xs) (filter p xs)) ≡ true
      go true f e = and_both f e
      go false f e = e

  pub count_le : (p q : A → Bool) → ((x : A) → p x ≡ true → q x ≡ true) → (xs : List A) → count p xs ≤ count q xs
  unfolding count
  count_le p q e [] = omega arith
  count_le p q e (x ∷ xs) = go (p x) refl (q x) refl (count_le p q e xs)
    where
      go : (a : Bool) → p x ≡ a → (b : Bool) → q x ≡ b → count p xs ≤ count q xs → cond a (suc (count p xs)) (count p xs) ≤ cond b (suc (count q xs)) (count q xs)
      go true f true g l = omega arith
      go true f false g l = absurd (true≢false (sym (e x f) ∙ g))
      go false f true g l = omega arith
      go false f false g l = l

  pub count_none : (p : A → Bool) (xs : List A) → any p xs ≡ false → count p xs ≡ 0
  unfolding count any
  count_none p [] h = refl
  count_none p (x ∷ xs) h =
      let e : p x ≡ false = or_fst (p x) (any p xs) h in
      rw e (count_none p xs (or_snd (p x) (any p xs) h))

  -- elements are counted where what they are mapped to is
  pub count_map : {B : Type ℓ} (p : A → Bool) (f : B → A) (g q : B → Bool) → ((x : B) → g x ≡ true → p (f x) ≡ q x) → (xs : List B) → all g xs ≡ true → count p (map f xs) ≡ count q xs
  unfolding count all
  count_map p f g q e [] h = refl
  count_map p f g q e (x ∷ xs) h =
      ap₂ (λ (b : Bool) (n : ℕ). cond b (suc n) n) (e x (and_fst (g x) (all g xs) h)) (count_map p f g q e xs (and_snd (g x) (all g xs) h))

  pub count-all : (xs : List A) → count (λ (x : A). true) xs ≡ length xs
  unfolding count
  count-all [] = refl
  count-all (x ∷ xs) = ap suc (count-all xs)

-- one more passes: the wider test has an element that the narrower has not
pub count_less : (p q : List ℕ → Bool) → ((x : List ℕ) → p x ≡ true → q x ≡ true) → (y : List ℕ) → p y ≡ false → q y ≡ true → (xs : List (List ℕ)) → any (eq_list y) xs ≡ true → count p xs < count q xs
unfolding count any
count_less p q e y f g [] h = absurd (true≢false (sym h))
count_less p q e y f g (x ∷ xs) h =
    or_else (eq_list y x) (any (eq_list y) xs) h
    (λ s. let d : y ≡ x = eq_list-true y x s in
    let a : p x ≡ false = ap p (sym d) ∙ f in
    let b : q x ≡ true = ap q (sym d) ∙ g in
    let l : count p xs ≤ count q xs = count_le p q e xs in
    rw (a, b) (omega arith))
    (λ s k. step (p x) refl (q x) refl (count_less p q e y f g xs k))
  where
    step : (a : Bool) → p x ≡ a → (b : Bool) → q x ≡ b → count p xs < count q xs → cond a (suc (count p xs)) (count p xs) < cond b (suc (count q xs)) (count q xs)
    step true c true d l = omega arith
    step true c false d l = absurd (true≢false (sym (e x c) ∙ d))
    step false c true d l = omega arith
    step false c false d l = l

-- What the last arm of a match over 0 to n - 1 knows: that the number is none of them, and so at least n.
abbrev pub Missed : ℕ → ℕ → Type 0
Missed zero i = Unit {0}
Missed (suc n) i = Missed n i × (i ≡ n → ⊥)

pub past_arms : (n i : ℕ) → Missed n i → n ≤ i
past_arms zero i m = omega arith
past_arms (suc n) i m = omega (arith, past_arms n i m.0, m.1)
