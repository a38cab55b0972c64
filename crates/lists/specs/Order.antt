-- Laws of the order of two lists of numbers.
use Rattle.std.specs.Prelude.{◌≡◌, ◌≤◌, ◌<◌, ◌&&◌, ◌||◌, ◌∷◌, ◌++◌}
use Rattle.std.proofs.Common.{◌∙◌}
use Rattle.lists.specs.Kit.{refl, sym, ap, ap₂, ℕ, zero, suc, eqb, ltb, Bool, true, false, cond, true≢false, List, []}
use Rattle.lists.specs.Kit.{length, take, drop, get_or, arith, eqb-true, eqb-false, ltb-true, ltb-false, eq-eqb, ne_eqb, lt-ltb, le-ltb}
use Rattle.lists.specs.Bytes.{eq_list}
use Rattle.lists.specs.Each.{less}

-- two numbers decide, unless they are equal
pub decided : (a b : ℕ) (r : Bool) → (ltb a b || eqb a b && r) ≡ cond (eqb a b) r (ltb a b)
decided a b r = go (eqb a b) refl (ltb a b) refl
  where
    go : (e : Bool) → eqb a b ≡ e → (l : Bool) → ltb a b ≡ l → (ltb a b || eqb a b && r) ≡ cond (eqb a b) r (ltb a b)
    go true p l q = let n : ltb a b ≡ false = le-ltb a b (omega (arith, eqb-true a b p)) in rw (n, p)
    go false p true q = rw (q, p)
    go false p false q = rw (q, p)

-- of two lists the first numbers do
pub less_cons : (a b : ℕ) (s t : List ℕ) → less (a ∷ s) (b ∷ t) ≡ cond (eqb a b) (less s t) (ltb a b)
unfolding less
less_cons a b s t = decided a b (less s t)

-- a comparison in three steps, grouped from the right or from the left
pub regroup : (l e m f r : Bool) → (l || e && (m || f && r)) ≡ ((l || e && m) || (e && f) && r)
regroup true e m f r = refl
regroup false true m f r = refl
regroup false false m f r = refl

-- two beginnings of one length decide, unless they are equal
pub less-append : (s t s' t' : List ℕ) → length s ≡ length t → less (s ++ s') (t ++ t') ≡ (less s t || eq_list s t && less s' t')
unfolding less
less-append [] [] s' t' n = refl
less-append [] (b ∷ t) s' t' n = absurd (omega arith)
less-append (a ∷ s) [] s' t' n = absurd (omega arith)
less-append (a ∷ s) (b ∷ t) s' t' n = rw (less-append s t s' t' (omega arith)) (regroup (ltb a b) (eqb a b) (less s t) (eq_list s t) (less s' t'))

-- A strict and total order.

pub less_head : (a b : ℕ) (s t : List ℕ) → a < b → less (a ∷ s) (b ∷ t) ≡ true
unfolding less
less_head a b s t l = let e : ltb a b ≡ true = lt-ltb a b l in rw e

pub less_tail : (a b : ℕ) (s t : List ℕ) → a ≡ b → less s t ≡ true → less (a ∷ s) (b ∷ t) ≡ true
less_tail a b s t e h = let f : eqb a b ≡ true = eq-eqb a b e in less_cons a b s t ∙ rw f h

-- how one list comes before another
pub data Before (a b : ℕ) (s t : List ℕ) : Type 0 where
  by_head : a < b → Before a b s t
  by_tail : a ≡ b → less s t ≡ true → Before a b s t

pub before : (a b : ℕ) (s t : List ℕ) → less (a ∷ s) (b ∷ t) ≡ true → Before a b s t
before a b s t h = go (eqb a b) refl (sym (less_cons a b s t) ∙ h)
  where
    go : (e : Bool) → eqb a b ≡ e → cond e (less s t) (ltb a b) ≡ true → Before a b s t
    go true p q = by_tail (eqb-true a b p) q
    go false p q = by_head (ltb-true a b q)

pub less_irrefl : (s : List ℕ) → less s s ≡ false
unfolding less
less_irrefl [] = refl
less_irrefl (a ∷ s) =
    let f : eqb a a ≡ true = eq-eqb a a refl in
    less_cons a a s s ∙ rw f (less_irrefl s)

pub less_trans : (s t u : List ℕ) → less s t ≡ true → less t u ≡ true → less s u ≡ true
unfolding less
less_trans [] [] u h g = g
less_trans [] (b ∷ t) [] h g = g
less_trans [] (b ∷ t) (c ∷ u) h g = refl
less_trans (a ∷ s) [] u h g = absurd (true≢false (sym h))
less_trans (a ∷ s) (b ∷ t) [] h g = absurd (true≢false (sym g))
less_trans (a ∷ s) (b ∷ t) (c ∷ u) h g = go (before a b s t h) (before b c t u g) (less_trans s t u)
  where
    go : Before a b s t → Before b c t u → (less s t ≡ true → less t u ≡ true → less s u ≡ true) → less (a ∷ s) (c ∷ u) ≡ true
    go (by_head l) (by_head m) f = less_head a c s u (omega arith)
    go (by_head l) (by_tail e m) f = less_head a c s u (omega arith)
    go (by_tail e l) (by_head m) f = less_head a c s u (omega arith)
    go (by_tail e l) (by_tail d m) f = less_tail a c s u (e ∙ d) (f l m)

pub less-total : (s t : List ℕ) → less s t ≡ false → less t s ≡ false → s ≡ t
unfolding less
less-total [] [] h g = refl
less-total [] (b ∷ t) h g = absurd (true≢false h)
less-total (a ∷ s) [] h g = absurd (true≢false g)
less-total (a ∷ s) (b ∷ t) h g = go (eqb a b) refl (less-total s t)
  where
    go : (e : Bool) → eqb a b ≡ e → (less s t ≡ false → less t s ≡ false → s ≡ t) → a ∷ s ≡ b ∷ t
    go true p f =
        let q : a ≡ b = eqb-true a b p in
        let r : eqb b a ≡ true = eq-eqb b a (sym q) in
        let x : less s t ≡ false = ap (λ (z : Bool). cond z (less s t) (ltb a b)) (sym p) ∙ (sym (less_cons a b s t) ∙ h) in
        let y : less t s ≡ false = ap (λ (z : Bool). cond z (less t s) (ltb b a)) (sym r) ∙ (sym (less_cons b a t s) ∙ g) in
        ap₂ ◌∷◌ q (f x y)
    go false p f =
        let r : eqb b a ≡ false = ne_eqb b a (λ e. eqb-false a b p (sym e)) in
        let x : ltb a b ≡ false = ap (λ (z : Bool). cond z (less s t) (ltb a b)) (sym p) ∙ (sym (less_cons a b s t) ∙ h) in
        let y : ltb b a ≡ false = ap (λ (z : Bool). cond z (less t s) (ltb b a)) (sym r) ∙ (sym (less_cons b a t s) ∙ g) in
        let l : b ≤ a = ltb-false a b x in
        let m : a ≤ b = ltb-false b a y in
        absurd (eqb-false a b p (omega arith))

-- a list between two that begin with the same d numbers begins with them too: were one of them another, it would decide
pub less_between : (d : ℕ) (s t u : List ℕ) → less s t ≡ true → less t u ≡ true → take d s ≡ take d u → take d t ≡ take d s
unfolding less
less_between zero s t u h g e = refl
less_between (suc d) [] [] u h g e = refl
less_between (suc d) [] (b ∷ t) [] h g e = absurd (true≢false (sym g))
less_between (suc d) [] (b ∷ t) (c ∷ u) h g e = let n : 0 ≡ suc (length (take d u)) = ap length e in absurd (omega arith)
less_between (suc d) (a ∷ s) [] u h g e = absurd (true≢false (sym h))
less_between (suc d) (a ∷ s) (b ∷ t) [] h g e = absurd (true≢false (sym g))
less_between (suc d) (a ∷ s) (b ∷ t) (c ∷ u) h g e = go (before a b s t h) (before b c t u g) (less_between d s t u)
  where
    first : a ≡ c
    first = ap (λ (l : List ℕ). get_or l 0 0) e

    rest : take d s ≡ take d u
    rest = ap (drop 1) e

    go : Before a b s t → Before b c t u → (less s t ≡ true → less t u ≡ true → take d s ≡ take d u → take d t ≡ take d s)
        → take (suc d) (b ∷ t) ≡ take (suc d) (a ∷ s)
    go (by_head l) (by_head m) f = absurd (omega (arith, first))
    go (by_head l) (by_tail p m) f = absurd (omega (arith, first))
    go (by_tail p l) (by_head m) f = absurd (omega (arith, first))
    go (by_tail p l) (by_tail q m) f = ap₂ ◌∷◌ (sym p) (f l m rest)
