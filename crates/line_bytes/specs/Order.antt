-- The order of two texts by their bytes, and a text as one number. Equal lengths of bytes order as their numbers do, since one byte more takes
-- both numbers times 256 and adds less than that: what was less stays less, and what was equal is decided by the byte.
use Rattle.std.specs.Prelude.{◌≡◌, ◌+◌, ◌-◌, ◌*◌, ◌^◌, ◌≤◌, ◌<◌, ◌&&◌, ◌||◌, ◌∷◌, ◌++◌}
use Rattle.std.specs.Int.{w64, from_be_bytes}
use Rattle.lists.specs.Basics.{refl, sym, ap, ℕ, zero, suc, eqb, ltb, Bool, true, false, cond, and_assoc, and-true}
use Rattle.lists.specs.Basics.{and-false, or-false, List, [], length, take, drop, get_or, length-take, length-drop, drop-drop, take-add, get_or-drop, arith}
use Rattle.lists.specs.Basics.{append-nil, drop_of_length-le, drop-cons, length-append, replicate, take_all}
use Rattle.std.proofs.lemmas.List.{length-replicate}
use Rattle.lists.specs.Basics.{add-one, eqb-true, eqb-false, ltb-true, ltb-false, eq-eqb, ne_eqb, lt-ltb, le-ltb, less, eq_list, and_both, same_test, tests}
use Rattle.std.proofs.Common.{pow-suc, ◌∙◌}
use Rattle.std.proofs.Math.Nat.{mul-le-mul_right, pow-le-pow_right}
use Rattle.std.proofs.Math.Pow.{are_bytes}
use Rattle.lists.specs.Order.{decided, regroup, less-append}

-- the number whose digits to the base 256 are those of v and then the bytes
unfoldable pub number_from : ℕ → List ℕ → ℕ
number_from v [] = v
number_from v (b ∷ s) = number_from (v * 256 + b) s

abbrev pub number_of : List ℕ → ℕ
number_of s = number_from 0 s

-- one byte more on two numbers
less_more : (v u a b : ℕ) → a < 256 → b < 256 → ltb (v * 256 + a) (u * 256 + b) ≡ (ltb v u || (eqb v u && ltb a b))
less_more v u a b g h = go (ltb v u) refl (eqb v u) refl (ltb a b) refl
  where
    go : (l : Bool) → ltb v u ≡ l → (e : Bool) → eqb v u ≡ e → (m : Bool) → ltb a b ≡ m
        → ltb (v * 256 + a) (u * 256 + b) ≡ (ltb v u || (eqb v u && ltb a b))
    go true p e q m r = rw p (lt-ltb (v * 256 + a) (u * 256 + b) (omega (arith, ltb-true v u p)))
    go false p true q true r = rw (p, q, r) (lt-ltb (v * 256 + a) (u * 256 + b) (omega (arith, eqb-true v u q, ltb-true a b r)))
    go false p true q false r = rw (p, q, r) (le-ltb (v * 256 + a) (u * 256 + b) (omega (arith, eqb-true v u q, ltb-false a b r)))
    go false p false q m r =
        let n : (v ≡ u → ⊥) = eqb-false v u q in
        rw (p, q) (le-ltb (v * 256 + a) (u * 256 + b) (omega (arith, ltb-false v u p)))

equal_more : (v u a b : ℕ) → a < 256 → b < 256 → eqb (v * 256 + a) (u * 256 + b) ≡ (eqb v u && eqb a b)
equal_more v u a b g h =
    same_test (eqb (v * 256 + a) (u * 256 + b)) (eqb v u && eqb a b)
    (λ e. let q : v * 256 + a ≡ u * 256 + b = eqb-true (v * 256 + a) (u * 256 + b) e in
    and_both (eq-eqb v u (omega arith)) (eq-eqb a b (omega arith)))
    (λ e. let q : v ≡ u = search tests in let r : a ≡ b = search tests in eq-eqb (v * 256 + a) (u * 256 + b) (omega arith))

number-less : (v u : ℕ) (s t : List ℕ) → are_bytes s ≡ true → are_bytes t ≡ true → length s ≡ length t
    → ltb (number_from v s) (number_from u t) ≡ (ltb v u || (eqb v u && less s t))
unfolding number_from less
number-less v u [] [] g h n = simp (and-false, or-false)
number-less v u [] (b ∷ t) g h n = absurd (omega arith)
number-less v u (a ∷ s) [] g h n = absurd (omega arith)
number-less v u (a ∷ s) (b ∷ t) g h n =
    let x : a < 256 = search tests in
    let y : b < 256 = search tests in
    let p : are_bytes s ≡ true = search tests in
    let q : are_bytes t ≡ true = search tests in
    number-less (v * 256 + a) (u * 256 + b) s t p q (omega arith)
    ∙ rw (less_more v u a b, equal_more v u a b) (sym (regroup (ltb v u) (eqb v u) (ltb a b) (eqb a b) (less s t)))

number_equal : (v u : ℕ) (s t : List ℕ) → are_bytes s ≡ true → are_bytes t ≡ true → length s ≡ length t
    → eqb (number_from v s) (number_from u t) ≡ (eqb v u && eq_list s t)
unfolding number_from
number_equal v u [] [] g h n = simp and-true
number_equal v u [] (b ∷ t) g h n = absurd (omega arith)
number_equal v u (a ∷ s) [] g h n = absurd (omega arith)
number_equal v u (a ∷ s) (b ∷ t) g h n =
    let x : a < 256 = search tests in
    let y : b < 256 = search tests in
    let p : are_bytes s ≡ true = search tests in
    let q : are_bytes t ≡ true = search tests in
    number_equal (v * 256 + a) (u * 256 + b) s t p q (omega arith)
    ∙ rw (equal_more v u a b) (and_assoc (eqb v u) (eqb a b) (eq_list s t))

-- equal lengths of bytes order as their numbers do, and are equal as they are
pub less_is : (s t : List ℕ) → are_bytes s ≡ true → are_bytes t ≡ true → length s ≡ length t → less s t ≡ ltb (number_of s) (number_of t)
less_is s t g h n = sym (number-less 0 0 s t g h n)

pub equal_is : (s t : List ℕ) → are_bytes s ≡ true → are_bytes t ≡ true → length s ≡ length t → eq_list s t ≡ eqb (number_of s) (number_of t)
equal_is s t g h n = sym (number_equal 0 0 s t g h n)

-- the n bytes at `at`
abbrev pub bytes_at : List ℕ → (n at : ℕ) → List ℕ
bytes_at s n at = take n (drop at s)

-- what stands in a text of bytes is bytes
pub part_bytes : (s : List ℕ) (n at : ℕ) → ((i : ℕ) → get_or s i 0 < 256) → are_bytes (bytes_at s n at) ≡ true
part_bytes s n at h = all n (drop at s) (λ i. rw get_or-drop (h (at + i)))
  where
    all : (n : ℕ) (t : List ℕ) → ((i : ℕ) → get_or t i 0 < 256) → are_bytes (take n t) ≡ true
    all zero t h = refl
    all (suc n) [] h = refl
    all (suc n) (b ∷ t) h = and_both (lt-ltb b 256 (h 0)) (all n t (λ i. h (suc i)))

-- The n bytes at `at`, as the library adds them up behind zeros.

number_next : (v : ℕ) (s : List ℕ) (n at : ℕ) → at < length s → number_from v (bytes_at s (suc n) at) ≡ number_from (v * 256 + get_or s at 0) (bytes_at s n (at + 1))
unfolding number_from
number_next v s n at h = rw (drop-cons s at 0 h, add-one at)

eight_bytes : (s : List ℕ) → length s ≡ 8 → from_be_bytes w64 s ≡ number_of s
unfolding number_from
eight_bytes s l =
    let e = number_next 0 s 7 0 (omega arith)
    ∙ (number_next _ s 6 1 (omega arith)
    ∙ (number_next _ s 5 2 (omega arith)
    ∙ (number_next _ s 4 3 (omega arith)
    ∙ (number_next _ s 3 4 (omega arith) ∙ (number_next _ s 2 5 (omega arith) ∙ (number_next _ s 1 6 (omega arith) ∙ number_next _ s 0 7 (omega arith))))))) in
    let w : take 8 s ≡ s = take_all 8 s (omega arith) in
    let f : from_be_bytes w64 s ≡ number_of (take 8 s) = omega (arith, e) in
    f ∙ ap number_of w

number-append : (v : ℕ) (s t : List ℕ) → number_from v (s ++ t) ≡ number_from (number_from v s) t
unfolding number_from
number-append v [] t = refl
number-append v (b ∷ s) t = number-append (v * 256 + b) s t

number_zeros : (k n : ℕ) → number_from 0 (take k (replicate n 0)) ≡ 0
unfolding number_from
number_zeros zero n = refl
number_zeros (suc k) zero = refl
number_zeros (suc k) (suc n) = number_zeros k n

pub number_is : (s u : List ℕ) (n at : ℕ) → n ≤ 8 → at + n ≤ length s → u ≡ take (at + n - at) (drop at s)
    → from_be_bytes w64 (take (8 - n) (replicate 8 0) ++ (u ++ drop (8 - (8 - n)) (drop (8 - n) (replicate 8 0)))) ≡ number_of (bytes_at s n at)
number_is s u n at few h e =
    let j : at + n - at ≡ n = omega arith in
    let f : u ≡ bytes_at s n at = rw j at e in
    let o : List ℕ = replicate 8 0 in
    let z = take (8 - n) o in
    let l : length (z ++ bytes_at s n at) ≡ 8 = simp (length-append, length-take, length-drop, length-replicate) (omega arith) in
    let k : length (drop (8 - n) o) ≤ 8 - (8 - n) = simp (length-drop, length-replicate) (omega arith) in
    rw (f, drop_of_length-le (drop (8 - n) o) k, append-nil (bytes_at s n at))
    (eight_bytes (z ++ bytes_at s n at) l ∙ (number-append 0 z (bytes_at s n at) ∙ ap (λ (v : ℕ). number_from v (bytes_at s n at)) (number_zeros (8 - n) 8)))

number_below : (v : ℕ) (s : List ℕ) → are_bytes s ≡ true → number_from v s < suc v * 256 ^ length s
unfolding number_from
number_below v [] h = omega arith
number_below v (b ∷ s) h =
    let f : b < 256 = search tests in
    let p : are_bytes s ≡ true = search tests in
    let m : suc (v * 256 + b) ≤ suc v * 256 = omega arith in
    rw (pow-suc 256 (length s)) (omega (arith, number_below (v * 256 + b) s p, mul-le-mul_right (256 ^ length s) m))

-- i bytes are a number below 256 ^ i, and more bytes have room for it
pub number_room : (v i b : ℕ) → v < 256 ^ i → b < 256 → v * 256 + b < 256 ^ (i + 1)
number_room v i b h g = rw (add-one, pow-suc) (omega arith)

pub number_fits : (v i k : ℕ) → v < 256 ^ i → i ≤ k → v < 256 ^ k
number_fits v i k h g = omega (arith, pow-le-pow_right {n = 256} (omega arith) {i = i} {j = k} g)

pub number_within : (s : List ℕ) (n at : ℕ) → ((i : ℕ) → get_or s i 0 < 256) → at + n ≤ length s → number_of (bytes_at s n at) < 256 ^ n
number_within s n at h g =
    let l : length (bytes_at s n at) ≡ n = simp (length-take, length-drop) (omega arith) in
    let r = rw l at (number_below 0 (bytes_at s n at) (part_bytes s n at h)) in
    omega arith

-- parts of two texts of bytes
module _ (s t : List ℕ) (of-s : (i : ℕ) → get_or s i 0 < 256) (of-t : (i : ℕ) → get_or t i 0 < 256) where
  pub same_length : (n a b : ℕ) → a + n ≤ length s → b + n ≤ length t → length (bytes_at s n a) ≡ length (bytes_at t n b)
  same_length n a b f g = simp (length-take, length-drop) (omega arith)

  pub part-less : (n a b : ℕ) → a + n ≤ length s → b + n ≤ length t → less (bytes_at s n a) (bytes_at t n b) ≡ ltb (number_of (bytes_at s n a)) (number_of (bytes_at t n b))
  part-less n a b f g = less_is (bytes_at s n a) (bytes_at t n b) (part_bytes s n a of-s) (part_bytes t n b of-t) (same_length n a b f g)

  -- of n and m bytes the first n decide as numbers, unless they are equal
  pub part_split : (n m a b : ℕ) → a + (n + m) ≤ length s → b + (n + m) ≤ length t
      → less (bytes_at s (n + m) a) (bytes_at t (n + m) b)
      ≡ cond
      (eqb (number_of (bytes_at s n a)) (number_of (bytes_at t n b)))
      (less (bytes_at s m (a + n)) (bytes_at t m (b + n)))
      (ltb (number_of (bytes_at s n a)) (number_of (bytes_at t n b)))
  part_split n m a b f g =
      let l = same_length n a b (omega arith) (omega arith) in
      let e = equal_is (bytes_at s n a) (bytes_at t n b) (part_bytes s n a of-s) (part_bytes t n b of-t) l in
      rw (take-add n m (drop a s), take-add n m (drop b t), drop-drop n a s, drop-drop n b t)
      (less-append (bytes_at s n a) (bytes_at t n b) (bytes_at s m (a + n)) (bytes_at t m (b + n)) l
      ∙ (rw (part-less n a b (omega arith) (omega arith), e)
      (decided (number_of (bytes_at s n a)) (number_of (bytes_at t n b)) (less (bytes_at s m (a + n)) (bytes_at t m (b + n))))))

  -- so that a test of the first parts tells which numbers decide
  module _ (n m a b : ℕ) (f : a + (n + m) ≤ length s) (g : b + (n + m) ≤ length t) where
    pub first-decides : (number_of (bytes_at s n a) ≡ number_of (bytes_at t n b) → ⊥)
        → ltb (number_of (bytes_at s n a)) (number_of (bytes_at t n b)) ≡ less (bytes_at s (n + m) a) (bytes_at t (n + m) b)
    first-decides d = sym (rw (ne_eqb _ _ d) at (part_split n m a b f g))

    pub rest-decides : number_of (bytes_at s n a) ≡ number_of (bytes_at t n b)
        → less (bytes_at s m (a + n)) (bytes_at t m (b + n)) ≡ less (bytes_at s (n + m) a) (bytes_at t (n + m) b)
    rest-decides e = sym (rw (eq-eqb _ _ e) at (part_split n m a b f g))
