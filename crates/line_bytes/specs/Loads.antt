-- Bytes as one number of which the first weighs least, as a load takes them.
use Rattle.std.specs.Prelude.{◌≡◌, ◌+◌, ◌-◌, ◌*◌, ◌^◌, ◌≤◌, ◌<◌, ◌&&◌, ◌∷◌, ◌++◌}
use Rattle.std.specs.Int.{w64, from_le_bytes}
use Rattle.lists.specs.Basics.{refl, sym, ap, ap₂, ℕ, zero, suc, eqb, true, List, [], length, take, take_all, replicate, length-append}
use Rattle.lists.specs.Basics.{drop, get_or, length-take, length-drop, drop-drop, drop-cons, take-add, arith, add-one, eqb-true, eq-eqb, eq_list, and_both}
use Rattle.lists.specs.Basics.{same_test, tests}
use Rattle.std.proofs.Common.{pow-suc, ◌∙◌}
use Rattle.std.proofs.lemmas.List.{length-replicate}
use Rattle.std.proofs.Math.Pow.{are_bytes}
use Rattle.lists.specs.Bytes.{eq_list-append}
use Rattle.line_bytes.specs.Order.{bytes_at, part_bytes, same_length}

unfoldable pub loaded : List ℕ → ℕ
loaded [] = 0
loaded (b ∷ s) = b + loaded s * 256

-- the byte at `at` and the n after it
loaded_next : (s : List ℕ) (n at : ℕ) → at < length s → loaded (bytes_at s (suc n) at) ≡ get_or s at 0 + loaded (bytes_at s n (at + 1)) * 256
unfolding loaded
loaded_next s n at h = rw (drop-cons s at 0 h, add-one at)

pub loaded-append : (s t : List ℕ) → loaded (s ++ t) ≡ loaded s + loaded t * 256 ^ length s
unfolding loaded
loaded-append [] t = omega arith
loaded-append (b ∷ s) t = rw (loaded-append s t, pow-suc 256 (length s)) (omega arith)

-- eight bytes, as the library adds them up
eight_loaded : (s : List ℕ) → length s ≡ 8 → from_le_bytes w64 s ≡ loaded s
unfolding loaded
eight_loaded s l =
    let e0 = loaded_next s 7 0 (omega arith) in
    let e1 = loaded_next s 6 1 (omega arith) in
    let e2 = loaded_next s 5 2 (omega arith) in
    let e3 = loaded_next s 4 3 (omega arith) in
    let e4 = loaded_next s 3 4 (omega arith) in
    let e5 = loaded_next s 2 5 (omega arith) in
    let e6 = loaded_next s 1 6 (omega arith) in
    let e7 = loaded_next s 0 7 (omega arith) in
    let w : take 8 s ≡ s = take_all 8 s (omega arith) in
    let e : from_le_bytes w64 s ≡ loaded (take 8 s) = omega (arith, e0, e1, e2, e3, e4, e5, e6, e7) in
    e ∙ ap loaded w

-- zeros behind bytes weigh nothing
loaded_zeros : (n k : ℕ) → loaded (drop n (replicate k 0)) ≡ 0
unfolding loaded
loaded_zeros zero zero = refl
loaded_zeros zero (suc k) = let e = loaded_zeros zero k in omega arith
loaded_zeros (suc n) zero = refl
loaded_zeros (suc n) (suc k) = loaded_zeros n k

-- n bytes before zeros, loaded
pub load_is : (s u : List ℕ) (n at : ℕ) → n ≤ 8 → at + n ≤ length s → u ≡ take (at + n - at) (drop at s)
    → from_le_bytes w64 (u ++ drop n (replicate 8 0)) ≡ loaded (bytes_at s n at)
load_is s u n at few h e =
    let j : at + n - at ≡ n = omega arith in
    let f : u ≡ bytes_at s n at = rw j at e in
    let l : length (bytes_at s n at) ≡ n = simp (length-take, length-drop) (omega arith) in
    let k : length (bytes_at s n at ++ drop n (replicate 8 0)) ≡ 8 = simp (length-append, length-drop, length-replicate) (omega arith) in
    rw f
    (eight_loaded (bytes_at s n at ++ drop n (replicate 8 0)) k
    ∙ (loaded-append (bytes_at s n at) (drop n (replicate 8 0)) ∙ rw (loaded_zeros n 8) (omega arith)))

loaded_below : (s : List ℕ) → are_bytes s ≡ true → loaded s < 256 ^ length s
unfolding loaded
loaded_below [] h = omega arith
loaded_below (b ∷ s) h =
    let f : b < 256 = search tests in
    let p : are_bytes s ≡ true = search tests in
    let r = loaded_below s p in
    rw (pow-suc 256 (length s)) (omega arith)

pub load_room : (s : List ℕ) (n at : ℕ) → ((i : ℕ) → get_or s i 0 < 256) → at + n ≤ length s → loaded (bytes_at s n at) < 256 ^ n
load_room s n at h g =
    let l : length (bytes_at s n at) ≡ n = simp (length-take, length-drop) (omega arith) in
    rw l at (loaded_below (bytes_at s n at) (part_bytes s n at h))

-- bytes are equal as their numbers are
pub loaded_equal : (s t : List ℕ) → are_bytes s ≡ true → are_bytes t ≡ true → length s ≡ length t → eqb (loaded s) (loaded t) ≡ eq_list s t
unfolding loaded
loaded_equal [] [] g h n = refl
loaded_equal [] (b ∷ t) g h n = absurd (omega arith)
loaded_equal (a ∷ s) [] g h n = absurd (omega arith)
loaded_equal (a ∷ s) (b ∷ t) g h n =
    let x : a < 256 = search tests in
    let y : b < 256 = search tests in
    let p : are_bytes s ≡ true = search tests in
    let q : are_bytes t ≡ true = search tests in
    let r = loaded_equal s t p q (omega arith) in
    same_test (eqb (a + loaded s * 256) (b + loaded t * 256)) (eqb a b && eq_list s t)
    (λ e. let w : a + loaded s * 256 ≡ b + loaded t * 256 = eqb-true (a + loaded s * 256) (b + loaded t * 256) e in
    let z : loaded s ≡ loaded t = omega arith in
    and_both (eq-eqb a b (omega arith)) (rw r at (eq-eqb (loaded s) (loaded t) z)))
    (λ e. let z : a ≡ b = search tests in
    let k : eq_list s t ≡ true = search tests in
    let w : loaded s ≡ loaded t = eqb-true (loaded s) (loaded t) (r ∙ k) in
    eq-eqb (a + loaded s * 256) (b + loaded t * 256) (omega arith))

-- n and m bytes of two texts are equal as both their numbers are
module _ (s t : List ℕ) (of-s : (i : ℕ) → get_or s i 0 < 256) (of-t : (i : ℕ) → get_or t i 0 < 256) where
  pub split_equal : (n m a b : ℕ) → a + (n + m) ≤ length s → b + (n + m) ≤ length t
      → (eqb (loaded (bytes_at s n a)) (loaded (bytes_at t n b)) && eqb (loaded (bytes_at s m (a + n))) (loaded (bytes_at t m (b + n))))
      ≡ eq_list (bytes_at s (n + m) a) (bytes_at t (n + m) b)
  split_equal n m a b f g =
      let l = same_length s t of-s of-t n a b (omega arith) (omega arith) in
      let k = same_length s t of-s of-t m (a + n) (b + n) (omega arith) (omega arith) in
      rw (take-add n m (drop a s), take-add n m (drop b t), drop-drop n a s, drop-drop n b t)
      (ap₂ ◌&&◌
      (loaded_equal (bytes_at s n a) (bytes_at t n b) (part_bytes s n a of-s) (part_bytes t n b of-t) l)
      (loaded_equal (bytes_at s m (a + n)) (bytes_at t m (b + n)) (part_bytes s m (a + n) of-s) (part_bytes t m (b + n) of-t) k)
      ∙ sym (eq_list-append (bytes_at s n a) (bytes_at t n b) (bytes_at s m (a + n)) (bytes_at t m (b + n)) l))
