-- A pass over the columns of a line in two parts that share some of them says what one pass over all of them says.
use Rattle.std.specs.Prelude.{◌≡◌, ◌+◌, ◌≤◌, ◌<◌, ◌&&◌, ◌∷◌, ◌++◌}
use Rattle.std.proofs.Common.{◌∙◌}
use Rattle.lists.specs.Basics.{refl, sym, ap, ℕ, zero, suc, Bool, true, false, and_assoc, List, [], length, take}
use Rattle.lists.specs.Basics.{drop, get_or, length-take, length-drop, drop-drop, drop-cons, take-add, take_all, get_or-take, get_or-drop}
use Rattle.lists.specs.Basics.{get_or-eq_default, arith, add-one, ltb, ltb-true, ltb-false, eq-eqb}
use Rattle.line_bytes.specs.Tables.{Room, judged, judged_line, line_ok}
use Rattle.line_bytes.specs.Order.{bytes_at}

drop_next : (n : ℕ) (xs : List ℕ) → drop n (drop 1 xs) ≡ drop (suc n) xs
drop_next n xs = let e : 1 + n ≡ suc n = omega arith in drop-drop n 1 xs ∙ ap (λ (k : ℕ). drop k xs) e

take_next : (n : ℕ) (xs : List ℕ) → drop 1 (take (suc n) xs) ≡ take n (drop 1 xs)
take_next n (x ∷ xs) = refl
take_next zero [] = refl
take_next (suc n) [] = refl

-- bytes and then more bytes
judged-append : (s t : List ℕ) (p : ℕ) (low high also : List ℕ)
    → judged_line p low high also (s ++ t)
    ≡ (judged_line p low high also s && judged_line (get_or (p ∷ s) (length s) 0) (drop (length s) low) (drop (length s) high) (drop (length s) also) t)
unfolding judged_line
judged-append [] t p low high also = refl
judged-append (b ∷ s) t p low high also =
    let j = judged p b (get_or low 0 0) (get_or high 0 0) (get_or also 0 0) in
    let n = length s in
    ap (λ (x : Bool). j && x) (judged-append s t b (drop 1 low) (drop 1 high) (drop 1 also))
    ∙ rw (drop_next n low, drop_next n high, drop_next n also)
    (sym (and_assoc j (judged_line b (drop 1 low) (drop 1 high) (drop 1 also) s) (judged_line (get_or (b ∷ s) n 0) (drop (suc n) low) (drop (suc n) high) (drop (suc n) also) t)))

-- what tables have past the bytes makes no difference
judged-cut : (n : ℕ) (s : List ℕ) (p : ℕ) (low high also : List ℕ)
    → judged_line p (take n low) (take n high) (take n also) (take n s) ≡ judged_line p low high also (take n s)
unfolding judged_line
judged-cut zero s p low high also = refl
judged-cut (suc n) [] p low high also = refl
judged-cut (suc n) (b ∷ s) p low high also =
    rw (
      get_or-take (suc n) low 0 0 (omega arith),
      get_or-take (suc n) high 0 0 (omega arith),
      get_or-take (suc n) also 0 0 (omega arith),
      take_next n low,
      take_next n high,
      take_next n also,
      judged-cut n s b (drop 1 low) (drop 1 high) (drop 1 also),
    )

shared : (x y z : Bool) → ((x && y) && (y && z)) ≡ ((x && y) && z)
shared false y z = refl
shared true false z = refl
shared true true z = refl

-- a part of tables with room has room
pub part_room : (low : List ℕ) (n a : ℕ) → Room low → Room (bytes_at low n a)
part_room low n a h i = go (ltb i n) refl
  where
    go : (t : Bool) → ltb i n ≡ t → get_or (bytes_at low n a) i 0 < 255
    go true e = rw (get_or-take n (drop a low) i 0 (ltb-true i n e), get_or-drop a low i 0) (h (a + i))
    go false e =
        let short : length (bytes_at low n a) ≤ i = simp length-take (omega (arith, ltb-false i n e)) in
        rw (get_or-eq_default (bytes_at low n a) 0 short) (omega arith)

module _ (line low high also : List ℕ) where
  -- the n bytes after byte a may stand in their columns
  after : (a n : ℕ) → Bool
  after a n = judged_line (get_or line a 0) (drop (a + 1) low) (drop (a + 1) high) (drop (a + 1) also) (take n (drop (a + 1) line))

  after_split : (a m n b : ℕ) → a + m ≡ b → b < length line → after a (m + n) ≡ (after a m && after b n)
  unfolding after
  after_split a m n b e l =
      let s = take m (drop (a + 1) line) in
      let long : length s ≡ m = simp (length-take, length-drop) (omega arith) in
      let next : a + 1 + m ≡ b + 1 = omega arith in
      let left : get_or (get_or line a 0 ∷ s) m 0 ≡ get_or line b 0 =
      ap (λ (t : List ℕ). get_or (take (suc m) t) m 0) (sym (drop-cons line a 0 (omega arith) ∙ ap (λ (k : ℕ). get_or line a 0 ∷ drop k line) (sym (add-one a))))
      ∙ (get_or-take (suc m) (drop a line) m 0 (omega arith) ∙ (get_or-drop a line m 0 ∙ ap (λ (k : ℕ). get_or line k 0) e)) in
      ap (judged_line (get_or line a 0) (drop (a + 1) low) (drop (a + 1) high) (drop (a + 1) also)) (take-add m n (drop (a + 1) line))
      ∙ (judged-append s (take n (drop m (drop (a + 1) line))) (get_or line a 0) (drop (a + 1) low) (drop (a + 1) high) (drop (a + 1) also)
      ∙ rw (long, left, drop-drop m (a + 1) low, drop-drop m (a + 1) high, drop-drop m (a + 1) also, drop-drop m (a + 1) line, next))

  module _ (l : length low ≡ length line) (h : length high ≡ length line) (o : length also ≡ length line) where
    -- a pass over the bytes from a on judges those after it
    part_is : (a n : ℕ) → a + suc n ≤ length line
        → line_ok (bytes_at line (suc n) a) (bytes_at low (suc n) a) (bytes_at high (suc n) a) (bytes_at also (suc n) a) ≡ after a n
    unfolding line_ok after
    part_is a n f =
        let cut : (x : List ℕ) → length x ≡ length line → bytes_at x (suc n) a ≡ get_or x a 0 ∷ take n (drop (a + 1) x) =
        λ (x : List ℕ) (e : length x ≡ length line). rw (drop-cons x a 0 (omega arith), add-one a) in
        let same : (x : List ℕ) → length x ≡ length line → length (take n (drop (a + 1) x)) ≡ n =
        λ (x : List ℕ) (e : length x ≡ length line). simp (length-take, length-drop) (omega arith) in
        rw (cut line refl, cut low l, cut high h, cut also o, same line refl, same low l, same high h, same also o, eq-eqb (suc n) (suc n) refl)
        (judged-cut n (drop (a + 1) line) (get_or line a 0) (drop (a + 1) low) (drop (a + 1) high) (drop (a + 1) also))

    whole_is : (n : ℕ) → length line ≡ suc n → line_ok line low high also ≡ after 0 n
    whole_is n e =
        rw (
          take_all (suc n) line (omega arith),
          take_all (suc n) low (omega arith),
          take_all (suc n) high (omega arith),
          take_all (suc n) also (omega arith),
        ) at (part_is 0 n (omega arith))

    pub two-parts : (a m n : ℕ) → length line ≡ suc (a + m + n)
        → (line_ok (bytes_at line (suc (a + m)) 0) (bytes_at low (suc (a + m)) 0) (bytes_at high (suc (a + m)) 0) (bytes_at also (suc (a + m)) 0)
        && line_ok (bytes_at line (suc (m + n)) a) (bytes_at low (suc (m + n)) a) (bytes_at high (suc (m + n)) a) (bytes_at also (suc (m + n)) a))
        ≡ line_ok line low high also
    two-parts a m n e =
        rw (
          part_is 0 (a + m) (omega arith),
          part_is a (m + n) (omega arith),
          whole_is (a + m + n) e,
          after_split 0 (a + m) n (a + m) (omega arith) (omega arith),
          after_split 0 a m a (omega arith) (omega arith),
          after_split a m n (a + m) refl (omega arith),
        )
        (shared (after 0 a) (after a m) (after (a + m) n))
