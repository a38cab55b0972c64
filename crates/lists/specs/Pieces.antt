-- Laws of pieces: a list of n * w elements is its n pieces joined, and a piece is found and replaced by its index.
-- Each goes by induction on the number of pieces.
use Rattle.std.specs.Prelude.{◌≡◌, ◌+◌, ◌-◌, ◌*◌, ◌≤◌, ◌<◌, ◌∷◌, ◌++◌}
use Rattle.lists.specs.Kit.{refl, sym, ap, ap₂, ℕ, zero, suc, List, [], append_assoc, length, take, drop}
use Rattle.lists.specs.Kit.{get_or, set, length-append, length-take, length-drop, drop-drop, drop_at, take_at, take-add, take-take, arith}
use Rattle.std.proofs.Math.Nat.{suc-mul}
use Rattle.std.proofs.Common.{zero-mul, zero-add, add_assoc, take-append-drop, length-take-le, ◌∙◌}
use Rattle.std.proofs.Math.Seq.{take-nil}
use Rattle.lists.specs.Each.{joined, pieces}

-- an empty list where there is nothing
pub length_zero {ℓ} : {A : Type ℓ} (s : List A) → length s ≡ 0 → s ≡ []
length_zero [] e = refl
length_zero (x ∷ s) e = absurd (omega arith)

pub length-pieces {ℓ} : {A : Type ℓ} (w n : ℕ) (s : List A) → length (pieces w n s) ≡ n
unfolding pieces
length-pieces w zero s = refl
length-pieces w (suc n) s = ap suc (length-pieces w n (drop w s))

pub joined-pieces {ℓ} : {A : Type ℓ} (w n : ℕ) (s : List A) → length s ≡ n * w → joined (pieces w n s) ≡ s
unfolding pieces joined
joined-pieces w zero s e = sym (length_zero s (rw zero-mul at e))
joined-pieces w (suc n) s e =
    let h : length s ≡ n * w + w = rw suc-mul at e in
    let k : length (drop w s) ≡ n * w = simp length-drop (omega arith) in
    ap (λ (t : List _). take w s ++ t) (joined-pieces w n (drop w s) k) ∙ take-append-drop w s

-- every list of ls has w elements
abbrev pub AllOf {ℓ} : {A : Type ℓ} → ℕ → List (List A) → Type 0
AllOf w [] = Unit {0}
AllOf w (x ∷ xs) = (length x ≡ w) × AllOf w xs

pub length-joined {ℓ} : {A : Type ℓ} (w : ℕ) (xs : List (List A)) → AllOf w xs → length (joined xs) ≡ length xs * w
unfolding joined
length-joined w [] h = sym (zero-mul w)
length-joined w (x ∷ xs) h =
    let e : length (joined xs) ≡ length xs * w = length-joined w xs h.1 in
    let l : length x ≡ w = h.0 in
    rw (length-append, suc-mul) (omega arith)

pub pieces-joined {ℓ} : {A : Type ℓ} (w : ℕ) (xs : List (List A)) → AllOf w xs → pieces w (length xs) (joined xs) ≡ xs
unfolding pieces joined
pieces-joined w [] h = refl
pieces-joined w (x ∷ xs) h =
    ap₂ ◌∷◌ (take_at x (joined xs) w h.0)
    (ap (pieces w (length xs)) (drop_at x (joined xs) w h.0) ∙ pieces-joined w xs h.1)

pub joined-append {ℓ} : {A : Type ℓ} (xs ys : List (List A)) → joined (xs ++ ys) ≡ joined xs ++ joined ys
unfolding joined
joined-append [] ys = refl
joined-append (x ∷ xs) ys = ap (λ (t : List _). x ++ t) (joined-append xs ys) ∙ sym (append_assoc x (joined xs) (joined ys))

-- parts of lists of one width
module _ {ℓ} {A : Type ℓ} (w : ℕ) where
  pub all_join : (xs ys : List (List A)) → AllOf w xs → AllOf w ys → AllOf w (xs ++ ys)
  all_join [] ys f g = g
  all_join (x ∷ xs) ys f g = (f.0, all_join xs ys f.1 g)

  pub all_first : (n : ℕ) (xs : List (List A)) → AllOf w xs → AllOf w (take n xs)
  all_first zero xs f = tt
  all_first (suc n) [] f = tt
  all_first (suc n) (x ∷ xs) f = (f.0, all_first n xs f.1)

  pub all_rest : (n : ℕ) (xs : List (List A)) → AllOf w xs → AllOf w (drop n xs)
  all_rest zero xs f = f
  all_rest (suc n) [] f = tt
  all_rest (suc n) (x ∷ xs) f = all_rest n xs f.1

  pub all-pieces : (n : ℕ) (s : List A) → length s ≡ n * w → AllOf w (pieces w n s)
  unfolding pieces
  all-pieces zero s e = tt
  all-pieces (suc n) s e =
      let h : length s ≡ n * w + w = e ∙ suc-mul n w in
      (length-take-le w s (omega arith), all-pieces n (drop w s) (length-drop w s ∙ omega arith))

  -- the elements of the first lists are the first elements
  pub take-joined : (n : ℕ) (xs : List (List A)) → AllOf w xs → n ≤ length xs → take (n * w) (joined xs) ≡ joined (take n xs)
  take-joined n xs a l =
      let k : length (joined (take n xs)) ≡ n * w = length-joined w (take n xs) (all_first n xs a) ∙ ap (λ (m : ℕ). m * w) (length-take-le n xs l) in
      ap (take (n * w)) (ap joined (sym (take-append-drop n xs)) ∙ joined-append (take n xs) (drop n xs)) ∙ take_at (joined (take n xs)) (joined (drop n xs)) (n * w) k

-- the first i pieces, and the n after them
pub pieces_add {ℓ} : {A : Type ℓ} (w i n : ℕ) (s : List A) → pieces w (i + n) s ≡ pieces w i s ++ pieces w n (drop (i * w) s)
unfolding pieces
pieces_add w zero n s = rw (zero-add, zero-mul)
pieces_add w (suc i) n s =
    let e : suc i + n ≡ suc (i + n) = omega arith in
    let f : suc i * w ≡ w + i * w = rw suc-mul (omega arith) in
    rw (e, f)
    (ap (λ (t : List (List _)). take w s ∷ t)
    (pieces_add w i n (drop w s) ∙ ap (λ (t : List _). pieces w i (drop w s) ++ pieces w n t) (drop-drop (i * w) w s)))

pub get_or-pieces {ℓ} : {A : Type ℓ} (w i n : ℕ) (s : List A) → i < n → get_or (pieces w n s) i [] ≡ take w (drop (i * w) s)
unfolding pieces
get_or-pieces w i zero s h = absurd (omega arith)
get_or-pieces w zero (suc n) s h = rw zero-mul
get_or-pieces w (suc i) (suc n) s h =
    let f : suc i * w ≡ w + i * w = rw suc-mul (omega arith) in
    rw f (get_or-pieces w i n (drop w s) (omega arith) ∙ ap (take w) (drop-drop (i * w) w s))

-- a part of a beginning is a part of the whole
pub take-drop-take {ℓ} : {A : Type ℓ} (k o n : ℕ) (l : List A) → o + k ≤ n → take k (drop o (take n l)) ≡ take k (drop o l)
take-drop-take k zero n l h = take-take k n l (omega arith)
take-drop-take k (suc o) n [] h = ap (λ (t : List _). take k (drop (suc o) t)) (take-nil n)
take-drop-take k (suc o) zero (x ∷ l) h = absurd (omega arith)
take-drop-take k (suc o) (suc n) (x ∷ l) h = take-drop-take k o n l (omega arith)

-- s with t in place of what stands from a on
unfoldable pub over {ℓ} : {A : Type ℓ} → List A → ℕ → List A → List A
over s a t = take a s ++ (t ++ drop (a + length t) s)

pub over_zero {ℓ} : {A : Type ℓ} (s t : List A) → over s 0 t ≡ t ++ drop (length t) s
unfolding over
over_zero s t = rw zero-add

-- what stands from a on, written there again
pub over-same {ℓ} : {A : Type ℓ} (s : List A) (a n : ℕ) → a + n ≤ length s → over s a (take n (drop a s)) ≡ s
unfolding over
over-same s a n l =
    let e : length (take n (drop a s)) ≡ n = simp (length-take, length-drop) (omega arith) in
    rw (e, ← drop-drop, take-append-drop n (drop a s)) (take-append-drop a s)

-- a part lent from a to e and come back as t
pub over-part {ℓ} : {A : Type ℓ} (s t : List A) (a e : ℕ) → length t ≡ e - a → take a s ++ (t ++ drop (e - a) (drop a s)) ≡ over s a t
unfolding over
over-part s t a e n = rw (drop-drop, ← n)

-- what stands before the part replaced
pub over-after {ℓ} : {A : Type ℓ} (s t : List A) (w a : ℕ) → over s (w + a) t ≡ take w s ++ over (drop w s) a t
unfolding over
over-after s t w a =
    let e : drop (w + a + length t) s ≡ drop (a + length t) (drop w s) = rw (add_assoc, drop-drop) in
    rw (take-add, e) (append_assoc (take w s) (take a (drop w s)) _)

-- what is written behind a part is one part with it
pub over_next {ℓ} : {A : Type ℓ} (s t u : List A) (a b : ℕ) → b ≡ a + length t → a ≤ length s → over (over s a t) b u ≡ over s a (t ++ u)
unfolding over
over_next s t u a b e l =
    let n : length (take a s ++ t) ≡ b = simp (length-append, length-take) (omega arith) in
    let d = drop (a + length t) s in
    let z : take a s ++ (t ++ d) ≡ (take a s ++ t) ++ d = sym (append_assoc (take a s) t d) in
    let x : take b (take a s ++ (t ++ d)) ≡ take a s ++ t = ap (take b) z ∙ take_at (take a s ++ t) d b n in
    let m : a + length t + length u ≡ a + length (t ++ u) = simp length-append (omega arith) in
    let y : drop (b + length u) (take a s ++ (t ++ d)) ≡ drop (a + length (t ++ u)) s =
    sym (drop-drop (length u) b (take a s ++ (t ++ d)))
    ∙ (ap (drop (length u)) (ap (drop b) z ∙ drop_at (take a s ++ t) d b n)
    ∙ (drop-drop (length u) (a + length t) s ∙ ap (λ (k : ℕ). drop k s) m)) in
    ap₂ (λ (p q : List _). p ++ (u ++ q)) x y
    ∙ (append_assoc (take a s) t (u ++ drop (a + length (t ++ u)) s)
    ∙ ap (λ (p : List _). take a s ++ p) (sym (append_assoc t u (drop (a + length (t ++ u)) s))))

pub length_over {ℓ} : {A : Type ℓ} (s t : List A) (a : ℕ) → a + length t ≤ length s → length (over s a t) ≡ length s
unfolding over
length_over s t a h = simp (length-append, length-take, length-drop) (omega arith)

-- replacing the elements of piece i is replacing piece i
pub pieces-over {ℓ} : {A : Type ℓ} (w i n : ℕ) (s t : List A) → i < n → length s ≡ n * w → length t ≡ w → pieces w n (over s (i * w) t) ≡ set (pieces w n s) i t
unfolding pieces
pieces-over w i zero s t h e l = absurd (omega arith)
pieces-over w zero (suc n) s t h e l =
    let o : over s (0 * w) t ≡ t ++ drop w s = rw (zero-mul, ← l) (over_zero s t) in
    rw o (ap₂ ◌∷◌ (take_at t (drop w s) w l) (ap (pieces w n) (drop_at t (drop w s) w l)))
pieces-over w (suc i) (suc n) s t h e l =
    let f : suc i * w ≡ w + i * w = rw suc-mul (omega arith) in
    let m : length s ≡ n * w + w = rw suc-mul at e in
    let k : length (drop w s) ≡ n * w = simp length-drop (omega arith) in
    let j : length (take w s) ≡ w = simp length-take (omega arith) in
    let o : over s (suc i * w) t ≡ take w s ++ over (drop w s) (i * w) t = rw f (over-after s t w (i * w)) in
    rw o
    (ap₂ ◌∷◌ (take_at (take w s) _ w j)
    (ap (pieces w n) (drop_at (take w s) _ w j) ∙ pieces-over w i n (drop w s) t (omega arith) k l))
