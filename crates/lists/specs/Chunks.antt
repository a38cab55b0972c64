-- What `chunks_exact` lends one after another is the pieces of the list.
use Rattle.std.specs.Prelude.{◌≡◌, ◌+◌, ◌*◌, ◌/◌, ◌<◌, ◌++◌, ◌∷◌, Option, Some, None}
use Rattle.std.specs.declared.slice.ChunksExact.{ChunksExact}
use Rattle.std.specs.Slice.Iter.{chunks_exact_rest, chunks_exact_size, chunks_exact_steps}
use Rattle.std.proofs.Common.{◌∙◌, Bor}
use Rattle.std.proofs.Math.Nat.{div-eq_of_lt, add-div_right}
use Rattle.std.specs.declared.iter.Enumerate.{Enumerate}
use Rattle.std.specs.Iterator.{Yields}
use Rattle.std.specs.Iterator.Adapters.{enumerate_source, enumerate_count, enumerate_steps}
use Rattle.std.specs.List.{enumerate_from}
use Rattle.std.proofs.lemmas.Iterator.{YieldsList}
use Rattle.std.proofs.lemmas.Iterator.Consumers.{YieldsList-from_enumerate, YieldsList-turn, YieldsList-end}
use Rattle.std.proofs.lemmas.Iterator.Splits.{YieldsList-from_shown_while}
use Rattle.lists.specs.Kit.{refl, sym, ap, ap₂, ℕ, zero, suc, List, [], length, take, drop, get_or, length-append, take_at, drop_at, arith, add-one}
use Rattle.lists.specs.Each.{pieces}
use Rattle.lists.specs.Pieces.{length-pieces, get_or-pieces}

module _ {A : Type 0} (w : ℕ) (some : 0 < w) where
  abbrev left : ChunksExact A → List (List A)
  left s = pieces w (length (chunks_exact_rest s) / w) (chunks_exact_rest s)

  -- the first piece, taken off
  piece_off : (x xs : List A) → length x ≡ w → pieces w (length (x ++ xs) / w) (x ++ xs) ≡ x ∷ pieces w (length xs / w) xs
  unfolding pieces
  piece_off x xs n =
      let l : length (x ++ xs) ≡ length xs + w = length-append x xs ∙ omega arith in
      let d : length (x ++ xs) / w ≡ suc (length xs / w) = ap (λ (k : ℕ). k / w) l ∙ (add-div_right (length xs) some ∙ add-one (length xs / w)) in
      rw d (ap₂ (λ (a : List A) (r : List A). a ∷ pieces w (length xs / w) r) (take_at x xs w n) (drop_at x xs w n))

  pub chunks_given : {s : ChunksExact A} (xs : List A) → chunks_exact_rest s ≡ xs → chunks_exact_size s ≡ w → YieldsList chunks_exact_steps (λ y. y.now) s (pieces w (length xs / w) xs)
  chunks_given {s} xs e n = rw (sym e)
      (YieldsList-from_shown_while chunks_exact_steps (λ y. y.now) left (λ t. chunks_exact_size t ≡ w)
      (λ t u p h. length-pieces w _ (chunks_exact_rest t) ∙ div-eq_of_lt (rw p at h.1.0))
      (λ t x u p h. (h.0 ∙ p, ap (λ (r : List A). pieces w (length r / w) r) h.1.0 ∙ piece_off x.now (chunks_exact_rest u) (h.1.1 ∙ p)))
      s n)

-- what `enumerate` counts
length-counted : {A : Type 0} (n : ℕ) (xs : List A) → length (enumerate_from n xs) ≡ length xs
length-counted n [] = refl
length-counted n (x ∷ xs) = ap suc (length-counted (n + 1) xs)

at-counted : {A : Type 0} (n k : ℕ) (xs : List A) (p : ℕ × A) (d : A) → k < length xs → p ≡ get_or (enumerate_from n xs) k p → (p.0 ≡ n + k) × (p.1 ≡ get_or xs k d)
at-counted n k [] p d l e = absurd (omega arith)
at-counted n zero (x ∷ xs) p d l e = (ap (λ (q : ℕ × _). q.0) e ∙ omega arith, ap (λ (q : ℕ × _). q.1) e)
at-counted n (suc k) (x ∷ xs) p d l e =
    let r = at-counted (n + 1) k xs p d (omega arith) e in
    (r.0 ∙ omega arith, r.1)

-- A `for` over the chunks with their count: where its turn is, and where it ends.
module _ {A : Type 0} (w : ℕ) (some : 0 < w) (xs : List A) where
  counted : {s : Enumerate (ChunksExact A)} → chunks_exact_rest (enumerate_source s) ≡ xs → chunks_exact_size (enumerate_source s) ≡ w → enumerate_count s ≡ 0 → YieldsList {B = ℕ × List A} (enumerate_steps chunks_exact_steps) (λ p. (p.0, p.1.now)) s (enumerate_from 0 (pieces w (length xs / w) xs))
  counted rest size first = YieldsList-from_enumerate (chunks_given w some xs rest size) first

  count_is : length (enumerate_from 0 (pieces w (length xs / w) xs)) ≡ length xs / w
  count_is = length-counted 0 (pieces w (length xs / w) xs) ∙ length-pieces w (length xs / w) xs

  module _ (s t u : Enumerate (ChunksExact A)) (ys : List (ℕ × Bor (List A))) (rest : chunks_exact_rest (enumerate_source s) ≡ xs) (size : chunks_exact_size (enumerate_source s) ≡ w) (first : enumerate_count s ≡ 0) (so_far : Yields (enumerate_steps chunks_exact_steps) s ys t) (r : Option (ℕ × Bor (List A))) (step : enumerate_steps chunks_exact_steps t r u) where
    pub chunk_turn : (x : ℕ × Bor (List A)) → r ≡ Some x → (length ys < length xs / w) × (x.0 ≡ length ys) × (x.1.now ≡ take w (drop (length ys * w) xs))
    chunk_turn x is =
        let q = YieldsList-turn (counted rest size first) ys t so_far r u x is step in
        let l : length ys < length xs / w = omega (arith, q.0, count_is) in
        let m : length ys < length (pieces w (length xs / w) xs) = omega (arith, length-pieces w (length xs / w) xs) in
        let a = at-counted 0 (length ys) (pieces w (length xs / w) xs) (x.0, x.1.now) [] m q.1 in
        (l, a.0 ∙ omega arith, a.1 ∙ get_or-pieces w (length ys) (length xs / w) xs l)

    pub chunk_end : r ≡ None → length ys ≡ length xs / w
    chunk_end is = (YieldsList-end (counted rest size first) ys t so_far r u is step).1 ∙ count_is
