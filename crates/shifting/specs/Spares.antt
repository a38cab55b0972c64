-- Lists with spares behind them, after an element is put in or taken out.
use Rattle.std.specs.Prelude.{◌+◌, ◌-◌, ◌≤◌, ◌<◌, ◌≡◌, ◌∷◌, ◌++◌}
use Rattle.std.proofs.Common.{◌∙◌}
use Rattle.lists.specs.Basics.{ℕ, zero, suc, refl, sym, ap, ap₂, List, [], map}
use Rattle.lists.specs.Basics.{append_assoc, arith, length, take, drop, length-append, length-drop, replicate}
use Rattle.std.proofs.lemmas.List.{length-replicate}
use Rattle.std.proofs.Math.ListN.{replicate-append-replicate}
use Rattle.std.proofs.Math.Seq.{take-append-le, drop-append-le, take-append-add}
use Rattle.shifting.specs.Shifted.{insert_at, remove_at}

module _ {ℓ κ} {A : Type ℓ} {B : Type κ} (f : A → B) where
  pub map-take : (n : ℕ) (xs : List A) → map f (take n xs) ≡ take n (map f xs)
  map-take zero xs = refl
  map-take (suc n) [] = refl
  map-take (suc n) (x ∷ xs) = ap (λ (zs : List B). f x ∷ zs) (map-take n xs)

  pub map-drop : (n : ℕ) (xs : List A) → map f (drop n xs) ≡ drop n (map f xs)
  map-drop zero xs = refl
  map-drop (suc n) [] = refl
  map-drop (suc n) (x ∷ xs) = map-drop n xs

module _ {ℓ} {A : Type ℓ} (d : A) where
  take-replicate : (n : ℕ) → take n (replicate (suc n) d) ≡ replicate n d
  take-replicate zero = refl
  take-replicate (suc n) = ap (λ (q : List A). d ∷ q) (take-replicate n)

  -- an index within the record lines, or just behind them: the last spare goes
  pub insert_spares : (i n : ℕ) (x : A) (xs : List A) → i ≤ length xs → insert_at i x (xs ++ replicate (suc n) d) ≡ (take i xs ++ (x ∷ drop i xs)) ++ replicate n d
  unfolding insert_at
  insert_spares i n x xs l =
      let e : length (xs ++ replicate (suc n) d) ≡ length xs + suc n = length-append xs (replicate (suc n) d) ∙ ap (λ (m : ℕ). length xs + m) (length-replicate (suc n) d) in
      let a : take i (xs ++ replicate (suc n) d) ≡ take i xs = take-append-le i xs (replicate (suc n) d) l in
      let b : drop i (xs ++ replicate (suc n) d) ≡ drop i xs ++ replicate (suc n) d = drop-append-le i xs (replicate (suc n) d) l in
      let k : length (drop i xs) ≡ length xs - i = length-drop i xs in
      let c : length (xs ++ replicate (suc n) d) - 1 - i ≡ length (drop i xs) + n = omega arith in
      let f : take n (replicate (suc n) d) ≡ replicate n d = take-replicate n in
      let g : take (length (xs ++ replicate (suc n) d) - 1 - i) (drop i (xs ++ replicate (suc n) d)) ≡ drop i xs ++ replicate n d =
      ap₂ take c b ∙ (take-append-add (drop i xs) (replicate (suc n) d) n ∙ ap (λ (q : List A). drop i xs ++ q) f) in
      ap₂ (λ (p q : List A). p ++ (x ∷ q)) a g ∙ sym (append_assoc (take i xs) (x ∷ drop i xs) (replicate n d))

  -- an index within the record lines: one spare more
  pub remove_spares : (i n : ℕ) (xs : List A) → i < length xs → remove_at i d (xs ++ replicate n d) ≡ (take i xs ++ drop (suc i) xs) ++ replicate (suc n) d
  unfolding remove_at
  remove_spares i n xs l =
      let a : take i (xs ++ replicate n d) ≡ take i xs = take-append-le i xs (replicate n d) (omega arith) in
      let j : i + 1 ≡ suc i = omega arith in
      let b : drop (i + 1) (xs ++ replicate n d) ≡ drop (suc i) xs ++ replicate n d =
      ap (λ (m : ℕ). drop m (xs ++ replicate n d)) j ∙ drop-append-le (suc i) xs (replicate n d) (omega arith) in
      let m : n + 1 ≡ suc n = omega arith in
      let c : replicate n d ++ (d ∷ []) ≡ replicate (suc n) d = replicate-append-replicate n 1 d ∙ ap (λ (q : ℕ). replicate q d) m in
      ap₂ (λ (p q : List A). p ++ (q ++ (d ∷ []))) a b
      ∙ (ap (λ (q : List A). take i xs ++ q) (append_assoc (drop (suc i) xs) (replicate n d) (d ∷ []) ∙ ap (λ (q : List A). drop (suc i) xs ++ q) c)
      ∙ sym (append_assoc (take i xs) (drop (suc i) xs) (replicate (suc n) d)))
