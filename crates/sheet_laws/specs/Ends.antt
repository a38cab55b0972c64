-- A list of whole pieces is its front and spares behind it, and pieces that are no spares, with spares behind them, have these as front and spares. All by the list of
-- pieces. For any width, and any piece d as the spare: the only one of its width that passes the test p. Lines of a sheet are such pieces, and the rows of its numbers.
use Rattle.std.specs.Prelude.{◌+◌, ◌-◌, ◌*◌, ◌/◌, ◌≤◌, ◌<◌, ◌≡◌, ◌∷◌, ◌++◌}
use Rattle.lists.specs.Basics.{ℕ, zero, suc, refl, sym, ap, ap₂, Bool, true, not, List, [], arith}
use Rattle.lists.specs.Basics.{length, take, drop, take_at, length-append, length-drop, replicate, all, and_fst, and_snd, joined, pieces}
use Rattle.std.proofs.Math.Nat.{add-mul-div_right, zero-div}
use Rattle.std.proofs.Common.{zero-add, take-append-drop, length-take-le, ◌∙◌}
use Rattle.std.proofs.lemmas.List.{length-replicate}
use Rattle.lists.specs.Pieces.{AllOf, joined-pieces, pieces-joined, length-pieces, length-joined, joined-append, all_join, all_first, all_rest, all-pieces, take-joined}
use Rattle.model.specs.Spares.{trimmed}
use Rattle.sheet_laws.specs.Trimmed.{trimmed_le, trimmed-rest, trimmed-behind}

module _ (w : ℕ) (some : 0 < w) where
  pub quotient : (n : ℕ) → n * w / w ≡ n
  quotient n = ap (λ (m : ℕ). m / w) (sym (zero-add (n * w))) ∙ (add-mul-div_right 0 n some ∙ (ap (λ (m : ℕ). m + n) (zero-div w) ∙ zero-add n))

  -- the pieces of pieces joined, where each has w elements
  pub cut-joined : (ls : List (List ℕ)) → AllOf w ls → pieces w (length (joined ls) / w) (joined ls) ≡ ls
  cut-joined ls a =
      ap (λ (n : ℕ). pieces w n (joined ls)) (ap (λ (n : ℕ). n / w) (length-joined w ls a) ∙ quotient (length ls)) ∙ pieces-joined w ls a

  module _ (p : List ℕ → Bool) (d : List ℕ) (wide : length d ≡ w) (passes : p d ≡ true) (only : (x : List ℕ) → length x ≡ w → p x ≡ true → x ≡ d) where
    pub spares_wide : (n : ℕ) → AllOf w (replicate n d)
    spares_wide zero = tt
    spares_wide (suc n) = (wide, spares_wide n)

    pub spares-length : (n : ℕ) → length (joined (replicate n d)) ≡ n * w
    spares-length n = length-joined w (replicate n d) (spares_wide n) ∙ ap (λ (m : ℕ). m * w) (length-replicate n d)

    -- pieces that are all spares
    all-spares : (ls : List (List ℕ)) → AllOf w ls → all p ls ≡ true → ls ≡ replicate (length ls) d
    unfolding all
    all-spares [] a h = refl
    all-spares (l ∷ ls) a h = ap₂ ◌∷◌ (only l a.0 (and_fst (p l) (all p ls) h)) (all-spares ls a.1 (and_snd (p l) (all p ls) h))

    -- A list of whole pieces.
    module _ (s : List ℕ) (whole : length s ≡ length s / w * w) where
      abbrev cut : List (List ℕ)
      cut = pieces w (length s / w) s

      abbrev filled : ℕ
      filled = trimmed p cut

      -- without the spares at its end
      abbrev front : List ℕ
      front = take (filled * w) s

      cut_wide : AllOf w cut
      cut_wide = all-pieces w (length s / w) s whole

      cut-length : length cut ≡ length s / w
      cut-length = length-pieces w (length s / w) s

      pub filled_within : filled ≤ length s / w
      filled_within = let l = trimmed_le p cut in omega (arith, cut-length)

      filled-few : filled ≤ length cut
      filled-few = trimmed_le p cut

      front-joined : front ≡ joined (take filled cut)
      front-joined = ap (take (filled * w)) (sym (joined-pieces w (length s / w) s whole)) ∙ take-joined w filled cut cut_wide filled-few

      -- the front has the pieces up to the last that is no spare
      pub front_cut : pieces w (length front / w) front ≡ take filled cut
      front_cut = ap (λ (x : List ℕ). pieces w (length x / w) x) front-joined ∙ cut-joined (take filled cut) (all_first w filled cut cut_wide)

      pub front_length : length front ≡ filled * w
      front_length =
          ap length front-joined
          ∙ (length-joined w (take filled cut) (all_first w filled cut cut_wide) ∙ ap (λ (m : ℕ). m * w) (length-take-le filled cut filled-few))

      pub front-count : length front / w ≡ filled
      front-count = ap (λ (m : ℕ). m / w) front_length ∙ quotient filled

      pub front-whole : length front ≡ length front / w * w
      front-whole = front_length ∙ ap (λ (m : ℕ). m * w) (sym front-count)

      -- and spares are behind it
      pub rest-spares : drop filled cut ≡ replicate (length s / w - filled) d
      rest-spares =
          let rest = drop filled cut in
          let n : length rest ≡ length s / w - filled = length-drop filled cut ∙ ap (λ (m : ℕ). m - filled) cut-length in
          all-spares rest (all_rest w filled cut cut_wide) (trimmed-rest p cut) ∙ ap (λ (m : ℕ). replicate m d) n

      pub front-spares : front ++ joined (replicate (length s / w - filled) d) ≡ s
      front-spares =
          ap₂ ◌++◌ front-joined (ap joined (sym rest-spares))
          ∙ (sym (joined-append (take filled cut) (drop filled cut)) ∙ (ap joined (take-append-drop filled cut) ∙ joined-pieces w (length s / w) s whole))

    -- Pieces that are no spares, with spares behind them.
    module _ (ls : List (List ℕ)) (n : ℕ) (widths : AllOf w ls) (none : all (λ (l : List ℕ). not (p l)) ls ≡ true) where
      abbrev texts : List (List ℕ)
      texts = ls ++ replicate n d

      abbrev spared : List ℕ
      spared = joined ls ++ joined (replicate n d)

      texts_wide : AllOf w texts
      texts_wide = all_join w ls (replicate n d) widths (spares_wide n)

      spared-joined : spared ≡ joined texts
      spared-joined = sym (joined-append ls (replicate n d))

      pub spared-length : length spared ≡ (length ls + n) * w
      spared-length =
          ap length spared-joined
          ∙ (length-joined w texts texts_wide
          ∙ ap (λ (m : ℕ). m * w) (length-append ls (replicate n d) ∙ ap (λ (m : ℕ). length ls + m) (length-replicate n d)))

      pub spared-count : length spared / w ≡ length ls + n
      spared-count = ap (λ (m : ℕ). m / w) spared-length ∙ quotient (length ls + n)

      pub spared-cut : pieces w (length spared / w) spared ≡ texts
      spared-cut = ap (λ (x : List ℕ). pieces w (length x / w) x) spared-joined ∙ cut-joined texts texts_wide

      pub spared-filled : trimmed p (pieces w (length spared / w) spared) ≡ length ls
      spared-filled = ap (trimmed p) spared-cut ∙ trimmed-behind p d n ls passes none

      pub spared-front : take (trimmed p (pieces w (length spared / w) spared) * w) spared ≡ joined ls
      spared-front = ap (λ (m : ℕ). take (m * w) spared) spared-filled ∙ take_at (joined ls) (joined (replicate n d)) (length ls * w) (length-joined w ls widths)
