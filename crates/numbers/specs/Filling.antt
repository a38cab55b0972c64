-- Filling a target line by line: what the code lends for line i, and what it leaves there.
use Rattle.std.specs.Prelude.{◌≡◌, ◌+◌, ◌-◌, ◌*◌, ◌≤◌, ◌<◌, ◌++◌}
use Rattle.std.proofs.Common.{◌∙◌}
use Rattle.lists.specs.Basics.{sym, ap, ℕ, List, [], map, length, take, drop, get_or, length-map, get_or-map, arith}
use Rattle.lists.specs.Basics.{joined, pieces}
use Rattle.lists.specs.All.{get_or_any}
use Rattle.lists.specs.Pieces.{over-part, length-pieces, get_or-pieces}
use Rattle.lists.specs.Fill.{FilledTo, fill_first, fill_next, fill_last}

-- Each piece of w of a list s gives a piece of v in the target, by f.
module _ (w v : ℕ) (f : List ℕ → List ℕ) (s : List ℕ) (n : ℕ) where
  -- How far the target is filled.
  abbrev pub MadeTo : List ℕ → ℕ → Type 0
  MadeTo target i = FilledTo v (map f (pieces w n s)) target i

  made_count : length (map f (pieces w n s)) ≡ n
  made_count = length-map (pieces w n s) f ∙ length-pieces w n s

  pub made_first : (target : List ℕ) → length target ≡ n * v → MadeTo target 0
  made_first target e = fill_first v (map f (pieces w n s)) target (e ∙ ap (λ (k : ℕ). k * v) (sym made_count))

  pub made_next : (target t : List ℕ) (i : ℕ) → i < n → length t ≡ i * v + v - i * v → t ≡ f (take w (drop (i * w) s)) → MadeTo target i → MadeTo (take (i * v) target ++ (t ++ drop (i * v + v - i * v) (drop (i * v) target))) (i + 1)
  made_next target t i l k e m =
      let vs : i * v + v - i * v ≡ v = omega arith in
      let p : i < length (pieces w n s) = omega (arith, length-pieces w n s) in
      let q : i < length (map f (pieces w n s)) = omega (arith, made_count) in
      let g : get_or (map f (pieces w n s)) i [] ≡ f (take w (drop (i * w) s)) =
      get_or_any (map f (pieces w n s)) i [] (f []) q
      ∙ (get_or-map f (pieces w n s) i [] ∙ ap f (get_or-pieces w i n s l)) in
      rw (over-part target t (i * v) (i * v + v) k)
      (fill_next v (map f (pieces w n s)) target t i q (e ∙ sym g) (k ∙ vs) m)

  pub made_last : (target : List ℕ) (i : ℕ) → n ≤ i → MadeTo target i → target ≡ joined (map f (pieces w n s))
  made_last target i l m = fill_last v (map f (pieces w n s)) target i (let c = made_count in omega arith) m

  pub made_room : (target : List ℕ) (i : ℕ) → MadeTo target i → length target ≡ n * v
  made_room target i m = m.room ∙ ap (λ (k : ℕ). k * v) made_count
