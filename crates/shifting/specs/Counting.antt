-- Where the spares at the end of a sheet begin: the lines behind the first n are spares, and line n - 1 is compared. For any width.
use Rattle.std.specs.Prelude.{◌+◌, ◌-◌, ◌*◌, ◌/◌, ◌≤◌, ◌<◌, ◌≡◌, ◌∷◌, ◌++◌}
use Rattle.lists.specs.Basics.{ℕ, zero, suc, sym, ap, true, false, List, [], arith}
use Rattle.lists.specs.Basics.{length, take, drop, take_all, pieces}
use Rattle.std.proofs.Math.Nat.{suc-mul}
use Rattle.std.proofs.Common.{zero-mul, ◌∙◌}
use Rattle.std.proofs.Math.Seq.{take-suc, length-take-le}
use Rattle.lists.specs.Pieces.{length-pieces, get_or-pieces}
use Rattle.model.specs.Lines.{lines_of}
use Rattle.model.specs.Spares.{is_spare, trimmed, filled_lines}
use Rattle.sheet_laws.specs.Trimmed.{trimmed-pass, trimmed_fail}

module _ (w : ℕ) (s : List ℕ) where
  -- the spares behind the first n lines make no difference
  pub record SparesFrom (n : ℕ) : Type 0 where
    pub within : n ≤ length s / w
    pub kept : trimmed (is_spare w) (take n (lines_of w s)) ≡ filled_lines w s

  pub spares-first : SparesFrom (length s / w)
  unfolding lines_of filled_lines
  spares-first =
      let k : length (pieces w (length s / w) s) ≡ length s / w = length-pieces w (length s / w) s in
      record { within = omega arith; kept = ap (trimmed (is_spare w)) (take_all (length s / w) (pieces w (length s / w) s) (omega arith)) }

  last_line_lem : (m : ℕ) → m < length s / w → take (suc m) (lines_of w s) ≡ take m (lines_of w s) ++ (take w (drop (m * w) s) ∷ [])
  unfolding lines_of
  last_line_lem m l =
      let ls = pieces w (length s / w) s in
      let k : length ls ≡ length s / w = length-pieces w (length s / w) s in
      take-suc ls m [] (omega arith) ∙ ap (λ (x : List ℕ). take m ls ++ (x ∷ [])) (get_or-pieces w m (length s / w) s l)

  -- The last of them is compared. It is no spare,
  none_at : (m : ℕ) → SparesFrom (suc m) → is_spare w (take w (drop (m * w) s)) ≡ false → m * w + w ≡ filled_lines w s * w
  unfolding lines_of
  none_at m f h =
      let ls = pieces w (length s / w) s in
      let l = f.within in
      let k : length ls ≡ length s / w = length-pieces w (length s / w) s in
      let j : length (take m ls) ≡ m = length-take-le m ls (omega arith) in
      let e : suc m ≡ filled_lines w s =
      sym (ap (trimmed (is_spare w)) (last_line_lem m (omega arith)) ∙ (trimmed_fail (is_spare w) (take w (drop (m * w) s)) (take m ls) h ∙ ap suc j)) ∙ f.kept in
      sym (suc-mul m w) ∙ ap (λ (n : ℕ). n * w) e

  -- or one
  one_at : (m : ℕ) → SparesFrom (suc m) → is_spare w (take w (drop (m * w) s)) ≡ true → SparesFrom m
  one_at m f h =
      let l = f.within in
      record {
        within = omega arith;
        kept =
            sym (ap (trimmed (is_spare w)) (last_line_lem m (omega arith)) ∙ trimmed-pass (is_spare w) (take w (drop (m * w) s)) (take m (lines_of w s)) h)
            ∙ f.kept;
      }

  module _ (n : ℕ) (some : 0 < n) (spares : SparesFrom n) where
    behind : SparesFrom (suc (n - 1))
    behind = let e : suc (n - 1) ≡ n = omega arith in rw e spares

    pub no_spare_lem : is_spare w (take w (drop ((n - 1) * w) s)) ≡ false → (n - 1) * w + w ≡ filled_lines w s * w
    no_spare_lem h = none_at (n - 1) behind h

    pub one-spare : is_spare w (take w (drop ((n - 1) * w) s)) ≡ true → SparesFrom (n - 1)
    one-spare h = one_at (n - 1) behind h

  -- no line is left
  pub none_left : (n : ℕ) → n ≤ 0 → SparesFrom n → 0 ≡ filled_lines w s * w
  unfolding trimmed
  none_left zero l f = sym (zero-mul w) ∙ ap (λ (m : ℕ). m * w) f.kept
  none_left (suc n) l f = absurd (omega arith)
