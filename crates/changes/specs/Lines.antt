-- The loops over the lines of two record sheets: what one turn does to the definition that the loop computes.
use Rattle.std.specs.Prelude.{◌≡◌, ◌+◌, ◌-◌, ◌*◌, ◌≤◌, ◌<◌}
use Rattle.std.proofs.Common.{◌∙◌}
use Rattle.lists.specs.Basics.{refl, sym, ap, ℕ, suc, true, false, List, take}
use Rattle.lists.specs.Basics.{drop, arith, add-one}
use Rattle.model.specs.Types.{Some}
use Rattle.model.specs.Layouts.{record_bytes}
use Rattle.model.specs.SheetCalls.{line_at}
use Rattle.model.specs.Changes.{differs, reach_of, first_of}

-- line i as the code lends it
pub line-part : (s : List ℕ) (i : ℕ) → take (i * record_bytes + record_bytes - i * record_bytes) (drop (i * record_bytes) s) ≡ line_at s (Some i)
unfolding line_at
line-part s i = let w : i * record_bytes + record_bytes - i * record_bytes ≡ record_bytes = omega arith in rw w

module _ (before after : List ℕ) where
  -- From the last line down.

  pub reach_here : (n : ℕ) → 0 < n → differs before after (n - 1) ≡ true → reach_of before after n ≡ n
  unfolding reach_of
  reach_here n l d =
      let e : n ≡ suc (n - 1) = omega arith in
      ap (reach_of before after) e ∙ rw d (sym e)

  pub reach_less : (n : ℕ) → 0 < n → differs before after (n - 1) ≡ false → reach_of before after (n - 1) ≡ reach_of before after n
  unfolding reach_of
  reach_less n l d =
      let e : n ≡ suc (n - 1) = omega arith in
      sym (ap (reach_of before after) e ∙ rw d refl)

  pub reach_none : (n : ℕ) → n ≤ 0 → reach_of before after n ≡ 0
  unfolding reach_of
  reach_none n l = let e : n ≡ 0 = omega arith in rw e

  -- From the first line up, of m lines.

  pub first-all : (m : ℕ) → first_of before after 0 (m - 0) ≡ first_of before after 0 m
  first-all m = let e : m - 0 ≡ m = omega arith in rw e

  pub first-here : (i m : ℕ) → i < m → differs before after i ≡ true → first_of before after i (m - i) ≡ i
  unfolding first_of
  first-here i m l d =
      let e : m - i ≡ suc (m - (i + 1)) = omega arith in
      ap (first_of before after i) e ∙ rw d refl

  pub first_later : (i m : ℕ) → i < m → differs before after i ≡ false → first_of before after (i + 1) (m - (i + 1)) ≡ first_of before after i (m - i)
  unfolding first_of
  first_later i m l d =
      let e : m - i ≡ suc (m - (i + 1)) = omega arith in
      ap (λ (k : ℕ). first_of before after k (m - (i + 1))) (add-one i) ∙ sym (ap (first_of before after i) e ∙ rw d refl)

  pub first-none : (i m : ℕ) → i ≡ m → first_of before after i (m - i) ≡ m
  unfolding first_of
  first-none i m q =
      let e : m - i ≡ 0 = omega arith in
      ap (first_of before after i) e ∙ q
