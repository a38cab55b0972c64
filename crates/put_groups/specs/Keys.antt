-- The first n of five numbers compared, one after another: by the cases of n. The five with which a list begins.
use Rattle.std.specs.Prelude.{◌≡◌, ◌≤◌, ◌&&◌, ◌||◌, ◌∷◌}
use Rattle.std.proofs.Common.{◌∙◌}
use Rattle.lists.specs.Basics.{refl, sym, ap, ℕ, zero, suc, eqb, ltb, Bool, and-true, and-false, or-false, List, [], length}
use Rattle.lists.specs.Basics.{take, get_or, set, arith, lt-ltb, le-ltb, less, eq_list}
use Rattle.std.proofs.Math.Seq.{take-nil}

module _ (a b c d e a' b' c' d' e' : ℕ) where
  pub same_first_lem : (n : ℕ) → (ltb n 1 || eqb a a' && (ltb n 2 || eqb b b' && (ltb n 3 || eqb c c' && (ltb n 4 || eqb d d' && (ltb n 5 || eqb e e'))))) ≡ eq_list (take n (a ∷ b ∷ c ∷ d ∷ e ∷ [])) (take n (a' ∷ b' ∷ c' ∷ d' ∷ e' ∷ []))
  unfolding eq_list
  same_first_lem zero = refl
  same_first_lem (suc zero) = refl
  same_first_lem (suc (suc zero)) = refl
  same_first_lem (suc (suc (suc zero))) = refl
  same_first_lem (suc (suc (suc (suc zero)))) = refl
  same_first_lem (suc (suc (suc (suc (suc n))))) =
      let m = suc (suc (suc (suc (suc n)))) in
      rw (le-ltb m 1 (omega arith), le-ltb m 2 (omega arith), le-ltb m 3 (omega arith), le-ltb m 4 (omega arith), le-ltb m 5 (omega arith), take-nil n)
      (ap (λ (x : Bool). eqb a a' && (eqb b b' && (eqb c c' && (eqb d d' && x)))) (sym (and-true (eqb e e'))))

  pub less_first_lem : (n : ℕ) → (ltb 0 n && (ltb a a' || eqb a a' && (ltb 1 n && (ltb b b' || eqb b b' && (ltb 2 n && (ltb c c' || eqb c c' && (ltb 3 n && (ltb d d' || eqb d d' && (ltb 4 n && ltb e e'))))))))) ≡ less (take n (a ∷ b ∷ c ∷ d ∷ e ∷ [])) (take n (a' ∷ b' ∷ c' ∷ d' ∷ e' ∷ []))
  unfolding less
  less_first_lem zero = refl
  less_first_lem (suc zero) = refl
  less_first_lem (suc (suc zero)) = refl
  less_first_lem (suc (suc (suc zero))) = refl
  less_first_lem (suc (suc (suc (suc zero)))) = refl
  less_first_lem (suc (suc (suc (suc (suc n))))) =
      let m = suc (suc (suc (suc (suc n)))) in
      rw (lt-ltb 0 m (omega arith), lt-ltb 1 m (omega arith), lt-ltb 2 m (omega arith), lt-ltb 3 m (omega arith), lt-ltb 4 m (omega arith), take-nil n)
      (ap (λ (x : Bool). ltb a a' || eqb a a' && (ltb b b' || eqb b b' && (ltb c c' || eqb c c' && (ltb d d' || eqb d d' && x))))
      (sym (ap (λ (x : Bool). ltb e e' || x) (and-false (eqb e e')) ∙ or-false (ltb e e'))))

pub first_five : (s : List ℕ) → 5 ≤ length s → take 5 s ≡ get_or s 0 0 ∷ get_or s 1 0 ∷ get_or s 2 0 ∷ get_or s 3 0 ∷ get_or s 4 0 ∷ []
first_five [] l = absurd (omega arith)
first_five (a ∷ []) l = absurd (omega arith)
first_five (a ∷ b ∷ []) l = absurd (omega arith)
first_five (a ∷ b ∷ c ∷ []) l = absurd (omega arith)
first_five (a ∷ b ∷ c ∷ d ∷ []) l = absurd (omega arith)
first_five (a ∷ b ∷ c ∷ d ∷ e ∷ s) l = refl

-- five numbers set one after another
pub five_set : (s : List ℕ) (a b c d e : ℕ) → length s ≡ 5 → set (set (set (set (set s 0 a) 1 b) 2 c) 3 d) 4 e ≡ a ∷ b ∷ c ∷ d ∷ e ∷ []
five_set [] a b c d e l = absurd (omega arith)
five_set (p ∷ []) a b c d e l = absurd (omega arith)
five_set (p ∷ q ∷ []) a b c d e l = absurd (omega arith)
five_set (p ∷ q ∷ r ∷ []) a b c d e l = absurd (omega arith)
five_set (p ∷ q ∷ r ∷ s ∷ []) a b c d e l = absurd (omega arith)
five_set (p ∷ q ∷ r ∷ s ∷ t ∷ []) a b c d e l = refl
five_set (p ∷ q ∷ r ∷ s ∷ t ∷ u ∷ v) a b c d e l = absurd (omega arith)
