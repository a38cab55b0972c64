-- Text as a list of bytes, and equality of two lists of numbers as a test.
use Rattle.std.specs.Prelude.{◌≡◌, ◌<◌, ◌&&◌, ◌∷◌, ◌++◌}
use Rattle.std.proofs.Common.{◌∙◌}
use Rattle.lists.specs.Kit.{refl, sym, ap, ap₂, ℕ, zero, suc, eqb, Bool, true, false, true≢false, and_assoc, List, []}
use Rattle.lists.specs.Kit.{length, get_or, arith, eqb-true, eq-eqb}
use lib.Pointwise.{pointwise}
use Prim.Native.Char.{code}
use Prim.Native.String.{String}
use Rattle.lists.specs.Tests.{and_fst, and_snd, and_both}

-- the bytes of a text in ASCII
unfoldable pub bytes : String → List ℕ
bytes String.[] = []
bytes (String.◌∷◌ c s) = code c ∷ bytes s

-- the two lists are equal
abbrev pub eq_list : List ℕ → List ℕ → Bool
eq_list s t = pointwise eqb s t

pub eq_list-true : (s t : List ℕ) → eq_list s t ≡ true → s ≡ t
eq_list-true [] [] e = refl
eq_list-true [] (b ∷ t) e = absurd (true≢false (sym e))
eq_list-true (a ∷ s) [] e = absurd (true≢false (sym e))
eq_list-true (a ∷ s) (b ∷ t) e = ap₂ ◌∷◌ (eqb-true a b (and_fst _ _ e)) (eq_list-true s t (and_snd (eqb a b) (eq_list s t) e))

pub eq_list_refl : (s : List ℕ) → eq_list s s ≡ true
eq_list_refl [] = refl
eq_list_refl (a ∷ s) = and_both (eq-eqb a a refl) (eq_list_refl s)

pub ne_eq_list : (s t : List ℕ) → (s ≡ t → ⊥) → eq_list s t ≡ false
ne_eq_list s t d = go (eq_list s t) refl
  where
    go : (b : Bool) → eq_list s t ≡ b → b ≡ false
    go true e = absurd (d (eq_list-true s t e))
    go false e = refl

-- two beginnings of one length are equal, and so are the rests
pub eq_list-append : (s t s' t' : List ℕ) → length s ≡ length t → eq_list (s ++ s') (t ++ t') ≡ (eq_list s t && eq_list s' t')
eq_list-append [] [] s' t' n = refl
eq_list-append [] (b ∷ t) s' t' n = absurd (omega arith)
eq_list-append (a ∷ s) [] s' t' n = absurd (omega arith)
eq_list-append (a ∷ s) (b ∷ t) s' t' n =
    ap (λ (x : Bool). eqb a b && x) (eq_list-append s t s' t' (omega arith)) ∙ sym (and_assoc (eqb a b) (eq_list s t) (eq_list s' t'))

-- a bound on the elements of two lists is one on those of the two joined
pub below_append : (n : ℕ) (s t : List ℕ) → ((i : ℕ) → get_or s i 0 < n) → ((i : ℕ) → get_or t i 0 < n) → (i : ℕ) → get_or (s ++ t) i 0 < n
below_append n [] t f g i = g i
below_append n (a ∷ s) t f g zero = f 0
below_append n (a ∷ s) t f g (suc i) = below_append n s t (λ j. f (suc j)) g i

pub below_one : (n a : ℕ) → a < n → (i : ℕ) → get_or (a ∷ []) i 0 < n
below_one n a l zero = l
below_one n a l (suc i) = omega arith
