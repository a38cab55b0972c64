-- Tests joined by `&&`, and choices by a test: each with the rules that a proof uses.
use Rattle.std.specs.Prelude.{◌≡◌, ◌&&◌}
use Rattle.std.proofs.Common.{◌∙◌}
use Rattle.lists.specs.Kit.{refl, sym, ap, Bool, true, false, cond, true≢false, eqb-true, leb-true, ltb-true}

-- the first of two tests that hold together
pub and_fst : (a b : Bool) → (a && b) ≡ true → a ≡ true
and_fst true b e = refl
and_fst false b e = e

-- the second of two tests that hold together
pub and_snd : (a b : Bool) → (a && b) ≡ true → b ≡ true
and_snd true b e = e
and_snd false b e = absurd (true≢false (sym e))

-- two tests that hold, held together
pub and_both : {a b : Bool} → a ≡ true → b ≡ true → (a && b) ≡ true
and_both {a} {b} p q = ap (λ (x : Bool). x && b) p ∙ q

-- what takes a conjunction of tests apart, for `search`
pub ruleset tests = (and_fst, and_snd, eqb-true, leb-true, ltb-true)

-- two tests that hold together in the same cases are one test
pub same_test : (a b : Bool) → (a ≡ true → b ≡ true) → (b ≡ true → a ≡ true) → a ≡ b
same_test true b f g = sym (f refl)
same_test false true f g = g refl
same_test false false f g = refl

-- what follows a test counts only where the test holds
pub and_same : (a b c : Bool) → (a ≡ true → b ≡ c) → (a && b) ≡ (a && c)
and_same true b c f = f refl
and_same false b c f = refl

-- the second and the third of three tests in the other order
pub and_move : (a b c : Bool) → (a && b && c) ≡ (a && c && b)
and_move true true true = refl
and_move true true false = refl
and_move true false true = refl
and_move true false false = refl
and_move false b c = refl

-- the same of two pairs of tests
pub and_swap : (a b c d : Bool) → (a && b && (c && d)) ≡ (a && c && (b && d))
and_swap true true c d = refl
and_swap true false true d = refl
and_swap true false false d = refl
and_swap false b c d = refl

-- a fact about a choice, from the fact about each case with the test's outcome at hand
pub choose_by {ℓ κ} : {A : Type ℓ} (P : A → Type κ) (b : Bool) {x y : A} → (b ≡ true → P x) → (b ≡ false → P y) → P (cond b x y)
choose_by P true f g = f refl
choose_by P false f g = g refl
