-- States and before states by their numbers, which count their words from 0: past the last word, the last of them.
use Rattle.std.specs.Prelude.{◌≡◌, refl, ℕ, zero, suc}
use Rattle.types.specs.declared.State.{State}
use Rattle.types.specs.declared.State.TheVariants.{Absent, Committed, Prepared}
use Rattle.types.specs.declared.Before.{Before}
use Rattle.types.specs.declared.Before.TheVariants as Was

unfoldable pub state_of : ℕ → State
state_of zero = Absent
state_of (suc zero) = Committed
state_of (suc (suc n)) = Prepared

unfoldable pub before_of : ℕ → Before
before_of zero = Was.Nothing
before_of (suc zero) = Was.Absent
before_of (suc (suc n)) = Was.Committed

-- past both words before the last
pub state_else : (n : ℕ) → (n ≡ 0 → ⊥) → (n ≡ 1 → ⊥) → Prepared ≡ state_of n
unfolding state_of
state_else zero z o = absurd (z refl)
state_else (suc zero) z o = absurd (o refl)
state_else (suc (suc n)) z o = refl

pub before_else : (n : ℕ) → (n ≡ 0 → ⊥) → (n ≡ 1 → ⊥) → Was.Committed ≡ before_of n
unfolding before_of
before_else zero z o = absurd (z refl)
before_else (suc zero) z o = absurd (o refl)
before_else (suc (suc n)) z o = refl
