-- How many fields of a key are compared where no letter of a unit above the storage is met: by the tests of `unit_in` in turn.
use Rattle.std.specs.Prelude.{◌≡◌}
use Rattle.lists.specs.Basics.{ℕ, ne_eqb}
use Rattle.model.specs.Groups.{unit_fields}
use Rattle.transactions.specs.Units.{unit_in}

pub unit_else : (b : ℕ) → (b ≡ 82 → ⊥) → (b ≡ 114 → ⊥) → (b ≡ 80 → ⊥) → (b ≡ 112 → ⊥) → (b ≡ 84 → ⊥) → (b ≡ 116 → ⊥) → (b ≡ 78 → ⊥) → (b ≡ 110 → ⊥) → 1 ≡ unit_fields (unit_in b)
unfolding unit_fields unit_in
unit_else b r r' p p' t t' n n' =
    rw (ne_eqb b 82 r, ne_eqb b 114 r', ne_eqb b 80 p, ne_eqb b 112 p', ne_eqb b 84 t, ne_eqb b 116 t', ne_eqb b 78 n, ne_eqb b 110 n')
