-- The search of an element in a list. A key is looked up so among the lines of a sheet and among the entries of a transaction.
use Rattle.std.specs.Prelude.{◌∷◌}
use Rattle.lists.specs.Basics.{ℕ, suc, Bool, cond, List, []}
use Rattle.model.specs.Types.{Found, Some, None}

-- the index of the first element that passes the test, counted from i
unfoldable pub first_from {ℓ} : {A : Type ℓ} → (A → Bool) → ℕ → List A → Found
first_from p i [] = None
first_from p i (x ∷ xs) = cond (p x) (Some i) (first_from p (suc i) xs)
