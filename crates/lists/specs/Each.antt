-- Lists taken element by element: tests that all, some or so many pass, pieces of equal length, lists joined, lists in order.
use Rattle.std.specs.Prelude.{◌&&◌, ◌||◌, ◌∷◌, ◌++◌}
use Rattle.lists.specs.Kit.{ℕ, zero, suc, eqb, ltb, Bool, true, false, cond, List, [], take, drop, get_or}

-- every element passes the test
unfoldable pub all {ℓ} : {A : Type ℓ} → (A → Bool) → List A → Bool
all p [] = true
all p (x ∷ xs) = p x && all p xs

-- some element passes the test
unfoldable pub any {ℓ} : {A : Type ℓ} → (A → Bool) → List A → Bool
any p [] = false
any p (x ∷ xs) = p x || any p xs

-- the elements that pass the test
unfoldable pub filter {ℓ} : {A : Type ℓ} → (A → Bool) → List A → List A
filter p [] = []
filter p (x ∷ xs) = cond (p x) (x ∷ filter p xs) (filter p xs)

-- how many pass the test
unfoldable pub count {ℓ} : {A : Type ℓ} → (A → Bool) → List A → ℕ
count p [] = 0
count p (x ∷ xs) = cond (p x) (suc (count p xs)) (count p xs)

-- the lists one after another
unfoldable pub joined {ℓ} : {A : Type ℓ} → List (List A) → List A
joined [] = []
joined (x ∷ xs) = x ++ joined xs

-- a list cut into n pieces of w elements: the lines of a sheet, the rows of a list of numbers
unfoldable pub pieces {ℓ} : {A : Type ℓ} → ℕ → ℕ → List A → List (List A)
pieces w zero s = []
pieces w (suc n) s = take w s ∷ pieces w n (drop w s)

-- the n elements from i on, 0 past the end
unfoldable pub listed : ℕ → ℕ → List ℕ → List ℕ
listed i zero v = []
listed i (suc n) v = get_or v i 0 ∷ listed (suc i) n v

-- s comes before t: compared number by number from the left, a list before its continuations
unfoldable pub less : List ℕ → List ℕ → Bool
less [] [] = false
less [] (b ∷ t) = true
less (a ∷ s) [] = false
less (a ∷ s) (b ∷ t) = ltb a b || eqb a b && less s t
