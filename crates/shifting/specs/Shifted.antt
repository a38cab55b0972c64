-- A list with an element put in or taken out, the others shifting by one.
use Rattle.std.specs.Prelude.{◌+◌, ◌-◌, ◌∷◌, ◌++◌}
use Rattle.lists.specs.Basics.{ℕ, List, [], length, take, drop}

-- x at index i; what stood there and below stands one further down, and the last goes
unfoldable pub insert_at {ℓ} : {A : Type ℓ} → ℕ → A → List A → List A
insert_at i x xs = take i xs ++ (x ∷ take (length xs - 1 - i) (drop i xs))

-- without the element at index i: those below it stand one further up, and x comes last
unfoldable pub remove_at {ℓ} : {A : Type ℓ} → ℕ → A → List A → List A
remove_at i x xs = take i xs ++ (drop (i + 1) xs ++ (x ∷ []))
