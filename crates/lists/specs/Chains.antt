-- The words on lists that this project has are what std's chains of iterators answer by.
use Rattle.std.specs.Prelude.{◌≡◌, ◌∷◌}
use Rattle.std.specs.List as std
use Rattle.lists.specs.Kit.{refl, Bool, List, []}
use Rattle.lists.specs.Each.{any, all, filter}

pub any_is : {A : Type 0} (p : A → Bool) (xs : List A) → std.list_any p xs ≡ any p xs
unfolding any
any_is p [] = refl
any_is p (x ∷ xs) = rw (any_is p xs) refl

pub all_is : {A : Type 0} (p : A → Bool) (xs : List A) → std.list_all p xs ≡ all p xs
unfolding all
all_is p [] = refl
all_is p (x ∷ xs) = rw (all_is p xs) refl

pub filter_is : {A : Type 0} (p : A → Bool) (xs : List A) → std.filter p xs ≡ filter p xs
unfolding filter
filter_is p [] = refl
filter_is p (x ∷ xs) = rw (filter_is p xs) refl
