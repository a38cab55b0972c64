-- This project's words on lists are what std's chains answer by.
use Rattle.std.specs.Prelude.{◌≡◌, ◌∷◌, ◌&&◌, Option, position, slice_get}
use Rattle.std.specs.List as std
pub use Rattle.lists.specs.Chains.{any_is, all_is, filter_is}
use Rattle.std.specs.Slice.{IsItemAt}
use Rattle.std.specs.Option.{option_copied}
use Rattle.std.proofs.Common.{Bor}
use Rattle.std.proofs.lemmas.Option.{slice_get_past, slice_get-get_or}
use Rattle.std.proofs.Common.{◌∙◌}
use Rattle.std.proofs.lemmas.Iterator.Adapters.{position_from-zero}
use Rattle.lists.specs.Basics.{refl, sym, ap, add-one, ltb-true, ltb-false, ℕ, suc, Bool, List, [], length, eqb, eq_list, and_assoc, and-true}
use Rattle.model.specs.Records.{key_numbers, same_key}
use Rattle.model.specs.Types.{Key, Some, None}
use Rattle.model.specs.Search.{first_from}

from_is : {A : Type 0} (p : A → Bool) (i : ℕ) (xs : List A) → std.position_from p i xs ≡ first_from p i xs
unfolding first_from
from_is p i [] = refl
from_is p i (x ∷ xs) = rw (add-one i, from_is p (suc i) xs) refl

pub position_is : {A : Type 0} (p : A → Bool) (xs : List A) → position p xs ≡ first_from p 0 xs
position_is p xs = position_from-zero p xs ∙ from_is p 0 xs

-- what the derived `==` of keys answers
abbrev pub key_test : Key → Key → Bool
key_test a b = eqb a.storage b.storage && eqb a.namespace b.namespace && eqb a.table b.table && eqb a.partition b.partition && eqb a.clustering b.clustering

pub same_key_is : (a b : Key) → key_test a b ≡ same_key a b
unfolding eq_list key_numbers same_key
same_key_is a b = simp (and_assoc, and-true)

-- what `get` and `copied` find
pub item_got : (xs : List ℕ) (i : ℕ) (r : Option (Bor ℕ)) → IsItemAt xs i r → option_copied r ≡ slice_get xs i
item_got xs i None h = sym (slice_get_past xs i (ltb-false i (length xs) (sym h.0)))
item_got xs i (Some x) h = sym (slice_get-get_or xs i x.now (ltb-true i (length xs) (sym h.0)) ∙ ap Some (sym h.1))
