-- Two lists of one length whose elements answer two tests alike, place by place: what std's chains answer of the one is what the words here say of the other.
use Rattle.std.specs.Prelude.{◌≡◌, ◌<◌, ◌&&◌, ◌||◌, ◌∷◌}
use Rattle.std.specs.List as std
use Rattle.lists.specs.Kit.{refl, ap₂, ℕ, suc, Bool, List, [], length, get_or, arith}
use Rattle.lists.specs.Each.{all, any}

module _ {A B : Type 0} (p : A → Bool) (q : B → Bool) where
  pub any_alike : (xs : List A) (ys : List B) (d : A) (e : B) → length xs ≡ length ys → ((i : ℕ) → i < length ys → p (get_or xs i d) ≡ q (get_or ys i e)) → std.list_any p xs ≡ any q ys
  unfolding any
  any_alike [] [] d e n h = refl
  any_alike [] (y ∷ ys) d e n h = absurd (omega arith)
  any_alike (x ∷ xs) [] d e n h = absurd (omega arith)
  any_alike (x ∷ xs) (y ∷ ys) d e n h =
      ap₂ ◌||◌ (h 0 (omega arith)) (any_alike xs ys d e (omega arith) (λ i l. h (suc i) (omega arith)))

  pub all_alike : (xs : List A) (ys : List B) (d : A) (e : B) → length xs ≡ length ys → ((i : ℕ) → i < length ys → p (get_or xs i d) ≡ q (get_or ys i e)) → std.list_all p xs ≡ all q ys
  unfolding all
  all_alike [] [] d e n h = refl
  all_alike [] (y ∷ ys) d e n h = absurd (omega arith)
  all_alike (x ∷ xs) [] d e n h = absurd (omega arith)
  all_alike (x ∷ xs) (y ∷ ys) d e n h =
      ap₂ ◌&&◌ (h 0 (omega arith)) (all_alike xs ys d e (omega arith) (λ i l. h (suc i) (omega arith)))
