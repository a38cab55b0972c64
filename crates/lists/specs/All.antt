-- Laws of `all`, `map` and `set` together, each by induction on the list.
use Rattle.std.specs.Prelude.{◌≡◌, ◌+◌, ◌*◌, ◌≤◌, ◌<◌, ◌&&◌, ◌∷◌, ◌++◌}
use Rattle.lists.specs.Kit.{refl, sym, ap, ap₂, ℕ, zero, suc, eqb, Bool, true, and_assoc, List, [], map}
use Rattle.lists.specs.Kit.{length, take, drop, get_or, set, length-take, length-drop, drop_of_length-le, drop-cons, arith, eq-eqb}
use Rattle.std.proofs.Common.{suc-mul, ◌∙◌}
use Rattle.lists.specs.Tests.{and_fst, and_snd, and_both}
use Rattle.lists.specs.Each.{all, pieces, listed}
use Rattle.lists.specs.Pieces.{AllOf}

module _ {ℓ} {A : Type ℓ} where
  pub all_at : (p : A → Bool) (xs : List A) (d : A) (i : ℕ) → all p xs ≡ true → i < length xs → p (get_or xs i d) ≡ true
  unfolding all
  all_at p [] d i h l = absurd (omega arith)
  all_at p (x ∷ xs) d zero h l = and_fst (p x) (all p xs) h
  all_at p (x ∷ xs) d (suc i) h l = all_at p xs d i (and_snd (p x) (all p xs) h) (omega arith)

  pub all_set : (p : A → Bool) (xs : List A) (i : ℕ) (y : A) → all p xs ≡ true → p y ≡ true → all p (set xs i y) ≡ true
  unfolding all
  all_set p [] i y h g = refl
  all_set p (x ∷ xs) zero y h g = and_both g (and_snd (p x) (all p xs) h)
  all_set p (x ∷ xs) (suc i) y h g = and_both (and_fst (p x) (all p xs) h) (all_set p xs i y (and_snd (p x) (all p xs) h) g)

  pub all_drop : (p : A → Bool) (n : ℕ) (xs : List A) → all p xs ≡ true → all p (drop n xs) ≡ true
  unfolding all
  all_drop p zero xs h = h
  all_drop p (suc n) [] h = refl
  all_drop p (suc n) (x ∷ xs) h = all_drop p n xs (and_snd (p x) (all p xs) h)

  pub all_append : (p : A → Bool) (xs ys : List A) → all p (xs ++ ys) ≡ (all p xs && all p ys)
  unfolding all
  all_append p [] ys = refl
  all_append p (x ∷ xs) ys = rw (all_append p xs ys) (sym (and_assoc (p x) (all p xs) (all p ys)))

  -- a map that leaves everything alone
  pub map_unmoved : (f : A → A) → ((x : A) → f x ≡ x) → (xs : List A) → map f xs ≡ xs
  map_unmoved f e [] = refl
  map_unmoved f e (x ∷ xs) = ap₂ ◌∷◌ (e x) (map_unmoved f e xs)

  -- a map that leaves every element of a list alone
  pub map_same : (p : A → Bool) (f : A → A) → ((x : A) → p x ≡ true → f x ≡ x) → (xs : List A) → all p xs ≡ true → map f xs ≡ xs
  unfolding all
  map_same p f e [] h = refl
  map_same p f e (x ∷ xs) h = ap₂ ◌∷◌ (e x (and_fst (p x) (all p xs) h)) (map_same p f e xs (and_snd (p x) (all p xs) h))

  -- a test that holds wherever another does
  pub all_weaken : (p q : A → Bool) → ((x : A) → p x ≡ true → q x ≡ true) → (xs : List A) → all p xs ≡ true → all q xs ≡ true
  unfolding all
  all_weaken p q e [] h = refl
  all_weaken p q e (x ∷ xs) h = and_both (e x (and_fst (p x) (all p xs) h)) (all_weaken p q e xs (and_snd (p x) (all p xs) h))

pub all-and {ℓ} : {A : Type ℓ} (p q : A → Bool) (xs : List A) → all p xs ≡ true → all q xs ≡ true → all (λ (x : A). p x && q x) xs ≡ true
unfolding all
all-and p q [] f g = refl
all-and p q (x ∷ xs) f g =
    and_both (and_both (and_fst (p x) (all p xs) f) (and_fst (q x) (all q xs) g))
    (all-and p q xs (and_snd (p x) (all p xs) f) (and_snd (q x) (all q xs) g))

-- the pieces of a list of n * w elements all have w elements
pub pieces_whole {ℓ} : {A : Type ℓ} (w n : ℕ) (s : List A) → length s ≡ n * w → all (λ (x : List A). eqb (length x) w) (pieces w n s) ≡ true
unfolding all pieces
pieces_whole w zero s e = refl
pieces_whole w (suc n) s e =
    let h : length s ≡ n * w + w = rw suc-mul at e in
    let l : length (take w s) ≡ w = simp length-take (omega arith) in
    let k : length (drop w s) ≡ n * w = simp length-drop (omega arith) in
    and_both (eq-eqb (length (take w s)) w l) (pieces_whole w n (drop w s) k)

pub all_always {ℓ} : {A : Type ℓ} (xs : List A) → all (λ (x : A). true) xs ≡ true
unfolding all
all_always [] = refl
all_always (x ∷ xs) = all_always xs

pub all_map {ℓ κ} : {A : Type ℓ} {B : Type κ} (p : B → Bool) (f : A → B) (xs : List A) → all p (map f xs) ≡ all (λ (x : A). p (f x)) xs
unfolding all
all_map p f [] = refl
all_map p f (x ∷ xs) = ap (λ (b : Bool). p (f x) && b) (all_map p f xs)

-- lists made from elements that pass a test all have w elements
pub all_of {ℓ κ} : {A : Type ℓ} {B : Type κ} (w : ℕ) (p : A → Bool) (f : A → List B) → ((x : A) → p x ≡ true → length (f x) ≡ w) → (xs : List A) → all p xs ≡ true → AllOf w (map f xs)
unfolding all
all_of w p f e [] h = tt
all_of w p f e (x ∷ xs) h = (e x (and_fst (p x) (all p xs) h), all_of w p f e xs (and_snd (p x) (all p xs) h))

pub map-map {ℓ κ μ} : {A : Type ℓ} {B : Type κ} {C : Type μ} (g : B → C) (f : A → B) (xs : List A) → map g (map f xs) ≡ map (λ (x : A). g (f x)) xs
map-map g f [] = refl
map-map g f (x ∷ xs) = ap (λ (t : List _). g (f x) ∷ t) (map-map g f xs)

pub map-set {ℓ κ} : {A : Type ℓ} {B : Type κ} (f : A → B) (xs : List A) (i : ℕ) (y : A) → map f (set xs i y) ≡ set (map f xs) i (f y)
map-set f [] i y = refl
map-set f (x ∷ xs) zero y = refl
map-set f (x ∷ xs) (suc i) y = ap (λ (t : List _). f x ∷ t) (map-set f xs i y)

-- within a list what stands past its end does not matter
pub get_or_any {ℓ} : {A : Type ℓ} (xs : List A) (i : ℕ) (d e : A) → i < length xs → get_or xs i d ≡ get_or xs i e
get_or_any [] i d e l = absurd (omega arith)
get_or_any (x ∷ xs) zero d e l = refl
get_or_any (x ∷ xs) (suc i) d e l = get_or_any xs i d e (omega arith)

-- a list is its elements listed
pub listed_is : (i n : ℕ) (v : List ℕ) → length v ≡ i + n → listed i n v ≡ drop i v
unfolding listed
listed_is i zero v e = let l : length v ≤ i = omega arith in sym (drop_of_length-le v l)
listed_is i (suc n) v e = ap (λ (t : List ℕ). get_or v i 0 ∷ t) (listed_is (suc i) n v (omega arith)) ∙ sym (drop-cons v i 0 (omega arith))

-- two maps that agree on every element of a list
pub map_equal {ℓ κ} : {A : Type ℓ} {B : Type κ} (p : A → Bool) (f g : A → B) → ((x : A) → p x ≡ true → f x ≡ g x) → (xs : List A) → all p xs ≡ true → map f xs ≡ map g xs
unfolding all
map_equal p f g e [] h = refl
map_equal p f g e (x ∷ xs) h = ap₂ ◌∷◌ (e x (and_fst (p x) (all p xs) h)) (map_equal p f g e xs (and_snd (p x) (all p xs) h))
