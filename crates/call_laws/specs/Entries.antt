-- Entries held by a transaction: one more held, one replaced. Each goes by induction on the entries.
use Rattle.std.specs.Prelude.{◌≡◌, ◌<◌, ◌&&◌, ◌||◌, ◌∷◌}
use Rattle.lists.specs.Basics.{refl, ap, ap₂, ℕ, zero, suc, Bool, true, false, not, List, [], length, take, get_or, set, arith}
use Rattle.lists.specs.Basics.{not-true, all, any, and_fst, and_snd, and_both, or_fst, or_snd}
use Rattle.model.specs.Types.{Key, Entry}
use Rattle.model.specs.Records.{same_key}
use Rattle.model.specs.WellFormed.{distinct_keys}
use Rattle.call_laws.specs.Keys.{same_key_flip, has_key}

-- Within the first n.
pub get_or-first : (n : ℕ) (es : List Entry) (m : ℕ) (d : Entry) → m < length (take n es) → get_or (take n es) m d ≡ get_or es m d
get_or-first zero es m d l = absurd (omega arith)
get_or-first (suc n) [] m d l = refl
get_or-first (suc n) (e ∷ es) zero d l = refl
get_or-first (suc n) (e ∷ es) (suc m) d l = get_or-first n es m d (omega arith)

-- One more entry.
module _ (p : Entry → Bool) (x : Entry) where
  pub all_more : (n : ℕ) (es : List Entry) → all p (take n es) ≡ true → p x ≡ true → all p (take (suc n) (set es n x)) ≡ true
  unfolding all
  all_more n [] h g = refl
  all_more zero (e ∷ es) h g = and_both g refl
  all_more (suc n) (e ∷ es) h g = and_both (and_fst (p e) (all p (take n es)) h) (all_more n es (and_snd (p e) (all p (take n es)) h) g)

  none_more : (n : ℕ) (es : List Entry) → any p (take n es) ≡ false → p x ≡ false → any p (take (suc n) (set es n x)) ≡ false
  unfolding any
  none_more n [] h g = refl
  none_more zero (e ∷ es) h g = rw g
  none_more (suc n) (e ∷ es) h g =
      let a : p e ≡ false = or_fst (p e) (any p (take n es)) h in
      let b : any p (take n es) ≡ false = or_snd (p e) (any p (take n es)) h in
      ap₂ ◌||◌ a (none_more n es b g)

  -- one entry replaced
  pub all-replaced : (n i : ℕ) (es : List Entry) → all p (take n es) ≡ true → p x ≡ true → all p (take n (set es i x)) ≡ true
  unfolding all
  all-replaced zero i es h g = refl
  all-replaced (suc n) i [] h g = refl
  all-replaced (suc n) zero (e ∷ es) h g = and_both g (and_snd (p e) (all p (take n es)) h)
  all-replaced (suc n) (suc i) (e ∷ es) h g =
      and_both (and_fst (p e) (all p (take n es)) h) (all-replaced n i es (and_snd (p e) (all p (take n es)) h) g)

pub distinct_more : (x : Entry) (n : ℕ) (es : List Entry) → distinct_keys (take n es) ≡ true → has_key x.key (take n es) ≡ false → distinct_keys (take (suc n) (set es n x)) ≡ true
unfolding distinct_keys any
distinct_more x n [] h g = refl
distinct_more x zero (e ∷ es) h g = refl
distinct_more x (suc n) (e ∷ es) h g =
    let a : has_key e.key (take n es) ≡ false = not-true (has_key e.key (take n es)) (and_fst (not (has_key e.key (take n es))) (distinct_keys (take n es)) h) in
    let b : same_key e.key x.key ≡ false = or_fst (same_key e.key x.key) (has_key x.key (take n es)) g in
    let c : has_key x.key (take n es) ≡ false = or_snd (same_key e.key x.key) (has_key x.key (take n es)) g in
    let d : same_key x.key e.key ≡ false = same_key_flip e.key x.key b in
    and_both (ap not (none_more (λ (f : Entry). same_key f.key e.key) x n es a d))
    (distinct_more x n es (and_snd (not (has_key e.key (take n es))) (distinct_keys (take n es)) h) c)

-- an entry replaced by one of the same key
has_key-replaced : (k : Key) (x d : Entry) (n i : ℕ) (es : List Entry) → x.key ≡ (get_or es i d).key → has_key k (take n (set es i x)) ≡ has_key k (take n es)
unfolding any
has_key-replaced k x d zero i es e = refl
has_key-replaced k x d (suc n) i [] e = refl
has_key-replaced k x d (suc n) zero (y ∷ es) e = ap (λ (j : Key). same_key j k || has_key k (take n es)) e
has_key-replaced k x d (suc n) (suc i) (y ∷ es) e = ap (λ (b : Bool). same_key y.key k || b) (has_key-replaced k x d n i es e)

pub distinct_replaced : (x d : Entry) (n i : ℕ) (es : List Entry) → x.key ≡ (get_or es i d).key → distinct_keys (take n (set es i x)) ≡ distinct_keys (take n es)
unfolding distinct_keys
distinct_replaced x d zero i es e = refl
distinct_replaced x d (suc n) i [] e = refl
distinct_replaced x d (suc n) zero (y ∷ es) e = ap (λ (j : Key). not (has_key j (take n es)) && distinct_keys (take n es)) e
distinct_replaced x d (suc n) (suc i) (y ∷ es) e =
    ap₂ (λ (a b : Bool). not a && b) (has_key-replaced y.key x d n i es e) (distinct_replaced x d n i es e)
