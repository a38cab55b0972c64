-- An order of transactions and what is known in it, apart from sheets: what each has validated is what the committed ones before it leave, and a committed one
-- that comes later has not written what it may still commit by. This stays so when a transaction gets its position, since at the end of the order what is fresh
-- is what all the committed ones leave, and when one more entry of one in doubt is found unchanged, since none after it has written it.
use Rattle.std.specs.Prelude.{◌≡◌, ◌∷◌, ◌⊎◌}
use Rattle.std.proofs.Common.{◌∙◌}
use Rattle.lists.specs.Basics.{refl, sym, ap, ℕ, Bool, true, false, true≢false, List, [], none, inl, inr}
use Rattle.lists.specs.Members.{Mem, here, there}
use Rattle.model.specs.Types.{Key, Record, Entry}
use Rattle.serial.specs.Runs.{Placing, wrote, ran, run_line, unwritten, sight_in, sight_of, Fresh}

-- Of the numbers those that are committed pass c, and doubt are those in doubt, which have their position and may still commit; valid are the entries
-- validated.

-- q comes later than p: if p is in doubt and has seen what is there, a committed q has not written it
pub record Later (line : Key → Record) (c : ℕ → Bool) (doubt : ℕ → Type 0) (q p : Placing) : Type 0 where
  pub other : q.number ≡ p.number → ⊥
  pub clear : doubt p.number → (e : Entry) → Mem e p.entries → Fresh line e → c q.number ≡ true → wrote e.key q ≡ none

-- what p has validated is what the committed ones before it leave, and no one in doubt before it writes it
pub record Stands (first : Key → Record) (c : ℕ → Bool) (doubt : ℕ → Type 0) (valid : Placing → Entry → Type 0) (p : Placing) (ps : List Placing) : Type 0 where
  pub saw : (e : Entry) → Mem e p.entries → valid p e → sight_of e ≡ sight_in (run_line c first ps e.key)
  pub safe : (e : Entry) → Mem e p.entries → valid p e → (q : Placing) → Mem q ps → doubt q.number → wrote e.key q ≡ none

pub data EachStands (first line : Key → Record) (c : ℕ → Bool) (doubt : ℕ → Type 0) (valid : Placing → Entry → Type 0) : List Placing → Type 0 where
  none_placed : EachStands first line c doubt valid []
  one_more : (p : Placing) (ps : List Placing) → Stands first c doubt valid p ps → ((q : Placing) → Mem q ps → Later line c doubt p q)
      → EachStands first line c doubt valid ps → EachStands first line c doubt valid (p ∷ ps)

pub record Consistent (first line : Key → Record) (c : ℕ → Bool) (doubt : ℕ → Type 0) (valid : Placing → Entry → Type 0) (ps : List Placing) : Type 0 where
  pub each : EachStands first line c doubt valid ps
  -- the serial run of all leaves the lines as they are
  pub lines : (k : Key) → run_line c first ps k ≡ line k

module _ {first line : Key → Record} {c : ℕ → Bool} {doubt : ℕ → Type 0} {valid : Placing → Entry → Type 0} where
  -- a number has one position
  pub same_number : (ps : List Placing) → EachStands first line c doubt valid ps → (p q : Placing) → Mem p ps → Mem q ps → p.number ≡ q.number → p ≡ q
  same_number ps (one_more x xs f a i) p q here here e = refl
  same_number ps (one_more x xs f a i) p q here (there n) e = absurd ((a q n).other e)
  same_number ps (one_more x xs f a i) p q (there m) here e = absurd ((a p m).other (sym e))
  same_number ps (one_more x xs f a i) p q (there m) (there n) e = same_number xs i p q m n e
  same_number _ none_placed p q x7 _ e = elim x7 [ ]

  module _ {doubt' : ℕ → Type 0} {valid' : Placing → Entry → Type 0} where
    -- fewer in doubt, fewer entries validated
    pub each_weaker : (ps : List Placing) → ((q : Placing) → Mem q ps → doubt' q.number → doubt q.number)
        → ((q : Placing) → Mem q ps → (e : Entry) → valid' q e → valid q e) → EachStands first line c doubt valid ps
        → EachStands first line c doubt' valid' ps
    each_weaker ps f g none_placed = none_placed
    each_weaker ps f g (one_more p xs x a i) =
        one_more p xs
        (record { saw = λ e m h. x.saw e m (g p here e h); safe = λ e m h q n w. x.safe e m (g p here e h) q n (f q (there n) w) })
        (λ q n. record { other = (a q n).other; clear = λ w. (a q n).clear (f q (there n) w) })
        (each_weaker xs (λ q n. f q (there n)) (λ q n. g q (there n)) i)

    pub weaker : (ps : List Placing) → ((q : Placing) → Mem q ps → doubt' q.number → doubt q.number)
        → ((q : Placing) → Mem q ps → (e : Entry) → valid' q e → valid q e) → Consistent first line c doubt valid ps
        → Consistent first line c doubt' valid' ps
    weaker ps f g o = record { each = each_weaker ps f g o.each; lines = o.lines }

    -- A new one, not committed, at the end of the order: what it has validated is fresh, and nobody in doubt writes it.
    pub enters : (ps : List Placing) (p : Placing) → Consistent first line c doubt valid ps → ((q : Placing) → Mem q ps → p.number ≡ q.number → ⊥)
        → c p.number ≡ false → ((q : Placing) → Mem q ps → doubt' q.number → doubt q.number)
        → ((q : Placing) → Mem q ps → (e : Entry) → valid' q e → valid q e) → ((e : Entry) → Mem e p.entries → valid' p e → Fresh line e)
        → ((e : Entry) → Mem e p.entries → valid' p e → (q : Placing) → Mem q ps → doubt' q.number → wrote e.key q ≡ none)
        → Consistent first line c doubt' valid' (p ∷ ps)
    unfolding run_line
    enters ps p o d n f g fresh safe =
        record {
          each = one_more p ps
              (record { saw = λ e m h. fresh e m h ∙ ap sight_in (sym (o.lines e.key)); safe = safe })
              (λ q m. record { other = d q m; clear = λ w e l h t. absurd (true≢false (sym t ∙ n)) })
              (each_weaker ps f g o.each);
          lines = λ k. ap (λ (b : Bool). ran b p k (run_line c first ps k)) n ∙ o.lines k;
        }

-- An entry of one in doubt that is found unchanged: nobody else in doubt writes it.
pub record Found (line : Key → Record) (c : ℕ → Bool) (doubt : ℕ → Type 0) (ps : List Placing) (p : Placing) (e : Entry) : Type 0 where
  pub in_doubt : doubt p.number
  pub uncommitted : c p.number ≡ false
  pub fresh : Fresh line e
  pub alone : (q : Placing) → Mem q ps → doubt q.number → (q.number ≡ p.number → ⊥) → wrote e.key q ≡ none

module _ (first line : Key → Record) (c : ℕ → Bool) (doubt : ℕ → Type 0) (valid valid' : Placing → Entry → Type 0) (all : List Placing) where
  -- validated before, or found unchanged now, where the ones in ps leave its line as it is
  abbrev OrFound : List Placing → Placing → Entry → Type 0
  OrFound ps q e = valid q e ⊎ (Found line c doubt all q e × (run_line c first ps e.key ≡ line e.key))

  each_found : (ps : List Placing) → ((q : Placing) → Mem q ps → Mem q all)
      → ((q : Placing) → Mem q ps → (e : Entry) → Mem e q.entries → valid' q e → OrFound ps q e) → EachStands first line c doubt valid ps
      → EachStands first line c doubt valid' ps
  unfolding run_line
  each_found ps sub h none_placed = none_placed
  each_found ps sub h (one_more p xs x a i) =
      one_more p xs
      (record { saw = λ e m w. saw e m (h p here e m w); safe = λ e m w. safe e m (h p here e m w) })
      a
      (each_found xs (λ q n. sub q (there n)) (λ q n e m w. below q n e m (h q (there n) e m w)) i)
    where
      skipped : (k : Key) → (c p.number ≡ false) ⊎ (wrote k p ≡ none) → run_line c first (p ∷ xs) k ≡ run_line c first xs k
      skipped k (inl e) = ap (λ (b : Bool). ran b p k (run_line c first xs k)) e
      skipped k (inr e) = unwritten (c p.number) p k (run_line c first xs k) e

      saw : (e : Entry) → Mem e p.entries → OrFound (p ∷ xs) p e → sight_of e ≡ sight_in (run_line c first xs e.key)
      saw e m (inl w) = x.saw e m w
      saw e m (inr w) = w.0.fresh ∙ ap sight_in (sym w.1 ∙ skipped e.key (inl w.0.uncommitted))

      safe : (e : Entry) → Mem e p.entries → OrFound (p ∷ xs) p e → (q : Placing) → Mem q xs → doubt q.number → wrote e.key q ≡ none
      safe e m (inl w) q n f = x.safe e m w q n f
      safe e m (inr w) q n f = w.0.alone q (sub q (there n)) f (λ d. (a q n).other (sym d))

      below : (q : Placing) → Mem q xs → (e : Entry) → Mem e q.entries → OrFound (p ∷ xs) q e → OrFound xs q e
      below q n e m (inl w) = inl w
      below q n e m (inr w) = inr (w.0, sym (skipped e.key (left (c p.number) refl)) ∙ w.1)
        where
          left : (b : Bool) → c p.number ≡ b → (c p.number ≡ false) ⊎ (wrote e.key p ≡ none)
          left true t = inr ((a q n).clear w.0.in_doubt e m w.0.fresh t)
          left false t = inl t

pub finds : {first line : Key → Record} {c : ℕ → Bool} {doubt : ℕ → Type 0} {valid valid' : Placing → Entry → Type 0} (ps : List Placing)
    → Consistent first line c doubt valid ps
    → ((q : Placing) → Mem q ps → (e : Entry) → Mem e q.entries → valid' q e → valid q e ⊎ Found line c doubt ps q e)
    → Consistent first line c doubt valid' ps
finds {first} {line} {c} {doubt} {valid} {valid'} ps o h =
    record { each = each_found first line c doubt valid valid' ps ps (λ q m. m) (λ q n e m w. go q e (h q n e m w)) o.each; lines = o.lines }
  where
    go : (q : Placing) (e : Entry) → valid q e ⊎ Found line c doubt ps q e → OrFound first line c doubt valid valid' ps ps q e
    go q e (inl w) = inl w
    go q e (inr w) = inr (w, o.lines e.key)
