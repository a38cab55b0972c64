-- Where a key stands: on a sheet in order the index of its line is the number of smaller keys, since those stand above it and no others do. Document 02, note 5.
use Rattle.std.specs.Prelude.{◌≡◌, ◌+◌, ◌-◌, ◌≤◌, ◌<◌, ◌||◌, ◌∷◌}
use Rattle.std.proofs.Common.{◌∙◌}
use Rattle.lists.specs.Basics.{refl, sym, ap, subst, ℕ, suc, ltb, Bool, true, false, cond, true≢false, List, [], length, take, drop, get_or}
use Rattle.lists.specs.Basics.{length-take, length-drop, get_or-take, get_or-drop, arith, ltb-true, ltb-false, all, any, count, and_fst, and_snd, and_both, tests}
use Rattle.lists.specs.All.{all_at}
use Rattle.lists.specs.Chosen.{none_at, count_none, count_le, count-all}
use Rattle.lists.specs.Order.{less_irrefl}
use Rattle.model.specs.Types.{Key, Record, Rank, Some, None}
use Rattle.model.specs.Search.{first_from}
use Rattle.model.specs.Records.{key_numbers, key_less, in_order, rising, same_key, found, is_missing, has_line, rank, ranked, placed, records, records_good, records_accepted}
use Rattle.sheet_laws.specs.KeyOrder.{same_key_lem, lists_key, has_line_lem, key_trans, key_later}

rising_tail : (r : Record) (rs : List Record) → rising (r ∷ rs) ≡ true → rising rs ≡ true
unfolding rising
rising_tail r rs h = and_snd (in_order r rs) (rising rs) h

-- a key that doesn't come after the first of a sheet in order comes after none
none_below : (k : Key) (r : Record) (rs : List Record) → rising (r ∷ rs) ≡ true → key_less r.key k ≡ false → any (λ (x : Record). key_less x.key k) (r ∷ rs) ≡ false
unfolding any rising in_order
none_below k r [] h g = rw g
none_below k r (x ∷ rs) h g = rw g (none_below k x rs (rising_tail r (x ∷ rs) h) (go (key_less x.key k) refl))
  where
    go : (b : Bool) → key_less x.key k ≡ b → b ≡ false
    go true e = absurd (true≢false (sym (key_trans r.key x.key k (and_fst (key_less r.key x.key) (rising (x ∷ rs)) h) e) ∙ g))
    go false e = refl

-- its rank is 0
pub no_rank : (k : Key) (r : Record) (rs : List Record) → rising (r ∷ rs) ≡ true → key_less r.key k ≡ false → rank k (r ∷ rs) ≡ 0
unfolding rank
no_rank k r rs h g = count_none (λ (x : Record). key_less x.key k) (r ∷ rs) (none_below k r rs h g)

-- the line of a key stands at its rank, counted from i
found_from : (k : Key) (i : ℕ) (rs : List Record) → rising rs ≡ true
    → first_from (λ (r : Record). same_key r.key k) i rs ≡ cond (lists_key k rs) (Some (i + rank k rs)) None
unfolding first_from any rank count key_less
found_from k i [] h = refl
found_from k i (r ∷ rs) h = go (same_key r.key k) refl (found_from k (suc i) rs (rising_tail r rs h))
  where
    behind : (b : Bool) → lists_key k rs ≡ b → cond b (Some (suc i + rank k rs)) None ≡ cond b (Some (i + rank k (r ∷ rs))) None
    behind true e =
        let q : suc i + rank k rs ≡ i + suc (rank k rs) = omega arith in
        rw (key_later r rs k h e) (ap Some q)
    behind false e = refl

    go : (b : Bool) → same_key r.key k ≡ b → first_from (λ (x : Record). same_key x.key k) (suc i) rs ≡ cond (lists_key k rs) (Some (suc i + rank k rs)) None
        → cond b (Some i) (first_from (λ (x : Record). same_key x.key k) (suc i) rs) ≡ cond (b || lists_key k rs) (Some (i + rank k (r ∷ rs))) None
    go true e f =
        let z = no_rank k r rs h (ap (λ (x : Key). key_less x k) (same_key_lem r.key k e) ∙ less_irrefl (key_numbers k)) in
        let q : i ≡ i + rank k (r ∷ rs) = omega (arith, z) in
        ap Some q
    go false e f = f ∙ behind (lists_key k rs) refl

module _ (k : Key) (rs : List Record) (h : rising rs ≡ true) where
  -- "the place of a key's line is its rank"
  pub found_by_rank : found k rs ≡ placed (ranked k rs)
  unfolding found
  found_by_rank =
      let q : 0 + rank k rs ≡ rank k rs = omega arith in
      found_from k 0 rs h ∙ rw (q, has_line_lem k rs)

  -- so that what a search finds tells the rank

  pub found-ranked : (i : ℕ) → found k rs ≡ Some i → record { below = i; present = true } ≡ ranked k rs
  unfolding is_missing
  found-ranked i f =
      let b : has_line k rs ≡ true = rw f in
      let a : Some i ≡ Some (rank k rs) = sym f ∙ (found_by_rank ∙ rw b) in
      let n : i ≡ rank k rs = cc in
      rw (n, b)

  pub missing-ranked : (n : ℕ) → n ≡ rank k rs → found k rs ≡ None → record { below = n; present = false } ≡ ranked k rs
  unfolding is_missing
  missing-ranked n q f =
      let b : has_line k rs ≡ false = rw f in
      rw (q, b)

-- no more lines than there are
pub rank-within : (k : Key) (rs : List Record) → rank k rs ≤ length rs
unfolding rank
rank-within k rs =
    let l = count_le (λ (r : Record). key_less r.key k) (λ (r : Record). true) (λ r e. refl) rs in
    omega (arith, l, count-all rs)

-- Of an accepted sheet.

pub accepted_order : (s : List ℕ) → records_accepted s ≡ true → rising (records s) ≡ true
unfolding records_accepted records_good
accepted_order s a = search tests

pub rank-few : (k : Key) (s : List ℕ) → records_accepted s ≡ true → rank k (records s) ≤ 500
unfolding records_accepted records_good
rank-few k s a =
    let l : length (records s) ≤ 500 = search tests in
    omega (arith, l, rank-within k (records s))

-- an index that is found is a rank
pub found-few : (k : Key) (s : List ℕ) → records_accepted s ≡ true → (i : ℕ) → found k (records s) ≡ Some i → i ≤ 500
found-few k s a i f = subst (λ (r : Rank). r.below ≤ 500) (sym (found-ranked k (records s) (accepted_order s a) i f)) (rank-few k s a)

-- the first lines, as many as the rank, have smaller keys
pub rank_above : (k : Key) (rs : List Record) → rising rs ≡ true → all (λ (r : Record). key_less r.key k) (take (rank k rs) rs) ≡ true
unfolding rank count all
rank_above k [] h = refl
rank_above k (r ∷ rs) h = go (key_less r.key k) refl (rank_above k rs (rising_tail r rs h))
  where
    go : (b : Bool) → key_less r.key k ≡ b → all (λ (x : Record). key_less x.key k) (take (rank k rs) rs) ≡ true
        → all (λ (x : Record). key_less x.key k) (take (rank k (r ∷ rs)) (r ∷ rs)) ≡ true
    go true e f = rw e (and_both e f)
    go false e f = rw (no_rank k r rs h e)

-- and no later one has
pub rank-behind : (k : Key) (rs : List Record) → rising rs ≡ true → any (λ (r : Record). key_less r.key k) (drop (rank k rs) rs) ≡ false
unfolding rank count any
rank-behind k [] h = refl
rank-behind k (r ∷ rs) h = go (key_less r.key k) refl (rank-behind k rs (rising_tail r rs h))
  where
    go : (b : Bool) → key_less r.key k ≡ b → any (λ (x : Record). key_less x.key k) (drop (rank k rs) rs) ≡ false
        → any (λ (x : Record). key_less x.key k) (drop (rank k (r ∷ rs)) (r ∷ rs)) ≡ false
    go true e f = rw e f
    go false e f = rw (no_rank k r rs h e) (none_below k r rs h e)

-- so that a line has a smaller key exactly if its index is below the rank
pub rank_side : (k : Key) (rs : List Record) (d : Record) → rising rs ≡ true → (i : ℕ) → i < length rs → key_less (get_or rs i d).key k ≡ ltb i (rank k rs)
rank_side k rs d h i l = go (ltb i (rank k rs)) refl
  where
    go : (b : Bool) → ltb i (rank k rs) ≡ b → key_less (get_or rs i d).key k ≡ b
    go true e =
        let m = ltb-true i (rank k rs) e in
        let n : i < length (take (rank k rs) rs) = simp length-take (omega arith) in
        rw (get_or-take (rank k rs) rs i d m) at (all_at (λ (r : Record). key_less r.key k) (take (rank k rs) rs) d i (rank_above k rs h) n)
    go false e =
        let m = ltb-false i (rank k rs) e in
        let j : rank k rs + (i - rank k rs) ≡ i = omega arith in
        rw (get_or-drop, j) at (none_at (λ (r : Record). key_less r.key k) (drop (rank k rs) rs) d (i - rank k rs) (rank-behind k rs h) (simp length-drop (omega arith)))
