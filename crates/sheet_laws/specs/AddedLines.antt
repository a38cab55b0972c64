-- A key's line put in and taken out: order, lines by key, lengths, one undoes the other, indices. By induction on the lines, the test of the first one by cases.
use Rattle.std.specs.Prelude.{◌<◌, ◌≡◌, ◌||◌, ◌∷◌, ◌++◌}
use Rattle.std.proofs.Common.{◌∙◌}
use Rattle.lists.specs.Basics.{ℕ, suc, refl, sym, ap, Bool, true, false, cond, true≢false, List, [], length, take, drop}
use Rattle.lists.specs.Basics.{all, any, count, and_fst, and_snd, and_both, choose_by, or_fst, or_snd}
use Rattle.lists.specs.Order.{less_irrefl, less-total}
use Rattle.model.specs.Types.{Key, Record, Some}
use Rattle.model.specs.Records.{key_numbers, key_of, key_less, in_order, rising, same_key, absent_at, line_of, no_record, found, rank}
use Rattle.sheet_laws.specs.KeyOrder.{same_key_lem, same_key_refl, other_key, lists_key, has_line_lem, unlisted, apart, key_trans, key_later}
use Rattle.sheet_laws.specs.Search.{first_at}
use Rattle.sheet_laws.specs.Ranks.{no_rank, found_by_rank}
use Rattle.model.specs.Writes.{inserted, without}

-- The order of keys.

pub key_irrefl : (a : Key) → key_less a a ≡ false
unfolding key_less
key_irrefl a = less_irrefl (key_numbers a)

pub key_asym : (a b : Key) → key_less a b ≡ true → key_less b a ≡ false
key_asym a b h = go (key_less b a) refl
  where
    go : (x : Bool) → key_less b a ≡ x → x ≡ false
    go true e = absurd (true≢false (sym (key_trans a b a h e) ∙ key_irrefl a))
    go false e = refl

key_equal : (a b : Key) → key_less a b ≡ false → key_less b a ≡ false → a ≡ b
unfolding key_less key_numbers key_of
key_equal a b f g = ap key_of (less-total (key_numbers a) (key_numbers b) f g)

-- of two keys that differ, the one that doesn't come first comes second
pub key_else : (a b : Key) → same_key b a ≡ false → key_less a b ≡ false → key_less b a ≡ true
key_else a b d f = go (key_less b a) refl
  where
    go : (x : Bool) → key_less b a ≡ x → x ≡ true
    go true e = refl
    go false e = absurd (true≢false (sym (same_key_refl b) ∙ (ap (λ (k : Key). same_key b k) (sym (key_equal a b f e)) ∙ d)))

key_apart : (a b : Key) → key_less a b ≡ true → same_key a b ≡ false
key_apart a b h = other_key a b (λ e. true≢false (sym h ∙ (ap (key_less a) (sym e) ∙ key_irrefl a)))

-- no key comes before one that comes before the first line of a sheet in order
pub before-none : (k : Key) (r : Record) (rs : List Record) → rising (r ∷ rs) ≡ true → key_less k r.key ≡ true → rank k (r ∷ rs) ≡ 0
before-none k r rs h l = no_rank k r rs h (key_asym k r.key l)

-- Adding.

module _ (k : Key) where
  order_inserted : (r : Record) (rs : List Record) → in_order r rs ≡ true → key_less r.key k ≡ true → in_order r (inserted k rs) ≡ true
  unfolding inserted in_order
  order_inserted r [] h l = l
  order_inserted r (x ∷ rs) h l =
      choose_by (λ (xs : List Record). in_order r xs ≡ true) (key_less k x.key) (λ e. l) (λ e. h)

  pub rising-inserted : (rs : List Record) → rising rs ≡ true → lists_key k rs ≡ false → rising (inserted k rs) ≡ true
  unfolding inserted rising in_order any
  rising-inserted [] h n = refl
  rising-inserted (r ∷ rs) h n =
      choose_by (λ (xs : List Record). rising xs ≡ true) (key_less k r.key)
      (λ e. and_both e h)
      (λ e. and_both
      (order_inserted r rs (and_fst (in_order r rs) (rising rs) h) (key_else k r.key (or_fst (same_key r.key k) (lists_key k rs) n) e))
      (rising-inserted rs (and_snd (in_order r rs) (rising rs) h) (or_snd (same_key r.key k) (lists_key k rs) n)))

  pub length_inserted : (rs : List Record) → length (inserted k rs) ≡ suc (length rs)
  unfolding inserted
  length_inserted [] = refl
  length_inserted (r ∷ rs) =
      choose_by (λ (xs : List Record). length xs ≡ suc (suc (length rs))) (key_less k r.key) (λ e. refl) (λ e. ap suc (length_inserted rs))

  -- other keys keep their lines
  pub line_inserted_other : (j : Key) (rs : List Record) → same_key k j ≡ false → line_of j (inserted k rs) ≡ line_of j rs
  unfolding inserted line_of
  line_inserted_other j [] d = rw d
  line_inserted_other j (r ∷ rs) d =
      choose_by (λ (xs : List Record). line_of j xs ≡ line_of j (r ∷ rs)) (key_less k r.key)
      (λ e. ap (λ (b : Bool). cond b (absent_at k) (line_of j (r ∷ rs))) d)
      (λ e. ap (λ (x : Record). cond (same_key r.key j) r x) (line_inserted_other j rs d))

  -- the new line is ABSENT of version 0
  pub line-inserted : (rs : List Record) → lists_key k rs ≡ false → line_of k (inserted k rs) ≡ absent_at k
  unfolding inserted line_of any
  line-inserted [] n = let s : same_key k k ≡ true = same_key_refl k in rw s
  line-inserted (r ∷ rs) n =
      choose_by (λ (xs : List Record). line_of k xs ≡ absent_at k) (key_less k r.key)
      (λ e. ap (λ (b : Bool). cond b (absent_at k) (line_of k (r ∷ rs))) (same_key_refl k))
      (λ e. ap (λ (b : Bool). cond b r (line_of k (inserted k rs))) (or_fst (same_key r.key k) (lists_key k rs) n)
      ∙ line-inserted rs (or_snd (same_key r.key k) (lists_key k rs) n))

  -- adding changes the line of no key, the added one included
  pub line_after-adding : (j : Key) (rs : List Record) → lists_key k rs ≡ false → line_of j (inserted k rs) ≡ line_of j rs
  line_after-adding j rs n = go (same_key k j) refl
    where
      go : (b : Bool) → same_key k j ≡ b → line_of j (inserted k rs) ≡ line_of j rs
      go true e =
          let q : k ≡ j = same_key_lem k j e in
          ap (λ (x : Key). line_of x (inserted k rs)) (sym q)
          ∙ (line-inserted rs n ∙ (sym (unlisted k rs n) ∙ ap (λ (x : Key). line_of x rs) q))
      go false e = line_inserted_other j rs e

  -- the keys that have lines
  pub lists_inserted : (j : Key) (rs : List Record) → lists_key j (inserted k rs) ≡ (same_key k j || lists_key j rs)
  unfolding inserted any
  lists_inserted j [] = refl
  lists_inserted j (r ∷ rs) =
      choose_by (λ (xs : List Record). lists_key j xs ≡ (same_key k j || lists_key j (r ∷ rs))) (key_less k r.key)
      (λ e. refl)
      (λ e. ap (λ (b : Bool). same_key r.key j || b) (lists_inserted j rs) ∙ swap (same_key r.key j) (same_key k j) (lists_key j rs))
    where
      swap : (a b c : Bool) → (a || (b || c)) ≡ (b || (a || c))
      swap true true c = refl
      swap true false c = refl
      swap false b c = refl

  pub all_inserted : (p : Record → Bool) (rs : List Record) → p (absent_at k) ≡ true → all p rs ≡ true → all p (inserted k rs) ≡ true
  unfolding inserted all
  all_inserted p [] a h = and_both a h
  all_inserted p (r ∷ rs) a h =
      choose_by (λ (xs : List Record). all p xs ≡ true) (key_less k r.key)
      (λ e. and_both a h)
      (λ e. and_both (and_fst (p r) (all p rs) h) (all_inserted p rs a (and_snd (p r) (all p rs) h)))

  -- the new line stands at the rank of its key
  pub inserted_at : (rs : List Record) → rising rs ≡ true → lists_key k rs ≡ false → inserted k rs ≡ take (rank k rs) rs ++ (absent_at k ∷ drop (rank k rs) rs)
  unfolding inserted rising any rank count
  inserted_at [] h n = refl
  inserted_at (r ∷ rs) h n =
      choose_by (λ (xs : List Record). xs ≡ take (rank k (r ∷ rs)) (r ∷ rs) ++ (absent_at k ∷ drop (rank k (r ∷ rs)) (r ∷ rs))) (key_less k r.key)
      (λ e. ap (λ (m : ℕ). take m (r ∷ rs) ++ (absent_at k ∷ drop m (r ∷ rs))) (sym (before-none k r rs h e)))
      (λ e.
      let l : key_less r.key k ≡ true = key_else k r.key (or_fst (same_key r.key k) (lists_key k rs) n) e in
      let q : rank k (r ∷ rs) ≡ suc (rank k rs) = ap (λ (b : Bool). cond b (suc (rank k rs)) (rank k rs)) l in
      ap (λ (xs : List Record). r ∷ xs) (inserted_at rs (and_snd (in_order r rs) (rising rs) h) (or_snd (same_key r.key k) (lists_key k rs) n))
      ∙ ap (λ (m : ℕ). take m (r ∷ rs) ++ (absent_at k ∷ drop m (r ∷ rs))) (sym q))

-- Removing.

module _ (k : Key) where
  order_without : (r : Record) (rs : List Record) → rising (r ∷ rs) ≡ true → in_order r (without k rs) ≡ true
  unfolding without rising in_order
  order_without r [] h = refl
  order_without r (x ∷ rs) h =
      let l : key_less r.key x.key ≡ true = and_fst (key_less r.key x.key) (rising (x ∷ rs)) h in
      choose_by (λ (xs : List Record). in_order r xs ≡ true) (same_key x.key k)
      (λ e. next rs (and_snd (key_less r.key x.key) (rising (x ∷ rs)) h) l)
      (λ e. l)
    where
      next : (ys : List Record) → rising (x ∷ ys) ≡ true → key_less r.key x.key ≡ true → in_order r ys ≡ true
      next [] g l = refl
      next (y ∷ ys) g l = key_trans r.key x.key y.key l (and_fst (key_less x.key y.key) (rising (y ∷ ys)) g)

  pub rising-without : (rs : List Record) → rising rs ≡ true → rising (without k rs) ≡ true
  unfolding without rising
  rising-without [] h = refl
  rising-without (r ∷ rs) h =
      choose_by (λ (xs : List Record). rising xs ≡ true) (same_key r.key k)
      (λ e. and_snd (in_order r rs) (rising rs) h)
      (λ e. and_both (order_without r rs h) (rising-without rs (and_snd (in_order r rs) (rising rs) h)))

  pub length_without : (rs : List Record) → lists_key k rs ≡ true → suc (length (without k rs)) ≡ length rs
  unfolding without any
  length_without [] n = absurd (true≢false (sym n))
  length_without (r ∷ rs) n = go (same_key r.key k) n (length_without rs)
    where
      go : (b : Bool) → (b || lists_key k rs) ≡ true → (lists_key k rs ≡ true → suc (length (without k rs)) ≡ length rs) → suc (length (cond b rs (r ∷ without k rs))) ≡ suc (length rs)
      go true m f = refl
      go false m f = ap suc (f m)

  -- other keys keep their lines
  pub line_without_other : (j : Key) (rs : List Record) → same_key k j ≡ false → line_of j (without k rs) ≡ line_of j rs
  unfolding without line_of
  line_without_other j [] d = refl
  line_without_other j (r ∷ rs) d =
      choose_by (λ (xs : List Record). line_of j xs ≡ line_of j (r ∷ rs)) (same_key r.key k)
      (λ e. ap (λ (b : Bool). cond b r (line_of j rs)) (sym (ap (λ (x : Key). same_key x j) (same_key_lem r.key k e) ∙ d)))
      (λ e. ap (λ (x : Record). cond (same_key r.key j) r x) (line_without_other j rs d))

  -- the first line of a sheet in order is the only one of its key
  only_first : (r : Record) (rs : List Record) → rising (r ∷ rs) ≡ true → same_key r.key k ≡ true → lists_key k rs ≡ false
  only_first r rs h e = go (lists_key k rs) refl
    where
      go : (b : Bool) → lists_key k rs ≡ b → b ≡ false
      go true g = absurd (true≢false (sym e ∙ apart r rs k h g))
      go false g = refl

  pub lists_without : (rs : List Record) → rising rs ≡ true → lists_key k (without k rs) ≡ false
  unfolding without rising any
  lists_without [] h = refl
  lists_without (r ∷ rs) h =
      choose_by (λ (xs : List Record). lists_key k xs ≡ false) (same_key r.key k)
      (λ e. only_first r rs h e)
      (λ e. ap (λ (b : Bool). b || lists_key k (without k rs)) e ∙ lists_without rs (and_snd (in_order r rs) (rising rs) h))

  pub line-without : (rs : List Record) → rising rs ≡ true → line_of k (without k rs) ≡ absent_at k
  line-without rs h = unlisted k (without k rs) (lists_without rs h)

  -- removing an ABSENT line of version 0 changes the line of no key
  pub line_after-removing : (j : Key) (rs : List Record) → rising rs ≡ true → line_of k rs ≡ absent_at k → line_of j (without k rs) ≡ line_of j rs
  line_after-removing j rs h a = go (same_key k j) refl
    where
      go : (b : Bool) → same_key k j ≡ b → line_of j (without k rs) ≡ line_of j rs
      go true e =
          let q : k ≡ j = same_key_lem k j e in
          ap (λ (x : Key). line_of x (without k rs)) (sym q) ∙ (line-without rs h ∙ (sym a ∙ ap (λ (x : Key). line_of x rs) q))
      go false e = line_without_other j rs e

  pub all_without : (p : Record → Bool) (rs : List Record) → all p rs ≡ true → all p (without k rs) ≡ true
  unfolding without all
  all_without p [] h = refl
  all_without p (r ∷ rs) h =
      choose_by (λ (xs : List Record). all p xs ≡ true) (same_key r.key k)
      (λ e. and_snd (p r) (all p rs) h)
      (λ e. and_both (and_fst (p r) (all p rs) h) (all_without p rs (and_snd (p r) (all p rs) h)))

  -- One undoes the other.

  pub without-inserted : (rs : List Record) → lists_key k rs ≡ false → without k (inserted k rs) ≡ rs
  unfolding without inserted any
  without-inserted [] n = ap (λ (b : Bool). cond b [] (absent_at k ∷ [])) (same_key_refl k)
  without-inserted (r ∷ rs) n =
      choose_by (λ (xs : List Record). without k xs ≡ r ∷ rs) (key_less k r.key)
      (λ e. ap (λ (b : Bool). cond b (r ∷ rs) (absent_at k ∷ without k (r ∷ rs))) (same_key_refl k))
      (λ e. ap (λ (b : Bool). cond b (inserted k rs) (r ∷ without k (inserted k rs))) (or_fst (same_key r.key k) (lists_key k rs) n)
      ∙ ap (λ (xs : List Record). r ∷ xs) (without-inserted rs (or_snd (same_key r.key k) (lists_key k rs) n)))

  -- no line comes before the first of a sheet in order
  pub rank-first : (r : Record) (rs : List Record) → rising (r ∷ rs) ≡ true → same_key r.key k ≡ true → rank k (r ∷ rs) ≡ 0
  rank-first r rs h e = no_rank k r rs h (ap (key_less r.key) (sym (same_key_lem r.key k e)) ∙ key_irrefl r.key)

  -- the line of a key is the one at its rank
  pub without_at : (rs : List Record) → rising rs ≡ true → lists_key k rs ≡ true → without k rs ≡ take (rank k rs) rs ++ drop (suc (rank k rs)) rs
  unfolding without rising any rank count
  without_at [] h n = absurd (true≢false (sym n))
  without_at (r ∷ rs) h n = go (same_key r.key k) refl n (without_at rs (and_snd (in_order r rs) (rising rs) h))
    where
      go : (b : Bool) → same_key r.key k ≡ b → (b || lists_key k rs) ≡ true → (lists_key k rs ≡ true → without k rs ≡ take (rank k rs) rs ++ drop (suc (rank k rs)) rs) → cond b rs (r ∷ without k rs) ≡ take (rank k (r ∷ rs)) (r ∷ rs) ++ drop (suc (rank k (r ∷ rs))) (r ∷ rs)
      go true e m f =
          ap (λ (i : ℕ). take i (r ∷ rs) ++ drop (suc i) (r ∷ rs)) (sym (rank-first r rs h e))
      go false e m f =
          let q : rank k (r ∷ rs) ≡ suc (rank k rs) = ap (λ (b : Bool). cond b (suc (rank k rs)) (rank k rs)) (key_later r rs k h m) in
          ap (λ (xs : List Record). r ∷ xs) (f m) ∙ ap (λ (i : ℕ). take i (r ∷ rs) ++ drop (suc i) (r ∷ rs)) (sym q)

  -- the rank of a key that has a line is the index of a line
  pub rank_inside : (rs : List Record) → rising rs ≡ true → lists_key k rs ≡ true → rank k rs < length rs
  unfolding found
  rank_inside rs h n =
      let e : found k rs ≡ Some (rank k rs) = found_by_rank k rs h ∙ rw (has_line_lem k rs ∙ n) in
      (first_at (λ (r : Record). same_key r.key k) rs no_record (rank k rs) e).within

  -- before all others, a new line comes first
  inserted-first : {r : Record} (rs : List Record) → absent_at k ≡ r → in_order (absent_at k) rs ≡ true → inserted k rs ≡ r ∷ rs
  unfolding inserted in_order
  inserted-first [] e h = ap (λ (x : Record). x ∷ []) e
  inserted-first (x ∷ rs) e h =
      ap (λ (b : Bool). cond b (absent_at k ∷ x ∷ rs) (x ∷ inserted k rs)) h ∙ ap (λ (y : Record). y ∷ x ∷ rs) e

  order_kept : (r : Record) (rs : List Record) → r.key ≡ k → rising (r ∷ rs) ≡ true → in_order (absent_at k) rs ≡ true
  unfolding rising in_order
  order_kept r [] e h = refl
  order_kept r (x ∷ rs) e h =
      ap (λ (j : Key). key_less j x.key) (sym e) ∙ and_fst (key_less r.key x.key) (rising (x ∷ rs)) h

  -- an ABSENT line of version 0 that was removed is added again as it was
  pub inserted-without : (rs : List Record) → rising rs ≡ true → lists_key k rs ≡ true → line_of k rs ≡ absent_at k → inserted k (without k rs) ≡ rs
  unfolding without inserted rising any line_of
  inserted-without [] h n a = absurd (true≢false (sym n))
  inserted-without (r ∷ rs) h n a = go (same_key r.key k) refl n a (inserted-without rs (and_snd (in_order r rs) (rising rs) h))
    where
      go : (b : Bool) → same_key r.key k ≡ b → (b || lists_key k rs) ≡ true → cond b r (line_of k rs) ≡ absent_at k → (lists_key k rs ≡ true → line_of k rs ≡ absent_at k → inserted k (without k rs) ≡ rs) → inserted k (cond b rs (r ∷ without k rs)) ≡ r ∷ rs
      go true e m q f = inserted-first rs (sym q) (order_kept r rs (same_key_lem r.key k e) h)
      go false e m q f =
          let l : key_less k r.key ≡ false = key_asym r.key k (key_later r rs k h m) in
          ap (λ (b : Bool). cond b (absent_at k ∷ r ∷ without k rs) (r ∷ inserted k (without k rs))) l
          ∙ ap (λ (xs : List Record). r ∷ xs) (f m q)
