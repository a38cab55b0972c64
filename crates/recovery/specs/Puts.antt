-- The columns put for a key: by the entry that a group has for it, and after a read or a put. Each by induction on the entries.
use Rattle.std.specs.Prelude.{◌≡◌, ◌<◌, ◌&&◌, ◌||◌, ◌∷◌}
use Rattle.std.proofs.Common.{◌∙◌}
use Rattle.lists.specs.Basics.{refl, sym, ap, ap₂, ℕ, zero, suc, eqb, Bool, true, false, not, cond, true≢false, List, []}
use Rattle.lists.specs.Basics.{length, take, get_or, set, Option, none, some, none-ne-some, arith, not-true, any, filter, and_fst, and_snd, choose_by}
use Rattle.lists.specs.Basics.{or_left, or_right}
use Rattle.model.specs.Types.{Key, Entry}
use Rattle.model.specs.Images.{Change}
use Rattle.model.specs.Records.{same_key}
use Rattle.model.specs.Coordinator.{Letter}
use Rattle.model.specs.Transactions.{is_put, is_empty}
use Rattle.model.specs.Groups.{group_place, group}
use Rattle.model.specs.Writes.{entry_for}
use Rattle.model.specs.WellFormed.{distinct_keys}
use Rattle.sheet_laws.specs.KeyOrder.{same_key_lem, same_key_refl, other_key}
use Rattle.call_laws.specs.Keys.{has_key}
use Rattle.recovery.specs.Memory.{put_in}

abbrev pub put_of : Option Entry → Option Change
put_of none = none
put_of (some e) = some e.put

-- the columns put for a key are those of its entry among the puts
pub put_in-puts : (k : Key) (es : List Entry) → put_in k es ≡ put_of (entry_for k (filter is_put es))
unfolding put_in filter entry_for
put_in-puts k [] = refl
put_in-puts k (e ∷ es) = go (is_put e) (same_key e.key k) (put_in-puts k es) refl
  where
    go : (p q : Bool) → put_in k es ≡ put_of (entry_for k (filter is_put es)) → same_key e.key k ≡ q → cond (p && q) (some e.put) (put_in k es) ≡ put_of (entry_for k (cond p (e ∷ filter is_put es) (filter is_put es)))
    go true true h s = ap (λ (b : Bool). put_of (cond b (some e) (entry_for k (filter is_put es)))) (sym s)
    go true false h s = h ∙ ap (λ (b : Bool). put_of (cond b (some e) (entry_for k (filter is_put es)))) (sym s)
    go false q h s = h

-- the entry of a key among those whose keys pass a test
pub entry_chosen : (q : Key → Bool) (k : Key) (es : List Entry) → entry_for k (filter (λ (e : Entry). q e.key) es) ≡ cond (q k) (entry_for k es) none
unfolding filter entry_for
entry_chosen q k [] = choose_by (λ (o : Option Entry). none ≡ o) (q k) (λ e. refl) (λ e. refl)
entry_chosen q k (e ∷ es) = go (q e.key) refl (same_key e.key k) refl (entry_chosen q k es)
  where
    go : (p : Bool) → q e.key ≡ p → (b : Bool) → same_key e.key k ≡ b → entry_for k (filter (λ (f : Entry). q f.key) es) ≡ cond (q k) (entry_for k es) none → entry_for k (cond p (e ∷ filter (λ (f : Entry). q f.key) es) (filter (λ (f : Entry). q f.key) es)) ≡ cond (q k) (cond b (some e) (entry_for k es)) none
    go true s true c h =
        let a : q k ≡ true = ap q (sym (same_key_lem e.key k c)) ∙ s in
        rw (c, a) refl
    go true s false c h = rw c h
    go false s true c h =
        let a : q k ≡ false = ap q (sym (same_key_lem e.key k c)) ∙ s in
        h ∙ rw a refl
    go false s false c h = h

-- the entry of a key in a group
pub entry_in_group : (us : List Letter) (es : List Entry) (i : ℕ) (k : Key) → entry_for k (group us es i) ≡ cond (eqb (group_place us es k) i) (entry_for k es) none
unfolding group
entry_in_group us es i k = entry_chosen (λ (x : Key). eqb (group_place us es x) i) k es

-- an entry that was found has the key
pub found-has_key : (k : Key) (es : List Entry) (e : Entry) → entry_for k es ≡ some e → has_key k es ≡ true
unfolding entry_for any
found-has_key k [] e h = absurd (none-ne-some e h)
found-has_key k (x ∷ es) e h = go (same_key x.key k) h (found-has_key k es e)
  where
    go : (b : Bool) → cond b (some x) (entry_for k es) ≡ some e → (entry_for k es ≡ some e → has_key k es ≡ true) → (b || has_key k es) ≡ true
    go true g f = refl
    go false g f = f g

put_in-none : (k : Key) (n : ℕ) → put_in k (take (suc n) []) ≡ put_in k (take n [])
unfolding put_in
put_in-none k zero = refl
put_in-none k (suc n) = refl

-- One more entry, without a put.
pub put_in_more : (k : Key) (x : Entry) → is_put x ≡ false → (n : ℕ) (es : List Entry) → put_in k (take (suc n) (set es n x)) ≡ put_in k (take n es)
unfolding put_in
put_in_more k x h n [] = put_in-none k n
put_in_more k x h zero (e ∷ es) = rw h refl
put_in_more k x h (suc n) (e ∷ es) = ap (cond (is_put e && same_key e.key k) (some e.put)) (put_in_more k x h n es)

-- One entry replaced by one of the same key with a put.

replaced-here : {A : Type 0} (q b : Bool) (a y c : A) → cond b a c ≡ cond b a (cond (q && b) y c)
replaced-here q true a y c = refl
replaced-here true false a y c = refl
replaced-here false false a y c = refl

replaced_later : {A : Type 0} (q s b : Bool) (a y c : A) → (b ≡ true → s ≡ false) → cond (q && s) y (cond b a c) ≡ cond b a (cond (q && s) y c)
replaced_later q s false a y c h = refl
replaced_later q true true a y c h = absurd (true≢false (h refl))
replaced_later true false true a y c h = refl
replaced_later false false true a y c h = refl

has_at : (k : Key) (es : List Entry) (m : ℕ) (d : Entry) → m < length es → (get_or es m d).key ≡ k → has_key k es ≡ true
unfolding any
has_at k [] m d l e = absurd (omega arith)
has_at k (x ∷ es) zero d l e = or_left (same_key x.key k) (has_key k es) (ap (λ (i : Key). same_key i k) e ∙ same_key_refl k)
has_at k (x ∷ es) (suc m) d l e = or_right (same_key x.key k) (has_key k es) (has_at k es m d (omega arith) e)

pub put_in-replaced : (k j : Key) (x d : Entry) (m : ℕ) (es : List Entry) → distinct_keys es ≡ true → m < length es → (get_or es m d).key ≡ k → x.key ≡ k → is_put x ≡ true → put_in j (set es m x) ≡ cond (same_key k j) (some x.put) (put_in j es)
unfolding put_in distinct_keys
put_in-replaced k j x d m [] u l e f p = absurd (omega arith)
put_in-replaced k j x d zero (y ∷ es) u l e f p =
    ap₂ (λ (a b : Bool). cond (a && b) (some x.put) (put_in j es)) p (ap (λ (i : Key). same_key i j) f)
    ∙ (replaced-here (is_put y) (same_key k j) (some x.put) (some y.put) (put_in j es)
    ∙ ap (λ (i : Key). cond (same_key k j) (some x.put) (cond (is_put y && same_key i j) (some y.put) (put_in j es))) (sym e))
put_in-replaced k j x d (suc m) (y ∷ es) u l e f p =
    let n : has_key y.key es ≡ false = not-true (has_key y.key es) (and_fst (not (has_key y.key es)) (distinct_keys es) u) in
    let v : distinct_keys es ≡ true = and_snd (not (has_key y.key es)) (distinct_keys es) u in
    let h : has_key k es ≡ true = has_at k es m d (omega arith) e in
    ap (cond (is_put y && same_key y.key j) (some y.put)) (put_in-replaced k j x d m es v (omega arith) e f p)
    ∙ replaced_later (is_put y) (same_key y.key j) (same_key k j) (some x.put) (some y.put) (put_in j es)
    (λ b. other_key y.key j
    (λ q. true≢false (sym h ∙ (ap (λ (i : Key). has_key i es) (same_key_lem k j b ∙ sym q) ∙ n))))

-- the first n entries with one of them replaced
pub take-set : (n m : ℕ) (x : Entry) (es : List Entry) → take n (set es m x) ≡ set (take n es) m x
take-set zero m x es = refl
take-set (suc n) m x [] = refl
take-set (suc n) zero x (e ∷ es) = refl
take-set (suc n) (suc m) x (e ∷ es) = ap (λ (t : List Entry). e ∷ t) (take-set n m x es)

-- no puts, no columns
pub put_in_empty : (k : Key) (es : List Entry) → is_empty (filter is_put es) ≡ true → put_in k es ≡ none
unfolding entry_for
put_in_empty k es h = put_in-puts k es ∙ go (filter is_put es) h
  where
    go : (xs : List Entry) → is_empty xs ≡ true → put_of (entry_for k xs) ≡ none
    go [] g = refl
    go (x ∷ xs) g = absurd (true≢false (sym g))
