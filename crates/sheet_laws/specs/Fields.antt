-- A field, for any column that passes `column_ok`: reading what was written gives the number, and what reads as a number is
-- what would be written for it. A figure has both from the laws of decimal fields. Of a word, the first is tested for each
-- word of the set, and the second holds since reading compares with the words themselves.
use Rattle.std.specs.Prelude.{◌≡◌, ◌+◌, ◌-◌, ◌^◌, ◌≤◌, ◌<◌, ◌&&◌, ◌∷◌, Option, Some, None}
use Rattle.std.proofs.Common.{◌∙◌}
use Rattle.std.proofs.lemmas.Option.{none-some, same_Some}
use Rattle.lists.specs.Basics.{refl, sym, ap, subst, ℕ, zero, suc, eqb, leb, ltb, Bool, true, false, true≢false, List}
use Rattle.lists.specs.Basics.{[], length, get_or, length-drop, arith, eqb-true, eqb-false, leb-true, eq-eqb, le-leb, all, eq_list, bytes, eq_list-true}
use Rattle.lists.specs.Basics.{eq_list_refl, and_fst, and_snd, and_both, same_test, tests}
use Rattle.decimal.specs.Scan.Scan.{Blank, Number}
use Rattle.decimal.specs.Field.{figure, scanned, field_text}
use Rattle.decimal.specs.Laws.{read_written, written_read, figure_scan, length-field_text}
use Rattle.model.specs.Types.{Column, Kind, Figure, StateWord, BeforeWord, DecisionWord, UnitLetter}
use Rattle.model.specs.Layouts.{words, word_at, word_bytes}
use Rattle.model.specs.Lines.{last_bytes, word_from, by_kind, field_value, field_bytes, in_range}

-- every number below n passes
unfoldable pub all_below : ℕ → (ℕ → Bool) → Bool
all_below zero p = true
all_below (suc n) p = p n && all_below n p

pub below : (n : ℕ) (p : ℕ → Bool) → all_below n p ≡ true → (i : ℕ) → i < n → p i ≡ true
unfolding all_below
below zero p h i l = absurd (omega arith)
below (suc n) p h i l = go (eqb i n) refl (below n p (and_snd (p n) (all_below n p) h) i)
  where
    go : (b : Bool) → eqb i n ≡ b → (i < n → p i ≡ true) → p i ≡ true
    go true e f = subst (λ (k : ℕ). p k ≡ true) (sym (eqb-true i n e)) (and_fst (p n) (all_below n p) h)
    go false e f = let d : i ≡ n → ⊥ = eqb-false i n e in f (omega arith)

-- the number n was read
unfoldable pub is_the : ℕ → Option ℕ → Bool
is_the n (Some v) = eqb v n
is_the n None = false

is_the_lem : (n : ℕ) (r : Option ℕ) → is_the n r ≡ true → r ≡ Some n
unfolding is_the
is_the_lem n (Some v) h = ap Some (eqb-true v n h)
is_the_lem n None h = absurd (true≢false (sym h))

-- word n of the column is as wide as the column, and reads as n
unfoldable pub word_ok : Column → ℕ → Bool
word_ok c n = eqb (length (field_bytes c n)) c.width && is_the n (field_value c (field_bytes c n))

-- a figure's range fits its width; a word's range is its set, and each word reads as itself
unfoldable pub column_ok : Column → Bool
column_ok c =
    by_kind c.kind (ltb 0 c.width && ltb c.high (10 ^ c.width))
    (eqb c.low 0 && eqb (length (words c.kind)) (c.high + 1) && all_below (c.high + 1) (word_ok c))

-- what is read among words, counted from n, is one of them
word_read : (w : ℕ) (d : List ℕ) (ts : List (List ℕ)) (n : ℕ) (s : List ℕ) (v : ℕ) → word_from w ts n s ≡ Some v → (n ≤ v) × ((v < n + length ts) × (s ≡ last_bytes w (get_or ts (v - n) d)))
unfolding word_from
word_read w d [] n s v e = absurd (none-some v e)
word_read w d (t ∷ ts) n s v e = go (eq_list s (last_bytes w t)) refl (word_read w d ts (suc n) s v)
  where
    go : (b : Bool) → eq_list s (last_bytes w t) ≡ b → (word_from w ts (suc n) s ≡ Some v → (suc n ≤ v) × ((v < suc n + length ts) × (s ≡ last_bytes w (get_or ts (v - suc n) d)))) → (n ≤ v) × ((v < n + length (t ∷ ts)) × (s ≡ last_bytes w (get_or (t ∷ ts) (v - n) d)))
    go true h rest =
        let f : ◌≡◌ {A = Option ℕ} (Some n) (Some v) = rw h at e in
        let g : n ≡ v = same_Some n v f in
        let z : v - n ≡ 0 = omega arith in
        (omega arith, (omega arith, rw z (eq_list-true s (last_bytes w t) h)))
    go false h rest =
        let f : word_from w ts (suc n) s ≡ Some v = rw h at e in
        let r = rest f in
        let l : suc n ≤ v = r.0 in
        let m : v < suc n + length ts = r.1.0 in
        let z : v - n ≡ suc (v - suc n) = omega arith in
        (omega arith, (omega arith, rw z r.1.1))

-- the test on a column of words
abbrev WordsOk : Column → Type 0
WordsOk c = (eqb c.low 0 && eqb (length (words c.kind)) (c.high + 1) && all_below (c.high + 1) (word_ok c)) ≡ true

words_read_written : (c : Column) (v : ℕ) → WordsOk c → in_range c v ≡ true → (field_value c (field_bytes c v) ≡ Some v) × (length (field_bytes c v) ≡ c.width)
unfolding word_ok in_range
words_read_written c v h r =
    let a : all_below (c.high + 1) (word_ok c) ≡ true = search tests in
    let l : v ≤ c.high = search tests in
    let o : word_ok c v ≡ true = below (c.high + 1) (word_ok c) a v (omega arith) in
    (is_the_lem v _ (search (tests, o)), search (tests, o))

words_written_read : (c : Column) (s : List ℕ) (v : ℕ) → WordsOk c → word_from c.width (words c.kind) 0 s ≡ Some v → (s ≡ last_bytes c.width (word_at c.kind v)) × (in_range c v ≡ true)
unfolding in_range
words_written_read c s v h e =
    let r = word_read c.width (bytes "          ") (words c.kind) 0 s v e in
    let n : length (words c.kind) ≡ c.high + 1 = search tests in
    let z : c.low ≡ 0 = search tests in
    let l : v < 0 + length (words c.kind) = r.1.0 in
    let k : v - 0 ≡ v = omega arith in
    (rw k at r.1.1, and_both (le-leb c.low v (omega arith)) (le-leb v c.high (omega arith)))

-- the record of a column's parts
abbrev column : Kind → ℕ → ℕ → ℕ → Column
column k w low high = record { width = w; kind = k; low = low; high = high }

pub field_read_written : (c : Column) (v : ℕ) → column_ok c ≡ true → in_range c v ≡ true → (field_value c (field_bytes c v) ≡ Some v) × (length (field_bytes c v) ≡ c.width)
unfolding column_ok
field_read_written c v = go c.kind c.width c.low c.high
  where
    figures : (w low high : ℕ) → (ltb 0 w && ltb high (10 ^ w)) ≡ true → (leb low v && leb v high) ≡ true → (figure low high (field_text w v) ≡ Some v) × (length (field_text w v) ≡ w)
    figures w low high h r =
        let z : 0 < w = search tests in
        let m : high < 10 ^ w = search tests in
        let l : low ≤ v = search tests in
        let k : v ≤ high = search tests in
        (read_written w v low high z (omega arith) l k, length-field_text w v)

    go : (k : Kind) (w low high : ℕ) → column_ok (column k w low high) ≡ true → in_range (column k w low high) v ≡ true → (field_value (column k w low high) (field_bytes (column k w low high) v) ≡ Some v) × (length (field_bytes (column k w low high) v) ≡ w)
    go Figure w low high h r = unfold field_value field_bytes in_range in figures w low high h r
    go StateWord w low high h r = words_read_written (column StateWord w low high) v h r
    go BeforeWord w low high h r = words_read_written (column BeforeWord w low high) v h r
    go DecisionWord w low high h r = words_read_written (column DecisionWord w low high) v h r
    go UnitLetter w low high h r = words_read_written (column UnitLetter w low high) v h r

pub field_written_read : (c : Column) (s : List ℕ) (v : ℕ) → column_ok c ≡ true → length s ≡ c.width → field_value c s ≡ Some v → (s ≡ field_bytes c v) × (in_range c v ≡ true)
unfolding column_ok field_value field_bytes
field_written_read c s v = go c.kind c.width c.low c.high
  where
    go : (k : Kind) (w low high : ℕ) → column_ok (column k w low high) ≡ true → length s ≡ w → field_value (column k w low high) s ≡ Some v → (s ≡ field_bytes (column k w low high) v) × (in_range (column k w low high) v ≡ true)
    go Figure w low high h l e =
        let r = written_read low high s v e in
        unfold in_range in (r.0 ∙ ap (λ (n : ℕ). field_text n v) l, and_both (le-leb low v r.1.1.0) (le-leb v high r.1.1.1))
    go StateWord w low high h l e = words_written_read (column StateWord w low high) s v h e
    go BeforeWord w low high h l e = words_written_read (column BeforeWord w low high) s v h e
    go DecisionWord w low high h l e = words_written_read (column DecisionWord w low high) s v h e
    go UnitLetter w low high h l e = words_written_read (column UnitLetter w low high) s v h e

-- a field of full width has the bytes of n exactly if it holds n
pub field_is : (c : Column) (s : List ℕ) (n : ℕ) → column_ok c ≡ true → in_range c n ≡ true → length s ≡ c.width → eq_list s (field_bytes c n) ≡ is_the n (field_value c s)
unfolding is_the
field_is c s n o r l =
    same_test (eq_list s (field_bytes c n)) (is_the n (field_value c s))
    (λ e. ap (is_the n) (ap (field_value c) (eq_list-true s (field_bytes c n) e) ∙ (field_read_written c n o r).0) ∙ eq-eqb n n refl)
    (λ e.
    let b : s ≡ field_bytes c n = (field_written_read c s n o l (is_the_lem n (field_value c s) e)).0 in
    ap (λ (t : List ℕ). eq_list t (field_bytes c n)) b ∙ eq_list_refl (field_bytes c n))

-- one of several lists of ten bytes, or ten spaces
of_ten : (ts : List (List ℕ)) (n : ℕ) → all (λ (t : List ℕ). eqb (length t) word_bytes) ts ≡ true → length (get_or ts n (bytes "          ")) ≡ word_bytes
unfolding all bytes
of_ten [] n h = refl
of_ten (t ∷ ts) zero h = eqb-true (length t) word_bytes (and_fst (eqb (length t) word_bytes) (all (λ (x : List ℕ). eqb (length x) word_bytes) ts) h)
of_ten (t ∷ ts) (suc n) h = of_ten ts n (and_snd (eqb (length t) word_bytes) (all (λ (x : List ℕ). eqb (length x) word_bytes) ts) h)

-- every word has ten bytes
pub length-word_at : (k : Kind) (n : ℕ) → length (word_at k n) ≡ word_bytes
unfolding words bytes all
length-word_at Figure n = refl
length-word_at StateWord n = of_ten (words StateWord) n refl
length-word_at BeforeWord n = of_ten (words BeforeWord) n refl
length-word_at DecisionWord n = of_ten (words DecisionWord) n refl
length-word_at UnitLetter n = of_ten (words UnitLetter) n refl

-- a word's field has at most ten columns
abbrev pub wide_enough : Column → Bool
wide_enough c = by_kind c.kind true (leb c.width word_bytes)

-- a field's bytes are as many as its columns
pub length-field_bytes : (c : Column) (v : ℕ) → wide_enough c ≡ true → length (field_bytes c v) ≡ c.width
unfolding field_bytes
length-field_bytes c v = go c.kind
  where
    words-part : (k : Kind) → leb c.width word_bytes ≡ true → length (last_bytes c.width (word_at k v)) ≡ c.width
    words-part k n =
        let b : c.width ≤ word_bytes = leb-true c.width word_bytes n in
        let t : length (word_at k v) ≡ word_bytes = length-word_at k v in
        simp length-drop (omega arith)

    go : (k : Kind) → by_kind k true (leb c.width word_bytes) ≡ true → length (by_kind k (field_text c.width v) (last_bytes c.width (word_at k v))) ≡ c.width
    go Figure n = length-field_text c.width v
    go StateWord n = words-part StateWord n
    go BeforeWord n = words-part BeforeWord n
    go DecisionWord n = words-part DecisionWord n
    go UnitLetter n = words-part UnitLetter n

-- a column of figures reads its field as a scan does
abbrev pub is_figure : Column → Bool
is_figure c = by_kind c.kind true false

pub scan_of : (c : Column) (t : List ℕ) (v : ℕ) → is_figure c ≡ true → field_value c t ≡ Some v → scanned Blank t ≡ Number v
unfolding field_value
scan_of c t v = go c.kind c.width c.low c.high
  where
    go : (k : Kind) (w low high : ℕ)
        → by_kind k true false ≡ true → field_value (column k w low high) t ≡ Some v → scanned Blank t ≡ Number v
    go Figure w low high f e = (figure_scan low high t v e).0
    go StateWord w low high f e = absurd (true≢false (sym f))
    go BeforeWord w low high f e = absurd (true≢false (sym f))
    go DecisionWord w low high f e = absurd (true≢false (sym f))
    go UnitLetter w low high f e = absurd (true≢false (sym f))
