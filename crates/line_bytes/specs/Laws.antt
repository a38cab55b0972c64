-- The pass over the tables of a layout says what the layout means. Parts are independent, since the first column of each is a fixed byte and so
-- ignores the byte on its left. Within a figure two inductions follow the scan: one before the number, after a space, and one in it, after a
-- digit. The bound on a figure is the blank first column: k columns hold what is below 10 ^ k, and a digit in the first one makes it more.
use Rattle.std.specs.Prelude.{◌≡◌, ◌+◌, ◌-◌, ◌*◌, ◌^◌, ◌≤◌, ◌<◌, ◌&&◌, ◌||◌, ◌∷◌, ◌++◌}
use Rattle.lists.specs.Basics.{refl, sym, ap, ap₂, ℕ, zero, suc, eqb, leb, ltb, Bool, true, false, not}
use Rattle.lists.specs.Basics.{cond, true≢false, and_assoc, and-true, and-false, or-true, or-false, List, [], map, length, take, drop, get_or}
use Rattle.lists.specs.Basics.{length-map, length-append, length-take, length-drop, drop_of_length-le, drop-cons, arith, eqb-true, eqb-false, leb-true}
use Rattle.lists.specs.Basics.{ltb-true, ltb-false, eq-eqb, ne_eqb, le-leb, lt-leb, lt-ltb, le-ltb, all, eq_list, and_fst, and_snd, and_both, same_test}
use Rattle.lists.specs.Basics.{choose_by, tests}
use Rattle.std.proofs.Common.{add-zero, mul-le-mul_right, pow-suc, ◌∙◌}
use Rattle.std.proofs.Math.Nat.{pow-le-pow_right}
use Rattle.decimal.specs.Field.{is_digit, stepped, scanned, within, figure, is_number}
use Rattle.decimal.specs.Scan.Scan.{Blank, Number, Wrong}
use Rattle.line_bytes.specs.Parts.{Part, text, number, width, part_ok, parts_ok}
use Rattle.line_bytes.specs.Tables.{Room, higher, lower, judged, judged_line, line_ok, ColumnBytes, fixed, columns, part_columns, layout_columns, lows}
use Rattle.line_bytes.specs.Tables.{highs, alsos, part_set_well, set_well, total}

-- the pass over a row of columns
abbrev pass : ℕ → List ColumnBytes → List ℕ → Bool
pass p qs s =
    judged_line
    p
    (map (λ (x : ColumnBytes). x.low) qs)
    (map (λ (x : ColumnBytes). x.high) qs)
    (map (λ (x : ColumnBytes). x.also) qs)
    s

-- the byte left of what follows s
ended : ℕ → List ℕ → ℕ
ended p [] = p
ended p (b ∷ s) = ended b s

-- a row of columns is judged part by part
pass-append : (p : ℕ) (qs rs : List ColumnBytes) (s : List ℕ)
    → pass p (qs ++ rs) s ≡ (pass p qs (take (length qs) s) && pass (ended p (take (length qs) s)) rs (drop (length qs) s))
unfolding judged_line ended
pass-append p [] rs s = refl
pass-append p (q ∷ qs) rs [] = refl
pass-append p (q ∷ qs) rs (b ∷ s) =
    ap (λ (x : Bool). judged p b q.low q.high q.also && x) (pass-append b qs rs s)
    ∙ sym (and_assoc (judged p b q.low q.high q.also) _ _)

-- a byte that drawing into a range leaves as it is lies in the range
drawn : (b from high : ℕ) → from ≤ high → eqb (lower (higher b from) high) b ≡ (leb from b && leb b high)
drawn b from high l = go (ltb b from) refl (ltb high b) refl
  where
    go : (t : Bool) → ltb b from ≡ t → (u : Bool) → ltb high b ≡ u → eqb (lower (higher b from) high) b ≡ (leb from b && leb b high)
    go true e u f =
        let n : b < from = ltb-true b from e in
        rw (e, le-ltb high from l, lt-leb from b n) (ne_eqb from b (omega arith))
    go false e true f =
        let n : high < b = ltb-true high b f in
        rw (e, f, lt-leb b high n, and-false) (ne_eqb high b (omega arith))
    go false e false f = rw (e, f, le-leb from b (ltb-false b from e), le-leb b high (ltb-false high b f)) (eq-eqb b b refl)

-- right of anything but a space a figure's column is a digit
closed : (p b also : ℕ) → eqb p 32 ≡ false → judged p b 48 57 also ≡ is_digit b
closed p b also e = rw e (or-false _ ∙ drawn b 48 57 (omega arith))

-- right of a space it is a digit but 0, or `also`
after_space : (b also : ℕ) → judged 32 b 48 57 also ≡ (is_digit b && not (eqb b 48) || eqb b also)
after_space b also = ap (λ (x : Bool). x || eqb b also) (drawn b 49 57 (omega arith) ∙ go (eqb b 48) refl)
  where
    go : (t : Bool) → eqb b 48 ≡ t → (leb 49 b && leb b 57) ≡ (is_digit b && not (eqb b 48))
    go true e =
        let q : b ≡ 48 = eqb-true b 48 e in
        rw (e, lt-leb 49 b (omega arith), and-false)
    go false e =
        let n : (b ≡ 48 → ⊥) = eqb-false b 48 e in
        rw (e, and-true)
        (ap (λ (x : Bool). x && leb b 57)
        (same_test (leb 49 b) (leb 48 b) (λ h. le-leb 48 b (omega (arith, leb-true 49 b h))) (λ h. le-leb 49 b (omega (arith, leb-true 48 b h)))))

-- a range of one byte is that byte
between : (x b : ℕ) → (leb x b && leb b x) ≡ eqb b x
between x b =
    same_test
    (leb x b && leb b x)
    (eqb b x)
    (λ e. let l : x ≤ b = search tests in let g : b ≤ x = search tests in eq-eqb b x (omega arith))
    (λ e. let q : b ≡ x = eqb-true b x e in and_both (le-leb x b (omega arith)) (le-leb b x (omega arith)))

-- a fixed byte is itself, whatever is left of it
fixed_is : (p b x : ℕ) → judged p b x x x ≡ eqb b x
fixed_is p b x = go (eqb p 32) refl
  where
    -- above the range the highest byte is what drawing leaves
    above : (h : ℕ) → x < h → lower h x ≡ x
    above h l = rw (lt-ltb x h l)

    high : x < higher b (x + 1)
    high = choose_by (λ (h : ℕ). x < h) (ltb b (x + 1)) (λ e. omega arith) (λ e. omega (arith, ltb-false b (x + 1) e))

    twice : (t : Bool) → eqb b x ≡ t → (eqb x b || eqb b x) ≡ eqb b x
    twice true e = rw e (or-true (eqb x b))
    twice false e = let n : (b ≡ x → ⊥) = eqb-false b x e in rw (e, ne_eqb x b (λ q. n (sym q)))

    go : (t : Bool) → eqb p 32 ≡ t → judged p b x x x ≡ eqb b x
    go true e = rw (e, above (higher b (x + 1)) high) (twice (eqb b x) refl)
    go false e = rw (e, add-zero x) (or-false _ ∙ (drawn b x x (omega arith) ∙ between x b))

-- what a byte is to a figure
data Kind (b : ℕ) : Type 0 where
  blank : b ≡ 32 → Kind b
  nought : b ≡ 48 → Kind b
  digit : eqb b 32 ≡ false → is_digit b ≡ true → 49 ≤ b → b ≤ 57 → Kind b
  other : eqb b 32 ≡ false → is_digit b ≡ false → Kind b

kind : (b : ℕ) → Kind b
kind b = go (eqb b 32) refl (is_digit b) refl (eqb b 48) refl
  where
    go : (t : Bool) → eqb b 32 ≡ t → (u : Bool) → is_digit b ≡ u → (v : Bool) → eqb b 48 ≡ v → Kind b
    go true e u d v z = blank (eqb-true b 32 e)
    go false e false d v z = other e d
    go false e true d true z = nought (eqb-true b 48 z)
    go false e true d false z =
        let l : 48 ≤ b = search tests in
        let h : b ≤ 57 = search tests in
        let n : (b ≡ 48 → ⊥) = eqb-false b 48 z in
        digit e d (omega arith) h

-- what is no digit is not 9
not_nine : (b : ℕ) → is_digit b ≡ false → eqb b 57 ≡ false
not_nine b d = ne_eqb b 57 (λ q. true≢false (rw q at d))

-- nothing mends a wrong field
wrong : (s : List ℕ) (low high : ℕ) → is_number (within low high (scanned Wrong s)) ≡ false
unfolding scanned stepped within
wrong [] low high = refl
wrong (b ∷ s) low high = wrong s low high

-- nothing follows a leading zero
after_nought : (k : ℕ) (s : List ℕ) (low high : ℕ) → length s ≡ suc k → is_number (within low high (scanned (Number 0) s)) ≡ false
unfolding scanned stepped
after_nought k [] low high n = absurd (omega arith)
after_nought k (b ∷ s) low high n = wrong s low high

-- one column more is ten times the room
scale : (a b k : ℕ) → a ≤ b * 10 → a * 10 ^ k ≤ b * 10 ^ suc k
scale a b k h = rw (pow-suc 10 k) (omega (arith, mul-le-mul_right (10 ^ k) h))

scale_back : (a b k : ℕ) → b * 10 ≤ a → b * 10 ^ suc k ≤ a * 10 ^ k
scale_back a b k h = rw (pow-suc 10 k) (omega (arith, mul-le-mul_right (10 ^ k) h))

-- one column in a number
digit_step : (p b also low high v : ℕ) (rest : Bool) (s : List ℕ) → eqb p 32 ≡ false → 1 ≤ v
    → (is_digit b ≡ true → rest ≡ is_number (within low high (scanned (Number (v * 10 + (b - 48))) s)))
    → (judged p b 48 57 also && rest) ≡ is_number (within low high (scanned (Number v) (b ∷ s)))
unfolding scanned stepped
digit_step p b also low high v rest s e h f =
    rw (closed p b also e, ne_eqb v 0 (omega arith)) (go (is_digit b) refl)
  where
    go : (t : Bool) → is_digit b ≡ t
        → (is_digit b && rest) ≡ is_number (within low high (scanned (cond (is_digit b) (Number (v * 10 + (b - 48))) Wrong) s))
    go true d = rw d (f d)
    go false d = rw d (sym (wrong s low high))

-- the columns in a number of at least 1, of which v is read
in_number : (k least high p v : ℕ) (s : List ℕ)
    → least ≤ 1 → eqb p 32 ≡ false → 1 ≤ v → (v + 1) * 10 ^ suc k ≤ suc high → length s ≡ suc k
    → pass p (columns k least) s ≡ is_number (within least high (scanned (Number v) s))
unfolding judged_line columns scanned within
in_number k least high p v [] l e h m n = absurd (omega arith)
in_number zero least high p v (b ∷ []) l e h m n =
    digit_step p b (cond (eqb least 0) 48 57) least high v true [] e h
    (λ d. let g : b ≤ 57 = search tests in
    rw (le-leb least (v * 10 + (b - 48)) (omega arith), le-leb (v * 10 + (b - 48)) high (omega arith)))
in_number zero least high p v (b ∷ (c ∷ s)) l e h m n = absurd (omega arith)
in_number (suc k) least high p v (b ∷ s) l e h m n =
    digit_step p b 32 least high v (pass b (columns k least) s) s e h
    (λ d. let a : 48 ≤ b = search tests in
    let g : b ≤ 57 = search tests in
    let r : (v * 10 + (b - 48) + 1) * 10 ^ suc k ≤ (v + 1) * 10 ^ suc (suc k) = scale (v * 10 + (b - 48) + 1) (v + 1) (suc k) (omega arith) in
    in_number k least high b (v * 10 + (b - 48)) s l (ne_eqb b 32 (omega arith)) (omega arith) (omega arith) (omega arith))

-- a number that is too large with its columns to come stays so
too_large : (low high v : ℕ) (s : List ℕ) → high < v * 10 ^ length s → is_number (within low high (scanned (Number v) s)) ≡ false
unfolding scanned stepped within
too_large low high v [] h = rw (lt-leb v high (omega arith), and-false)
too_large low high v (b ∷ s) h =
    let r : v * 10 ^ suc (length s) ≤ (v * 10 + (b - 48)) * 10 ^ length s = scale_back (v * 10 + (b - 48)) v (length s) (omega arith) in
    go (eqb v 0) (is_digit b) (too_large low high (v * 10 + (b - 48)) s (omega arith))
  where
    go : (t u : Bool) → is_number (within low high (scanned (Number (v * 10 + (b - 48))) s)) ≡ false
        → is_number (within low high (scanned (cond t Wrong (cond u (Number (v * 10 + (b - 48))) Wrong)) s)) ≡ false
    go true u f = wrong s low high
    go false false f = wrong s low high
    go false true f = f

-- the last column of a figure that has not begun
last_column : (least high b : ℕ) → Kind b → least ≤ 1 → 10 ≤ suc high
    → pass 32 (columns 0 least) (b ∷ []) ≡ is_number (within least high (scanned Blank (b ∷ [])))
unfolding judged_line columns scanned stepped within
last_column least high b (blank q) l m = rw q (go (eqb least 0))
  where
    go : (t : Bool) → (eqb 32 (cond t 48 57) && true) ≡ false
    go true = refl
    go false = refl
last_column zero high b (nought q) l m = rw (q, le-leb 0 high (omega arith))
last_column (suc zero) high b (nought q) l m = rw q
last_column (suc (suc n)) high b (nought q) l m = absurd (omega arith)
last_column least high b (digit e d g h) l m =
    rw (
      after_space b (cond (eqb least 0) 48 57),
      d,
      e,
      ne_eqb b 48 (omega arith),
      le-leb least (b - 48) (omega arith),
      le-leb (b - 48) high (omega arith),
    )
last_column least high b (other e d) l m = rw (after_space b (cond (eqb least 0) 48 57), d, e) (go (eqb least 0))
  where
    go : (t : Bool) → (eqb b (cond t 48 57) && true) ≡ false
    go true = rw (ne_eqb b 48 (λ q. true≢false (rw q at d)))
    go false = rw (not_nine b d)

-- the columns before the number
before : (k least high : ℕ) (s : List ℕ) → least ≤ 1 → 10 ^ suc k ≤ suc high → length s ≡ suc k
    → pass 32 (columns k least) s ≡ is_number (within least high (scanned Blank s))
unfolding judged_line columns scanned stepped
before k least high [] l m n = absurd (omega arith)
before zero least high (b ∷ []) l m n = last_column least high b (kind b) l (omega arith)
before zero least high (b ∷ (c ∷ s)) l m n = absurd (omega arith)
before (suc k) least high (b ∷ s) l m n = go (kind b) (before k least high s l (omega arith) (omega arith))
  where
    go : Kind b → pass 32 (columns k least) s ≡ is_number (within least high (scanned Blank s))
        → pass 32 (columns (suc k) least) (b ∷ s) ≡ is_number (within least high (scanned Blank (b ∷ s)))
    go (blank q) f = rw q f
    go (nought q) f = rw q (sym (after_nought k s least high (omega arith)))
    go (digit e d g h) f =
        let r : (b - 48 + 1) * 10 ^ suc k ≤ 1 * 10 ^ suc (suc k) = scale (b - 48 + 1) 1 (suc k) (omega arith) in
        rw (after_space b 32, d, e, ne_eqb b 48 (omega arith)) (in_number k least high b (b - 48) s l e (omega arith) (omega arith) (omega arith))
    go (other e d) f = rw (after_space b 32, d, e) (sym (wrong s least high))

-- a figure with its first column
number_is : (k least p : ℕ) (s : List ℕ) → least ≤ 1 → length s ≡ suc (suc k)
    → pass p (fixed 32 ∷ columns k least) s ≡ is_number (figure least (10 ^ suc k - 1) s)
unfolding judged_line scanned stepped figure
number_is k least p [] l n = absurd (omega arith)
number_is k least p (b ∷ s) l n = rw (fixed_is p b 32) (go (kind b))
  where
    go : Kind b → (eqb b 32 && pass b (columns k least) s) ≡ is_number (within least (10 ^ suc k - 1) (scanned Blank (b ∷ s)))
    go (blank q) = rw q (before k least (10 ^ suc k - 1) s l (omega arith) (omega arith))
    go (nought q) = rw q (sym (after_nought k s least (10 ^ suc k - 1) (omega arith)))
    go (digit e d g h) =
        let o : length s ≡ suc k = omega arith in
        let v : 1 ≤ b - 48 = omega arith in
        let z : 1 ≤ 10 ^ suc k = pow-le-pow_right {n = 10} (omega arith) {i = 0} {j = suc k} (omega arith) in
        let r : 10 ^ suc k - 1 < (b - 48) * 10 ^ length s = rw o (omega (arith, mul-le-mul_right (10 ^ suc k) v)) in
        rw (d, e) (sym (too_large least (10 ^ suc k - 1) (b - 48) s r))
    go (other e d) = rw (d, e) (sym (wrong s least (10 ^ suc k - 1)))

text_is : (t : List ℕ) (p : ℕ) (s : List ℕ) → length s ≡ length t → pass p (map fixed t) s ≡ eq_list s t
unfolding judged_line
text_is [] p [] n = refl
text_is [] p (b ∷ s) n = absurd (omega arith)
text_is (x ∷ t) p [] n = absurd (omega arith)
text_is (x ∷ t) p (b ∷ s) n = ap₂ ◌&&◌ (fixed_is p b x) (text_is t b s (omega arith))

part_is : (q : Part) (p : ℕ) (s : List ℕ) → part_set_well q ≡ true → length s ≡ width q → pass p (part_columns q) s ≡ part_ok q s
unfolding part_set_well width part_columns part_ok
part_is (text t) p s w n = text_is t p s n
part_is (number w least) p s e n =
    let h : 2 ≤ w = search tests in
    let l : least ≤ 1 = search tests in
    let j : w - 1 ≡ suc (w - 2) = omega arith in
    rw (eq-eqb (length s) w n, j) (number_is (w - 2) least p s l (omega arith))

-- a part has as many columns as it is wide
columns-length : (k least : ℕ) → length (columns k least) ≡ suc k
unfolding columns
columns-length zero least = refl
columns-length (suc k) least = ap suc (columns-length k least)

part_length : (q : Part) → part_set_well q ≡ true → length (part_columns q) ≡ width q
unfolding part_set_well width part_columns
part_length (text t) e = length-map t fixed
part_length (number w least) e = let h : 2 ≤ w = search tests in rw columns-length (omega arith)

-- the pass over a layout's columns is the layout's meaning, whatever byte stands left of the line
parts-pass : (qs : List Part) (p : ℕ) (s : List ℕ) → set_well qs ≡ true → length s ≡ total qs → pass p (layout_columns qs) s ≡ parts_ok qs s
unfolding judged_line set_well total layout_columns parts_ok
parts-pass [] p [] e n = refl
parts-pass [] p (b ∷ s) e n = absurd (omega arith)
parts-pass (q ∷ qs) p s e n =
    let a : part_set_well q ≡ true = search tests in
    let z : set_well qs ≡ true = search tests in
    let l : length (part_columns q) ≡ width q = part_length q a in
    pass-append p (part_columns q) (layout_columns qs) s
    ∙ rw l
    (ap₂
    ◌&&◌
    (part_is q p (take (width q) s) a (rw length-take (omega arith)))
    (parts-pass qs _ (drop (width q) s) z (rw length-drop (omega arith))))

-- the tables have an entry for each column
layout-length : (qs : List Part) → set_well qs ≡ true → length (layout_columns qs) ≡ total qs
unfolding layout_columns set_well total
layout-length [] e = refl
layout-length (q ∷ qs) e =
    let a : part_set_well q ≡ true = search tests in
    let z : set_well qs ≡ true = search tests in
    length-append (part_columns q) (layout_columns qs) ∙ ap₂ ◌+◌ (part_length q a) (layout-length qs z)

-- a row of columns between two fixed bytes
between_fixed : (p x y b : ℕ) (ps : List ColumnBytes) (s : List ℕ) → length s ≡ suc (length ps)
    → pass p ((fixed x ∷ ps) ++ (fixed y ∷ [])) (b ∷ s) ≡ (eqb b x && pass b ps (take (length ps) s) && eqb (get_or s (length ps) 0) y)
unfolding judged_line
between_fixed p x y b ps s n =
    let k = length ps in
    let end : drop k s ≡ get_or s k 0 ∷ [] =
    drop-cons s k 0 (omega arith) ∙ ap (λ (t : List ℕ). get_or s k 0 ∷ t) (drop_of_length-le s {i = suc k} (omega arith)) in
    pass-append p (fixed x ∷ ps) (fixed y ∷ []) (b ∷ s)
    ∙ ap₂ ◌&&◌
    (ap (λ (t : Bool). t && pass b ps (take k s)) (fixed_is p b x))
    (rw end (ap (λ (t : Bool). t && true) (fixed_is (ended p (take (suc k) (b ∷ s))) (get_or s k 0) y) ∙ and-true (eqb (get_or s k 0) y)))

-- The law. The first column and the last are fixed bytes, which the code compares by themselves: the first has nothing on its left, and the columns
-- between fill whole vectors.
pub framed_is : (qs : List Part) (ps : List ColumnBytes) (x y : ℕ) (s : List ℕ)
    → set_well qs ≡ true → layout_columns qs ≡ (fixed x ∷ ps) ++ (fixed y ∷ []) → length s ≡ suc (suc (length ps))
    → (line_ok (take (suc (length ps)) s) (lows (fixed x ∷ ps)) (highs (fixed x ∷ ps)) (alsos (fixed x ∷ ps))
    && (eqb (get_or s 0 0) x && eqb (get_or s (suc (length ps)) 0) y))
    ≡ parts_ok qs s
unfolding line_ok lows highs alsos
framed_is qs ps x y [] e f n = absurd (omega arith)
framed_is qs ps x y (b ∷ s) e f n =
    let k = length ps in
    let long : length (take k s) ≡ k = simp length-take (omega arith) in
    let count : length (layout_columns qs) ≡ suc k + 1 = ap length f ∙ length-append (fixed x ∷ ps) (fixed y ∷ []) in
    let whole : length (b ∷ s) ≡ total qs = omega (arith, count, layout-length qs e) in
    let test : eqb (suc k) (suc k) ≡ true = eq-eqb (suc k) (suc k) refl in
    simp (length-map, long, test)
    (shuffled (eqb b x) (pass b ps (take k s)) (eqb (get_or s k 0) y)
    ∙ (sym (between_fixed 0 x y b ps s (omega arith)) ∙ (ap (λ (r : List ColumnBytes). pass 0 r (b ∷ s)) (sym f) ∙ parts-pass qs 0 (b ∷ s) e whole)))
  where
    shuffled : (t u v : Bool) → (u && (t && v)) ≡ (t && u && v)
    shuffled true u v = refl
    shuffled false true v = refl
    shuffled false false v = refl

-- a computed test of the room in a table
pub room_is : (low : List ℕ) → all (λ (x : ℕ). ltb x 255) low ≡ true → Room low
unfolding all
room_is [] h i = omega arith
room_is (x ∷ low) h zero = ltb-true x 255 (and_fst (ltb x 255) (all (λ (y : ℕ). ltb y 255) low) h)
room_is (x ∷ low) h (suc i) = room_is low (and_snd (ltb x 255) (all (λ (y : ℕ). ltb y 255) low) h) i
