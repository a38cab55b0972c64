-- Laws of fields of any width. What a scan has read so far tells which bytes it has passed, so a field that reads as a figure is that
-- figure's text, by one step for each byte; and the text of a figure is read digit by digit as it is built.
use Rattle.std.specs.Prelude.{◌≡◌, ◌+◌, ◌-◌, ◌*◌, ◌/◌, ◌%◌, ◌^◌, ◌≤◌, ◌<◌, ◌&&◌, ◌∷◌, ◌++◌, Option, Some, None}
use Rattle.lists.specs.Basics.{refl, sym, ap, ap₂, subst, ℕ, zero, suc, eqb, leb, Bool, true, false}
use Rattle.lists.specs.Basics.{cond, true≢false, List, [], append-nil, length, get_or, length-append, arith, eqb-true, eqb-false, ne_eqb, le-leb}
use Rattle.lists.specs.Basics.{and_both, choose_by, tests}
use Rattle.std.proofs.Common.{pow-suc, ◌∙◌}
use Rattle.std.proofs.Math.Nat.{one-le-pow}
use Rattle.std.proofs.Math.Seq.{append_snoc}
use Rattle.std.proofs.lemmas.Option.{none-some, same_Some}
use Rattle.lists.specs.Bytes.{below_append, below_one}
use Rattle.decimal.specs.Scan.{Scan}
use Rattle.decimal.specs.Scan.Scan.{Blank, Number, Wrong}
use Rattle.decimal.specs.Field.{is_digit, stepped, scanned, within, figure, number, is_number, column_byte, ahead, field_text}

-- what one byte b does to a scan
pub data Step (b : ℕ) : Scan → Scan → Type 0 where
  space : b ≡ 32 → Step b Blank Blank
  first : (d : ℕ) → d < 10 → b ≡ 48 + d → Step b Blank (Number d)
  next : (v d : ℕ) → 0 < v → d < 10 → b ≡ 48 + d → Step b (Number v) (Number (v * 10 + d))
  wrong : {st : Scan} → Step b st Wrong

digit_kind : {st x : Scan} (b : ℕ) → (48 ≤ b → b ≤ 57 → Step b st x) → Step b st (cond (is_digit b) x Wrong)
digit_kind {st} b f = choose_by (Step b st) (is_digit b) (λ t. f (search tests) (search tests)) (λ t. wrong)

pub step_kind : (st : Scan) (b : ℕ) → Step b st (stepped st b)
unfolding stepped
step_kind Blank b =
    choose_by
    (Step b Blank)
    (eqb b 32)
    (λ e. space (eqb-true b 32 e))
    (λ e. digit_kind b (λ l h. first (b - 48) (omega arith) (omega arith)))
step_kind (Number v) b =
    choose_by
    (Step b (Number v))
    (eqb v 0)
    (λ e. wrong)
    (λ e. digit_kind b (λ l h. next v (b - 48) (omega (arith, eqb-false v 0 e)) (omega arith) (omega arith)))
step_kind Wrong b = wrong

pub scan_wrong : (s : List ℕ) → scanned Wrong s ≡ Wrong
unfolding scanned stepped
scan_wrong [] = refl
scan_wrong (b ∷ s) = scan_wrong s

-- the bytes p passed, w of them, where the scan has come to a state
abbrev Passed : ℕ → Scan → List ℕ → Type 0
Passed w Blank p = p ≡ ahead w 0
Passed w (Number v) p = (p ≡ field_text w v) × (v < 10 ^ w)
Passed w Wrong p = Unit {0}

-- a figure other than 0 is never blank
ahead-figure : (w v : ℕ) → 0 < v → ahead w v ≡ field_text w v
unfolding ahead field_text
ahead-figure zero v l = refl
ahead-figure (suc w) v l = let z : eqb v 0 ≡ false = ne_eqb v 0 (omega arith) in rw z

-- the last digit of n set behind the others
one_more : (w n b : ℕ) (p : List ℕ) → p ≡ ahead w (n / 10) → b ≡ 48 + n % 10 → p ++ (b ∷ []) ≡ field_text (suc w) n
unfolding field_text
one_more w n b p h e = ap₂ (λ (q : List ℕ) (c : ℕ). q ++ (c ∷ [])) h e

passed-step : {b : ℕ} {st st' : Scan} (w : ℕ) (p : List ℕ) → Step b st st' → Passed w st p → Passed (suc w) st' (p ++ (b ∷ []))
unfolding ahead
passed-step w p (space e) h = ap₂ (λ (q : List ℕ) (c : ℕ). q ++ (c ∷ [])) h e
passed-step w p (first d l e) h =
    let z : d / 10 ≡ 0 = omega arith in
    (one_more w d _ p (h ∙ ap (ahead w) (sym z)) (omega arith), omega (arith, pow-suc 10 w, one-le-pow w 10 (omega arith)))
passed-step w p (next v d n l e) h =
    let z : (v * 10 + d) / 10 ≡ v = omega arith in
    (one_more w (v * 10 + d) _ p (h.0 ∙ (sym (ahead-figure w v n) ∙ ap (ahead w) (sym z))) (omega arith), omega (arith, pow-suc 10 w))
passed-step w p wrong h = tt

passed_scan : (s : List ℕ) (st : Scan) (w n : ℕ) (p : List ℕ) → n ≡ w + length s → Passed w st p → Passed n (scanned st s) (p ++ s)
unfolding scanned
passed_scan [] st w n p e h =
    let z : w ≡ n = omega arith in
    rw (append-nil, ← z) h
passed_scan (b ∷ s) st w n p e h =
    rw append_snoc at (passed_scan s (stepped st b) (suc w) n (p ++ (b ∷ [])) (omega arith) (passed-step w p (step_kind st b) h))

-- a field that reads as a figure is the figure's text
pub scan_written : (s : List ℕ) (v : ℕ) → scanned Blank s ≡ Number v → (s ≡ field_text (length s) v) × (v < 10 ^ length s)
unfolding ahead
scan_written s v e = subst (λ (st : Scan). Passed (length s) st s) e (passed_scan s Blank 0 (length s) [] (omega arith) refl)

-- a fact about a field that is read, from the fact about `None` and the fact about each figure that it may hold
pub figure_by : (P : Option ℕ → Type 0) (low high : ℕ) (s : List ℕ) → P None → ((v : ℕ) → scanned Blank s ≡ Number v → low ≤ v → v ≤ high → P (Some v)) → P (figure low high s)
unfolding figure within
figure_by P low high s w f = go (scanned Blank s) refl
  where
    go : (st : Scan) → scanned Blank s ≡ st → P (within low high st)
    go Blank e = w
    go (Number v) e = choose_by P (leb low v && leb v high) (λ t. f v e (search tests) (search tests)) (λ t. w)
    go Wrong e = w

-- a figure that was read is the scan's, and in range
pub figure_scan : (low high : ℕ) (s : List ℕ) (v : ℕ) → figure low high s ≡ Some v → (scanned Blank s ≡ Number v) × ((low ≤ v) × (v ≤ high))
figure_scan low high s v =
    figure_by
    (λ (r : Option ℕ). r ≡ Some v → (scanned Blank s ≡ Number v) × ((low ≤ v) × (v ≤ high)))
    low
    high
    s
    (λ e. absurd (none-some v e))
    (λ u e a b q. let z : u ≡ v = same_Some u v q in (e ∙ ap Number z, (omega arith, omega arith)))

-- what reads as a figure is what would be written for it
pub written_read : (low high : ℕ) (s : List ℕ) (v : ℕ) → figure low high s ≡ Some v → (s ≡ field_text (length s) v) × ((v < 10 ^ length s) × ((low ≤ v) × (v ≤ high)))
written_read low high s v e =
    let r = figure_scan low high s v e in
    let t = scan_written s v r.0 in
    (t.0, (t.1, r.1))

-- the state after columns that hold the figure v, all of them spaces where v is 0
standing : ℕ → Scan
standing v = cond (eqb v 0) Blank (Number v)

scan_append : (s t : List ℕ) (st : Scan) → scanned st (s ++ t) ≡ scanned (scanned st s) t
unfolding scanned
scan_append [] t st = refl
scan_append (b ∷ s) t st = scan_append s t (stepped st b)

-- the last digit of v, behind the others or alone
last_digit : (v : ℕ) → stepped (standing (v / 10)) (48 + v % 10) ≡ Number v
unfolding standing stepped
last_digit v = choose_by (λ (st : Scan). stepped st (48 + v % 10) ≡ Number v) (eqb (v / 10) 0) alone behind
  where
    digit : is_digit (48 + v % 10) ≡ true
    digit = and_both (le-leb 48 (48 + v % 10) (omega arith)) (le-leb (48 + v % 10) 57 (omega arith))

    alone : eqb (v / 10) 0 ≡ true → stepped Blank (48 + v % 10) ≡ Number v
    alone e =
        let z = eqb-true (v / 10) 0 e in
        let n : eqb (48 + v % 10) 32 ≡ false = ne_eqb (48 + v % 10) 32 (omega arith) in
        let m : 48 + v % 10 - 48 ≡ v = omega arith in
        rw (n, digit, m)

    behind : eqb (v / 10) 0 ≡ false → stepped (Number (v / 10)) (48 + v % 10) ≡ Number v
    behind e = let m : v / 10 * 10 + (48 + v % 10 - 48) ≡ v = omega arith in rw (e, digit, m)

-- the last column of v, a digit or a space
last_column : (v : ℕ) → stepped (standing (v / 10)) (column_byte v) ≡ standing v
unfolding standing stepped
last_column v = go (eqb v 0) refl
  where
    go : (t : Bool) → eqb v 0 ≡ t → stepped (standing (v / 10)) (cond t 32 (48 + v % 10)) ≡ cond t Blank (Number v)
    go true e = let z = eqb-true v 0 e in rw z
    go false e = last_digit v

scan_ahead : (w v : ℕ) → v < 10 ^ w → scanned Blank (ahead w v) ≡ standing v
unfolding scanned ahead standing
scan_ahead zero v l = let z : v ≡ 0 = omega arith in rw z
scan_ahead (suc w) v l = rw (scan_append, scan_ahead w (v / 10) (omega (arith, pow-suc 10 w))) (last_column v)

-- the text of a figure reads as the figure
pub scan_text : (w v : ℕ) → 0 < w → v < 10 ^ w → scanned Blank (field_text w v) ≡ Number v
unfolding scanned field_text
scan_text zero v n l = absurd (omega arith)
scan_text (suc w) v n l = rw (scan_append, scan_ahead w (v / 10) (omega (arith, pow-suc 10 w))) (last_digit v)

-- what is written for a figure in range reads as the figure
pub read_written : (w v low high : ℕ) → 0 < w → v < 10 ^ w → low ≤ v → v ≤ high → figure low high (field_text w v) ≡ Some v
unfolding figure within
read_written w v low high n l a b = rw (scan_text w v n l, le-leb low v a, le-leb v high b)

length-ahead : (w v : ℕ) → length (ahead w v) ≡ w
unfolding ahead
length-ahead zero v = refl
length-ahead (suc w) v = rw (length-append, length-ahead w (v / 10)) (omega arith)

pub length-field_text : (w v : ℕ) → length (field_text w v) ≡ w
unfolding field_text
length-field_text zero v = refl
length-field_text (suc w) v = rw (length-append, length-ahead w (v / 10)) (omega arith)

-- each column is a byte
ahead-bytes : (w v i : ℕ) → get_or (ahead w v) i 0 < 256
unfolding ahead
ahead-bytes zero v i = omega arith
ahead-bytes (suc w) v i =
    below_append
    256
    (ahead w (v / 10))
    (column_byte v ∷ [])
    (ahead-bytes w (v / 10))
    (below_one 256 (column_byte v) (choose_by (λ (b : ℕ). b < 256) (eqb v 0) (λ e. omega arith) (λ e. omega arith)))
    i

pub field_text-bytes : (w v i : ℕ) → get_or (field_text w v) i 0 < 256
unfolding field_text
field_text-bytes zero v i = omega arith
field_text-bytes (suc w) v i =
    below_append 256 (ahead w (v / 10)) ((48 + v % 10) ∷ []) (ahead-bytes w (v / 10)) (below_one 256 (48 + v % 10) (omega arith)) i

pub is_number-number : (r : Option ℕ) → is_number r ≡ true → r ≡ Some (number r)
is_number-number None e = absurd (true≢false (sym e))
is_number-number (Some v) e = refl

-- also where nothing was read
pub number_bounded : (low high : ℕ) (s : List ℕ) → number (figure low high s) ≤ high
number_bounded low high s = figure_by (λ (r : Option ℕ). number r ≤ high) low high s (omega arith) (λ v e a b. b)
