-- Reading with a limit: it stops as soon as the figure is above the highest that is wanted, so that it never grows past its type. It finds the
-- same figure, since a figure only grows with each digit more.
use Rattle.std.specs.Prelude.{◌≡◌, ◌+◌, ◌-◌, ◌*◌, ◌≤◌, ◌<◌, ◌&&◌, ◌∷◌, Option, Some, None, option_and_then, position}
use Rattle.std.proofs.Common.{◌∙◌}
use Rattle.lists.specs.Basics.{refl, sym, ap, ℕ, zero, suc, eqb, leb, Bool, true, false, not, cond, List, [], length, take, drop, get_or}
use Rattle.lists.specs.Basics.{and-true, drop_of_length-le, drop-cons, arith, add-one, eq-eqb, ne_eqb, leb-false, leb-true, le-leb, not-true, not-false, get_or-drop, length-drop, take_all, choose_by, tests}
use Rattle.std.proofs.lemmas.List.Quantifiers.{position-Some}
use Rattle.std.proofs.lemmas.Iterator.Adapters.{position_from-zero}
use Rattle.std.proofs.lemmas.Option.{none-some}
use Rattle.std.specs.List.{position_from}
use Rattle.decimal.specs.Scan.{Scan}
use Rattle.decimal.specs.Scan.Scan.{Blank, Number, Wrong}
use Rattle.decimal.specs.Field.{is_digit, stepped, scanned, within, figure}
use Rattle.decimal.specs.Laws.{scan_wrong}

-- the figure v with one digit more, with the limit
abbrev pub longer : ℕ → ℕ → ℕ → Option ℕ
longer high v b = cond (is_digit b && leb (v * 10 + (b - 48)) high) (Some (v * 10 + (b - 48))) None

-- the digits s behind the figure v, with the limit
unfoldable pub digits_behind : ℕ → ℕ → List ℕ → Option ℕ
digits_behind high v [] = Some v
digits_behind high v (b ∷ s) = cond (eqb v 0) None (option_and_then (λ (n : ℕ). digits_behind high n s) (longer high v b))

-- the digits s, with the limit
unfoldable pub digits_to : ℕ → List ℕ → Option ℕ
digits_to high [] = None
digits_to high (b ∷ s) = option_and_then (λ (n : ℕ). digits_behind high n s) (longer high 0 b)

-- a figure from low on
abbrev pub from_low : ℕ → Option ℕ → Option ℕ
from_low low r = option_and_then (λ (v : ℕ). cond (leb low v) (Some v) None) r

-- where the spaces end that a field begins with
abbrev pub no_space : List ℕ → Option ℕ
no_space s = position (λ (b : ℕ). not (eqb b 32)) s

-- a figure that is too high stays so
too_high : (low high v : ℕ) (s : List ℕ) → high < v → within low high (scanned (Number v) s) ≡ None
unfolding scanned stepped within
too_high low high v [] l =
    choose_by
    (λ (r : Option ℕ). r ≡ None)
    (leb low v && leb v high)
    (λ e. let h : v ≤ high = search tests in absurd (omega arith))
    (λ e. refl)
too_high low high v (b ∷ s) l =
    let stays : within low high (scanned Wrong s) ≡ None = rw scan_wrong in
    let Stays : Scan → Type 0 = λ st. within low high (scanned st s) ≡ None in
    choose_by
    Stays
    (eqb v 0)
    (λ e. stays)
    (λ e. choose_by Stays (is_digit b) (λ t. too_high low high (v * 10 + (b - 48)) s (omega arith)) (λ t. stays))

-- one digit more behind v, by what is made of the figure that it gives
one_more : (low high v b : ℕ) (s : List ℕ)
    → ((n : ℕ) → n ≤ high → from_low low (digits_behind high n s) ≡ within low high (scanned (Number n) s))
    → from_low low (option_and_then (λ (n : ℕ). digits_behind high n s) (longer high v b)) ≡ within low high (scanned (cond (is_digit b) (Number (v * 10 + (b - 48))) Wrong) s)
unfolding within
one_more low high v b s later = go (is_digit b) (leb (v * 10 + (b - 48)) high) refl
  where
    go : (d l : Bool) → leb (v * 10 + (b - 48)) high ≡ l
        → from_low low (option_and_then (λ (n : ℕ). digits_behind high n s) (cond (d && l) (Some (v * 10 + (b - 48))) None)) ≡ within low high (scanned (cond d (Number (v * 10 + (b - 48))) Wrong) s)
    go true true e = later (v * 10 + (b - 48)) (leb-true (v * 10 + (b - 48)) high e)
    go true false e = sym (too_high low high (v * 10 + (b - 48)) s (leb-false (v * 10 + (b - 48)) high e))
    go false l e = sym (ap (within low high) (scan_wrong s))

-- the limit changes nothing of what is read behind a figure
behind-scanned : (low high v : ℕ) (s : List ℕ) → v ≤ high → from_low low (digits_behind high v s) ≡ within low high (scanned (Number v) s)
unfolding digits_behind scanned within stepped
behind-scanned low high v [] l = let e : (leb low v && leb v high) ≡ leb low v = rw (le-leb v high l) (and-true (leb low v)) in sym (ap (λ (b : Bool). cond b (Some v) None) e)
behind-scanned low high v (b ∷ s) l = go (eqb v 0) (one_more low high v b s (λ n l. behind-scanned low high n s l))
  where
    go : (z : Bool)
        → from_low low (option_and_then (λ (n : ℕ). digits_behind high n s) (longer high v b)) ≡ within low high (scanned (cond (is_digit b) (Number (v * 10 + (b - 48))) Wrong) s)
        → from_low low (cond z None (option_and_then (λ (n : ℕ). digits_behind high n s) (longer high v b)))
        ≡ within low high (scanned (cond z Wrong (cond (is_digit b) (Number (v * 10 + (b - 48))) Wrong)) s)
    go true h = sym (ap (within low high) (scan_wrong s))
    go false h = h

-- spaces may be passed at once
spaces_passed : (s : List ℕ) (i : ℕ) → i ≤ length s → ((k : ℕ) → k < i → not (eqb (get_or s k 0) 32) ≡ false) → scanned Blank (drop i s) ≡ scanned Blank s
unfolding scanned stepped
spaces_passed s zero l f = refl
spaces_passed [] (suc i) l f = absurd (omega arith)
spaces_passed (b ∷ s) (suc i) l f =
    let e : eqb b 32 ≡ true = not-false (eqb b 32) (f 0 (omega arith)) in
    spaces_passed s i (omega arith) (λ k m. f (suc k) (omega arith)) ∙ rw e

-- where no byte is another than a space
spaces_only : (s : List ℕ) (i : ℕ) → position_from (λ (b : ℕ). not (eqb b 32)) i s ≡ None → scanned Blank s ≡ Blank
unfolding scanned stepped
spaces_only [] i h = refl
spaces_only (b ∷ s) i h = go (eqb b 32) (λ g. spaces_only s (i + 1) g) h
  where
    go : (t : Bool) → (position_from (λ (b : ℕ). not (eqb b 32)) (i + 1) s ≡ None → scanned Blank s ≡ Blank)
        → cond (not t) (Some i) (position_from (λ (b : ℕ). not (eqb b 32)) (i + 1) s) ≡ None
        → scanned (cond t Blank (cond (is_digit b) (Number (b - 48)) Wrong)) s ≡ Blank
    go true f h = f h
    go false f h = absurd (none-some i (sym h))

-- one byte more behind a figure
module _ (high : ℕ) (s : List ℕ) (i : ℕ) (inside : i < length s) (v : ℕ) where
  pub behind_zero : v ≡ 0 → digits_behind high v (drop i s) ≡ None
  unfolding digits_behind
  behind_zero z = rw (drop-cons s i 0 inside, eq-eqb v 0 z)

  pub one_behind : (r : Option ℕ) → r ≡ longer high v (get_or s i 0) → (v ≡ 0 → ⊥) → digits_behind high v (drop i s) ≡ option_and_then (λ (n : ℕ). digits_behind high n (drop (i + 1) s)) r
  unfolding digits_behind
  one_behind r e n = rw (e, add-one, drop-cons s i 0 inside, ne_eqb v 0 n)

pub none_behind : (high v : ℕ) (s : List ℕ) (i : ℕ) → length s ≤ i → digits_behind high v (drop i s) ≡ Some v
unfolding digits_behind
none_behind high v s i l = rw (drop_of_length-le s l)

-- a byte that is no space, and digits behind it
digits-scanned : (low high : ℕ) (s : List ℕ) → 0 < length s → eqb (get_or s 0 0) 32 ≡ false → from_low low (digits_to high s) ≡ within low high (scanned Blank s)
unfolding digits_to scanned stepped
digits-scanned low high [] l n = absurd (omega arith)
digits-scanned low high (b ∷ s) l n =
    let nought : 0 * 10 + (b - 48) ≡ b - 48 = omega arith in
    one_more low high 0 b s (λ n l. behind-scanned low high n s l) ∙ rw (n, nought)

-- The two parts of a reading: the first digit with those behind it, and the spaces with what follows them.

pub no_digit : (high : ℕ) (s : List ℕ) → length s ≡ 0 → None ≡ digits_to high s
unfolding digits_to
no_digit high [] e = refl
no_digit high (b ∷ s) e = absurd (omega arith)

pub first_digit : (high b : ℕ) (r : Option ℕ) (s rest : List ℕ) → r ≡ longer high 0 b → s ≡ b ∷ rest → option_and_then (λ (n : ℕ). digits_behind high n rest) r ≡ digits_to high s
unfolding digits_to
first_digit high b r s rest e f = rw (e, f)

-- what is read where the spaces end
abbrev pub read_from : (low high : ℕ) → List ℕ → Option ℕ → Option ℕ
read_from low high s r = option_and_then (λ (i : ℕ). from_low low (digits_to high (drop i s))) r

-- it is the field's
pub figure-to : (low high : ℕ) (s : List ℕ) → read_from low high s (no_space s) ≡ figure low high s
unfolding figure within
figure-to low high s = go (no_space s) refl
  where
    go : (r : Option ℕ) → no_space s ≡ r → read_from low high s r ≡ within low high (scanned Blank s)
    go None e = sym (ap (within low high) (spaces_only s 0 (sym (position_from-zero (λ (b : ℕ). not (eqb b 32)) s) ∙ e)))
    go (Some i) e =
        let p = position-Some (λ (b : ℕ). not (eqb b 32)) s i 0 e in
        let k : i + 0 ≡ i = omega arith in
        let here : get_or (drop i s) 0 0 ≡ get_or s i 0 = rw (get_or-drop, k) in
        digits-scanned low high (drop i s) (rw length-drop (omega (arith, p.0))) (rw here (not-true (eqb (get_or s i 0) 32) p.1))
        ∙ ap (within low high) (spaces_passed s i (omega (arith, p.0)) p.2)

pub spaces_read : (low high : ℕ) (s : List ℕ) → None ≡ no_space s → None ≡ figure low high s
spaces_read low high s e = ap (read_from low high s) e ∙ figure-to low high s

pub digits_read : (low high : ℕ) (s : List ℕ) (i : ℕ) (r : Option ℕ) → Some i ≡ no_space s → r ≡ digits_to high (take (length s - i) (drop i s)) → from_low low r ≡ figure low high s
digits_read low high s i r e f =
    let rest : take (length s - i) (drop i s) ≡ drop i s = take_all (length s - i) (drop i s) (rw length-drop (omega arith)) in
    ap (from_low low) (f ∙ ap (digits_to high) rest) ∙ (ap (read_from low high s) e ∙ figure-to low high s)
