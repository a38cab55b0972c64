-- The loop keeps that the bytes already compared are equal; one pair that differs tells the lists apart.
use Rattle.std.specs.Prelude.{◌≡◌, ◌+◌, ◌-◌, ◌≤◌, ◌<◌, ◌∷◌}
use Rattle.std.proofs.Common.{◌∙◌}
use Rattle.lists.specs.Basics.{refl, sym, ap, ap₂, subst, ℕ, true, List, length, drop, get_or, drop_of_length-le, drop-cons}
use Rattle.lists.specs.Basics.{arith, add-one, eq_list, eq_list_refl}
use Rattle.lists.specs.Bytes.{ne_eq_list}
use Rattle.decimal.proofs.same.Goals as goal

-- none compared yet
none : (s t : List ℕ) (i : ℕ) → i ≡ length s → i ≡ length t → drop i s ≡ drop i t
none s t i e f =
    let l : length s ≤ i = omega arith in
    let m : length t ≤ i = omega arith in
    drop_of_length-le s l ∙ sym (drop_of_length-le t m)

-- all compared
all : (s t : List ℕ) (i : ℕ) → i ≤ 0 → drop i s ≡ drop i t → true ≡ eq_list s t
all s t i l h =
    let z : i ≡ 0 = omega arith in
    let e : s ≡ t = rw z at h in
    sym (subst (λ (u : List ℕ). eq_list s u ≡ true) e (eq_list_refl s))

-- one byte more of each
one_more : (s t : List ℕ) (i : ℕ) → i < length s → i < length t → get_or s i 0 ≡ get_or t i 0 → drop (i + 1) s ≡ drop (i + 1) t → drop i s ≡ drop i t
one_more s t i l m e h = drop-cons s i 0 l ∙ (ap₂ ◌∷◌ e (rw add-one at h) ∙ sym (drop-cons t i 0 m))

pub returns-then-s-t : goal.returns-then-s-t
returns-then-s-t c = sym (ne_eq_list _ _ (λ e. c.if-s-t.true (ap length e)))

pub loop-i-init : goal.loop-i-init
loop-i-init c =
    let a = c.args in
    (omega arith, c.if-s-t.false, none a.s.now a.t.now _ refl c.if-s-t.false)

pub returns-then-s-i : goal.returns-then-s-i
returns-then-s-i c =
    let a = c.args in
    sym (ne_eq_list a.s.now a.t.now (λ e. c.if-s-i.true (ap (λ (u : List ℕ). get_or u (c.loop-i.i - 1) 0) e)))

pub loop-i-preserved : goal.loop-i-preserved
loop-i-preserved c =
    let a = c.args in
    let l = c.loop-i in
    let z : l.i ≡ l.i - 1 + 1 = omega arith in
    let h : drop (l.i - 1 + 1) a.s.now ≡ drop (l.i - 1 + 1) a.t.now = rw z at l.invariant.2 in
    (omega arith, l.invariant.1, one_more a.s.now a.t.now (l.i - 1) (omega arith) (omega arith) c.if-s-i.false h)

pub returns : goal.returns
returns c =
    let a = c.args in
    let l = c.loop-i in
    all a.s.now a.t.now l.i (omega arith) l.invariant.2
