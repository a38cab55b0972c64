-- The loop keeps that the columns set, behind the text of what is left of the figure, are the whole field's text.
use Rattle.std.specs.Prelude.{◌≡◌, ◌+◌, ◌-◌, ◌/◌, ◌%◌, ◌≤◌, ◌<◌, ◌∷◌, ◌++◌}
use Rattle.std.proofs.Common.{◌∙◌}
use Rattle.lists.specs.Basics.{refl, sym, eqb-true, eqb-false, ℕ, zero, suc, List, [], append-nil, length, drop, set, length-set}
use Rattle.lists.specs.Basics.{drop_of_length-le, drop-cons, arith}
use lib.Seq.{drop-set-lt, get_or-set_same, append_snoc}
use Rattle.decimal.specs.Field.{column_byte, ahead, field_text}
use Rattle.decimal.proofs.write.Goals as goal

-- a column set behind p, and before the columns that are set already
column_set : (s p : List ℕ) (j b : ℕ) → j < length s → p ++ drop j (set s j b) ≡ (p ++ (b ∷ [])) ++ drop (suc j) s
column_set s p j b l =
    let m : j < length (set s j b) = rw length-set l in
    rw (drop-cons (set s j b) j 0 m, get_or-set_same s j b 0 l, drop-set-lt (suc j) s j b (omega arith), append_snoc)

next_column : (s : List ℕ) (i v : ℕ) → 0 < i → i ≤ length s → ahead (i - 1) (v / 10) ++ drop (i - 1) (set s (i - 1) (column_byte v)) ≡ ahead i v ++ drop i s
unfolding ahead
next_column s zero v n l = absurd (omega arith)
next_column s (suc j) v n l =
    let e : suc j - 1 ≡ j = omega arith in
    rw e (column_set s (ahead j (v / 10)) j (column_byte v) l)

last_column : (s : List ℕ) (n v : ℕ) → length s ≡ n → 0 < n → ahead (n - 1) (v / 10) ++ drop (n - 1) (set s (n - 1) (48 + v % 10)) ≡ field_text n v
unfolding field_text
last_column s zero v h n = absurd (omega arith)
last_column s (suc j) v h n =
    let e : suc j - 1 ≡ j = omega arith in
    rw (e, column_set s (ahead j (v / 10)) j (48 + v % 10) (omega arith), drop_of_length-le s {i = suc j} (omega arith), append-nil)

-- no column left
all_set : (s t : List ℕ) (i v : ℕ) → i ≤ 0 → ahead i v ++ drop i s ≡ t → s ≡ t
unfolding ahead
all_set s t i v l e = let z : i ≡ 0 = omega arith in rw z at e

-- no column at all
no_column : (s : List ℕ) (v : ℕ) → length s ≡ 0 → s ≡ field_text (length s) v
unfolding field_text
no_column [] v e = refl
no_column (b ∷ s) v e = absurd (omega arith)

pub returns-then-is_empty : goal.returns-then-is_empty
returns-then-is_empty c = no_column c.args.s.now c.args.v (eqb-true (length c.args.s.now) 0 (sym c.if-is_empty.ensures))

pub loop-i-init : goal.loop-i-init
loop-i-init c =
    let n = eqb-false (length c.args.s.now) 0 (sym c.if-is_empty.ensures) in
    last_column c.args.s.now (length c.args.s.now) c.args.v refl (omega (arith, n))

pub loop-i-preserved : goal.loop-i-preserved
loop-i-preserved c =
    let l = c.loop-i in
    let n : length l.s ≡ length c.args.s.now = rw length-set at l.auto.s in
    let within : l.i ≤ length l.s = omega (arith, l.auto.i) in
    rw c.column.ensures (next_column l.s l.i l.rest c.loop-i-test.true within ∙ l.invariant)

pub returns : goal.returns
returns c = all_set c.loop-i.s (field_text (length c.args.s.now) c.args.v) c.loop-i.i c.loop-i.rest (omega arith) c.loop-i.invariant
