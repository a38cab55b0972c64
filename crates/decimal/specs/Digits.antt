-- A figure as the number that its digits make. Digits are taken from the left as a scan takes them, and a space counts 0, so what a scan has read so far
-- is what the digits have made so far.
use Rattle.std.specs.Prelude.{◌≡◌, ◌+◌, ◌-◌, ◌*◌, ◌%◌, ◌^◌, ◌≤◌, ◌<◌, ◌∷◌}
use Rattle.lists.specs.Basics.{ap, ℕ, suc, List, [], length, take, drop, get_or, drop-cons, arith, add-one}
use Rattle.std.proofs.Common.{pow-suc, ◌∙◌}
use Rattle.std.proofs.Math.Nat.{pow-le-pow_right}
use Rattle.decimal.specs.Scan.{Scan}
use Rattle.decimal.specs.Scan.Scan.{Blank, Number, Wrong}
use Rattle.decimal.specs.Field.{scanned, stepped}
use Rattle.decimal.specs.Laws.{Step, step_kind, scan_wrong}
use Rattle.decimal.specs.Laws.Step.{space, first, next, wrong}

-- the number that the digits of v and then the bytes make; the low half of a byte is a digit's value, and 0 of a space
unfoldable pub digits_from : ℕ → List ℕ → ℕ
digits_from v [] = v
digits_from v (b ∷ s) = digits_from (v * 10 + b % 16) s

abbrev pub digits : List ℕ → ℕ
digits s = digits_from 0 s

-- the number that the n bytes at `at` make
abbrev pub figure_at : ℕ → ℕ → List ℕ → ℕ
figure_at at n s = digits (take n (drop at s))

-- what a scan has read so far, 0 where there is no figure
unfoldable so_far : Scan → ℕ
so_far Blank = 0
so_far (Number v) = v
so_far Wrong = 0

step_digit : {b : ℕ} {st st' : Scan} (s : List ℕ) (v : ℕ) → Step b st st' → scanned st' s ≡ Number v → so_far st * 10 + b % 16 ≡ so_far st'
unfolding so_far
step_digit s v (space e) h = omega arith
step_digit s v (first d l e) h = omega arith
step_digit s v (next u d n l e) h = omega arith
step_digit s v wrong h = let z : ◌≡◌ {A = ℕ} 0 1 = cc (scan_wrong s) in absurd (omega arith)

digits-after : (s : List ℕ) (st : Scan) (v : ℕ) → scanned st s ≡ Number v → digits_from (so_far st) s ≡ v
unfolding scanned digits_from
digits-after [] st v h = unfold so_far in ap so_far h
digits-after (b ∷ s) st v h = ap (λ (n : ℕ). digits_from n s) (step_digit s v (step_kind st b) h) ∙ digits-after s (stepped st b) v h

-- a field that holds a figure
pub digits_are : (s : List ℕ) (v : ℕ) → scanned Blank s ≡ Number v → digits s ≡ v
unfolding so_far
digits_are s v h = digits-after s Blank v h

-- A loop over the n bytes at `at`, turn by turn.

-- what is made at byte i
abbrev pub digits_left : (v at n i : ℕ) (s : List ℕ) → ℕ
digits_left v at n i s = digits_from v (take (n - i) (drop (at + i) s))

pub digits_next : (v at n i b : ℕ) (s : List ℕ) → b ≡ get_or s (at + i) 0 → i < n → at + n ≤ length s
    → digits_left v at n i s ≡ digits_left (v * 10 + b % 16) at n (i + 1) s
unfolding digits_from
digits_next v at n i b s q l f =
    let e : n - i ≡ suc (n - (i + 1)) = omega arith in
    let g : at + (i + 1) ≡ suc (at + i) = omega arith in
    rw (e, g, drop-cons s (at + i) 0 (omega arith), q)

-- i digits, each below 16, make a number below 16 ^ i
pub digits_room : (v i b : ℕ) → v < 16 ^ i → v * 10 + b % 16 < 16 ^ (i + 1)
digits_room v i b h = rw (add-one, pow-suc) (omega arith)

pub digits_fit : (v i k : ℕ) → v < 16 ^ i → i ≤ k → v < 16 ^ k
digits_fit v i k h g = omega (arith, pow-le-pow_right {n = 16} (omega arith) {i = i} {j = k} g)
