-- The four columns of a line's number, taken as one number and counted up. The step from each number to the next is tested for all of them.
use Rattle.std.specs.Prelude.{◌≡◌, ◌+◌, ◌-◌, ◌*◌, ◌/◌, ◌%◌, ◌^◌, ◌≤◌, ◌<◌}
use Rattle.std.proofs.Common.{◌∙◌}
use Rattle.lists.specs.Basics.{refl, ap, ℕ, suc, eqb, ltb, Bool, cond, arith, eqb-true, ltb-true}
use Rattle.decimal.specs.Field.{field_text, ahead}
use Rattle.line_bytes.specs.Loads.{loaded}
use Rattle.sheet_laws.specs.Fields.{all_below, below}

-- the columns of the number k, the first weighing least
abbrev pub columns : ℕ → ℕ
columns k = loaded (field_text 4 k)

-- what a column gains that takes a carry: a space becomes `1`, a digit the next one
abbrev pub gained : ℕ → ℕ
gained column = cond (eqb column 32) 17 1

-- the columns of the next number
unfoldable pub following : ℕ → ℕ
following n =
    cond (ltb n (57 * 2 ^ 24))
    (n + 2 ^ 24)
    (cond (eqb (n / 2 ^ 16 % 256) 57)
    (n - (9 * 2 ^ 24 + 9 * 2 ^ 16) + gained (n / 256 % 256) * 256)
    (n - 9 * 2 ^ 24 + gained (n / 2 ^ 16 % 256) * 2 ^ 16))

-- the columns of k + 1 follow those of k
counts : ℕ → Bool
counts k = eqb (following (columns k)) (columns (suc k))

pub columns_next : (k : ℕ) → k < 999 → following (columns k) ≡ columns (suc k)
unfolding all_below following field_text ahead loaded counts
columns_next k l = eqb-true (following (columns k)) (columns (suc k)) (below 999 counts refl k l)

-- columns are four bytes
fits : ℕ → Bool
fits k = ltb (columns k) (2 ^ 32)

columns_fit : (k : ℕ) → k ≤ 999 → columns k < 2 ^ 32
unfolding all_below field_text ahead loaded fits
columns_fit k l = ltb-true (columns k) (2 ^ 32) (below 1000 fits refl k (omega arith))

-- the same of what the code holds: the columns of k, and those that follow them
pub now_fits : (k number : ℕ) → number ≡ columns k → k ≤ 999 → number < 2 ^ 32
now_fits k number e l = omega (arith, columns_fit k l)

pub next_fits : (k number next : ℕ) → number ≡ columns k → next ≡ following number → k < 999 → next < 2 ^ 32
next_fits k number next e f l = now_fits (suc k) next (f ∙ (ap following e ∙ columns_next k l)) (omega arith)
