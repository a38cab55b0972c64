-- The pass as the code's loop takes it, byte after byte: what is left from byte i on is the judgement of that byte and what is left after it.
use Rattle.std.specs.Prelude.{◌≡◌, ◌+◌, ◌-◌, ◌≤◌, ◌<◌, ◌&&◌, ◌∷◌}
use Rattle.lists.specs.Basics.{ℕ, Bool, true, and_assoc, and-true, List, [], length, drop, get_or, length-drop, drop-drop}
use Rattle.lists.specs.Basics.{drop-cons, get_or-drop, arith, add-one, tests}
use Rattle.std.proofs.Common.{add-zero}
use Rattle.line_bytes.specs.Tables.{judged_at, judged_line, rest, as_long}

-- what is left of a pass at byte i, where p is left of it: that byte and the rest
judged_next : (p i : ℕ) (low high also line : List ℕ) → i < length line
    → judged_line p (drop i low) (drop i high) (drop i also) (drop i line)
    ≡ (judged_at i p low high also line && judged_line (get_or line i 0) (drop (i + 1) low) (drop (i + 1) high) (drop (i + 1) also) (drop (i + 1) line))
unfolding judged_line
judged_next p i low high also line h = rw (drop-cons line i 0 h) (simp (get_or-drop, drop-drop, add-zero, add-one))

-- one turn of the code's loop: what is judged so far and what is left make up the whole
pub rest_next : (t r whole : Bool) (i : ℕ) (low high also line : List ℕ) → i < length line
    → (t && rest i low high also line) ≡ whole
    → r ≡ judged_at i (get_or line (i - 1) 0) low high also line
    → ((t && r) && rest (i + 1) low high also line) ≡ whole
rest_next t r whole i low high also line h e q =
    let j : i + 1 - 1 ≡ i = omega arith in
    let n = judged_next (get_or line (i - 1) 0) i low high also line h in
    rw (j, and_assoc t r, q, ← n) e

-- at the end nothing is left
judged_end : (t : Bool) (p : ℕ) (low high also line : List ℕ) → length line ≡ 0 → (t && judged_line p low high also line) ≡ t
unfolding judged_line
judged_end t p low high also [] n = and-true t
judged_end t p low high also (b ∷ s) n = absurd (omega arith)

pub rest_end : (t : Bool) (i : ℕ) (low high also line : List ℕ) → length line ≤ i → (t && rest i low high also line) ≡ t
rest_end t i low high also line h =
    judged_end t (get_or line (i - 1) 0) (drop i low) (drop i high) (drop i also) (drop i line) (simp length-drop (omega arith))

-- the tables' lengths, from the test
pub record Lengths (line low high also : List ℕ) : Type 0 where
  pub of_low : length low ≡ length line
  pub of_high : length high ≡ length line
  pub of_also : length also ≡ length line

pub lengths : (line low high also : List ℕ) → as_long line low high also ≡ true → Lengths line low high also
lengths line low high also e = record { of_low = search tests; of_high = search tests; of_also = search tests }
