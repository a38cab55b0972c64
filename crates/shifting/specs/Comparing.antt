-- The end of the widest spare is a narrower one.
use Rattle.std.specs.Prelude.{◌+◌, ◌-◌, ◌≤◌, ◌≡◌, ◌∷◌, ◌++◌}
use Rattle.lists.specs.Basics.{ℕ, zero, suc, ap, List, [], arith}
use Rattle.lists.specs.Basics.{length, take, drop, take_all, replicate, eq_list}
use Rattle.std.proofs.Common.{◌∙◌}
use Rattle.model.specs.Layouts.{record_bytes}
use Rattle.model.specs.Spares.{spare_line, is_spare}
use Rattle.sheet_laws.specs.Fronts.{length-spare}

-- the end of a spare is a narrower one
abbrev spaced : ℕ → List ℕ
spaced n = replicate n 32 ++ (10 ∷ [])

drop-spaces : (k n : ℕ) → k ≤ n → drop k (spaced n) ≡ spaced (n - k)
drop-spaces zero n l = let e : n ≡ n - 0 = omega arith in ap spaced e
drop-spaces (suc k) zero l = absurd (omega arith)
drop-spaces (suc k) (suc n) l = let e : n - k ≡ suc n - suc k = omega arith in drop-spaces k n (omega arith) ∙ ap spaced e

pub spare_end : (w : ℕ) → 1 ≤ w → w ≤ record_bytes → drop (record_bytes - w) (spare_line record_bytes) ≡ spare_line w
unfolding spare_line
spare_end w m l =
    let e : record_bytes - 1 - (record_bytes - w) ≡ w - 1 = omega arith in
    drop-spaces (record_bytes - w) (record_bytes - 1) (omega arith) ∙ ap spaced e

-- and lent as such
pub spare_lent : (line : List ℕ) (w : ℕ) → 1 ≤ w → w ≤ record_bytes → line ≡ spare_line record_bytes → take (record_bytes - (record_bytes - w)) (drop (record_bytes - w) line) ≡ spare_line w
spare_lent line w m l e =
    let n : length (spare_line w) ≡ w = length-spare w (omega arith) in
    ap (take (record_bytes - (record_bytes - w))) (ap (drop (record_bytes - w)) e ∙ spare_end w m l)
    ∙ take_all (record_bytes - (record_bytes - w)) (spare_line w) (omega arith)

-- so that a line of w bytes is one where it equals that end
pub compared : (s line : List ℕ) (at w : ℕ) → 1 ≤ w → w ≤ record_bytes → line ≡ spare_line record_bytes
    → eq_list (take (at + w - at) (drop at s)) (take (length line - (record_bytes - w)) (drop (record_bytes - w) line)) ≡ is_spare w (take w (drop at s))
compared s line at w m l e =
    let n : at + w - at ≡ w = omega arith in
    let k : length line ≡ record_bytes = ap length e ∙ length-spare record_bytes (omega arith) in
    rw (n, k, spare_lent line w m l e)
