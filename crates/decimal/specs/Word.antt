-- A fixed word in a field.
use Rattle.std.specs.Prelude.{◌≡◌}
use Rattle.lists.specs.Basics.{ℕ, eqb, cond, List, length, eq-eqb}

-- the word t written over s: only where it has the length of s
unfoldable pub put_word : List ℕ → List ℕ → List ℕ
put_word s t = cond (eqb (length s) (length t)) t s

pub put_fits_lem : (s t : List ℕ) → length s ≡ length t → put_word s t ≡ t
unfolding put_word
put_fits_lem s t n = rw (eq-eqb (length s) (length t) n)
