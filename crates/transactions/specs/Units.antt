-- The letter of a storage, among the bytes of the head that say the letters: at its index, and that of no letter where there is none.
use Rattle.std.specs.Prelude.{◌≡◌, ◌∷◌, ◌-◌, ◌≤◌, ◌<◌}
use Rattle.std.specs.Prelude.{Option, slice_get}
use Rattle.model.specs.Types.{Some, None}
use Rattle.model.specs.Coordinator.{Letter}
use Rattle.std.proofs.Common.{◌∙◌}
use Rattle.lists.specs.Basics.{refl, ℕ, zero, suc, List, map, length, get_or, length-map, get_or-map, get_or-eq_default, arith, []}
use Rattle.lists.specs.All.{get_or_any}
use Rattle.model.specs.Groups.{no_letter, letter_for}
unfoldable pub use Rattle.sheet_laws.specs.Letters.{unit_in, letter_in, units_in}
pub use Rattle.sheet_laws.specs.Letters.{units-said}

pub letter-none : (ls : List ℕ) (n : ℕ) → n < 1 → letter_for n (units_in ls) ≡ no_letter
unfolding letter_for
letter-none ls zero l = refl
letter-none ls (suc i) l = absurd (omega arith)

-- the letter that a byte is, and that of no letter for no byte
abbrev pub letter_or_none : Option ℕ → Letter
letter_or_none None = no_letter
letter_or_none (Some b) = letter_in b

pub letter_got : (ls : List ℕ) (i : ℕ) → letter_for (suc i) (units_in ls) ≡ letter_or_none (slice_get ls i)
unfolding letter_for units_in
letter_got [] i = refl
letter_got (b ∷ ls) zero = refl
letter_got (b ∷ ls) (suc i) = letter_got ls i

-- the same by the index
pub letter_past : (ls : List ℕ) (n : ℕ) → 1 ≤ n → length ls ≤ n - 1 → letter_for n (units_in ls) ≡ no_letter
unfolding letter_for units_in
letter_past ls zero l m = absurd (omega arith)
letter_past ls (suc i) l m =
    let h : length (map letter_in ls) ≤ i = omega (arith, length-map ls letter_in) in
    get_or-eq_default (map letter_in ls) no_letter h

pub letter_at : (ls : List ℕ) (n : ℕ) → 1 ≤ n → n - 1 < length ls → letter_for n (units_in ls) ≡ letter_in (get_or ls (n - 1) 0)
unfolding letter_for units_in
letter_at ls zero l m = absurd (omega arith)
letter_at ls (suc i) l m =
    let e : suc i - 1 ≡ i = omega arith in
    let h : i < length (map letter_in ls) = omega (arith, length-map ls letter_in) in
    rw e (get_or_any (map letter_in ls) i no_letter (letter_in 0) h ∙ get_or-map letter_in ls i 0)
