-- A line as a row of parts, each a fixed text or a figure: the plain meaning that the pass over tables is proved equal to.
use Rattle.std.specs.Prelude.{◌-◌, ◌^◌, ◌&&◌, ◌∷◌}
use Rattle.lists.specs.Basics.{ℕ, eqb, Bool, List, [], length, take, drop, eq_list}
use Rattle.decimal.specs.Field.{figure, is_number}

-- a fixed text, or a figure of at least `least` in `columns` columns of which the first is blank
pub data Part : Type 0 where
  text : List ℕ → Part
  number : (columns least : ℕ) → Part

unfoldable pub width : Part → ℕ
width (text t) = length t
width (number w least) = w

-- the largest figure that leaves the first of w columns blank
abbrev pub most : ℕ → ℕ
most w = 10 ^ (w - 1) - 1

unfoldable pub part_ok : Part → List ℕ → Bool
part_ok (text t) s = eq_list s t
part_ok (number w least) s = eqb (length s) w && is_number (figure least (most w) s)

-- the line is made of these parts and nothing more
unfoldable pub parts_ok : List Part → List ℕ → Bool
parts_ok [] s = eq_list s []
parts_ok (p ∷ ps) s = part_ok p (take (width p) s) && parts_ok ps (drop (width p) s)
