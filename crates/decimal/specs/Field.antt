-- A field of any width: the figure that it holds, and the text of a figure.
-- Document 01: "All figures are decimal, right-justified, space-filled, without leading zeros; zero is `0`, never blank."
use Rattle.std.specs.Prelude.{◌+◌, ◌-◌, ◌*◌, ◌/◌, ◌%◌, ◌&&◌, ◌∷◌, ◌++◌, Option, Some, None, is_some, unwrap_or}
use Rattle.lists.specs.Basics.{ℕ, zero, suc, eqb, leb, Bool, cond, List, []}
use Rattle.decimal.specs.Scan.{Scan}
use Rattle.decimal.specs.Scan.Scan.{Blank, Number, Wrong}

-- the byte is one of `0` to `9`
abbrev pub is_digit : ℕ → Bool
is_digit b = leb 48 b && leb b 57

-- one byte more: spaces stand before the figure only, and nothing follows a leading `0`
unfoldable pub stepped : Scan → ℕ → Scan
stepped Blank b = cond (eqb b 32) Blank (cond (is_digit b) (Number (b - 48)) Wrong)
stepped (Number v) b = cond (eqb v 0) Wrong (cond (is_digit b) (Number (v * 10 + (b - 48))) Wrong)
stepped Wrong b = Wrong

-- the bytes of a field, read from the left
unfoldable pub scanned : Scan → List ℕ → Scan
scanned st [] = st
scanned st (b ∷ s) = scanned (stepped st b) s

-- a figure from low to high; a blank field is none
unfoldable pub within : ℕ → ℕ → Scan → Option ℕ
within low high Blank = None
within low high (Number v) = cond (leb low v && leb v high) (Some v) None
within low high Wrong = None

-- what a field holds, where a figure from low to high is wanted
unfoldable pub figure : ℕ → ℕ → List ℕ → Option ℕ
figure low high s = within low high (scanned Blank s)

-- the number that was read, 0 where there is none
abbrev pub number : Option ℕ → ℕ
number r = unwrap_or r 0

-- a number was read
abbrev pub is_number : Option ℕ → Bool
is_number r = is_some r

-- a digit, or a space where nothing is left of the figure
abbrev pub column_byte : ℕ → ℕ
column_byte v = cond (eqb v 0) 32 (48 + v % 10)

-- w columns that hold the figure v, all of them spaces where v is 0
unfoldable pub ahead : ℕ → ℕ → List ℕ
ahead zero v = []
ahead (suc w) v = ahead w (v / 10) ++ (column_byte v ∷ [])

-- the field of w columns that holds the figure v
unfoldable pub field_text : ℕ → ℕ → List ℕ
field_text zero v = []
field_text (suc w) v = ahead w (v / 10) ++ ((48 + v % 10) ∷ [])
