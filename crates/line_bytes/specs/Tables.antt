-- The tables by which one pass judges a line: each byte by the column where it stands and by the byte on its left.
use Rattle.std.specs.Prelude.{◌+◌, ◌-◌, ◌<◌, ◌&&◌, ◌||◌, ◌∷◌, ◌++◌}
use Rattle.lists.specs.Basics.{ℕ, zero, suc, eqb, leb, ltb, Bool, true, cond, List, [], map, length, drop, get_or}
use Rattle.line_bytes.specs.Parts.{Part, text, number, width}

abbrev pub bit : Bool → ℕ
bit t = cond t 1 0

abbrev pub higher : ℕ → ℕ → ℕ
higher a b = cond (ltb a b) b a

abbrev pub lower : ℕ → ℕ → ℕ
lower a b = cond (ltb b a) b a

-- b may stand right of p: it lies from low to high, where a space on its left bars low itself; or it is `also`, after a space
abbrev pub judged : (p b low high also : ℕ) → Bool
judged p b low high also = eqb (lower (higher b (low + bit (eqb p 32))) high) b || (eqb p 32 && eqb b also)

-- the same of the byte at i of a line and the entries at i of its tables
abbrev pub judged_at : (i p : ℕ) (low high also line : List ℕ) → Bool
judged_at i p low high also line = judged p (get_or line i 0) (get_or low i 0) (get_or high i 0) (get_or also i 0)

-- every byte of a line may stand in its column, where p is left of the line
unfoldable pub judged_line : (p : ℕ) (low high also line : List ℕ) → Bool
judged_line p low high also [] = true
judged_line p low high also (b ∷ s) = judged p b (get_or low 0 0) (get_or high 0 0) (get_or also 0 0) && judged_line b (drop 1 low) (drop 1 high) (drop 1 also) s

-- each table has an entry for each byte of the line
abbrev pub as_long : (line low high also : List ℕ) → Bool
as_long line low high also = eqb (length low) (length line) && eqb (length high) (length line) && eqb (length also) (length line)

-- one more than any entry is still a byte
abbrev pub Room : List ℕ → Type 0
Room low = (i : ℕ) → get_or low i 0 < 255

-- what is left of a pass at byte i of a line, if i is not the first
abbrev pub rest : (i : ℕ) (low high also line : List ℕ) → Bool
rest i low high also line = judged_line (get_or line (i - 1) 0) (drop i low) (drop i high) (drop i also) (drop i line)

-- the tables are as long as the line, and every byte after the first may stand in its column
unfoldable pub line_ok : (line low high also : List ℕ) → Bool
line_ok line low high also = as_long line low high also && rest 1 low high also line

-- what the tables say of one column
pub record ColumnBytes : Type 0 where
  pub low : ℕ
  pub high : ℕ
  pub also : ℕ

-- the byte x and no other, whatever is left of it
abbrev pub fixed : ℕ → ColumnBytes
fixed x = record { low = x; high = x; also = x }

-- a column between a figure's first and its last: a digit that is no leading zero, or a space after a space
abbrev pub inner : ColumnBytes
inner = record { low = 48; high = 57; also = 32 }

-- a figure's last column: a digit, and not a lone zero where the figure is at least 1
abbrev pub ending : (least : ℕ) → ColumnBytes
ending least = record { low = 48; high = 57; also = cond (eqb least 0) 48 57 }

-- k inner columns and the last
unfoldable pub columns : (k least : ℕ) → List ColumnBytes
columns zero least = ending least ∷ []
columns (suc k) least = inner ∷ columns k least

unfoldable pub part_columns : Part → List ColumnBytes
part_columns (text t) = map fixed t
part_columns (number w least) = fixed 32 ∷ columns (w - 2) least

unfoldable pub layout_columns : List Part → List ColumnBytes
layout_columns [] = []
layout_columns (q ∷ qs) = part_columns q ++ layout_columns qs

-- the three tables of a row of columns
unfoldable pub lows : List ColumnBytes → List ℕ
lows ps = map (λ (x : ColumnBytes). x.low) ps

unfoldable pub highs : List ColumnBytes → List ℕ
highs ps = map (λ (x : ColumnBytes). x.high) ps

unfoldable pub alsos : List ColumnBytes → List ℕ
alsos ps = map (λ (x : ColumnBytes). x.also) ps

-- a layout that the tables can say: a figure has a first and a last column, and is at least 0 or at least 1
unfoldable pub part_set_well : Part → Bool
part_set_well (text t) = true
part_set_well (number w least) = leb 2 w && leb least 1

unfoldable pub set_well : List Part → Bool
set_well [] = true
set_well (q ∷ qs) = part_set_well q && set_well qs

-- the columns of a line
unfoldable pub total : List Part → ℕ
total [] = 0
total (q ∷ qs) = width q + total qs
