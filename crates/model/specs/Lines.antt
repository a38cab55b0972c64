-- Fields, lines and sheets of lines, read and written by a layout: one codec for every kind of line.
-- A line is read into a row of numbers, one for each field.
use Rattle.std.specs.Prelude.{◌-◌, ◌*◌, ◌/◌, ◌&&◌, ◌∷◌, ◌++◌, Option, Some, None}
use Rattle.lists.specs.Basics.{ℕ, suc, eqb, leb, Bool, true, cond, List, [], map, length, take, drop, get_or, all, joined, pieces}
use Rattle.lists.specs.Basics.{eq_list}
use Rattle.decimal.specs.Field.{figure, field_text, number, is_number}
use Rattle.model.specs.Types.{Column, Kind, Figure, StateWord, BeforeWord, DecisionWord, UnitLetter}
use Rattle.model.specs.Layouts.{words, word_at, word_bytes}

-- the word t of ten bytes in a field of w columns
abbrev pub last_bytes : ℕ → List ℕ → List ℕ
last_bytes w t = drop (word_bytes - w) t

-- which of the words ts the field holds, counted from n
unfoldable pub word_from : ℕ → List (List ℕ) → ℕ → List ℕ → Option ℕ
word_from w [] n s = None
word_from w (t ∷ ts) n s = cond (eq_list s (last_bytes w t)) (Some n) (word_from w ts (suc n) s)

-- a choice by kind: a figure, or a word
abbrev pub by_kind {ℓ} : {A : Type ℓ} → Kind → A → A → A
by_kind Figure a b = a
by_kind StateWord a b = b
by_kind BeforeWord a b = b
by_kind DecisionWord a b = b
by_kind UnitLetter a b = b

-- what a field holds: its number, or `None`
unfoldable pub field_value : Column → List ℕ → Option ℕ
field_value c s = by_kind c.kind (figure c.low c.high s) (word_from c.width (words c.kind) 0 s)

-- the field's bytes for a number
unfoldable pub field_bytes : Column → ℕ → List ℕ
field_bytes c v = by_kind c.kind (field_text c.width v) (last_bytes c.width (word_at c.kind v))

-- a number that the field can hold
unfoldable pub in_range : Column → ℕ → Bool
in_range c v = leb c.low v && leb v c.high

-- a line's numbers; 0 for a field that cannot be read, so that any bytes have a row
unfoldable pub row_of : List Column → List ℕ → List ℕ
row_of [] s = []
row_of (c ∷ cs) s = number (field_value c (take c.width s)) ∷ row_of cs (drop c.width s)

-- every field can be read, and LF ends the line
unfoldable pub line_set : List Column → List ℕ → Bool
line_set [] s = eq_list s (10 ∷ [])
line_set (c ∷ cs) s = is_number (field_value c (take c.width s)) && line_set cs (drop c.width s)

-- the line for a row of numbers
unfoldable pub line_text : List Column → List ℕ → List ℕ
line_text [] vs = 10 ∷ []
line_text (c ∷ cs) vs = field_bytes c (get_or vs 0 0) ++ line_text cs (drop 1 vs)

-- every number of the row is in its field's range
unfoldable pub row_good : List Column → List ℕ → Bool
row_good [] vs = true
row_good (c ∷ cs) vs = in_range c (get_or vs 0 0) && row_good cs (drop 1 vs)

-- a sheet's lines of w bytes
unfoldable pub lines_of : ℕ → List ℕ → List (List ℕ)
lines_of w s = pieces w (length s / w) s

-- whole lines of w bytes, each of which can be read
unfoldable pub lines_set : List Column → ℕ → List ℕ → Bool
lines_set cs w s = eqb (length s) (length s / w * w) && all (line_set cs) (lines_of w s)

-- lines of text, each with LF
abbrev pub text : List (List ℕ) → List ℕ
text ls = joined (map (λ (l : List ℕ). l ++ (10 ∷ [])) ls)
