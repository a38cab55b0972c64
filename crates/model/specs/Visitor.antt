-- The visiting program, from its whole input to its whole output. Document 01, "The visiting program".
use Rattle.std.specs.Prelude.{◌+◌, ◌*◌, ◌&&◌, ◌∷◌, ◌++◌}
use Rattle.lists.specs.Basics.{ℕ, eqb, Bool, not, cond, List, [], length, take, drop, get_or, bytes}
use Rattle.decimal.specs.Field.{field_text}
use Rattle.model.specs.Types.{Key, Column}
use Rattle.model.specs.Layouts.{figures, record_bytes, coordinator_bytes}
use Rattle.model.specs.Lines.{row_of, line_set}
use Rattle.model.specs.Records.{keys_in, records}
use Rattle.model.specs.Spares.{record_lines}
use Rattle.model.specs.Refusals.{Condition, refuse, refusal_of}
use Rattle.model.specs.SheetCalls.{check_conditions}
use Rattle.model.specs.Results.{visit}
use Rattle.model.specs.ByteHistories.{Bytes, after_on}

-- "a line of record lines (4 columns), coordinator lines without head (4), clock (11)"
unfoldable pub first_layout : List Column
first_layout = figures 4 0 9999 ∷ figures 4 0 9999 ∷ figures 11 0 4294967295 ∷ []

abbrev pub first_bytes : ℕ
first_bytes = 20

-- number i of the first line
abbrev pub first_number : ℕ → List ℕ → ℕ
first_number i input = get_or (row_of first_layout (take first_bytes input)) i 0

-- bytes of the coordinator sheet, head included
abbrev pub coordinator_size : List ℕ → ℕ
coordinator_size input = (first_number 1 input + 1) * coordinator_bytes

-- "A first line of another form, a clock above 4294967295, or numbers of lines that don't fit the input, are refusal 1."
unfoldable pub input_fits : List ℕ → Bool
input_fits input =
    line_set first_layout (take first_bytes input)
    && eqb (length input) (first_bytes + coordinator_size input + first_number 0 input * record_bytes)

-- "the coordinator sheet; the record sheet"
abbrev pub input_sheets : List ℕ → Bytes
input_sheets input =
    record { records = drop (first_bytes + coordinator_size input) input; coordinator = take (coordinator_size input) (drop first_bytes input) }

unfoldable pub input_conditions : List ℕ → List Condition
input_conditions input = refuse 1 (not (input_fits input)) ∷ check_conditions (input_sheets input).records (input_sheets input).coordinator

-- the keys visited one after another, "passing over 12"
unfoldable pub visited_all : ℕ → List Key → Bytes → Bytes
visited_all now [] b = b
visited_all now (k ∷ ks) b = visited_all now ks (after_on (visit k now) b)

abbrev pub keys_on : Bytes → List Key
keys_on b = keys_in (records (record_lines b.records))

-- "It visits all lines in order, then all again"
unfoldable pub swept : ℕ → Bytes → Bytes
swept now b = visited_all now (keys_on b ++ keys_on b) b

-- "prints both sheets in that order"
abbrev pub printed : Bytes → List ℕ
printed b = b.coordinator ++ b.records

-- "`REFUSED` and the number in 3 columns, LF last"
abbrev pub refused_text : ℕ → List ℕ
refused_text n = bytes "REFUSED" ++ field_text 3 n ++ (10 ∷ [])

unfoldable pub visitor_output : List ℕ → List ℕ
visitor_output input =
    cond (eqb (refusal_of (input_conditions input)) 0) (printed (swept (first_number 2 input) (input_sheets input)))
    (refused_text (refusal_of (input_conditions input)))
