-- The plain sheet and the bookkeeping sheet, joined and apart. Document 02, note 4: "Some saddlers' fitting sheets may not be widened. Add a plain sheet with key,
-- column 1 and column 2, and a bookkeeping sheet with key and the remaining fields, as in source document 000's decoupling."
use Rattle.std.specs.Prelude.{◌+◌, ◌*◌, ◌&&◌, ◌∷◌, ◌++◌}
use Rattle.lists.specs.Basics.{ℕ, Bool, true, false, not, List, [], map, take, drop, get_or, all, joined}
use Rattle.types.specs.declared.State.TheVariants.{Committed}
use Rattle.types.specs.declared.Before.TheVariants as Was
use Rattle.model.specs.Types.{Key, Column, Record, Ranked, Found, Some, None}
use Rattle.model.specs.Layouts.{record_layout, image_field, before_state_field, key_layout, columns_layout, key_bytes, record_bytes}
use Rattle.model.specs.Lines.{row_of, lines_of, lines_set}
use Rattle.model.specs.Records.{state_of, before_of, key_of, image_from, no_image, records_good, records, records_accepted, same_key, key_in_range, found, is_missing, ranked}
use Rattle.model.specs.Coordinator.{coordinator_of, coordinator_readable, names_issued}
use Rattle.model.specs.Refusals.{Condition, refuse}
use Rattle.model.specs.SheetCalls.{told_rank}

-- Layouts: "a plain sheet with key, column 1 and column 2, and a bookkeeping sheet with key and the remaining fields .. with widths and field order as in document 01".

unfoldable pub plain_layout : List Column
plain_layout = key_layout ++ columns_layout

-- the columns stand between TxID and the before state
abbrev pub column_field : ℕ
column_field = image_field + 2

unfoldable pub bookkeeping_layout : List Column
bookkeeping_layout = take column_field record_layout ++ drop before_state_field record_layout

-- bytes of a plain line, and of a bookkeeping line, LF included
abbrev pub plain_bytes : ℕ
plain_bytes = 39

abbrev pub bookkeeping_bytes : ℕ
bookkeeping_bytes = 90

-- bytes of state, version and TxID, and of the two columns
abbrev pub state_bytes : ℕ
state_bytes = 20

abbrev pub columns_bytes : ℕ
columns_bytes = 18

-- A line joined and apart.

-- the columns of a plain line, and the LF behind them
abbrev pub columns_in : List ℕ → List ℕ
columns_in p = take columns_bytes (drop key_bytes p)

abbrev pub end_of : List ℕ → List ℕ
end_of p = drop (key_bytes + columns_bytes) p

-- key, state, version and TxID from the bookkeeping line, the columns from the plain line, the rest from the bookkeeping line
unfoldable pub join_line : List ℕ → List ℕ → List ℕ
join_line p b = take (key_bytes + state_bytes) b ++ (columns_in p ++ drop (key_bytes + state_bytes) b)

unfoldable pub plain_line : List ℕ → List ℕ
plain_line l = take key_bytes l ++ (take columns_bytes (drop (key_bytes + state_bytes) l) ++ (10 ∷ []))

unfoldable pub bookkeeping_line : List ℕ → List ℕ
bookkeeping_line l = take (key_bytes + state_bytes) l ++ drop (key_bytes + state_bytes + columns_bytes) l

-- Sheets joined and apart.

-- line by line, as far as both go
unfoldable pub join_lines : List (List ℕ) → List (List ℕ) → List (List ℕ)
join_lines [] bs = []
join_lines (p ∷ ps) [] = []
join_lines (p ∷ ps) (b ∷ bs) = join_line p b ∷ join_lines ps bs

unfoldable pub joined_sheet : List ℕ → List ℕ → List ℕ
joined_sheet ps bs = joined (join_lines (lines_of plain_bytes ps) (lines_of bookkeeping_bytes bs))

unfoldable pub plain_part : List ℕ → List ℕ
plain_part s = joined (map plain_line (lines_of record_bytes s))

unfoldable pub bookkeeping_part : List ℕ → List ℕ
bookkeeping_part s = joined (map bookkeeping_line (lines_of record_bytes s))

-- Both without spares (TwoSpares has the others). "Refusal 1 is for either sheet alone": the rules that speak of its own fields only.

-- what a plain line's row says, beside COMMITTED and version 1
unfoldable pub plain_said : List ℕ → Record
plain_said v =
    record {
      key = key_of v;
      state = Committed;
      image = record { version = 1; txid = 0; column1 = get_or v 5 0; column2 = get_or v 6 0 };
      prior = Was.Nothing;
      before = no_image;
      clock = 0;
    }

-- what a bookkeeping line's row says, beside columns 0
unfoldable pub bookkeeping_said : List ℕ → Record
bookkeeping_said v =
    record {
      key = key_of v;
      state = state_of (get_or v 5 0);
      image = record { version = get_or v 6 0; txid = get_or v 7 0; column1 = 0; column2 = 0 };
      prior = before_of (get_or v 8 0);
      before = image_from 9 v;
      clock = get_or v 13 0;
    }

unfoldable pub plain_record : List ℕ → Record
plain_record p = plain_said (row_of plain_layout p)

unfoldable pub bookkeeping_record : List ℕ → Record
bookkeeping_record b = bookkeeping_said (row_of bookkeeping_layout b)

unfoldable pub plain_alone : List ℕ → Bool
plain_alone ps =
    lines_set plain_layout plain_bytes ps && records_good (map plain_record (lines_of plain_bytes ps))

unfoldable pub bookkeeping_alone : List ℕ → Bool
bookkeeping_alone bs =
    lines_set bookkeeping_layout bookkeeping_bytes bs && records_good (map bookkeeping_record (lines_of bookkeeping_bytes bs))

-- "13: the two sheets differ in number of lines or in a key"
unfoldable pub same_keys_in : List Record → List Record → Bool
same_keys_in [] [] = true
same_keys_in [] (b ∷ bs) = false
same_keys_in (p ∷ ps) [] = false
same_keys_in (p ∷ ps) (b ∷ bs) = same_key p.key b.key && same_keys_in ps bs

unfoldable pub same_keys : List ℕ → List ℕ → Bool
same_keys ps bs =
    same_keys_in (map plain_record (lines_of plain_bytes ps)) (map bookkeeping_record (lines_of bookkeeping_bytes bs))

-- "Refusal 1 is for either sheet alone and, where 13 doesn't apply, for the joined one."
unfoldable pub lines_conditions : List ℕ → List ℕ → List Condition
lines_conditions ps bs =
    refuse 1 (not (plain_alone ps))
    ∷ refuse 1 (not (bookkeeping_alone bs))
    ∷ refuse 1 (same_keys ps bs && not (records_accepted (joined_sheet ps bs)))
    ∷ []

-- and 13, as far as both sheets are asked alone
unfoldable pub key_conditions : List ℕ → List ℕ → List Condition
key_conditions ps bs = lines_conditions ps bs ++ (refuse 13 (not (same_keys ps bs)) ∷ [])

-- the coordinator sheet, with letters of either case, and the numbers that the bookkeeping sheet names
unfoldable pub coordinator_fits : List ℕ → List ℕ → Bool
coordinator_fits bs cs = coordinator_readable cs && all (names_issued (coordinator_of cs).issued) (map bookkeeping_record (lines_of bookkeeping_bytes bs))

unfoldable pub full_conditions : List ℕ → List ℕ → List ℕ → List Condition
full_conditions ps bs cs = lines_conditions ps bs ++ (refuse 2 (not (coordinator_fits bs cs)) ∷ refuse 13 (not (same_keys ps bs)) ∷ [])

-- The look-up's companion, which answers of the joined sheet (note 5).

unfoldable pub rank_full_conditions : List ℕ → List ℕ → Key → List Condition
rank_full_conditions ps bs k = key_conditions ps bs ++ (refuse 5 (not (key_in_range k)) ∷ [])

unfoldable pub rank_full : List ℕ → List ℕ → Key → Ranked
rank_full ps bs k = told_rank (rank_full_conditions ps bs k) (ranked k (records (joined_sheet ps bs)))

-- Which line has the key.

unfoldable pub lookup_full_conditions : List ℕ → List ℕ → Key → List Condition
lookup_full_conditions ps bs k = rank_full_conditions ps bs k ++ (refuse 6 (is_missing (found k (records (joined_sheet ps bs)))) ∷ [])

unfoldable pub line_full : List ℕ → List ℕ → Key → Ranked
line_full ps bs k = told_rank (lookup_full_conditions ps bs k) (ranked k (records (joined_sheet ps bs)))

-- the sheets by the numbers that name them
abbrev pub plain_named : ℕ
plain_named = 0

abbrev pub bookkeeping_named : ℕ
bookkeeping_named = 1

-- the bytes of the line at an index, none where nothing was found
unfoldable pub line_of_sheet : ℕ → List ℕ → Found → List ℕ
line_of_sheet width s (Some i) = take width (drop (i * width) s)
line_of_sheet width s None = []
