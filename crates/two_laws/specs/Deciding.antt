-- What decides the refusals of two sheets by bytes: whole lines, bytes of keys, and sheets filled with fixed text.
use Rattle.std.specs.Prelude.{◌+◌, ◌*◌, ◌/◌, ◌&&◌, ◌∷◌, ◌++◌}
use Rattle.lists.specs.Basics.{ℕ, eqb, Bool, true, false, not, List, [], map, length, take, drop, bytes, eq_list, joined}
use Rattle.model.specs.Layouts.{key_bytes}
use Rattle.model.specs.Lines.{lines_of}
use Rattle.model.specs.Records.{records_accepted}
use Rattle.model.specs.Coordinator.{coordinator_readable}
use Rattle.model.specs.Refusals.{Condition, refuse}
use Rattle.model.specs.SheetCalls.{all_issued}
use Rattle.model.specs.TwoSheets.{plain_bytes, bookkeeping_bytes, state_bytes, columns_in, end_of}

-- whole lines of w bytes
abbrev pub whole : ℕ → List ℕ → Bool
whole w s = eqb (length s) (length s / w * w)

-- the plain line has the key of the bookkeeping line, byte for byte, and ends in LF
unfoldable pub keys_agree : List ℕ → List ℕ → Bool
keys_agree p b = eq_list (take key_bytes p) (take key_bytes b) && eq_list (end_of p) (10 ∷ [])

-- as many lines, and keys that agree
unfoldable pub lines_agree : List (List ℕ) → List (List ℕ) → Bool
lines_agree [] [] = true
lines_agree [] (b ∷ bs) = false
lines_agree (p ∷ ps) [] = false
lines_agree (p ∷ ps) (b ∷ bs) = keys_agree p b && lines_agree ps bs

-- fixed text for state, version and TxID, for the columns, and for the fields behind them
unfoldable pub fixed_state : List ℕ
fixed_state = bytes " COMMITTED     1   0"

unfoldable pub fixed_columns : List ℕ
fixed_columns = bytes "        0        0"

unfoldable pub fixed_rest : List ℕ
fixed_rest = bytes "         -     0   0        0        0          0"

-- a plain line with fixed text for the remaining fields
unfoldable pub fill_plain : List ℕ → List ℕ
fill_plain p = take key_bytes p ++ (fixed_state ++ (columns_in p ++ (fixed_rest ++ end_of p)))

-- a bookkeeping line with columns 0
unfoldable pub fill_bookkeeping : List ℕ → List ℕ
fill_bookkeeping b = take (key_bytes + state_bytes) b ++ (fixed_columns ++ drop (key_bytes + state_bytes) b)

unfoldable pub filled_plain : List ℕ → List ℕ
filled_plain ps = joined (map fill_plain (lines_of plain_bytes ps))

unfoldable pub filled_bookkeeping : List ℕ → List ℕ
filled_bookkeeping bs = joined (map fill_bookkeeping (lines_of bookkeeping_bytes bs))

-- what is asked of lines of records, without spares, beside a coordinator sheet with letters of either case
unfoldable pub joined_conditions : List ℕ → List ℕ → List Condition
joined_conditions rs cs = refuse 1 (not (records_accepted rs)) ∷ refuse 2 (not (coordinator_readable cs && all_issued rs cs)) ∷ []
