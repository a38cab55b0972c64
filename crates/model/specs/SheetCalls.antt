-- The calls that take no transaction and no clock: the check, sheets to numbers and back, the look-up.
-- For each, its conditions of refusal in order, and what it answers or leaves in the lent target.
use Rattle.std.specs.Prelude.{◌+◌, ◌-◌, ◌*◌, ◌/◌, ◌&&◌, ◌∷◌, ◌++◌}
use Rattle.lists.specs.Basics.{ℕ, eqb, Bool, false, not, cond, List, [], map, length, take, drop, replicate, all}
use Rattle.model.specs.Types.{Key, Record, Rank, Ranked, Found, Some, None}
use Rattle.model.specs.Layouts.{record_bytes, coordinator_bytes, record_fields, head_fields}
use Rattle.model.specs.Records.{records, records_text, record_of, rows, rows_accepted, all_numbers, key_in_range, found, is_missing, ranked}
use Rattle.model.specs.Spares.{trimmed, filled_lines, spares_text, sized, record_lines, sheet_accepted}
use Rattle.model.specs.Coordinator.{coordinator_of, coordinator_readable, coordinator_accepted, coordinator_text, coordinator_from, coordinator_numbers, numbers_accepted}
use Rattle.model.specs.Coordinator.{names_issued}
use Rattle.model.specs.Refusals.{Condition, refuse, refusal_of}

-- a target after a call: what was to be written, or as it came where the call was refused
abbrev pub unless_refused : List Condition → List ℕ → List ℕ → List ℕ
unless_refused cs written target = cond (eqb (refusal_of cs) 0) written target

-- The check of both sheets.

-- no record of these lines names a number that has not been issued
unfoldable pub all_issued : List ℕ → List ℕ → Bool
all_issued rs cs = all (names_issued (coordinator_of cs).issued) (records rs)

-- of sheets with letters of either case
unfoldable pub readable_conditions : List ℕ → List ℕ → List Condition
readable_conditions rs cs = refuse 1 (not (sheet_accepted rs)) ∷ refuse 2 (not (coordinator_readable cs && all_issued (record_lines rs) cs)) ∷ []

unfoldable pub check_conditions : List ℕ → List ℕ → List Condition
check_conditions rs cs = refuse 1 (not (sheet_accepted rs)) ∷ refuse 2 (not (coordinator_accepted cs && all_issued (record_lines rs) cs)) ∷ []

-- Record sheet to numbers, one for each field, and back. The target is exactly as long as whole lines or records need. "Records keep spares": a spare is a record
-- of zeros.

unfoldable pub read_records_conditions : List ℕ → List ℕ → List Condition
read_records_conditions s target =
    refuse 1 (not (sheet_accepted s)) ∷ refuse 1 (not (eqb (length target) (length s / record_bytes * record_fields))) ∷ []

-- the numbers of its records, and of its spares
unfoldable pub sheet_numbers : List ℕ → List ℕ
sheet_numbers s = all_numbers (records (record_lines s)) ++ replicate ((length s / record_bytes - filled_lines record_bytes s) * record_fields) 0

unfoldable pub numbers_read : List ℕ → List ℕ → List ℕ
numbers_read s target = unless_refused (read_records_conditions s target) (sheet_numbers s) target

-- how many records up to the last that is no spare, and their numbers
unfoldable pub filled_rows : List ℕ → ℕ
filled_rows v = trimmed (all (eqb 0)) (rows v)

unfoldable pub rows_front : List ℕ → List ℕ
rows_front v = take (filled_rows v * record_fields) v

-- the numbers of a record sheet that refusal 1 lets pass
unfoldable pub all_rows_accepted : List ℕ → Bool
all_rows_accepted v = sized record_fields v && rows_accepted (rows_front v)

-- the record sheet for them
unfoldable pub rows_text : List ℕ → List ℕ
rows_text v = records_text (map record_of (rows (rows_front v))) ++ spares_text record_bytes (length v / record_fields - filled_rows v)

unfoldable pub write_records_conditions : List ℕ → List ℕ → List Condition
write_records_conditions v target = refuse 1 (not (all_rows_accepted v)) ∷ refuse 1 (not (eqb (length target) (length v / record_fields * record_bytes))) ∷ []

unfoldable pub records_written : List ℕ → List ℕ → List ℕ
records_written v target = unless_refused (write_records_conditions v target) (rows_text v) target

-- Coordinator sheet to numbers, ten for the head and one for each line, and back.

unfoldable pub read_coordinator_conditions : List ℕ → List ℕ → List Condition
read_coordinator_conditions s target =
    refuse 1 (not (eqb (length target) (head_fields + length (drop coordinator_bytes s) / coordinator_bytes)))
    ∷ refuse 2 (not (coordinator_accepted s))
    ∷ []

unfoldable pub decisions_read : List ℕ → List ℕ → List ℕ
decisions_read s target = unless_refused (read_coordinator_conditions s target) (coordinator_numbers (coordinator_of s)) target

unfoldable pub write_coordinator_conditions : List ℕ → List ℕ → List Condition
write_coordinator_conditions v target =
    refuse 1 (not (eqb (length target) (coordinator_bytes + length (drop head_fields v) * coordinator_bytes)))
    ∷ refuse 2 (not (numbers_accepted v))
    ∷ []

unfoldable pub coordinator_written : List ℕ → List ℕ → List ℕ
coordinator_written v target = unless_refused (write_coordinator_conditions v target) (coordinator_text (coordinator_from v)) target

-- The look-up of a key, and its companion. Document 02, note 5: "The look-up's companion call now answers how many lines have smaller keys, and whether the key has
-- a line itself; it no longer gives 6."

unfoldable pub rank_conditions : List ℕ → Key → List Condition
rank_conditions s k = refuse 1 (not (sheet_accepted s)) ∷ refuse 5 (not (key_in_range k)) ∷ []

-- beside a refusal nothing is told
abbrev pub told_rank : List Condition → Rank → Ranked
told_rank cs r =
    cond (eqb (refusal_of cs) 0) (record { refusal = 0; rank = r }) (record { refusal = refusal_of cs; rank = record { below = 0; present = false } })

unfoldable pub rank_on : List ℕ → Key → Ranked
rank_on s k = told_rank (rank_conditions s k) (ranked k (records (record_lines s)))

-- an empty part where the companion is refused, or tells that the key has no line
unfoldable pub lookup_conditions : List ℕ → Key → List Condition
lookup_conditions s k = rank_conditions s k ++ (refuse 6 (is_missing (found k (records (record_lines s)))) ∷ [])

-- which line has the key
unfoldable pub line_on : List ℕ → Key → Ranked
line_on s k = told_rank (lookup_conditions s k) (ranked k (records (record_lines s)))

-- the same of a key in range, among lines in order
abbrev pub line_among : List Record → Key → Ranked
line_among rs k = told_rank (refuse 6 (is_missing (found k rs)) ∷ []) (ranked k rs)

-- the bytes of the line at an index, none where nothing was found
unfoldable pub line_at : List ℕ → Found → List ℕ
line_at s (Some i) = take record_bytes (drop (i * record_bytes) s)
line_at s None = []

-- the line that has the key, or nothing
unfoldable pub looked_up : List ℕ → Key → List ℕ
looked_up s k = unless_refused (lookup_conditions s k) (line_at s (found k (records (record_lines s)))) []
