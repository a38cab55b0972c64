-- A plain sheet and a bookkeeping sheet that may end in spares, joined by their lines before these. Document 02, note 6: "On note 4's sheets a spare is spaces to each width,
-- and a spare on one beside a record line on the other is 13."
use Rattle.std.specs.Prelude.{◌/◌, ◌&&◌, ◌∷◌, ◌++◌}
use Rattle.lists.specs.Basics.{ℕ, eqb, Bool, not, cond, List, [], length}
use Rattle.model.specs.Types.{Key, Ranked, Found}
use Rattle.model.specs.Records.{records, records_accepted, key_in_range, found, is_missing, ranked}
use Rattle.model.specs.Spares.{front, sized}
use Rattle.model.specs.Refusals.{Condition, refuse}
use Rattle.model.specs.SheetCalls.{unless_refused, told_rank}
use Rattle.model.specs.TwoSheets.{plain_bytes, bookkeeping_bytes, joined_sheet, plain_alone, bookkeeping_alone, same_keys, coordinator_fits, line_of_sheet, plain_named}
use Rattle.model.specs.TwoSheets.{bookkeeping_named}

-- the lines of either sheet before its spares
abbrev pub plain_lines : List ℕ → List ℕ
plain_lines ps = front plain_bytes ps

abbrev pub bookkeeping_lines : List ℕ → List ℕ
bookkeeping_lines bs = front bookkeeping_bytes bs

-- these joined
abbrev pub joined_lines : List ℕ → List ℕ → List ℕ
joined_lines ps bs = joined_sheet (plain_lines ps) (bookkeeping_lines bs)

-- "13: the two sheets differ in number of lines or in a key", and where a spare of one stands beside a record line of the other
unfoldable pub as_many : List ℕ → List ℕ → Bool
as_many ps bs = eqb (length ps / plain_bytes) (length bs / bookkeeping_bytes)

unfoldable pub keys_match : List ℕ → List ℕ → Bool
keys_match ps bs = as_many ps bs && same_keys (plain_lines ps) (bookkeeping_lines bs)

-- "Refusal 1 is for either sheet alone and, where 13 doesn't apply, for the joined one."
unfoldable pub form_conditions : List ℕ → List ℕ → List Condition
form_conditions ps bs =
    refuse 1 (not (sized plain_bytes ps && plain_alone (plain_lines ps)))
    ∷ refuse 1 (not (sized bookkeeping_bytes bs && bookkeeping_alone (bookkeeping_lines bs)))
    ∷ refuse 1 (keys_match ps bs && not (records_accepted (joined_lines ps bs)))
    ∷ []

-- "Errors: 13, after 2"
unfoldable pub two_conditions : List ℕ → List ℕ → List ℕ → List Condition
two_conditions ps bs cs =
    form_conditions ps bs ++ (refuse 2 (not (coordinator_fits (bookkeeping_lines bs) cs)) ∷ refuse 13 (not (keys_match ps bs)) ∷ [])

-- The look-up's companion, which answers of the joined sheet (note 5).

unfoldable pub rank_two_conditions : List ℕ → List ℕ → Key → List Condition
rank_two_conditions ps bs k = form_conditions ps bs ++ (refuse 13 (not (keys_match ps bs)) ∷ refuse 5 (not (key_in_range k)) ∷ [])

unfoldable pub rank_two : List ℕ → List ℕ → Key → Ranked
rank_two ps bs k = told_rank (rank_two_conditions ps bs k) (ranked k (records (joined_lines ps bs)))

-- The look-up "hands back the line of whichever sheet is named, an empty part under 13 too".

unfoldable pub lookup_two_conditions : List ℕ → List ℕ → Key → List Condition
lookup_two_conditions ps bs k = rank_two_conditions ps bs k ++ (refuse 6 (is_missing (found k (records (joined_lines ps bs)))) ∷ [])

unfoldable pub line_two : List ℕ → List ℕ → Key → Ranked
line_two ps bs k = told_rank (lookup_two_conditions ps bs k) (ranked k (records (joined_lines ps bs)))

-- the line that has the key, or nothing; nothing too where no sheet has that name
unfoldable pub looked_up_two : List ℕ → List ℕ → ℕ → Key → List ℕ
looked_up_two ps bs named k =
    unless_refused (lookup_two_conditions ps bs k)
    (cond (eqb named plain_named) (line_of_sheet plain_bytes ps at) (cond (eqb named bookkeeping_named) (line_of_sheet bookkeeping_bytes bs at) []))
    []
  where
    at : Found
    at = found k (records (joined_lines ps bs))
