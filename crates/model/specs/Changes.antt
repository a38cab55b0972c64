-- What a call wrote, told from the bytes of both sheets before and after it, so that a client stores just that. Bytes alone are judged: the sheets need not
-- be accepted.
use Rattle.std.specs.Prelude.{◌≡◌, ◌+◌, ◌-◌, ◌*◌, ◌/◌, ◌%◌, ◌^◌, ◌≤◌, ◌<◌, ◌∷◌}
use Rattle.lists.specs.Basics.{ℕ, zero, suc, eqb, leb, Bool, not, cond, List, [], length, take, drop}
use Rattle.lists.specs.Basics.{eq_list}
use Rattle.lists.specs.Pieces.{over}
use Rattle.model.specs.Types.{Some}
use Rattle.model.specs.Layouts.{record_bytes}
use Rattle.model.specs.Refusals.{Condition, refuse, refusal_of}
use Rattle.model.specs.SheetCalls.{unless_refused, line_at}
use Rattle.model.specs.ByteHistories.{Bytes}
use Rattle.model.specs.AtomicWrites.{scope_at}

-- an answer as one number: what is told where nothing is refused, or 1000 and the refusal
abbrev pub or_refusal : List Condition → ℕ → ℕ
or_refusal cs told = cond (eqb (refusal_of cs) 0) told (1000 + refusal_of cs)

-- Two record sheets of the same length, before and after.
module _ (before after : List ℕ) where
  -- line i has other bytes
  abbrev pub differs : ℕ → Bool
  differs i = not (eq_list (line_at before (Some i)) (line_at after (Some i)))

  -- how many of the first n lines reach to the last of them that differs, that one included; 0 where none differs
  unfoldable pub reach_of : ℕ → ℕ
  reach_of zero = 0
  reach_of (suc n) = cond (differs n) (suc n) (reach_of n)

  -- the index of the first of n lines from i on that differs; i + n where none differs
  unfoldable pub first_of : ℕ → ℕ → ℕ
  first_of i zero = i
  first_of i (suc n) = cond (differs i) i (first_of (suc i) n)

  -- how many lines reach to the last that differs
  abbrev pub last_reach : ℕ
  last_reach = reach_of (length before / record_bytes)

  -- the index of the first line that differs, 0 where none does
  abbrev pub first_differing : ℕ
  first_differing = first_of 0 last_reach

  -- the index of the first line that differs, and how many lines reach from it to the last; 0 and 0 where none differs
  abbrev pub lines_told : List ℕ
  lines_told = first_differing ∷ (last_reach - first_differing) ∷ []

  -- the sheet before, with the lines told stored over it from the sheet after
  abbrev pub lines_stored : List ℕ
  lines_stored = over before (first_differing * record_bytes) (take ((last_reach - first_differing) * record_bytes) (drop (first_differing * record_bytes) after))

-- by the lengths of both sheets before and after, and of the target; a number of the target, below 2 ^ 32, must count the lines
unfoldable pub length_conditions : (recordsBefore records coordinatorBefore coordinator target : ℕ) → List Condition
length_conditions recordsBefore records coordinatorBefore coordinator target =
    refuse 1 (not (eqb recordsBefore records))
    ∷ refuse 1 (not (eqb (recordsBefore % record_bytes) 0))
    ∷ refuse 1 (leb (2 ^ 32) (recordsBefore / record_bytes))
    ∷ refuse 1 (not (eqb target 2))
    ∷ refuse 2 (not (eqb coordinatorBefore coordinator))
    ∷ []

module _ (recordsBefore records coordinatorBefore coordinator : List ℕ) where
  -- 0 nothing, 1 the coordinator sheet, 2 record lines, 3 both
  abbrev pub sheets_told : ℕ
  sheets_told = cond (eq_list coordinatorBefore coordinator) 0 1 + cond (eqb (last_reach recordsBefore records) 0) 0 2

  module _ (target : List ℕ) where
    abbrev pub written_conditions : List Condition
    written_conditions = length_conditions (length recordsBefore) (length records) (length coordinatorBefore) (length coordinator) (length target)

    -- what was written, or 1000 and the refusal
    unfoldable pub written_number : ℕ
    written_number = or_refusal written_conditions sheets_told

    -- the target afterwards: the lines told, or as it was where the call is refused
    unfoldable pub written_lines : List ℕ
    written_lines = unless_refused written_conditions (lines_told recordsBefore records) target

-- what is told of both sheets, before and after
abbrev pub told_of : (before after : Bytes) → List ℕ → ℕ
told_of before after target = written_number before.records after.records before.coordinator after.coordinator target

-- What is told of one write by demand 2: nothing was written; or the coordinator sheet, and no record line; or record lines of one unit, every line of the
-- range told, and not the coordinator sheet.
pub data ToldAtomic (before after : Bytes) (told : ℕ) : Type 0 where
  nothing_told : told ≡ 0 → after ≡ before → ToldAtomic before after told
  coordinator_told : told ≡ 1 → after.records ≡ before.records → ToldAtomic before after told
  only_lines_told : told ≡ 2 → after.coordinator ≡ before.coordinator
      → ((i : ℕ) → first_differing before.records after.records ≤ i → i < last_reach before.records after.records
      → scope_at i before ≡ scope_at (first_differing before.records after.records) before)
      → ToldAtomic before after told
