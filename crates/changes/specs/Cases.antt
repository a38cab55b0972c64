-- Cases by computation: three lines of spaces, and a coordinator sheet of two bytes, before and after.
use Rattle.std.specs.Prelude.{◌≡◌, ◌-◌, ◌*◌, ◌∷◌}
use Rattle.lists.specs.Basics.{refl, ℕ, List, [], set, take, replicate}
use Rattle.model.specs.Layouts.{record_bytes}
use Rattle.model.specs.Refusals.{refusal_of}
use Rattle.model.specs.SheetCalls.{line_at}
use Rattle.model.specs.Changes.{reach_of, first_of, length_conditions, written_number, written_lines}

abbrev blank : List ℕ
blank = replicate (3 * record_bytes) 32

-- a byte of the second line and one of the third differ
abbrev filled : List ℕ
filled = set (set blank record_bytes 65) (3 * record_bytes - 1) 65

abbrev decisions : List ℕ
decisions = 1 ∷ 2 ∷ []

abbrev decided : List ℕ
decided = 1 ∷ 3 ∷ []

abbrev target : List ℕ
target = 8 ∷ 9 ∷ []

abbrev Tells : List ℕ → List ℕ → List ℕ → List ℕ → ℕ → List ℕ → Type 0
Tells rs rs' cs cs' n lines = (written_number rs rs' cs cs' target ≡ n) × (written_lines rs rs' cs cs' target ≡ lines)

nothing_written : Tells blank blank decisions decisions 0 (0 ∷ 0 ∷ [])
unfolding written_number written_lines length_conditions refusal_of reach_of first_of line_at
nothing_written = (refl, refl)

coordinator_written_lem : Tells blank blank decisions decided 1 (0 ∷ 0 ∷ [])
unfolding written_number written_lines length_conditions refusal_of reach_of first_of line_at
coordinator_written_lem = (refl, refl)

lines_written_lem : Tells blank filled decisions decisions 2 (1 ∷ 2 ∷ [])
unfolding written_number written_lines length_conditions refusal_of reach_of first_of line_at
lines_written_lem = (refl, refl)

both-written : Tells blank filled decisions decided 3 (1 ∷ 2 ∷ [])
unfolding written_number written_lines length_conditions refusal_of reach_of first_of line_at
both-written = (refl, refl)

-- 1 before 2: the record sheets differ in length, and so do the others
records_refused : Tells blank (take 196 blank) decisions [] 1001 target
unfolding written_number written_lines length_conditions refusal_of
records_refused = (refl, refl)

line_refused : Tells (take (record_bytes - 1) blank) (take (record_bytes - 1) blank) decisions decisions 1001 target
unfolding written_number written_lines length_conditions refusal_of
line_refused = (refl, refl)

coordinator_refused : Tells blank filled decisions [] 1002 target
unfolding written_number written_lines length_conditions refusal_of
coordinator_refused = (refl, refl)
