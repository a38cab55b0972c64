-- Cases of document 02's requests as one table, and one theorem: each follows from the definitions by computation.
use Rattle.std.specs.Prelude.{◌≡◌, ◌∷◌, ◌++◌}
use Rattle.lists.specs.Basics.{refl, ℕ, Bool, true, false, List, [], map, take, replicate, bytes}
use Rattle.model.specs.Types.{Key, Ranked}
use Rattle.model.specs.Lines.{text}
use Rattle.model.specs.SheetCalls.{rank_on}
use Rattle.model.specs.Transactions.{open_phase, undo_phase}
use Rattle.model.specs.Coordinator.{Letter, coordinator_of}
use Rattle.model.specs.Groups.{unit_fields}
use Rattle.model.specs.Results.{visit, add, remove, answer_of}
use Rattle.model.specs.Operations.{Operation, once, close, response_on, sheet_left, coordinator_left}
use Rattle.model.specs.Cases.{Case, cases, told, transaction_as, committed_line, written_line, coordinator_with, undecided_line, decided_line, aborted_line}
use Rattle.lists.specs.Each as Each
use Rattle.model.specs.Records as Records
use Rattle.model.specs.SheetCalls as SheetCalls
use Rattle.model.specs.Writes as Writes
use Rattle.model.specs.Conditions as Conditions
use Rattle.model.specs.Closing as Closing
use Rattle.model.specs.Operations as Operations

-- keys of one partition
abbrev pub key_at : ℕ → Key
key_at clustering = record { storage = 1; namespace = 1; table = 1; partition = 1; clustering = clustering }

-- What an operation leaves of both sheets, and what it tells: a refusal; of a visit 0 to 3, of a close the report, phase, place and verdict.
abbrev pub operation_case : Operation → (lines : List (List ℕ)) (coordinator : List ℕ) (lines' : List (List ℕ)) (coordinator' answer : List ℕ) → Case
operation_case o lines cs lines' cs' answer =
    record {
      given =
          sheet_left (text lines) (response_on o (text lines) cs)
          ++ (coordinator_left cs (response_on o (text lines) cs) ++ told (answer_of (response_on o (text lines) cs)));
      expected = text lines' ++ (cs' ++ answer);
    }

-- NOTE 1: the close, at 7000, of an order that puts one line.

abbrev pub close_case : (serializable phase verdict limit : ℕ) → List ℕ → List ℕ → List ℕ → List ℕ → List ℕ → Case
close_case serializable phase verdict limit line own line' own' answer =
    operation_case (close (transaction_as serializable phase verdict) 7000 limit)
    (line ∷ []) (coordinator_with own) (line' ∷ []) (coordinator_with own') answer

-- NOTE 2: an order, number 1, with a line prepared at 0 and another at 10000, and a line of number 2.

abbrev pub first_line : List ℕ
first_line = bytes " 1  1  1     1     1  PREPARED     1   1      500      250    ABSENT     0   0        0        0          0"

abbrev pub fresh_line : List ℕ
fresh_line = bytes " 1  1  1     1     2  PREPARED     1   2       70       80    ABSENT     0   0        0        0      24000"

abbrev pub last_line : List ℕ
last_line = bytes " 1  1  1     1     3  PREPARED     1   1      600      300    ABSENT     0   0        0        0      10000"

abbrev pub first_forward : List ℕ
first_forward = bytes " 1  1  1     1     1 COMMITTED     1   1      500      250         -     0   0        0        0          0"

abbrev pub orders_with : List ℕ → List ℕ
orders_with own = text (bytes "   2 SSSSSSSSS" ∷ own ∷ bytes "   2         -" ∷ [])

abbrev pub visit_at : (clustering now : ℕ) → Operation
visit_at clustering now = once (visit (key_at clustering) now)

-- "every line PREPARED by it": at 20000 the first has expired and the last hasn't, at 25000 both have
abbrev pub live_order : List (List ℕ) → List Case
live_order lines =
    map (λ (o : Operation). operation_case o lines (orders_with (bytes "   1         -")) lines (orders_with (bytes "   1         -")) (12 ∷ []))
    (visit_at 1 20000 ∷ visit_at 3 20000 ∷ visit_at 1 24999 ∷ [])
    ++ map (λ (o : Operation). operation_case o lines (orders_with (bytes "   1         -")) lines (orders_with (bytes "   1   ABORTED")) (3 ∷ []))
    (visit_at 1 25000 ∷ visit_at 3 25000 ∷ [])

unfoldable pub note_cases : List Case
note_cases =
    -- limit 0: a checked order goes from open to prepare and writes nothing
    close_case 1 open_phase 0 0 committed_line undecided_line committed_line undecided_line (0 ∷ 1 ∷ 0 ∷ 0 ∷ [])
    -- prepared, decided and finished
    ∷ close_case 1 open_phase 0 17 committed_line undecided_line written_line decided_line (3 ∷ 7 ∷ 0 ∷ 1 ∷ [])
    -- unchecked: one-phase
    ∷ close_case 0 open_phase 0 17 committed_line undecided_line written_line undecided_line (1 ∷ 7 ∷ 0 ∷ 1 ∷ [])
    -- "A step that changes no line makes none": a visitor has rolled the line back
    ∷ close_case 0 undo_phase 2 17 committed_line aborted_line committed_line aborted_line (0 ∷ 7 ∷ 0 ∷ 2 ∷ [])
    -- a decided owner is not asked whether it has expired
    ∷ operation_case (visit_at 1 20000)
    (first_line ∷ last_line ∷ []) (orders_with (bytes "   1 COMMITTED")) (first_forward ∷ last_line ∷ []) (orders_with (bytes "   1 COMMITTED")) (1 ∷ [])
    -- a line of another number in between doesn't matter
    ∷ live_order (first_line ∷ last_line ∷ []) ++ live_order (first_line ∷ fresh_line ∷ last_line ∷ [])

pub note_cases_lem : map (λ (c : Case). c.given) note_cases ≡ map (λ (c : Case). c.expected) note_cases
unfolding note_cases cases Closing.changes Closing.turn Closing.closing Closing.close_barred Closing.close_conditions Operations.response Operations.response_on Operations.sheet_left Operations.coordinator_left
note_cases_lem = refl

-- NOTE 3: "The number of key fields that a unit letter compares .. the published listing, which has five cases": the letters of storages 1 to 5 of this head are R,
-- P, T, N and S, RECORD to STORAGE.
pub five_letters : map (λ (l : Letter). unit_fields l.unit) (take 5 (coordinator_of (text (bytes "   0 RPTNSRRRR" ∷ bytes "   1         -" ∷ []))).units) ≡ 5 ∷ 4 ∷ 3 ∷ 2 ∷ 1 ∷ []
unfolding cases
five_letters = refl

-- NOTE 5: "Two keys without lines may share a place." Of a sheet with lines of clustering 1 and 4 the keys of clustering 0 to 5: 2 and 3 share a place.

abbrev pub line_one : List ℕ
line_one = bytes " 1  1  1     1     1 COMMITTED     1   0      500      250         -     0   0        0        0          0"

abbrev pub line_four : List ℕ
line_four = bytes " 1  1  1     1     4 COMMITTED     1   0      600      300         -     0   0        0        0          0"

abbrev pub rank_at : ℕ → Ranked
rank_at clustering = rank_on (text (line_one ∷ line_four ∷ [])) (key_at clustering)

abbrev pub standing : ℕ → Bool → Ranked
standing below present = record { refusal = 0; rank = record { below = below; present = present } }

pub shared_place : map rank_at (0 ∷ 1 ∷ 2 ∷ 3 ∷ 4 ∷ 5 ∷ []) ≡ standing 0 false ∷ standing 0 true ∷ standing 1 false ∷ standing 1 false ∷ standing 1 true ∷ standing 2 false ∷ []
unfolding cases SheetCalls.rank_conditions SheetCalls.rank_on Records.rank Each.count
shared_place = refl

-- NOTE 6: "Adding puts an ABSENT line in key order and uses up a spare; removing takes away an ABSENT line of version 0 and makes a spare".

abbrev pub spare : List ℕ
spare = replicate 107 32

abbrev pub absent_two : List ℕ
absent_two = bytes " 1  1  1     1     2    ABSENT     0   0        0        0         -     0   0        0        0          0"

abbrev pub key_case : Operation → (lines lines' : List (List ℕ)) (answer : List ℕ) → Case
key_case o lines lines' answer = operation_case o lines (coordinator_with undecided_line) lines' (coordinator_with undecided_line) answer

-- refused, nothing changed
abbrev pub kept_case : Operation → List (List ℕ) → ℕ → Case
kept_case o lines refusal = key_case o lines lines (refusal ∷ [])

abbrev pub adding : ℕ → Operation
adding clustering = once (add (key_at clustering))

abbrev pub removing : ℕ → Operation
removing clustering = once (remove (key_at clustering))

abbrev pub nowhere : Key
nowhere = record { storage = 0; namespace = 1; table = 1; partition = 1; clustering = 2 }

unfoldable pub spare_cases : List Case
spare_cases =
    -- between, above and below the lines that are there, and on a sheet of spares
    key_case (adding 2) (line_one ∷ line_four ∷ spare ∷ spare ∷ []) (line_one ∷ absent_two ∷ line_four ∷ spare ∷ []) []
    ∷ key_case (adding 2) (line_four ∷ spare ∷ []) (absent_two ∷ line_four ∷ []) []
    ∷ key_case (adding 2) (line_one ∷ spare ∷ []) (line_one ∷ absent_two ∷ []) []
    ∷ key_case (adding 2) (spare ∷ []) (absent_two ∷ []) []
    -- "14, after 6, adding a key that has a line", with a spare or without; "15, after 14, adding with no spare"
    ∷ kept_case (adding 4) (line_one ∷ line_four ∷ spare ∷ []) 14
    ∷ kept_case (adding 4) (line_one ∷ line_four ∷ []) 14
    ∷ kept_case (adding 2) (line_one ∷ line_four ∷ []) 15
    ∷ kept_case (once (add nowhere)) (line_one ∷ line_four ∷ []) 5
    -- removing
    ∷ key_case (removing 2) (line_one ∷ absent_two ∷ line_four ∷ []) (line_one ∷ line_four ∷ spare ∷ []) []
    ∷ key_case (removing 2) (absent_two ∷ []) (spare ∷ []) []
    -- "16, after 15, removing a line that isn't ABSENT of version 0": COMMITTED, or PREPARED over nothing
    ∷ kept_case (removing 1) (line_one ∷ line_four ∷ spare ∷ []) 16
    ∷ kept_case (removing 1) (first_line ∷ spare ∷ []) 16
    ∷ kept_case (removing 2) (line_one ∷ line_four ∷ spare ∷ []) 6
    ∷ kept_case (once (remove nowhere)) (line_one ∷ absent_two ∷ []) 5
    ∷ []

pub spare_cases_lem : map (λ (c : Case). c.given) spare_cases ≡ map (λ (c : Case). c.expected) spare_cases
unfolding spare_cases note_cases cases Operations.response Operations.response_on Operations.sheet_left Operations.coordinator_left Writes.inserted Writes.without Conditions.is_blank
spare_cases_lem = refl
