-- A legal history, so that the hypotheses of demand 3 are met: two clients in turns, a refused call that brings a forged transaction, readings of the clock
-- beyond 2^31, one commit in one phase and one in two, and a third client that dies with one of its groups prepared. The table says what each turn
-- answers and leaves; it follows from the definitions by computation, and legality from the table.
use Rattle.std.specs.Prelude.{◌≡◌, ◌∷◌}
use Rattle.std.proofs.Common.{◌∙◌}
use Rattle.lists.specs.Basics.{refl, ap, subst, ℕ, true, false, List, [], map, inl, inr, arith, bytes}
use Rattle.model.specs.Types.{Key, Transaction}
use Rattle.types.specs.declared.Reading.TheVariants.{Absent, Value}
use Rattle.types.specs.declared.Request.TheVariants as asked
use Rattle.model.specs.Lines.{text}
use Rattle.model.specs.Records.{no_image}
use Rattle.model.specs.Transactions.{prepare_phase, validate_phase, decide_phase, finish_phase, done_phase, no_verdict, committed_verdict, entry_as, with_put, moved}
use Rattle.model.specs.Transactions.{with_entry}
use Rattle.model.specs.Calls.{new_transaction}
use Rattle.model.specs.Results.{begin, read, put, advance, turned_away, returned, answered}
use Rattle.model.specs.Operations.{stands_for}
use Rattle.model.specs.Requests.{operation_of}
use Rattle.model.specs.Histories.{Event, left_by}
use Rattle.model.specs.SequentialModel.{first_model, model_begin, model_put, model_commit, model_call, model_step, model_after}
use Rattle.model.specs.RecoveryPass.{Visit, visit_call, none_prepared, Closing, line_undecided, expirable, leaves_readings, reading_in, readings_of}
use Rattle.model.specs.ByteHistories.{Bytes, saying, Passing, answer_on, after_on}
use Rattle.model.specs.Turns.{Turn, turn_event_on, turn_after_on, turns_left, LegalTurns}
use Rattle.model.specs.Kinds.{bytes_kind}
use Rattle.model.specs.Recovered.{model_on, bytes_recovered}
use Rattle.recovery.specs.PassExists.{recovery_pass}
use Rattle.turns.specs.Bytes.{recovery_pass-told}
use Rattle.theorems.specs.Tables.{key_a, key_b, key_c, image, columns, Row, row, row_at, told, LegalRows, rows_left, rows-events, rows_legal, apart, untaken}
use Rattle.theorems.specs.Tables.{◌⊗◌}
use Rattle.model.specs.Results as Results
use Rattle.model.specs.Histories as Histories

-- The sheets. Storage 1 is written as a whole, storage 2 record by record.

-- the head, the lines of numbers 3 and 4, and the three record lines
abbrev sheets : List ℕ → List ℕ → List ℕ → List ℕ → List ℕ → List ℕ → Bytes
sheets head third fourth a b c =
    record { records = text (a ∷ b ∷ c ∷ []); coordinator = text (head ∷ bytes "   1 COMMITTED" ∷ bytes "   2         -" ∷ third ∷ fourth ∷ []) }

abbrev issued1 : List ℕ
issued1 = bytes "   1 SRSSSSSSS"

abbrev issued2 : List ℕ
issued2 = bytes "   2 SRSSSSSSS"

abbrev issued3 : List ℕ
issued3 = bytes "   3 SRSSSSSSS"

abbrev issued4 : List ℕ
issued4 = bytes "   4 SRSSSSSSS"

abbrev third : List ℕ
third = bytes "   3         -"

abbrev third_committed : List ℕ
third_committed = bytes "   3 COMMITTED"

abbrev fourth : List ℕ
fourth = bytes "   4         -"

abbrev fourth_aborted : List ℕ
fourth_aborted = bytes "   4   ABORTED"

abbrev first_a : List ℕ
first_a = bytes " 1  1  1     1     1 COMMITTED     3   1      500      250         -     0   0        0        0          0"

abbrev written_a : List ℕ
written_a = bytes " 1  1  1     1     1 COMMITTED     4   2      600      300         -     0   0        0        0          0"

abbrev pending_a : List ℕ
pending_a = bytes " 1  1  1     1     1  PREPARED     5   4        1        2 COMMITTED     4   2      600      300 2147483653"

abbrev first_b : List ℕ
first_b = bytes " 2  1  1     1     1 COMMITTED     1   0       40        7         -     0   0        0        0          0"

abbrev pending_b : List ℕ
pending_b = bytes " 2  1  1     1     1  PREPARED     2   3       41        8 COMMITTED     1   0       40        7 2147483650"

abbrev written_b : List ℕ
written_b = bytes " 2  1  1     1     1 COMMITTED     2   3       41        8         -     0   0        0        0          0"

abbrev first_c : List ℕ
first_c = bytes " 2  1  1     1     2    ABSENT     0   0        0        0         -     0   0        0        0          0"

abbrev pending_c : List ℕ
pending_c = bytes " 2  1  1     1     2  PREPARED     1   3        5        6    ABSENT     0   0        0        0 2147483651"

abbrev written_c : List ℕ
written_c = bytes " 2  1  1     1     2 COMMITTED     1   3        5        6         -     0   0        0        0          0"

abbrev pub sample_bytes : Bytes
sample_bytes = sheets issued1 third fourth first_a first_b first_c

-- The transactions, as each turn returns them.

-- number 2, which commits in one phase
abbrev p0 : Transaction
p0 = new_transaction 2 false

abbrev p1 : Transaction
p1 = with_entry 1 0 (entry_as key_a false (image 3 1 500 250)) p0

abbrev p2 : Transaction
p2 = with_entry 1 0 (with_put (columns 600 300) (entry_as key_a false (image 3 1 500 250))) p1

abbrev p3 : Transaction
p3 = moved done_phase 0 committed_verdict p2

-- number 3, which is serializable, puts two records of two groups, has read a third, and commits in two phases
abbrev q0 : Transaction
q0 = new_transaction 3 true

abbrev q1 : Transaction
q1 = with_entry 1 0 (entry_as key_b false (image 1 0 40 7)) q0

abbrev q2 : Transaction
q2 = with_entry 1 0 (with_put (columns 41 8) (entry_as key_b false (image 1 0 40 7))) q1

abbrev q3 : Transaction
q3 = with_entry 2 1 (entry_as key_c true no_image) q2

abbrev q4 : Transaction
q4 = with_entry 2 1 (with_put (columns 5 6) (entry_as key_c true no_image)) q3

abbrev q5 : Transaction
q5 = with_entry 3 2 (entry_as key_a false (image 4 2 600 300)) q4

abbrev q_in : ℕ → ℕ → ℕ → Transaction
q_in phase place verdict = moved phase place verdict q5

-- number 4, whose client dies
abbrev r0 : Transaction
r0 = new_transaction 4 false

abbrev r1 : Transaction
r1 = with_entry 1 0 (entry_as key_a false (image 4 2 600 300)) r0

abbrev r2 : Transaction
r2 = with_entry 1 0 (with_put (columns 1 2) (entry_as key_a false (image 4 2 600 300))) r1

abbrev r3 : Transaction
r3 = with_entry 2 1 (entry_as key_c false (image 1 3 5 6)) r2

abbrev r4 : Transaction
r4 = with_entry 2 1 (with_put (columns 9 9) (entry_as key_c false (image 1 3 5 6))) r3

abbrev r_in : ℕ → Transaction
r_in place = moved prepare_phase place no_verdict r4

-- one that nobody began
abbrev forged : Transaction
forged = moved finish_phase 0 committed_verdict (new_transaction 9 false)

abbrev pub story : List (Row Bytes)
story =
    row (begin false) (returned p0) (sheets issued2 third fourth first_a first_b first_c)
    ∷ row (begin true) (returned q0) (sheets issued3 third fourth first_a first_b first_c)
    ∷ row (read p0 key_a 7000) (answered (Value (columns 500 250)) p1) (sheets issued3 third fourth first_a first_b first_c)
    ∷ row (read q0 key_b 2147483648) (answered (Value (columns 40 7)) q1) (sheets issued3 third fourth first_a first_b first_c)
    ∷ row (put p1 key_a (columns 600 300)) (returned p2) (sheets issued3 third fourth first_a first_b first_c)
    ∷ row (advance forged 5) (turned_away 3) (sheets issued3 third fourth first_a first_b first_c)
    ∷ row (put q1 key_b (columns 41 8)) (returned q2) (sheets issued3 third fourth first_a first_b first_c)
    -- by place in its client's list: the one-phase write
    ∷ row_at (forged ∷ p2 ∷ []) 1 (asked.Advance 7000) (returned p3) (sheets issued3 third fourth written_a first_b first_c)
    ∷ row (read q2 key_c 2147483649) (answered Absent q3) (sheets issued3 third fourth written_a first_b first_c)
    ∷ row (put q3 key_c (columns 5 6)) (returned q4) (sheets issued3 third fourth written_a first_b first_c)
    ∷ row (read q4 key_a 2147483649) (answered (Value (columns 600 300)) q5) (sheets issued3 third fourth written_a first_b first_c)
    ∷ row (advance q5 2147483650) (returned (q_in prepare_phase 0 0)) (sheets issued3 third fourth written_a first_b first_c)
    ∷ row (begin false) (returned r0) (sheets issued4 third fourth written_a first_b first_c)
    ∷ row (advance (q_in prepare_phase 0 0) 2147483650) (returned (q_in prepare_phase 1 0)) (sheets issued4 third fourth written_a pending_b first_c)
    ∷ row (advance (q_in prepare_phase 1 0) 2147483651) (returned (q_in validate_phase 0 0)) (sheets issued4 third fourth written_a pending_b pending_c)
    ∷ row (advance (q_in validate_phase 0 0) 2147483651) (returned (q_in decide_phase 0 0)) (sheets issued4 third fourth written_a pending_b pending_c)
    -- the decision
    ∷ row (advance (q_in decide_phase 0 0) 2147483651) (returned (q_in finish_phase 0 1)) (sheets issued4 third_committed fourth written_a pending_b pending_c)
    ∷ row (read r0 key_a 2147483652) (answered (Value (columns 600 300)) r1) (sheets issued4 third_committed fourth written_a pending_b pending_c)
    ∷ row (put r1 key_a (columns 1 2)) (returned r2) (sheets issued4 third_committed fourth written_a pending_b pending_c)
    -- the next reader finishes a line of the committed order
    ∷ row (read r2 key_c 2147483652) (answered (Value (columns 5 6)) r3) (sheets issued4 third_committed fourth written_a pending_b written_c)
    ∷ row (put r3 key_c (columns 9 9)) (returned r4) (sheets issued4 third_committed fourth written_a pending_b written_c)
    ∷ row (advance r4 2147483653) (returned (r_in 0)) (sheets issued4 third_committed fourth written_a pending_b written_c)
    -- the last call of this client
    ∷ row (advance (r_in 0) 2147483653) (returned (r_in 1)) (sheets issued4 third_committed fourth pending_a pending_b written_c)
    ∷ row (advance (q_in finish_phase 0 1) 2147483654) (returned (q_in finish_phase 1 1)) (sheets issued4 third_committed fourth pending_a written_b written_c)
    ∷ row (advance (q_in finish_phase 1 1) 2147483654) (returned (q_in done_phase 0 1)) (sheets issued4 third_committed fourth pending_a written_b written_c)
    ∷ []

abbrev pub sample_turns : List Turn
sample_turns = map (λ (r : Row Bytes). r.turn) story

-- The recovery pass: each line twice, the line that the dead client left at a reading at which it has expired.

abbrev visit_at : Key → ℕ → Visit
visit_at k now = record { key = k; clock = now }

abbrev pub sample_visits : List Visit
sample_visits =
    visit_at key_a 2147498653
    ∷ visit_at key_b 0
    ∷ visit_at key_c 0
    ∷ visit_at key_a 2147498653
    ∷ visit_at key_b 0
    ∷ visit_at key_c 0
    ∷ []

abbrev last_bytes : Bytes
last_bytes = sheets issued4 third_committed fourth pending_a written_b written_c

abbrev pub recovered_bytes : Bytes
recovered_bytes = sheets issued4 third_committed fourth_aborted written_a written_b written_c

-- What follows by computation: the first sheets pass and have no PREPARED line, the table is true, and the visits are such a pass and leave these bytes.
record Computed : Type 0 where
  pub passes : Passing sample_bytes
  pub unprepared : none_prepared (saying sample_bytes).lines ≡ true
  pub true_story : told bytes_kind story sample_bytes ≡ story
  pub readable : leaves_readings (saying last_bytes) ≡ true
  pub visits : recovery_pass (readings_of (saying last_bytes)) (saying last_bytes) ≡ sample_visits
  pub recovered : left_by answer_on after_on (map visit_call sample_visits) last_bytes ≡ recovered_bytes

computed : Computed
unfolding told line_undecided expirable leaves_readings reading_in recovery_pass left_by
computed = record { passes = refl; unprepared = refl; true_story = refl; readable = refl; visits = refl; recovered = refl }

-- Each turn takes nothing, or a state that an earlier turn returned, and the turns since took none or one of another number.
story_legal : LegalRows story []
unfolding Histories.given Results.returns operation_of stands_for
story_legal =
    record { clock = tt; state = λ t e. absurd (untaken e) }
    ⊗ record { clock = tt; state = λ t e. absurd (untaken e) }
    ⊗ record { clock = omega arith; state = λ t e. inr (untaken, inl e) }
    ⊗ record { clock = omega arith; state = λ t e. inr (apart refl e, inl e) }
    ⊗ record { clock = tt; state = λ t e. inr (apart refl e, inl e) }
    ⊗ record { clock = omega arith; state = λ t e. absurd (untaken e) }
    ⊗ record { clock = tt; state = λ t e. inr (untaken, inr (apart refl e, inl e)) }
    ⊗ record { clock = omega arith; state = λ t e. inr (apart refl e, inr (untaken, inl e)) }
    ⊗ record { clock = omega arith; state = λ t e. inr (apart refl e, inl e) }
    ⊗ record { clock = tt; state = λ t e. inl e }
    ⊗ record { clock = omega arith; state = λ t e. inl e }
    ⊗ record { clock = omega arith; state = λ t e. inl e }
    ⊗ record { clock = tt; state = λ t e. absurd (untaken e) }
    ⊗ record { clock = omega arith; state = λ t e. inr (untaken, inl e) }
    ⊗ record { clock = omega arith; state = λ t e. inl e }
    ⊗ record { clock = omega arith; state = λ t e. inl e }
    ⊗ record { clock = omega arith; state = λ t e. inl e }
    ⊗ record { clock = omega arith; state = λ t e. inr (apart refl e, inr (apart refl e, inr (apart refl e, inr (apart refl e, inl e)))) }
    ⊗ record { clock = tt; state = λ t e. inl e }
    ⊗ record { clock = omega arith; state = λ t e. inl e }
    ⊗ record { clock = tt; state = λ t e. inl e }
    ⊗ record { clock = omega arith; state = λ t e. inl e }
    ⊗ record { clock = omega arith; state = λ t e. inl e }
    ⊗ record { clock = omega arith; state = λ t e. inr (apart refl e, inr (apart refl e, inr (apart refl e, inr (apart refl e, inr (apart refl e, inr (apart refl e, inl e)))))) }
    ⊗ record { clock = omega arith; state = λ t e. inl e }
    ⊗ tt

-- The hypotheses of demand 3, met.

pub sample_passes : Passing sample_bytes
sample_passes = computed.passes

pub sample_unprepared : none_prepared (saying sample_bytes).lines ≡ true
sample_unprepared = computed.unprepared

pub sample_legal : LegalTurns turn_after_on turn_event_on sample_turns sample_bytes []
sample_legal = rows_legal bytes_kind story sample_bytes [] computed.true_story story_legal

left : turns_left turn_after_on sample_turns sample_bytes ≡ last_bytes
left = rows_left bytes_kind story sample_bytes computed.true_story

pub sample_closing : Closing saying after_on sample_visits (turns_left turn_after_on sample_turns sample_bytes)
sample_closing =
    subst (λ (vs : List Visit). Closing saying after_on vs (turns_left turn_after_on sample_turns sample_bytes))
    (ap (λ (b : Bytes). recovery_pass (readings_of (saying b)) (saying b)) left ∙ computed.visits)
    (recovery_pass-told sample_bytes sample_passes sample_turns sample_legal (ap (λ (b : Bytes). leaves_readings (saying b)) left ∙ computed.readable))

-- The bytes at the end, and the numbers that the sequential model has committed, the last one first.

pub sample_recovered : bytes_recovered sample_visits sample_turns sample_bytes ≡ recovered_bytes
sample_recovered = ap (left_by answer_on after_on (map visit_call sample_visits)) left ∙ computed.recovered

pub sample_committed : (model_on sample_turns sample_bytes).committed ≡ 3 ∷ 2 ∷ []
unfolding model_after model_step model_call model_begin model_put model_commit first_model operation_of stands_for
sample_committed =
    ap (λ (es : List Event). (model_after es (first_model (saying sample_bytes).lines)).committed) (rows-events bytes_kind story sample_bytes [] computed.true_story)
