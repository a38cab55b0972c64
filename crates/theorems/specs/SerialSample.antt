-- A legal history in which every transaction is begun as checked, so that the hypotheses of serializability are met. Number 1 puts A and has seen B, number 2 has
-- seen B and puts nothing, number 3 puts B: they count in this order, and commit in the opposite one. As in Sample the table follows from the definitions by
-- computation, and the rest from the table.
use Rattle.std.specs.Prelude.{◌≡◌, ◌∷◌}
use Rattle.std.proofs.Common.{◌∙◌}
use Rattle.lists.specs.Basics.{refl, sym, ap, ap₂, ℕ, true, false, List, [], map, inl, inr, arith, all, bytes}
use Rattle.model.specs.Types.{Transaction}
use Rattle.types.specs.declared.Reading.TheVariants.{Absent, Value}
use Rattle.model.specs.Lines.{text}
use Rattle.model.specs.Records.{no_image}
use Rattle.model.specs.Transactions.{prepare_phase, validate_phase, decide_phase, finish_phase, done_phase, entry_as, with_put, moved, with_entry}
use Rattle.model.specs.Calls.{new_transaction}
use Rattle.model.specs.Results.{Call, begin, read, put, advance, Answer, turned_away, returned, answered}
use Rattle.model.specs.Histories.{Event, events_after}
use Rattle.model.specs.SequentialModel.{first_model, model_begin, model_put, model_commit, model_call, model_step, model_after}
use Rattle.model.specs.RecoveryPass.{none_prepared}
use Rattle.model.specs.ByteHistories.{Bytes, saying, Passing, answer_on, after_on}
use Rattle.model.specs.Operations.{stands_for}
use Rattle.model.specs.Turns.{Turn, turn_call, turn_response_on, turn_event_on, turn_after_on, turn_events, LegalTurns}
use Rattle.model.specs.Kinds.{bytes_kind}
use Rattle.model.specs.Recovered.{model_on}
use Rattle.model.specs.SerialOrder.{calls_on, begun_checked, serial_order}
use Rattle.model.specs.Results as Results
use Rattle.model.specs.Histories as Histories
use Rattle.turns.specs.Units.{once_leaves, once_answers}
use Rattle.theorems.specs.Tables.{key_a, key_b, key_c, image, columns, Row, row, told, row_events, LegalRows, rows-events, rows_legal, apart, untaken, as_turn, singles, ◌⊗◌}

-- the head, the lines of numbers 1 and 3, and the record lines of A and B; the others stay as they are
abbrev sheets : List ℕ → List ℕ → List ℕ → List ℕ → List ℕ → Bytes
sheets head one three a b =
    record {
      records = text (a ∷ b ∷ bytes " 2  1  1     1     2    ABSENT     0   0        0        0         -     0   0        0        0          0" ∷ []);
      coordinator = text (head ∷ one ∷ bytes "   2         -" ∷ three ∷ []);
    }

abbrev issued0 : List ℕ
issued0 = bytes "   0 SRSSSSSSS"

abbrev issued1 : List ℕ
issued1 = bytes "   1 SRSSSSSSS"

abbrev issued2 : List ℕ
issued2 = bytes "   2 SRSSSSSSS"

abbrev issued3 : List ℕ
issued3 = bytes "   3 SRSSSSSSS"

abbrev first : List ℕ
first = bytes "   1         -"

abbrev first_committed : List ℕ
first_committed = bytes "   1 COMMITTED"

abbrev third : List ℕ
third = bytes "   3         -"

abbrev third_committed : List ℕ
third_committed = bytes "   3 COMMITTED"

abbrev first_a : List ℕ
first_a = bytes " 1  1  1     1     1 COMMITTED     3   0      500      250         -     0   0        0        0          0"

abbrev pending_a : List ℕ
pending_a = bytes " 1  1  1     1     1  PREPARED     4   1      600      300 COMMITTED     3   0      500      250        101"

abbrev written_a : List ℕ
written_a = bytes " 1  1  1     1     1 COMMITTED     4   1      600      300         -     0   0        0        0          0"

abbrev first_b : List ℕ
first_b = bytes " 2  1  1     1     1 COMMITTED     1   0       40        7         -     0   0        0        0          0"

abbrev pending_b : List ℕ
pending_b = bytes " 2  1  1     1     1  PREPARED     2   3       41        8 COMMITTED     1   0       40        7        102"

abbrev written_b : List ℕ
written_b = bytes " 2  1  1     1     1 COMMITTED     2   3       41        8         -     0   0        0        0          0"

abbrev pub serial_bytes : Bytes
serial_bytes = sheets issued0 first third first_a first_b

-- number 1: reads B, reads and puts A
abbrev x0 : Transaction
x0 = new_transaction 1 true

abbrev x1 : Transaction
x1 = with_entry 1 0 (entry_as key_b false (image 1 0 40 7)) x0

abbrev x2 : Transaction
x2 = with_entry 2 1 (entry_as key_a false (image 3 0 500 250)) x1

abbrev x3 : Transaction
x3 = with_entry 2 1 (with_put (columns 600 300) (entry_as key_a false (image 3 0 500 250))) x2

abbrev x_in : ℕ → ℕ → ℕ → Transaction
x_in phase place verdict = moved phase place verdict x3

-- number 2: reads B and C
abbrev y0 : Transaction
y0 = new_transaction 2 true

abbrev y1 : Transaction
y1 = with_entry 1 0 (entry_as key_b false (image 1 0 40 7)) y0

abbrev y2 : Transaction
y2 = with_entry 2 1 (entry_as key_c true no_image) y1

abbrev y_in : ℕ → ℕ → ℕ → Transaction
y_in phase place verdict = moved phase place verdict y2

-- number 3: reads and puts B
abbrev z0 : Transaction
z0 = new_transaction 3 true

abbrev z1 : Transaction
z1 = with_entry 1 0 (entry_as key_b false (image 1 0 40 7)) z0

abbrev z2 : Transaction
z2 = with_entry 1 0 (with_put (columns 41 8) (entry_as key_b false (image 1 0 40 7))) z1

abbrev z_in : ℕ → ℕ → ℕ → Transaction
z_in phase place verdict = moved phase place verdict z2

abbrev story : List (Row Bytes)
story =
    row (begin true) (returned x0) (sheets issued1 first third first_a first_b)
    ∷ row (read x0 key_b 100) (answered (Value (columns 40 7)) x1) (sheets issued1 first third first_a first_b)
    ∷ row (read x1 key_a 100) (answered (Value (columns 500 250)) x2) (sheets issued1 first third first_a first_b)
    ∷ row (put x2 key_a (columns 600 300)) (returned x3) (sheets issued1 first third first_a first_b)
    ∷ row (begin true) (returned y0) (sheets issued2 first third first_a first_b)
    ∷ row (read y0 key_b 100) (answered (Value (columns 40 7)) y1) (sheets issued2 first third first_a first_b)
    ∷ row (read y1 key_c 100) (answered Absent y2) (sheets issued2 first third first_a first_b)
    ∷ row (begin true) (returned z0) (sheets issued3 first third first_a first_b)
    -- a refused call begins no transaction
    ∷ row (begin false) (turned_away 8) (sheets issued3 first third first_a first_b)
    ∷ row (read z0 key_b 100) (answered (Value (columns 40 7)) z1) (sheets issued3 first third first_a first_b)
    ∷ row (put z1 key_b (columns 41 8)) (returned z2) (sheets issued3 first third first_a first_b)
    ∷ row (advance x3 101) (returned (x_in prepare_phase 0 0)) (sheets issued3 first third first_a first_b)
    -- number 1 gets its position, by its last prepare
    ∷ row (advance (x_in prepare_phase 0 0) 101) (returned (x_in validate_phase 0 0)) (sheets issued3 first third pending_a first_b)
    ∷ row (read y2 key_a 101) (turned_away 12) (sheets issued3 first third pending_a first_b)
    -- number 2 gets its position: without puts it leaves open
    ∷ row (advance y2 101) (returned (y_in validate_phase 0 0)) (sheets issued3 first third pending_a first_b)
    ∷ row (advance (y_in validate_phase 0 0) 101) (returned (y_in validate_phase 1 0)) (sheets issued3 first third pending_a first_b)
    ∷ row (advance (x_in validate_phase 0 0) 102) (returned (x_in decide_phase 0 0)) (sheets issued3 first third pending_a first_b)
    ∷ row (advance z2 102) (returned (z_in prepare_phase 0 0)) (sheets issued3 first third pending_a first_b)
    -- number 3 gets its position
    ∷ row (advance (z_in prepare_phase 0 0) 102) (returned (z_in decide_phase 0 0)) (sheets issued3 first third pending_a pending_b)
    -- and they commit: 3, 2, 1
    ∷ row (advance (z_in decide_phase 0 0) 103) (returned (z_in finish_phase 0 1)) (sheets issued3 first third_committed pending_a pending_b)
    ∷ row (advance (y_in validate_phase 1 0) 103) (returned (y_in done_phase 0 1)) (sheets issued3 first third_committed pending_a pending_b)
    ∷ row (advance (x_in decide_phase 0 0) 103) (returned (x_in finish_phase 0 1)) (sheets issued3 first_committed third_committed pending_a pending_b)
    ∷ row (advance (x_in finish_phase 0 1) 104) (returned (x_in done_phase 0 1)) (sheets issued3 first_committed third_committed written_a pending_b)
    ∷ row (advance (z_in finish_phase 0 1) 104) (returned (z_in done_phase 0 1)) (sheets issued3 first_committed third_committed written_a written_b)
    ∷ []

abbrev pub serial_turns : List Turn
serial_turns = map (λ (r : Row Bytes). r.turn) story

record Computed : Type 0 where
  pub passes : Passing serial_bytes
  pub unprepared : none_prepared (saying serial_bytes).lines ≡ true
  pub true_story : told bytes_kind story serial_bytes ≡ story

computed : Computed
unfolding told
computed = record { passes = refl; unprepared = refl; true_story = refl }

-- Each turn takes nothing, or a state that an earlier turn returned, and the turns since took none or one of another number.
story_legal : LegalRows story []
unfolding Histories.given Results.returns
story_legal =
    record { clock = tt; state = λ t e. absurd (untaken e) }
    ⊗ record { clock = omega arith; state = λ t e. inl e }
    ⊗ record { clock = omega arith; state = λ t e. inl e }
    ⊗ record { clock = tt; state = λ t e. inl e }
    ⊗ record { clock = tt; state = λ t e. absurd (untaken e) }
    ⊗ record { clock = omega arith; state = λ t e. inl e }
    ⊗ record { clock = omega arith; state = λ t e. inl e }
    ⊗ record { clock = tt; state = λ t e. absurd (untaken e) }
    ⊗ record { clock = tt; state = λ t e. absurd (untaken e) }
    ⊗ record { clock = omega arith; state = λ t e. inr (untaken, inl e) }
    ⊗ record { clock = tt; state = λ t e. inl e }
    ⊗ record { clock = omega arith; state = λ t e. inr (apart refl e, inr (apart refl e, inr (untaken, inr (untaken, inr (apart refl e, inr (apart refl e, inr (untaken, inl e))))))) }
    ⊗ record { clock = omega arith; state = λ t e. inl e }
    ⊗ record { clock = omega arith; state = λ t e. absurd (untaken e) }
    ⊗ record { clock = omega arith; state = λ t e. inr (untaken, inr (apart refl e, inr (apart refl e, inr (apart refl e, inr (apart refl e, inr (untaken, inr (untaken, inl e))))))) }
    ⊗ record { clock = omega arith; state = λ t e. inl e }
    ⊗ record { clock = omega arith; state = λ t e. inr (apart refl e, inr (apart refl e, inr (untaken, inl e))) }
    ⊗ record { clock = omega arith; state = λ t e. inr (apart refl e, inr (apart refl e, inr (apart refl e, inr (untaken, inr (apart refl e, inr (apart refl e, inl e)))))) }
    ⊗ record { clock = omega arith; state = λ t e. inl e }
    ⊗ record { clock = omega arith; state = λ t e. inl e }
    ⊗ record { clock = omega arith; state = λ t e. inr (apart refl e, inr (apart refl e, inr (apart refl e, inr (apart refl e, inl e)))) }
    ⊗ record { clock = omega arith; state = λ t e. inr (apart refl e, inr (apart refl e, inr (apart refl e, inr (apart refl e, inl e)))) }
    ⊗ record { clock = omega arith; state = λ t e. inl e }
    ⊗ record { clock = omega arith; state = λ t e. inr (apart refl e, inr (apart refl e, inr (apart refl e, inl e))) }
    ⊗ tt

-- The hypotheses, met.

pub serial_passes : Passing serial_bytes
serial_passes = computed.passes

pub serial_unprepared : none_prepared (saying serial_bytes).lines ≡ true
serial_unprepared = computed.unprepared

pub serial_legal : LegalTurns turn_after_on turn_event_on serial_turns serial_bytes []
serial_legal = rows_legal bytes_kind story serial_bytes [] computed.true_story story_legal

-- Each turn is one call.

abbrev serial_calls : List Call
serial_calls = map (λ (r : Row Bytes). r.event.call) story

single_events : (cs : List Call) (b : Bytes) (es : List Event) → events_after answer_on after_on cs b es ≡ turn_events turn_after_on turn_event_on (map as_turn cs) b es
unfolding events_after turn_events turn_event_on turn_after_on turn_call turn_response_on stands_for
single_events [] b es = refl
single_events (c ∷ cs) b es =
    ap₂ (λ (x : Bytes) (a : Answer). events_after answer_on after_on cs x (record { call = c; answer = a } ∷ es)) (sym (once_leaves c b)) (sym (once_answers c b))
    ∙ single_events cs (turn_after_on (as_turn c) b) (turn_event_on (as_turn c) b ∷ es)

calls_made_lem : calls_on serial_turns serial_bytes ≡ row_events story []
calls_made_lem =
    ap (λ (cs : List Call). events_after answer_on after_on cs serial_bytes []) (singles serial_calls (saying serial_bytes))
    ∙ (single_events serial_calls serial_bytes [] ∙ rows-events bytes_kind story serial_bytes [] computed.true_story)

pub serial_checked : all begun_checked (calls_on serial_turns serial_bytes) ≡ true
unfolding all
serial_checked = ap (all begun_checked) calls_made_lem

-- The order in which they count, and that in which they committed, the last number first in both.

pub serial_order_lem : serial_order (calls_on serial_turns serial_bytes) ≡ 3 ∷ 2 ∷ 1 ∷ []
unfolding serial_order told Histories.given Results.returns
serial_order_lem = ap serial_order calls_made_lem

pub serial_committed : (model_on serial_turns serial_bytes).committed ≡ 1 ∷ 2 ∷ 3 ∷ []
unfolding model_after model_step model_call model_begin model_put model_commit first_model
serial_committed =
    ap (λ (es : List Event). (model_after es (first_model (saying serial_bytes).lines)).committed) (rows-events bytes_kind story serial_bytes [] computed.true_story)
