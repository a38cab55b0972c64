-- A history on a plain sheet and a bookkeeping sheet that meets the hypotheses of demand 3 over them. Storage 1 has a small letter: it can't be read consistently.
-- Number 1 prepares A with 99 and dies; 2 makes its first call on A and is told 99, a visit aborts 1, and the second call of 2 brings 99: the line is rolled back,
-- and 2 holds 99 beside the old version. It may not commit in one phase, its prepare finds the columns changed, and nothing that it saw is committed. Number 3
-- holds A by two calls with the right columns and puts B of storage 2: it isn't checked, goes through check for A alone, and commits.
-- Without the bar on one-phase neither 1 nor 2 would come to prepare, and without comparing columns the prepare of 2 would write: either definition makes the
-- table false. A second history, of checked transactions, meets the hypotheses of the serial order over two sheets.
use Rattle.std.specs.Prelude.{◌≡◌, ◌∷◌}
use Rattle.std.proofs.Common.{◌∙◌}
use Rattle.lists.specs.Basics.{refl, ap, subst, ℕ, true, false, List, [], map, inl, inr, arith, bytes, all}
use Rattle.model.specs.Types.{Key, Transaction}
use Rattle.types.specs.declared.Reading.TheVariants.{Value, First}
use Rattle.types.specs.declared.Recovery.TheVariants.{Again}
use Rattle.model.specs.Lines.{text}
use Rattle.model.specs.Transactions.{prepare_phase, validate_phase, decide_phase, withdraw_phase, finish_phase, undo_phase, done_phase, entry_as, with_put, moved}
use Rattle.model.specs.Transactions.{with_entry}
use Rattle.model.specs.Calls.{new_transaction}
use Rattle.model.specs.Results.{Call, begin, read, second, put, advance, visit, returned, answered, visited}
use Rattle.model.specs.Operations.{stands_for}
use Rattle.model.specs.Histories.{Event, events_after, left_by}
use Rattle.model.specs.SequentialModel.{first_model, model_begin, model_put, model_commit, model_call, model_step, model_after}
use Rattle.model.specs.RecoveryPass.{Visit, visit_call, none_prepared, Closing, line_undecided, expirable, leaves_readings, reading_in, readings_of}
use Rattle.model.specs.Turns.{Turn, turn_call, turns_left, turn_events, LegalTurns}
use Rattle.model.specs.TwoCalls.{TwoBytes, saying_two, PassingTwo, answer_two, after_two, turn_response_two, turn_event_two, turn_after_two}
use Rattle.model.specs.Kinds.{two_kind}
use Rattle.model.specs.Recovered.{model_two, two_recovered}
use Rattle.model.specs.SerialOrder.{calls_two, begun_checked, serial_order}
use Rattle.recovery.specs.PassExists.{recovery_pass}
use Rattle.two_turns.specs.History.{pass-told-two}
use Rattle.theorems.specs.Tables.{key_a, key_b, image, columns, Row, row, told, row_events, LegalRows, rows_left, rows-events, rows_legal, apart}
use Rattle.theorems.specs.Tables.{untaken, as_turn, singles, ◌⊗◌}
use Rattle.model.specs.Results as Results
use Rattle.model.specs.Histories as Histories

-- The sheets.

-- a line of either sheet for each key
record Line : Type 0 where
  plain : List ℕ
  bookkeeping : List ℕ

-- the head, the lines of numbers 1, 2 and 3, and the lines of A and B
abbrev sheets : List ℕ → List ℕ → List ℕ → List ℕ → Line → Line → TwoBytes
sheets head n1 n2 n3 a b =
    record {
      plain = text (a.plain ∷ b.plain ∷ []);
      bookkeeping = text (a.bookkeeping ∷ b.bookkeeping ∷ []);
      coordinator = text (head ∷ n1 ∷ n2 ∷ n3 ∷ []);
    }

abbrev issued0 : List ℕ
issued0 = bytes "   0 sRSSSSSSS"

abbrev issued1 : List ℕ
issued1 = bytes "   1 sRSSSSSSS"

abbrev issued2 : List ℕ
issued2 = bytes "   2 sRSSSSSSS"

abbrev issued3 : List ℕ
issued3 = bytes "   3 sRSSSSSSS"

abbrev one : List ℕ
one = bytes "   1         -"

abbrev one_aborted : List ℕ
one_aborted = bytes "   1   ABORTED"

abbrev two : List ℕ
two = bytes "   2         -"

abbrev two_aborted : List ℕ
two_aborted = bytes "   2   ABORTED"

abbrev three : List ℕ
three = bytes "   3         -"

abbrev three_committed : List ℕ
three_committed = bytes "   3 COMMITTED"

abbrev first_a : Line
first_a =
    record {
      plain = bytes " 1  1  1     1     1       40        7";
      bookkeeping = bytes " 1  1  1     1     1 COMMITTED     3   0         -     0   0        0        0          0";
    }

abbrev pending_a : Line
pending_a =
    record {
      plain = bytes " 1  1  1     1     1       99        7";
      bookkeeping = bytes " 1  1  1     1     1  PREPARED     4   1 COMMITTED     3   0       40        7         13";
    }

abbrev first_b : Line
first_b =
    record {
      plain = bytes " 2  1  1     1     1        8        9";
      bookkeeping = bytes " 2  1  1     1     1 COMMITTED     1   0         -     0   0        0        0          0";
    }

abbrev pending_b : Line
pending_b =
    record {
      plain = bytes " 2  1  1     1     1       10       11";
      bookkeeping = bytes " 2  1  1     1     1  PREPARED     2   3 COMMITTED     1   0        8        9      15022";
    }

abbrev written_b : Line
written_b =
    record {
      plain = bytes " 2  1  1     1     1       10       11";
      bookkeeping = bytes " 2  1  1     1     1 COMMITTED     2   3         -     0   0        0        0          0";
    }

abbrev pub two_sheets : TwoBytes
two_sheets = sheets issued0 one two three first_a first_b

-- The transactions, as each turn returns them.

-- number 1, which prepares A with 99
abbrev p0 : Transaction
p0 = new_transaction 1 false

abbrev p1 : Transaction
p1 = with_entry 1 0 (entry_as key_a false (image 3 0 40 7)) p0

abbrev p2 : Transaction
p2 = with_entry 1 0 (with_put (columns 99 7) (entry_as key_a false (image 3 0 40 7))) p1

-- number 2, which holds 99 beside the old version
abbrev q0 : Transaction
q0 = new_transaction 2 false

abbrev q1 : Transaction
q1 = with_entry 1 0 (entry_as key_a false (image 3 0 99 7)) q0

abbrev q2 : Transaction
q2 = with_entry 1 0 (with_put (columns 100 7) (entry_as key_a false (image 3 0 99 7))) q1

abbrev q_in : ℕ → ℕ → Transaction
q_in phase verdict = moved phase 0 verdict q2

-- number 3, which holds A as it stands, and puts B
abbrev r0 : Transaction
r0 = new_transaction 3 false

abbrev r1 : Transaction
r1 = with_entry 1 0 (entry_as key_a false (image 3 0 40 7)) r0

abbrev r2 : Transaction
r2 = with_entry 2 1 (entry_as key_b false (image 1 0 8 9)) r1

abbrev r3 : Transaction
r3 = with_entry 2 1 (with_put (columns 10 11) (entry_as key_b false (image 1 0 8 9))) r2

abbrev r_in : ℕ → ℕ → Transaction
r_in phase verdict = moved phase 0 verdict r3

abbrev story : List (Row TwoBytes)
story =
    row (begin false) (returned p0) (sheets issued1 one two three first_a first_b)
    ∷ row (read p0 key_a 10) (answered (First (columns 40 7)) p0) (sheets issued1 one two three first_a first_b)
    ∷ row (second p0 key_a 11 (columns 40 7)) (answered (Value (columns 40 7)) p1) (sheets issued1 one two three first_a first_b)
    ∷ row (put p1 key_a (columns 99 7)) (returned p2) (sheets issued1 one two three first_a first_b)
    ∷ row (advance p2 12) (returned (moved prepare_phase 0 0 p2)) (sheets issued1 one two three first_a first_b)
    -- the last call of this client
    ∷ row (advance (moved prepare_phase 0 0 p2) 13) (returned (moved decide_phase 0 0 p2)) (sheets issued1 one two three pending_a first_b)
    ∷ row (begin false) (returned q0) (sheets issued2 one two three pending_a first_b)
    -- undecided and not expired, and yet no 12
    ∷ row (read q0 key_a 20) (answered (First (columns 99 7)) q0) (sheets issued2 one two three pending_a first_b)
    ∷ row (visit key_a 15013) (visited Again) (sheets issued2 one_aborted two three pending_a first_b)
    -- rolled back, and what was read first is held
    ∷ row (second q0 key_a 15014 (columns 99 7)) (answered (Value (columns 99 7)) q1) (sheets issued2 one_aborted two three first_a first_b)
    ∷ row (put q1 key_a (columns 100 7)) (returned q2) (sheets issued2 one_aborted two three first_a first_b)
    -- one group and not checked, and yet not in one phase
    ∷ row (advance q2 15015) (returned (q_in prepare_phase 0)) (sheets issued2 one_aborted two three first_a first_b)
    -- version and TxID hold, the columns don't
    ∷ row (advance (q_in prepare_phase 0) 15016) (returned (q_in withdraw_phase 0)) (sheets issued2 one_aborted two three first_a first_b)
    ∷ row (advance (q_in withdraw_phase 0) 15017) (returned (q_in undo_phase 2)) (sheets issued2 one_aborted two_aborted three first_a first_b)
    ∷ row (advance (q_in undo_phase 2) 15018) (returned (q_in done_phase 2)) (sheets issued2 one_aborted two_aborted three first_a first_b)
    ∷ row (begin false) (returned r0) (sheets issued3 one_aborted two_aborted three first_a first_b)
    ∷ row (read r0 key_a 15019) (answered (First (columns 40 7)) r0) (sheets issued3 one_aborted two_aborted three first_a first_b)
    ∷ row (second r0 key_a 15020 (columns 40 7)) (answered (Value (columns 40 7)) r1) (sheets issued3 one_aborted two_aborted three first_a first_b)
    -- a capital letter: the whole read
    ∷ row (read r1 key_b 15020) (answered (Value (columns 8 9)) r2) (sheets issued3 one_aborted two_aborted three first_a first_b)
    ∷ row (put r2 key_b (columns 10 11)) (returned r3) (sheets issued3 one_aborted two_aborted three first_a first_b)
    ∷ row (advance r3 15021) (returned (r_in prepare_phase 0)) (sheets issued3 one_aborted two_aborted three first_a first_b)
    ∷ row (advance (r_in prepare_phase 0) 15022) (returned (r_in validate_phase 0)) (sheets issued3 one_aborted two_aborted three first_a pending_b)
    -- the columns of A are compared, and hold
    ∷ row (advance (r_in validate_phase 0) 15023) (returned (r_in decide_phase 0)) (sheets issued3 one_aborted two_aborted three first_a pending_b)
    -- the decision, and the last call of this client
    ∷ row (advance (r_in decide_phase 0) 15024) (returned (r_in finish_phase 1)) (sheets issued3 one_aborted two_aborted three_committed first_a pending_b)
    ∷ []

abbrev pub two_turns : List Turn
two_turns = map (λ (r : Row TwoBytes). r.turn) story

-- The recovery pass: each line twice.

abbrev visit_at : Key → ℕ → Visit
visit_at k now = record { key = k; clock = now }

abbrev pub two_visits : List Visit
two_visits = visit_at key_a 0 ∷ visit_at key_b 30022 ∷ visit_at key_a 0 ∷ visit_at key_b 30022 ∷ []

abbrev last_sheets : TwoBytes
last_sheets = sheets issued3 one_aborted two_aborted three_committed first_a pending_b

abbrev pub recovered_sheets : TwoBytes
recovered_sheets = sheets issued3 one_aborted two_aborted three_committed first_a written_b

-- What follows by computation: the first sheets pass and have no PREPARED line, the table is true, and the visits are such a pass and leave these sheets.
record Computed : Type 0 where
  pub passes : PassingTwo two_sheets
  pub unprepared : none_prepared (saying_two two_sheets).lines ≡ true
  pub true_story : told two_kind story two_sheets ≡ story
  pub readable : leaves_readings (saying_two last_sheets) ≡ true
  pub visits : recovery_pass (readings_of (saying_two last_sheets)) (saying_two last_sheets) ≡ two_visits
  pub recovered : left_by answer_two after_two (map visit_call two_visits) last_sheets ≡ recovered_sheets

computed : Computed
unfolding told line_undecided expirable leaves_readings reading_in recovery_pass left_by
computed = record { passes = refl; unprepared = refl; true_story = refl; readable = refl; visits = refl; recovered = refl }

-- Each turn takes nothing, or the state that the last turn of its client returned.
story_legal : LegalRows story []
unfolding Histories.given Results.returns stands_for
story_legal =
    record { clock = tt; state = λ t e. absurd (untaken e) }
    ⊗ record { clock = omega arith; state = λ t e. inl e }
    ⊗ record { clock = omega arith; state = λ t e. inl e }
    ⊗ record { clock = tt; state = λ t e. inl e }
    ⊗ record { clock = omega arith; state = λ t e. inl e }
    ⊗ record { clock = omega arith; state = λ t e. inl e }
    ⊗ record { clock = tt; state = λ t e. absurd (untaken e) }
    ⊗ record { clock = omega arith; state = λ t e. inl e }
    ⊗ record { clock = omega arith; state = λ t e. absurd (untaken e) }
    ⊗ record { clock = omega arith; state = λ t e. inr (untaken, inl e) }
    ⊗ record { clock = tt; state = λ t e. inl e }
    ⊗ record { clock = omega arith; state = λ t e. inl e }
    ⊗ record { clock = omega arith; state = λ t e. inl e }
    ⊗ record { clock = omega arith; state = λ t e. inl e }
    ⊗ record { clock = omega arith; state = λ t e. inl e }
    ⊗ record { clock = tt; state = λ t e. absurd (untaken e) }
    ⊗ record { clock = omega arith; state = λ t e. inl e }
    ⊗ record { clock = omega arith; state = λ t e. inl e }
    ⊗ record { clock = omega arith; state = λ t e. inl e }
    ⊗ record { clock = tt; state = λ t e. inl e }
    ⊗ record { clock = omega arith; state = λ t e. inl e }
    ⊗ record { clock = omega arith; state = λ t e. inl e }
    ⊗ record { clock = omega arith; state = λ t e. inl e }
    ⊗ record { clock = omega arith; state = λ t e. inl e }
    ⊗ tt

-- The hypotheses of demand 3 over two sheets, met.

pub two_passes : PassingTwo two_sheets
two_passes = computed.passes

pub two_unprepared : none_prepared (saying_two two_sheets).lines ≡ true
two_unprepared = computed.unprepared

pub two_legal : LegalTurns turn_after_two turn_event_two two_turns two_sheets []
two_legal = rows_legal two_kind story two_sheets [] computed.true_story story_legal

left : turns_left turn_after_two two_turns two_sheets ≡ last_sheets
left = rows_left two_kind story two_sheets computed.true_story

pub two-closing : Closing saying_two after_two two_visits (turns_left turn_after_two two_turns two_sheets)
two-closing =
    subst (λ (vs : List Visit). Closing saying_two after_two vs (turns_left turn_after_two two_turns two_sheets))
    (ap (λ (b : TwoBytes). recovery_pass (readings_of (saying_two b)) (saying_two b)) left ∙ computed.visits)
    (pass-told-two two_sheets two_passes two_turns two_legal (ap (λ (b : TwoBytes). leaves_readings (saying_two b)) left ∙ computed.readable))

-- The sheets at the end, and the number that the sequential model has committed.

pub two_recovered_lem : two_recovered two_visits two_turns two_sheets ≡ recovered_sheets
two_recovered_lem = ap (left_by answer_two after_two (map visit_call two_visits)) left ∙ computed.recovered

pub two-committed : (model_two two_turns two_sheets).committed ≡ 3 ∷ []
unfolding model_after model_step model_call model_begin model_put model_commit first_model stands_for
two-committed =
    ap (λ (es : List Event). (model_after es (first_model (saying_two two_sheets).lines)).committed) (rows-events two_kind story two_sheets [] computed.true_story)

-- THE SECOND HISTORY. Number 1 reads A by two calls; 2 reads A in the same way, puts nothing and is done; 1 puts A and commits. So 2 counts before 1.

abbrev written_a : Line
written_a =
    record {
      plain = bytes " 1  1  1     1     1       41        8";
      bookkeeping = bytes " 1  1  1     1     1 COMMITTED     4   1         -     0   0        0        0          0";
    }

abbrev prepared_a : Line
prepared_a =
    record {
      plain = bytes " 1  1  1     1     1       41        8";
      bookkeeping = bytes " 1  1  1     1     1  PREPARED     4   1 COMMITTED     3   0       40        7         19";
    }

abbrev one_committed : List ℕ
one_committed = bytes "   1 COMMITTED"

abbrev u0 : Transaction
u0 = new_transaction 1 true

abbrev u1 : Transaction
u1 = with_entry 1 0 (entry_as key_a false (image 3 0 40 7)) u0

abbrev u2 : Transaction
u2 = with_entry 1 0 (with_put (columns 41 8) (entry_as key_a false (image 3 0 40 7))) u1

abbrev u_in : ℕ → ℕ → Transaction
u_in phase verdict = moved phase 0 verdict u2

abbrev v0 : Transaction
v0 = new_transaction 2 true

abbrev v1 : Transaction
v1 = with_entry 1 0 (entry_as key_a false (image 3 0 40 7)) v0

abbrev v_in : ℕ → ℕ → Transaction
v_in phase verdict = moved phase 0 verdict v1

abbrev checked_story : List (Row TwoBytes)
checked_story =
    row (begin true) (returned u0) (sheets issued1 one two three first_a first_b)
    ∷ row (read u0 key_a 10) (answered (First (columns 40 7)) u0) (sheets issued1 one two three first_a first_b)
    ∷ row (second u0 key_a 11 (columns 40 7)) (answered (Value (columns 40 7)) u1) (sheets issued1 one two three first_a first_b)
    ∷ row (begin true) (returned v0) (sheets issued2 one two three first_a first_b)
    ∷ row (read v0 key_a 12) (answered (First (columns 40 7)) v0) (sheets issued2 one two three first_a first_b)
    ∷ row (second v0 key_a 13 (columns 40 7)) (answered (Value (columns 40 7)) v1) (sheets issued2 one two three first_a first_b)
    ∷ row (put u1 key_a (columns 41 8)) (returned u2) (sheets issued2 one two three first_a first_b)
    ∷ row (advance v1 15) (returned (v_in validate_phase 0)) (sheets issued2 one two three first_a first_b)
    ∷ row (advance (v_in validate_phase 0) 16) (returned (v_in done_phase 1)) (sheets issued2 one two three first_a first_b)
    ∷ row (advance u2 18) (returned (u_in prepare_phase 0)) (sheets issued2 one two three first_a first_b)
    ∷ row (advance (u_in prepare_phase 0) 19) (returned (u_in decide_phase 0)) (sheets issued2 one two three prepared_a first_b)
    ∷ row (advance (u_in decide_phase 0) 20) (returned (u_in finish_phase 1)) (sheets issued2 one_committed two three prepared_a first_b)
    ∷ row (advance (u_in finish_phase 1) 21) (returned (u_in done_phase 1)) (sheets issued2 one_committed two three written_a first_b)
    ∷ []

abbrev pub checked_turns : List Turn
checked_turns = map (λ (r : Row TwoBytes). r.turn) checked_story

checked_computed : told two_kind checked_story two_sheets ≡ checked_story
unfolding told
checked_computed = refl

checked_story_legal : LegalRows checked_story []
unfolding Histories.given Results.returns stands_for
checked_story_legal =
    record { clock = tt; state = λ t e. absurd (untaken e) }
    ⊗ record { clock = omega arith; state = λ t e. inl e }
    ⊗ record { clock = omega arith; state = λ t e. inl e }
    ⊗ record { clock = tt; state = λ t e. absurd (untaken e) }
    ⊗ record { clock = omega arith; state = λ t e. inl e }
    ⊗ record { clock = omega arith; state = λ t e. inl e }
    ⊗ record { clock = tt; state = λ t e. inr (apart refl e, inr (apart refl e, inr (untaken, inl e))) }
    ⊗ record { clock = omega arith; state = λ t e. inr (apart refl e, inl e) }
    ⊗ record { clock = omega arith; state = λ t e. inl e }
    ⊗ record { clock = omega arith; state = λ t e. inr (apart refl e, inr (apart refl e, inl e)) }
    ⊗ record { clock = omega arith; state = λ t e. inl e }
    ⊗ record { clock = omega arith; state = λ t e. inl e }
    ⊗ record { clock = omega arith; state = λ t e. inl e }
    ⊗ tt

pub checked_legal : LegalTurns turn_after_two turn_event_two checked_turns two_sheets []
checked_legal = rows_legal two_kind checked_story two_sheets [] checked_computed checked_story_legal

-- each turn is one call
single_events : (cs : List Call) (b : TwoBytes) (es : List Event) → events_after answer_two after_two cs b es ≡ turn_events turn_after_two turn_event_two (map as_turn cs) b es
unfolding events_after turn_events answer_two after_two turn_event_two turn_after_two turn_response_two turn_call stands_for
single_events [] b es = refl
single_events (c ∷ cs) b es = single_events cs (after_two c b) (record { call = c; answer = answer_two c b } ∷ es)

abbrev checked_calls : List Call
checked_calls = map (λ (r : Row TwoBytes). r.event.call) checked_story

calls_made_lem : calls_two checked_turns two_sheets ≡ row_events checked_story []
calls_made_lem =
    ap (λ (cs : List Call). events_after answer_two after_two cs two_sheets []) (singles checked_calls (saying_two two_sheets))
    ∙ (single_events checked_calls two_sheets [] ∙ rows-events two_kind checked_story two_sheets [] checked_computed)

pub all_checked : all begun_checked (calls_two checked_turns two_sheets) ≡ true
unfolding all
all_checked = ap (all begun_checked) calls_made_lem

-- the order in which they count, and that in which they committed, the last number first in both
pub checked_order : serial_order (calls_two checked_turns two_sheets) ≡ 1 ∷ 2 ∷ []
unfolding serial_order told Histories.given Results.returns
checked_order = ap serial_order calls_made_lem

pub checked_committed : (model_two checked_turns two_sheets).committed ≡ 1 ∷ 2 ∷ []
unfolding model_after model_step model_call model_begin model_put model_commit first_model stands_for
checked_committed =
    ap (λ (es : List Event). (model_after es (first_model (saying_two two_sheets).lines)).committed) (rows-events two_kind checked_story two_sheets [] checked_computed)
