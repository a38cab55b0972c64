-- Document 01's twelve cases, section d, as one table, and one theorem: each follows from the definitions by computation.
use Rattle.std.specs.Prelude.{◌≡◌, ◌∷◌, ◌++◌}
use Rattle.lists.specs.Basics.{true, refl, ℕ, false, cond, List, [], map, set, replicate, bytes}
use Rattle.model.specs.Types.{AtomicityUnit, Entry, Transaction}
use Rattle.types.specs.declared.AtomicityUnit.TheVariants.{Partition, Namespace}
use Rattle.model.specs.Lines.{text}
use Rattle.model.specs.Records.{record_in, no_image}
use Rattle.model.specs.Transactions.{no_entry, entry_as, open_phase, prepare_phase, decide_phase, finish_phase, undo_phase}
use Rattle.model.specs.Groups.{group_count}
use Rattle.model.specs.Images.{line_expired, by_recovery}
use Rattle.model.specs.Results.{advance, Answer, turned_away, returned, answered, visited, reported, acknowledged, Result, answer_of}
use Rattle.model.specs.ByteCalls.{result_on, sheet_after, coordinator_after}
use Rattle.model.specs.Visitor.{visitor_output}
use Rattle.lists.specs.Bytes as Bytes
use Rattle.lists.specs.Each as Each
use Rattle.decimal.specs.Field as Field
use Rattle.model.specs.Layouts as Layouts
use Rattle.model.specs.Lines as Lines
use Rattle.model.specs.Search as Search
use Rattle.model.specs.Records as Records
use Rattle.model.specs.Spares as Spares
use Rattle.model.specs.Coordinator as Coordinator
use Rattle.model.specs.Refusals as Refusals
use Rattle.model.specs.SheetCalls as SheetCalls
use Rattle.model.specs.Transactions as Transactions
use Rattle.model.specs.Groups as Groups
use Rattle.model.specs.Images as Images
use Rattle.model.specs.Writes as Writes
use Rattle.model.specs.WellFormed as WellFormed
use Rattle.model.specs.Visits as Visits
use Rattle.model.specs.Conditions as Conditions
use Rattle.model.specs.Steps as Steps
use Rattle.model.specs.Calls as Calls
use Rattle.model.specs.ByteCalls as ByteCalls
use Rattle.model.specs.ByteHistories as ByteHistories
use Rattle.model.specs.Visitor as Visitor

-- what the definitions give, and what the paper says
pub record Case : Type 0 where
  pub given : List ℕ
  pub expected : List ℕ

-- The line of the examples, in its states.

abbrev pub committed_line : List ℕ
committed_line = bytes " 1  1  1     1     1 COMMITTED     3   1      500      250         -     0   0        0        0          0"

abbrev pub prepared_line : List ℕ
prepared_line = bytes " 1  1  1     1     1  PREPARED     4   2      600      300 COMMITTED     3   1      500      250       7000"

abbrev pub written_line : List ℕ
written_line = bytes " 1  1  1     1     1 COMMITTED     4   2      600      300         -     0   0        0        0          0"

-- the coordinator sheet, with the line of number 2
abbrev pub coordinator_with : List ℕ → List ℕ
coordinator_with line = text (bytes "   2 SSSSSSSSS" ∷ bytes "   1 COMMITTED" ∷ line ∷ [])

abbrev pub undecided_line : List ℕ
undecided_line = bytes "   2         -"

abbrev pub decided_line : List ℕ
decided_line = bytes "   2 COMMITTED"

abbrev pub aborted_line : List ℕ
aborted_line = bytes "   2   ABORTED"

-- Clock edges: a line prepared at 5000, and whether it has expired.

abbrev pub expiry_case : ℕ → ℕ → Case
expiry_case now expected =
    record {
      given =
          cond
          (line_expired now
          (record_in
          (text
          (bytes " 1  1  1     1     1  PREPARED     1   1      500      250    ABSENT     0   0        0        0       5000" ∷ []))))
          1 0
          ∷ [];
      expected = expected ∷ [];
    }

-- Grouping (2,1,1,7,1) with (2,1,2,7,1).

abbrev pub key_in : ℕ → Entry
key_in table = entry_as (record { storage = 2; namespace = 1; table = table; partition = 7; clustering = 1 }) true no_image

abbrev pub group_case : AtomicityUnit → ℕ → Case
group_case unit expected =
    record { given = group_count (replicate 9 (record { unit = unit; lower = false })) (key_in 1 ∷ key_in 2 ∷ []) ∷ []; expected = expected ∷ [] }

-- An advance of number 2, which has put 600 and 300 over version 3 of the line: both sheets, and phase, place and verdict.

abbrev pub transaction_as : ℕ → ℕ → ℕ → Transaction
transaction_as serializable phase verdict =
    record {
      number = 2;
      serializable = serializable;
      phase = phase;
      place = 0;
      verdict = verdict;
      count = 1;
      entries =
          set (replicate 8 no_entry) 0
          (record {
            key = record { storage = 1; namespace = 1; table = 1; partition = 1; clustering = 1 };
            seen = record { version = 3; txid = 1; column1 = 500; column2 = 250 };
            absent = 0;
            wrote = 1;
            put = record { column1 = 600; column2 = 300 };
          });
    }

abbrev pub transaction_in : ℕ → ℕ → Transaction
transaction_in = transaction_as 0

abbrev pub told : Answer → List ℕ
told (turned_away n) = n ∷ []
told (returned t) = t.phase ∷ t.place ∷ t.verdict ∷ []
told (answered v t) = []
-- 0 stays, 1 forward, 2 back, 3 again
told (visited v) = by_recovery v 0 1 2 3 0 ∷ []
told (reported n t) = n ∷ t.phase ∷ t.place ∷ t.verdict ∷ []
told acknowledged = []

abbrev pub advanced : Transaction → List ℕ → List ℕ → Result Answer
advanced t line own = result_on (advance t 7000) (text (line ∷ [])) (coordinator_with own)

abbrev pub advance_case : Transaction → List ℕ → List ℕ → List ℕ → List ℕ → List ℕ → Case
advance_case t line own line' own' answer =
    record {
      given =
          sheet_after (text (line ∷ [])) (coordinator_with own) (advanced t line own)
          ++ (coordinator_after (text (line ∷ [])) (coordinator_with own) (advanced t line own)
          ++ told (answer_of (advanced t line own)));
      expected = text (line' ∷ []) ++ (coordinator_with own' ++ answer);
    }

unfoldable pub cases : List Case
unfolding Bytes.bytes Each.all Each.any Each.filter Each.count Each.joined Each.pieces Each.less Field.stepped Field.scanned Field.within Field.figure Field.ahead Field.field_text Layouts.words Layouts.record_layout Layouts.key_layout Layouts.image_layout Layouts.columns_layout Layouts.head_layout Layouts.line_layout Lines.word_from Lines.field_value Lines.field_bytes Lines.in_range Lines.row_of Lines.line_set Lines.line_text Lines.row_good Lines.lines_of Lines.lines_set Records.state_number Records.state_of Records.before_number Records.before_of Records.key_numbers Records.image_numbers Records.key_of Records.image_from Records.record_of Records.record_numbers Records.is_zero Records.absence Records.no_before Records.before_rule Records.absent_rule Records.committed_rule Records.prepared_rule Records.good_alone Records.key_less Records.in_order Records.rising Records.records_good Records.record_in Records.record_text Records.records Records.records_text Records.records_accepted Spares.spare_line Spares.trimmed Spares.filled_lines Spares.front Spares.sized Spares.sheet_for Spares.sheet_accepted Records.key_in_range Records.same_key Search.first_from Records.found Records.is_missing Records.line_of Coordinator.decision_number Coordinator.decision_of Coordinator.unit_number Coordinator.unit_of Coordinator.letter_number Coordinator.letter_of Coordinator.is_undecided Coordinator.decision Coordinator.with_decision Coordinator.coordinator_good Coordinator.decision_in Coordinator.coordinator_of Coordinator.numbered Coordinator.coordinator_readable Coordinator.all_capitals Coordinator.coordinator_accepted Coordinator.names_issued Coordinator.decision_texts Coordinator.head_numbers Coordinator.coordinator_text Refusals.refusal_of SheetCalls.all_issued SheetCalls.check_conditions Transactions.held Transactions.puts Transactions.to_validate Groups.unit_fields Groups.letter_for Groups.scope Groups.add_scope Groups.scopes Groups.group_count Groups.group_place Groups.group Images.prepared_by Images.unchanged Images.same_columns Images.prepared Images.committed Images.rolled_forward Images.rolled_back Images.elapsed Images.line_expired Images.recovery Writes.entry_for Writes.is_of Writes.line_after Writes.shifted Writes.lines_after Writes.decisions_after Writes.apply WellFormed.image_in_range WellFormed.columns_in_range WellFormed.put_fits WellFormed.entry_formed WellFormed.distinct_keys WellFormed.place_formed WellFormed.verdict_formed WellFormed.formed WellFormed.well_formed Visits.number_expired Visits.meeting Visits.recovery_write Conditions.cannot_advance Conditions.conditions Steps.holds Steps.one_phase_allowed Steps.one_phase Steps.open_step Steps.next_group Steps.prepare_step Steps.decide_step Steps.finish_step Steps.undo_step Steps.step Calls.outcome Calls.result_of ByteCalls.result_on ByteCalls.sheet_after ByteCalls.coordinator_after ByteHistories.after_on Visitor.first_layout Visitor.input_fits Visitor.input_conditions Visitor.visited_all Visitor.swept Visitor.visitor_output
cases =
    -- the four clock edges: 14999, 15000, 2147483647 and 2147483648 ticks
    expiry_case 19999 0
    ∷ expiry_case 20000 1
    ∷ expiry_case 2147488647 1
    ∷ expiry_case 2147488648 0
    -- both grouping examples: "under P: two groups; under N one"
    ∷ group_case Partition 2
    ∷ group_case Namespace 1
    -- the visiting example
    ∷ record {
      given =
          visitor_output
          (text
          (bytes "   1   1      20000"
          ∷ bytes "   1 SSSSSSSSS"
          ∷ bytes "   1         -"
          ∷ bytes " 1  1  1     1     1  PREPARED     1   1      500      250    ABSENT     0   0        0        0       5000"
          ∷ []));
      expected =
          text
          (bytes "   1 SSSSSSSSS"
          ∷ bytes "   1   ABORTED"
          ∷ bytes " 1  1  1     1     1    ABSENT     0   0        0        0         -     0   0        0        0          0"
          ∷ []);
    }
    -- prepare: to decide
    ∷ advance_case (transaction_in prepare_phase 0) committed_line undecided_line prepared_line undecided_line (3 ∷ 0 ∷ 0 ∷ [])
    -- one-phase: done, committed; the own line stays `-`
    ∷ advance_case (transaction_in open_phase 0) committed_line undecided_line written_line undecided_line (7 ∷ 0 ∷ 1 ∷ [])
    -- decide: to finish, committed
    ∷ advance_case (transaction_in decide_phase 0) prepared_line undecided_line prepared_line decided_line (5 ∷ 0 ∷ 1 ∷ [])
    -- forward: done
    ∷ advance_case (transaction_in finish_phase 1) prepared_line decided_line written_line decided_line (7 ∷ 0 ∷ 1 ∷ [])
    -- back: done
    ∷ advance_case (transaction_in undo_phase 2) prepared_line aborted_line committed_line aborted_line (7 ∷ 0 ∷ 2 ∷ [])
    ∷ []

pub twelve_cases : map (λ (c : Case). c.given) cases ≡ map (λ (c : Case). c.expected) cases
unfolding cases
twelve_cases = refl
