-- A history told as a table: what each turn is, answers and leaves. That the table is true follows from the definitions by computation, and what the history
-- leaves, its events and whether it is legal follow from the table.
use Rattle.std.specs.Prelude.{◌≡◌, ◌∷◌}
use Rattle.std.proofs.Common.{◌∙◌}
use Rattle.lists.specs.Basics.{refl, sym, ap, ap₂, subst, ℕ, eqb, false, true≢false, List, [], map, none, some, none-ne-some}
use Rattle.lists.specs.Basics.{some-injective, eq-eqb}
use Rattle.model.specs.Types.{Key, Image, Columns, Transaction, Request}
use Rattle.model.specs.Results.{Call, Answer}
use Rattle.model.specs.CallByPlace.{call_at}
use Rattle.model.specs.Histories.{Event, Permitted}
use Rattle.model.specs.Writes.{Sheets}
use Rattle.model.specs.Operations.{once, calls_of}
use Rattle.model.specs.Turns.{Turn, single, by_place, comes_to, expanded, turns_left, turn_events, LegalTurns}
use Rattle.model.specs.Kinds.{Kind}
use Rattle.lists.specs.Bytes as Texts
use Rattle.lists.specs.Each as Each
use Rattle.decimal.specs.Field as Field
use Rattle.model.specs.Layouts as Layouts
use Rattle.model.specs.Lines as Lines
use Rattle.model.specs.Records as Records
use Rattle.model.specs.Search as Search
use Rattle.model.specs.Coordinator as Coordinator
use Rattle.model.specs.Refusals as Refusals
use Rattle.model.specs.SheetCalls as SheetCalls
use Rattle.model.specs.Transactions as Transactions
use Rattle.model.specs.Groups as Groups
use Rattle.model.specs.Images as Images
use Rattle.model.specs.Writes as Writes
use Rattle.model.specs.WellFormed as WellFormed
use Rattle.model.specs.Visits as Visits
use Rattle.model.specs.Conditions as Conditions
use Rattle.model.specs.Steps as Steps
use Rattle.model.specs.Calls as Calls
use Rattle.model.specs.Requests as Requests
use Rattle.model.specs.CallByPlace as CallByPlace
use Rattle.model.specs.ByteCalls as ByteCalls
use Rattle.model.specs.ByteHistories as ByteHistories
use Rattle.model.specs.Operations as Operations
use Rattle.model.specs.Turns as Turns
use Rattle.model.specs.Spares as Spares
use Rattle.model.specs.TwoSheets as TwoSheets
use Rattle.model.specs.TwoSpares as TwoSpares
use Rattle.model.specs.TwoCalls as TwoCalls

-- What the tables speak of: records of two storages, their images and columns.

abbrev pub key_a : Key
key_a = record { storage = 1; namespace = 1; table = 1; partition = 1; clustering = 1 }

abbrev pub key_b : Key
key_b = record { storage = 2; namespace = 1; table = 1; partition = 1; clustering = 1 }

abbrev pub key_c : Key
key_c = record { storage = 2; namespace = 1; table = 1; partition = 1; clustering = 2 }

abbrev pub image : ℕ → ℕ → ℕ → ℕ → Image
image v n c d = record { version = v; txid = n; column1 = c; column2 = d }

abbrev pub columns : ℕ → ℕ → Columns
columns c d = record { column1 = c; column2 = d }

-- A turn, what it was, and the sheets as it left them.
pub record Row (S : Type 0) : Type 0 where
  pub turn : Turn
  pub event : Event
  pub left : S

abbrev pub row : {S : Type 0} → Call → Answer → S → Row S
row c a b = record { turn = single (once c); event = record { call = c; answer = a }; left = b }

abbrev pub row_at : {S : Type 0} → List Transaction → ℕ → Request → Answer → S → Row S
row_at list place q a b = record { turn = by_place list place q; event = record { call = call_at list place q; answer = a }; left = b }

-- the turns made one after another, each with the sheets that the row before it left
unfoldable pub told : {S : Type 0} → Kind S → List (Row S) → S → List (Row S)
unfolding Texts.bytes Each.all Each.any Each.filter Each.count Each.joined Each.pieces Each.less Field.stepped Field.scanned Field.within Field.figure Field.ahead Field.field_text Layouts.words Layouts.record_layout Layouts.key_layout Layouts.image_layout Layouts.columns_layout Layouts.head_layout Layouts.line_layout Lines.word_from Lines.field_value Lines.field_bytes Lines.in_range Lines.row_of Lines.line_set Lines.line_text Lines.row_good Lines.lines_of Lines.lines_set Records.state_number Records.state_of Records.before_number Records.before_of Records.key_numbers Records.image_numbers Records.key_of Records.image_from Records.record_of Records.record_numbers Records.is_zero Records.absence Records.no_before Records.before_rule Records.absent_rule Records.committed_rule Records.prepared_rule Records.good_alone Records.key_less Records.in_order Records.rising Records.records_good Records.record_in Records.record_text Records.records Records.records_text Records.records_accepted Spares.spare_line Spares.trimmed Spares.filled_lines Spares.front Spares.sized Spares.sheet_for Spares.sheet_accepted Records.key_in_range Records.same_key Search.first_from Records.found Records.is_missing Records.line_of Coordinator.decision_number Coordinator.decision_of Coordinator.unit_number Coordinator.unit_of Coordinator.letter_number Coordinator.letter_of Coordinator.is_undecided Coordinator.decision Coordinator.with_decision Coordinator.with_issued Coordinator.coordinator_good Coordinator.decision_in Coordinator.coordinator_of Coordinator.numbered Coordinator.coordinator_readable Coordinator.all_capitals Coordinator.coordinator_accepted Coordinator.names_issued Coordinator.decision_texts Coordinator.head_numbers Coordinator.coordinator_text Refusals.refusal_of SheetCalls.all_issued SheetCalls.check_conditions Transactions.held Transactions.puts Transactions.to_validate Transactions.held_at Transactions.reading Groups.unit_fields Groups.letter_for Groups.scope Groups.add_scope Groups.scopes Groups.group_count Groups.group_place Groups.group Images.prepared_by Images.unchanged Images.same_columns Images.prepared Images.committed Images.rolled_forward Images.rolled_back Images.elapsed Images.line_expired Images.recovery Writes.entry_for Writes.is_of Writes.line_after Writes.shifted Writes.lines_after Writes.decisions_after Writes.apply WellFormed.image_in_range WellFormed.columns_in_range WellFormed.put_fits WellFormed.entry_formed WellFormed.distinct_keys WellFormed.place_formed WellFormed.verdict_formed WellFormed.formed WellFormed.well_formed Visits.number_expired Visits.meeting Visits.recovered Visits.recovery_write Conditions.cannot_advance Conditions.conditions Steps.holds Steps.one_phase_allowed Steps.one_phase Steps.open_without_puts Steps.open_step Steps.next_group Steps.prepare_step Steps.validate_step Steps.next_entry Steps.decide_step Steps.withdraw_step Steps.finish_step Steps.undo_step Steps.step Calls.outcome Calls.result_of Calls.read_new Calls.seen_second Calls.whole_read Calls.after_put CallByPlace.listed CallByPlace.response_at CallByPlace.response_at_on Operations.stands_for Operations.response Operations.response_on Operations.sheet_left Operations.coordinator_left Requests.operation_of ByteCalls.result_on ByteCalls.sheet_after ByteCalls.coordinator_after ByteHistories.answer_on ByteHistories.after_on Turns.turn_call Turns.turn_response_on Turns.turn_event_on Turns.turn_after_on TwoSheets.plain_layout TwoSheets.bookkeeping_layout TwoSheets.join_line TwoSheets.plain_line TwoSheets.bookkeeping_line TwoSheets.join_lines TwoSheets.joined_sheet TwoSheets.plain_part TwoSheets.bookkeeping_part TwoSheets.plain_said TwoSheets.bookkeeping_said TwoSheets.plain_record TwoSheets.bookkeeping_record TwoSheets.plain_alone TwoSheets.bookkeeping_alone TwoSheets.same_keys_in TwoSheets.same_keys TwoSheets.coordinator_fits TwoSpares.as_many TwoSpares.keys_match TwoSpares.form_conditions TwoSpares.two_conditions TwoCalls.response_two TwoCalls.response_at_two TwoCalls.plain_left TwoCalls.bookkeeping_left TwoCalls.answer_two TwoCalls.after_two TwoCalls.turn_response_two TwoCalls.turn_event_two TwoCalls.turn_after_two
told kind [] b = []
told kind (r ∷ rs) b = record { turn = r.turn; event = kind.events r.turn b; left = kind.turned r.turn b } ∷ told kind rs r.left

-- From the table to the history.

module _ {S : Type 0} where
  abbrev first_of : Row S → List (Row S) → Row S
  first_of d [] = d
  first_of d (r ∷ rs) = r

  abbrev rest_of : List (Row S) → List (Row S)
  rest_of [] = []
  rest_of (r ∷ rs) = rs

  abbrev pub last_left : List (Row S) → S → S
  last_left [] b = b
  last_left (r ∷ rs) b = last_left rs r.left

  abbrev pub row_events : List (Row S) → List Event → List Event
  row_events [] es = es
  row_events (r ∷ rs) es = row_events rs (r.event ∷ es)

  abbrev pub LegalRows : List (Row S) → List Event → Type 0
  LegalRows [] es = Unit {0}
  LegalRows (r ∷ rs) es = Permitted r.event.call r.event.answer es × LegalRows rs (r.event ∷ es)

  abbrev pub turns_of : List (Row S) → List Turn
  turns_of rs = map (λ (r : Row S). r.turn) rs

  module _ (kind : Kind S) where
    pub rows_left : (rs : List (Row S)) (b : S) → told kind rs b ≡ rs → turns_left kind.turned (turns_of rs) b ≡ last_left rs b
    unfolding told turns_left
    rows_left [] b e = refl
    rows_left (r ∷ rs) b e = ap (turns_left kind.turned (turns_of rs)) (ap (λ (x : List (Row S)). (first_of r x).left) e) ∙ rows_left rs r.left (ap rest_of e)

    pub rows-events : (rs : List (Row S)) (b : S) (es : List Event) → told kind rs b ≡ rs → turn_events kind.turned kind.events (turns_of rs) b es ≡ row_events rs es
    unfolding told turn_events
    rows-events [] b es e = refl
    rows-events (r ∷ rs) b es e =
        ap₂ (λ (x : S) (y : Event). turn_events kind.turned kind.events (turns_of rs) x (y ∷ es)) (ap (λ (x : List (Row S)). (first_of r x).left) e)
        (ap (λ (x : List (Row S)). (first_of r x).event) e)
        ∙ rows-events rs r.left (r.event ∷ es) (ap rest_of e)

    pub rows_legal : (rs : List (Row S)) (b : S) (es : List Event) → told kind rs b ≡ rs → LegalRows rs es → LegalTurns kind.turned kind.events (turns_of rs) b es
    unfolding told
    rows_legal [] b es e l = tt
    rows_legal (r ∷ rs) b es e l =
        let x : r.event ≡ kind.events r.turn b = sym (ap (λ (y : List (Row S)). (first_of r y).event) e) in
        let z : r.left ≡ kind.turned r.turn b = sym (ap (λ (y : List (Row S)). (first_of r y).left) e) in (
          subst (λ (y : Event). Permitted y.call y.answer es) x l.0,
          subst (λ (y : Event). LegalTurns kind.turned kind.events (turns_of rs) (kind.turned r.turn b) (y ∷ es)) x
              (subst (λ (y : S). LegalTurns kind.turned kind.events (turns_of rs) y (r.event ∷ es)) z
              (rows_legal rs r.left (r.event ∷ es) (ap rest_of e) l.1)),
        )

-- turns that are one call each

abbrev pub as_turn : Call → Turn
as_turn c = single (once c)

pub singles : (cs : List Call) (s : Sheets) → expanded (map as_turn cs) s ≡ cs
unfolding expanded comes_to calls_of
singles [] s = refl
singles (c ∷ cs) s = ap (λ (xs : List Call). c ∷ xs) (singles cs _)

-- states of different numbers
pub apart : {u v t : Transaction} → eqb u.number v.number ≡ false → some u ≡ some t → some v ≡ some t → ⊥
apart {u} {v} {t} d p q =
    true≢false (sym (eq-eqb u.number v.number (ap (λ (x : Transaction). x.number) (some-injective u t p ∙ sym (some-injective v t q)))) ∙ d)

pub untaken : {t : Transaction} → none ≡ some t → ⊥
untaken {t} f = none-ne-some t f

-- what is owed for a row, and for those after it
infixr 4 ◌⊗◌
abbrev pub ◌⊗◌ : {A B : Type 0} → A → B → A × B
a ⊗ b = (a, b)
