-- What is proved of the engine: every headline statement, in the words of the definitions of `model`, each by citing the law that proves it. Document 02, note 4, is in TwoTheorems.
-- The engine's contracts cite the same definitions, so that what holds of `answer_on`, `after_on`, `response_on` and `response_at_on` holds of the functions that run.
use Rattle.std.specs.Prelude.{◌≡◌, ◌+◌, ◌*◌, ◌/◌, ◌%◌, ◌^◌, ◌≤◌, ◌<◌, ◌∷◌}
use Rattle.std.proofs.Common.{◌∙◌}
use Rattle.lists.specs.Basics.{refl, sym, ap, subst, ℕ, true, false, cond, List, [], map, length, take, drop, some, all, any, bytes}
use Rattle.model.specs.Types.{Key, Record, Committed, Some, None, Transaction, Forward, Request}
use Rattle.model.specs.Layouts.{record_bytes}
use Rattle.model.specs.Lines.{text}
use Rattle.model.specs.Groups.{unit_fields}
use Rattle.model.specs.Records.{key_less, records, records_good, found, line_of, has_line, rank}
use Rattle.model.specs.Spares.{record_lines, sheet_for, sheet_accepted}
use Rattle.model.specs.Coordinator.{Letter, Coordinator, coordinator_of, coordinator_text, coordinator_good, coordinator_readable, all_capitals, coordinator_accepted}
use Rattle.model.specs.Refusals.{Condition, first_asked}
use Rattle.model.specs.Images.{is_prepared, rolled_forward}
use Rattle.model.specs.Visits.{owner_decision}
use Rattle.model.specs.WellFormed.{well_formed}
use Rattle.model.specs.Transactions.{done_phase, committed_verdict, puts, moved}
use Rattle.model.specs.Results.{Call, read, advance, visit, add, remove, shifts_lines, visited, reported, acknowledged, refusal_in, returns, answer_of}
use Rattle.model.specs.Conditions.{is_new, refusals}
use Rattle.model.specs.ByteCalls.{all_conditions}
use Rattle.model.specs.Operations.{close, writes_once, all_operation_conditions, response_on, bytes_left}
use Rattle.model.specs.Closes.{close_answer, close_leaves, Advances, NextLimit, EndsAt}
use Rattle.model.specs.Greatest.{greatest_bytes, greatest_transaction}
use Rattle.model.specs.CallByPlace.{operation_at, call_at, all_conditions_at, response_at_on, list_after}
use Rattle.model.specs.Histories.{ClockFits}
use Rattle.model.specs.ByteHistories.{Bytes, saying, Passing, answer_on, after_on}
use Rattle.model.specs.AtomicWrites.{WithinUnit, OneUnit}
use Rattle.model.specs.Changes.{lines_stored, told_of, ToldAtomic}
use Rattle.model.specs.RecoveryPass.{Visit, none_prepared, Closing, Readings, leaves_readings, readings_of}
use Rattle.model.specs.Turns.{Turn, by_place, turn_call, turn_writes_once, turn_shifts, turn_event_on, turn_after_on, turns_left, LegalTurns}
use Rattle.model.specs.Clients.{Act, World, Unused, turns_of, clock_fits}
use Rattle.model.specs.Kinds.{bytes_kind}
use Rattle.model.specs.Recovered.{Undoes, Recovered, model_on, standing_on, bytes_recovered}
use Rattle.model.specs.SerialOrder.{calls_on, begun_checked, serial_order, serial_line, Serializable}
use Rattle.model.specs.Cases.{Case, cases, twelve_cases}
use Rattle.model.specs.Notes.{note_cases, note_cases_lem, five_letters, rank_at, standing, shared_place, spare_cases, spare_cases_lem}
use Rattle.sheet_laws.specs.Spared as SheetLaws
use Rattle.sheet_laws.specs.Coordinator as CoordinatorLaws
use Rattle.sheet_laws.specs.Decisions as DecisionLaws
use Rattle.sheet_laws.specs.Ranks as Ranks
use Rattle.call_laws.specs.Exactness as Exactness
use Rattle.call_laws.specs.Sheets.{good_parts}
use Rattle.call_laws.specs.Lifting.{passing_good}
use Rattle.call_laws.specs.Operations as Operations
use Rattle.call_laws.specs.ByPlace as ByPlace
use Rattle.call_laws.specs.Lifting as Lifting
use Rattle.call_laws.specs.ByteUnits as ByteUnits
use Rattle.call_laws.specs.Told as ToldLines
use Rattle.closing_laws.specs.Greatest as Greatest
use Rattle.turns.specs.Turns as TurnLaws
use Rattle.turns.specs.Units as Units
use Rattle.turns.specs.Told as Told
use Rattle.turns.specs.Closes as Closes
use Rattle.turns.specs.Undoing as Undoing
use Rattle.turns.specs.Bytes as Recovery
use Rattle.clients.specs.Clients as Clients
use Rattle.recovery.specs.PassExists.{recovery_pass}
use Rattle.recovery.specs.NextReader as NextReader
use Rattle.recovery.specs.Readings as ReadingLaws
use Rattle.serial.specs.Bytes as Serial
use Rattle.theorems.specs.Sample as Sample
use Rattle.theorems.specs.ClientSample as ClientSample
use Rattle.theorems.specs.SerialSample as SerialSample
use Rattle.theorems.specs.SpareSample as SpareSample
use Rattle.theorems.specs.Tables.{key_a}

-- DEMAND 1: "a result or the one refusal that our table names for that input, and after a refusal it finds both sheets and its transaction unchanged".
-- A call by value returns its transaction as it came where it is refused: `answers` Answers.

-- the refusal given is the first of the call's conditions that hold in the order of asking, 0 where none does
pub refusal_exact : (c : Call) (b : Bytes) → first_asked (refusal_in (answer_on c b)) (all_conditions c b.records b.coordinator) ≡ true
refusal_exact c b =
    ap (λ (n : ℕ). first_asked n (all_conditions c b.records b.coordinator)) (Exactness.refusal_given c b)
    ∙ Exactness.refusal_is_first c b.records b.coordinator

pub refusal_exact_by_place : (list : List Transaction) (place : ℕ) (q : Request) (rs cs : List ℕ) → first_asked (refusal_in (answer_of (response_at_on list place q rs cs))) (all_conditions_at list place q rs cs) ≡ true
refusal_exact_by_place list place q rs cs =
    ap (λ (n : ℕ). first_asked n (all_conditions_at list place q rs cs)) (ByPlace.place_refusal_given list place q rs cs)
    ∙ ByPlace.place_refusal_is_first list place q rs cs

pub refusal_exact_of_close : (t : Transaction) (now limit : ℕ) (rs cs : List ℕ) → first_asked (refusal_in (answer_of (response_on (close t now limit) rs cs))) (all_operation_conditions (close t now limit) rs cs) ≡ true
refusal_exact_of_close t now limit rs cs =
    ap (λ (n : ℕ). first_asked n (all_operation_conditions (close t now limit) rs cs)) (Operations.response_refusal_given (close t now limit) rs cs)
    ∙ Operations.response_refusal_first (close t now limit) rs cs

-- beside a record sheet a row rises, so that "the lowest number that applies is given"; document 02's order is no longer that of the numbers
pub rows_rise : (c : Call) → Exactness.rising_from 1 (refusals c) ≡ true
rows_rise c = Exactness.rows_rise c

-- and these are the conditions of the call's row of the table
pub conditions_are_the_row : (c : Call) (rs cs : List ℕ) → map (λ (x : Condition). x.number) (all_conditions c rs cs) ≡ refusals c
conditions_are_the_row c rs cs = Exactness.numbers_are c rs cs

-- document 02, note 1: "refused as one advance would be", which has the same row
pub close_conditions_are_the_row : (t : Transaction) (now limit : ℕ) (rs cs : List ℕ) → map (λ (x : Condition). x.number) (all_operation_conditions (close t now limit) rs cs) ≡ refusals (advance t now)
close_conditions_are_the_row t now limit rs cs = Operations.close_numbers t now limit rs cs

pub refused_unchanged : (c : Call) (b : Bytes) → 1 ≤ refusal_in (answer_on c b) → after_on c b ≡ b
refused_unchanged c b l = Exactness.refused_unchanged c b l

pub refused_close_unchanged : (t : Transaction) (now limit : ℕ) (b : Bytes) → 1 ≤ refusal_in (close_answer t now limit b) → close_leaves t now limit b ≡ b
refused_close_unchanged t now limit b l = Operations.refused_operation (close t now limit) b l

pub refused_unchanged_by_place : (list : List Transaction) (place : ℕ) (q : Request) (b : Bytes) → 1 ≤ refusal_in (answer_of (response_at_on list place q b.records b.coordinator)) → (list_after list place (response_at_on list place q b.records b.coordinator) ≡ list) × (bytes_left b (response_at_on list place q b.records b.coordinator) ≡ b)
refused_unchanged_by_place list place q b l = ByPlace.refused_leaves list place q b l

-- DEMAND 2: the answer, the transaction and the lines are the contracts' own equations. What holds of all of them:

-- "writes to at most one unit or the coordinator sheet"; document 02, note 6: adding and removing write one line, and lines that shift don't count. By place neither is asked
pub single_unit : (c : Call) (b : Bytes) → ClockFits c → Passing b → OneUnit b (after_on c b) c
single_unit c b l p = ByteUnits.call_unit c b l p

-- and every other call puts in and takes out none: it stays within one unit, or the coordinator sheet
pub within_one_unit : (c : Call) (b : Bytes) → shifts_lines c ≡ false → ClockFits c → Passing b → WithinUnit b (after_on c b)
within_one_unit c b n l p = subst (WithinUnit b) (sym (Lifting.same_bytes c b p)) (ByteUnits.readable_within c b n l (Lifting.passing_readable b p).0)

pub single_unit_by_place : (list : List Transaction) (place : ℕ) (q : Request) (b : Bytes) → writes_once (operation_at list place q) ≡ true → ClockFits (call_at list place q) → Passing b → WithinUnit b (turn_after_on (by_place list place q) b)
unfolding turn_writes_once turn_event_on turn_call
single_unit_by_place list place q b w l p = Units.turn-within (by_place list place q) b w refl l p

-- and so is a client told that keeps both sheets from before a turn in which no line shifts: nothing, the coordinator sheet, or a range of lines of which every one is of one unit,
-- and never both sheets
pub told_atomic : (x : Turn) (b : Bytes) (target : List ℕ) → length target ≡ 2 → turn_writes_once x ≡ true → turn_shifts x ≡ false → ClockFits (turn_event_on x b).call → Passing b
    → ToldAtomic b (turn_after_on x b) (told_of b (turn_after_on x b) target)
told_atomic x b target n w c l p = Told.told_of-turn x b target n w c l p

-- storing the lines told over the record sheet from before gives the one after
pub told_suffices : (before after : List ℕ) → length before ≡ length after → length before % record_bytes ≡ 0 → lines_stored before after ≡ after
told_suffices before after n w = ToldLines.told_suffices before after n w

-- accepted sheets stay accepted, and a transaction that is returned is well formed on the sheets that the turn leaves
pub sheets_stay_accepted : (x : Turn) (b : Bytes) → ClockFits (turn_event_on x b).call → Passing b → Passing (turn_after_on x b)
sheets_stay_accepted x b l p = (TurnLaws.turn_stays_passing x b l p).1

pub returned_well_formed : (x : Turn) (b : Bytes) (t : Transaction) → ClockFits (turn_event_on x b).call → Passing b → returns (turn_event_on x b).answer ≡ some t → well_formed (saying (turn_after_on x b)) t ≡ true
returned_well_formed x b t l p e = Recovery.turn_returns_formed_on x b t l p e

-- "an accepted sheet read into records and written again is the same sheet"
pub records_written_again : (s : List ℕ) → sheet_accepted s ≡ true → sheet_for (records (record_lines s)) (length s / record_bytes) ≡ s
records_written_again s a = SheetLaws.sheet-said s a

pub coordinator_written_again : (s : List ℕ) → coordinator_accepted s ≡ true → coordinator_text (coordinator_of s) ≡ s
coordinator_written_again s a = CoordinatorLaws.coordinator_written_read s (DecisionLaws.accepted_parts s a).0

-- "and records that keep its rules, written and read, are the same records"
pub records_read_again : (rs : List Record) (n : ℕ) → records_good rs ≡ true → length rs ≤ n → 1 ≤ n → n ≤ 500
    → (records (record_lines (sheet_for rs n)) ≡ rs) × ((length (sheet_for rs n) / record_bytes ≡ n) × (sheet_accepted (sheet_for rs n) ≡ true))
records_read_again rs n g room least most = (SheetLaws.sheet-records rs n g room, (SheetLaws.sheet-count rs n g room, SheetLaws.sheet_accepted_lem rs n g room least most))

-- with letters of either case the sheet breaks no other rule, and with capitals it is accepted
pub coordinator_read_again : (c : Coordinator) → coordinator_good c ≡ true
    → (coordinator_of (coordinator_text c) ≡ c) × ((coordinator_readable (coordinator_text c) ≡ true) × (all_capitals c.units ≡ true → coordinator_accepted (coordinator_text c) ≡ true))
coordinator_read_again c g = let r = CoordinatorLaws.coordinator_read_written c g in (r.0, (r.1, DecisionLaws.text_accepted c g))

-- document 01's twelve cases
pub cases_hold : map (λ (c : Case). c.given) cases ≡ map (λ (c : Case). c.expected) cases
cases_hold = twelve_cases

-- and cases of document 02's requests
pub note_cases_hold : map (λ (c : Case). c.given) note_cases ≡ map (λ (c : Case). c.expected) note_cases
note_cases_hold = note_cases_lem

-- DOCUMENT 02, NOTE 3: the letters R, P, T, N and S, RECORD to STORAGE, compare 5, 4, 3, 2 and 1 fields of a key
pub unit_letters : map (λ (l : Letter). unit_fields l.unit) (take 5 (coordinator_of (text (bytes "   0 RPTNSRRRR" ∷ bytes "   1         -" ∷ []))).units) ≡ 5 ∷ 4 ∷ 3 ∷ 2 ∷ 1 ∷ []
unit_letters = five_letters

-- DOCUMENT 02, NOTE 5, of every accepted record sheet: the place of a key's line is the number of lines with smaller keys, those lines stand above it, and no later
-- line has a smaller key; "two keys without lines may share a place", as the third and the fourth of these do
pub rank_is_place : (k : Key) (s : List ℕ) → sheet_accepted s ≡ true → found k (records (record_lines s)) ≡ cond (has_line k (records (record_lines s))) (Some (rank k (records (record_lines s)))) None
rank_is_place k s a = Ranks.found_by_rank k (records (record_lines s)) (Ranks.accepted_order (record_lines s) (SheetLaws.accepted_lines s a))

pub smaller_above : (k : Key) (s : List ℕ) → sheet_accepted s ≡ true → all (λ (r : Record). key_less r.key k) (take (rank k (records (record_lines s))) (records (record_lines s))) ≡ true
smaller_above k s a = Ranks.rank_above k (records (record_lines s)) (Ranks.accepted_order (record_lines s) (SheetLaws.accepted_lines s a))

pub none_smaller_behind : (k : Key) (s : List ℕ) → sheet_accepted s ≡ true → any (λ (r : Record). key_less r.key k) (drop (rank k (records (record_lines s))) (records (record_lines s))) ≡ false
none_smaller_behind k s a = Ranks.rank-behind k (records (record_lines s)) (Ranks.accepted_order (record_lines s) (SheetLaws.accepted_lines s a))

pub places_shared : map rank_at (0 ∷ 1 ∷ 2 ∷ 3 ∷ 4 ∷ 5 ∷ []) ≡ standing 0 false ∷ standing 0 true ∷ standing 1 false ∷ standing 1 false ∷ standing 1 true ∷ standing 2 false ∷ []
places_shared = shared_place

-- DOCUMENT 02, NOTE 6: spares last and spares only are accepted, a spare above a record line and a sheet without lines are refused with 1; a visit finishes a line and leaves
-- the spare below it; on two sheets spares beside spares are accepted, a spare beside a record line on either and one more on one are 13
pub spares_accepted : map SpareSample.refused_with SpareSample.spared_sheets ≡ 0 ∷ 0 ∷ 1 ∷ 1 ∷ []
spares_accepted = SpareSample.spares_checked

pub spare_stays : after_on (visit key_a 7001) SpareSample.pending_spared ≡ SpareSample.finished_spared
spare_stays = SpareSample.spare-left

pub spares-on_two : SpareSample.spared_two ≡ 0 ∷ 13 ∷ 13 ∷ 13 ∷ []
spares-on_two = SpareSample.two_checked

-- adding and removing, each refusal of both among them
pub spare_cases_hold : map (λ (c : Case). c.given) spare_cases ≡ map (λ (c : Case). c.expected) spare_cases
spare_cases_hold = spare_cases_lem

-- removing what was added gives the sheets back, and adding what was removed
pub added_removed : (k : Key) (b : Bytes) → Passing b → answer_on (add k) b ≡ acknowledged → Undoes bytes_kind (add k) (remove k) b
added_removed k b p e = Undoing.added_removed k b p e

pub removed_added : (k : Key) (b : Bytes) → Passing b → answer_on (remove k) b ≡ acknowledged → Undoes bytes_kind (remove k) (add k) b
removed_added k b p e = Undoing.removed_added k b p e

-- DOCUMENT 02, NOTE 1, for every input at a clock reading below 2^32, as every u32 is.

-- "For every limit the report, transaction and sheets are those of advances made one after another up to there": none of them is refused, and the report is the
-- number of them that change a byte
pub close_is_advances : (t : Transaction) (now limit : ℕ) (b : Bytes) → now < 2 ^ 32 → (n : ℕ) (u : Transaction) → close_answer t now limit b ≡ reported n u
    → Advances now t b n u (close_leaves t now limit b)
close_is_advances t now limit b fits n u e = Closes.close_advances t now limit b fits n u e

-- "and is at most 17", and never above the limit
pub close_reports : (t : Transaction) (now limit : ℕ) (b : Bytes) → now < 2 ^ 32 → (n : ℕ) (u : Transaction) → close_answer t now limit b ≡ reported n u → (n ≤ 17) × (n ≤ limit)
close_reports t now limit b fits n u e = Closes.close_reports t now limit b fits n u e

-- "17 or more closes the order"
pub seventeen_closes : (t : Transaction) (now limit : ℕ) (b : Bytes) → now < 2 ^ 32 → (n : ℕ) (u : Transaction) → close_answer t now limit b ≡ reported n u → 17 ≤ limit → u.phase ≡ done_phase
seventeen_closes t now limit b fits n u e l = Closes.close_closes t now limit b fits n u e l

-- "before a step that would write beyond it returns the transaction as it stands", and nowhere else but at done
pub close_ends : (t : Transaction) (now limit : ℕ) (b : Bytes) → now < 2 ^ 32 → (n : ℕ) (u : Transaction) → close_answer t now limit b ≡ reported n u → EndsAt now limit n u (close_leaves t now limit b)
close_ends t now limit b fits n u e = Closes.close_ends t now limit b fits n u e

-- "demand 2's single unit holds for each write in it, from one limit to the next, instead of for the call", and a client is told so
pub limit_by_limit : (t : Transaction) (now limit : ℕ) (b : Bytes) → now < 2 ^ 32 → NextLimit t now limit b
limit_by_limit t now limit b fits = Closes.next_limit t now limit b fits

pub told_by_limits : (t : Transaction) (now limit : ℕ) (b : Bytes) (target : List ℕ) → now < 2 ^ 32 → Passing b → length target ≡ 2
    → ToldAtomic (close_leaves t now limit b) (close_leaves t now (limit + 1) b) (told_of (close_leaves t now limit b) (close_leaves t now (limit + 1) b) target)
told_by_limits t now limit b target fits p n = Closes.told_of_limit t now limit b target fits p n

-- "A companion gives, for each count of 1 to 8 puts, a transaction and sheets that reach the greatest count possible for it": it is reached, at every reading
-- of the clock, and no close of as many puts reports more, whatever the transaction, sheets and limit
pub greatest_reached : (n : ℕ) → 1 ≤ n → n ≤ 8 → (now : ℕ) → close_answer (greatest_transaction n) now 17 (greatest_bytes n) ≡ reported (2 * n + 1) (moved done_phase 0 committed_verdict (greatest_transaction n))
greatest_reached n l m now = Closes.greatest_reaches n l m now

pub greatest_has_so_many_puts : (n : ℕ) → 1 ≤ n → n ≤ 8 → length (puts (greatest_transaction n)) ≡ n
greatest_has_so_many_puts n l m = (Greatest.greatest_reached n l m).puts_are

pub none_greater : (t : Transaction) (now limit : ℕ) (b : Bytes) → now < 2 ^ 32 → (n : ℕ) (u : Transaction) → close_answer t now limit b ≡ reported n u → n ≤ 2 * length (puts t) + 1
none_greater t now limit b fits n u e = Closes.none_greater t now limit b fits n u e

-- DEMAND 3, over bytes and every turn of a history; a turn may be a close, and a crash after its k-th write is the close with limit k. For all bytes that refusals 1 and 2 let pass, without a PREPARED line; for every legal history of turns
-- on them, refused ones included; for every recovery pass after it: no line is PREPARED, the record sheet is byte for byte the sequential model's, and a
-- transaction with puts is committed exactly when its coordinator line says so or its one-phase write was made.
pub demand_3 : (b : Bytes) → Passing b → none_prepared (saying b).lines ≡ true → (xs : List Turn) → LegalTurns turn_after_on turn_event_on xs b [] → (vs : List Visit) → Closing saying after_on vs (turns_left turn_after_on xs b) → Recovered vs xs b
demand_3 b p z xs legal vs c = Recovery.demand_3 b p z xs legal vs c

-- DOCUMENT 02, NOTE 2. A number has expired exactly when every line PREPARED by it has (Visits `number_expired`), and demand 3 is for readings at which it has. After
-- a legal history there is a recovery pass if each undecided number has such a reading, one a number ..
pub recovery_pass_exists : (b : Bytes) → Passing b → (xs : List Turn) → LegalTurns turn_after_on turn_event_on xs b [] → (clocks : ℕ → ℕ) → Readings clocks (saying (turns_left turn_after_on xs b)) → Closing saying after_on (recovery_pass clocks (saying (turns_left turn_after_on xs b))) (turns_left turn_after_on xs b)
recovery_pass_exists b p xs legal clocks g = Recovery.recovery_pass_exists b p xs legal clocks g

-- .. and only then: "A list that leaves an undecided number whose prepare clocks allow no such reading falls outside demand 3." Whether it does can be told from the
-- sheets: a number has a reading exactly if one stands 15000 ticks after one of its prepare clocks
pub recovery_pass_needs : (b : Bytes) → Passing b → (vs : List Visit) → Closing saying after_on vs b → leaves_readings (saying b) ≡ true
recovery_pass_needs b p vs c = Recovery.recovery_pass_needs b p vs c

pub readings_told : (b : Bytes) → Passing b → (leaves_readings (saying b) ≡ true → Readings (readings_of (saying b)) (saying b)) × ((clocks : ℕ → ℕ) → Readings clocks (saying b) → leaves_readings (saying b) ≡ true)
readings_told b p = (ReadingLaws.readings_exist (saying b), ReadingLaws.readings_needed (saying b) (good_parts (saying b) (passing_good b p)))

-- a history and a pass that meet the hypotheses, the bytes that they leave, and what was committed, the last number first
pub sample_legal : (Passing Sample.sample_bytes × (none_prepared (saying Sample.sample_bytes).lines ≡ true)) × (LegalTurns turn_after_on turn_event_on Sample.sample_turns Sample.sample_bytes [] × Closing saying after_on Sample.sample_visits (turns_left turn_after_on Sample.sample_turns Sample.sample_bytes))
sample_legal = ((Sample.sample_passes, Sample.sample_unprepared), (Sample.sample_legal, Sample.sample_closing))

pub sample_recovered : (bytes_recovered Sample.sample_visits Sample.sample_turns Sample.sample_bytes ≡ Sample.recovered_bytes) × ((model_on Sample.sample_turns Sample.sample_bytes).committed ≡ 3 ∷ 2 ∷ [])
sample_recovered = (Sample.sample_recovered, Sample.sample_committed)

-- Clients that keep lists of transactions and change them only by the calls by place make a legal history, whatever they ask, of whichever place and in whatever
-- order; a client that crashes has lost its list and begins again with one of unused transactions, and others visit lines and take numbers in between. What
-- is asked of them: at first no list holds a transaction, and readings of the clock are below 2^32, as every u32 is.
pub clients_legal : (acts : List Act) (w : World) → Passing w.bytes → Unused w.lists → all clock_fits acts ≡ true
    → LegalTurns turn_after_on turn_event_on (turns_of acts w) w.bytes []
clients_legal acts w p u f = Clients.clients_legal acts w p u f

-- so that demand 3 holds of all that they do
pub clients_recovered : (acts : List Act) (w : World) → Passing w.bytes → none_prepared (saying w.bytes).lines ≡ true → Unused w.lists
    → all clock_fits acts ≡ true → (vs : List Visit) → Closing saying after_on vs (turns_left turn_after_on (turns_of acts w) w.bytes)
    → Recovered vs (turns_of acts w) w.bytes
clients_recovered acts w p z u f vs c = demand_3 w.bytes p z (turns_of acts w) (clients_legal acts w p u f) vs c

-- acts and a pass that meet the hypotheses: two clients, of which one closes an order of two groups, crashes after its third write, and is refused once where it goes on
pub clients_sample : ((Passing (ClientSample.client_world).bytes × (none_prepared (saying (ClientSample.client_world).bytes).lines ≡ true))
    × (Unused (ClientSample.client_world).lists × (all clock_fits ClientSample.client_acts ≡ true)))
    × Closing saying after_on ClientSample.client_visits (turns_left turn_after_on ClientSample.client_turns (ClientSample.client_world).bytes)
clients_sample =
    (((ClientSample.client_passes, ClientSample.client_unprepared), (ClientSample.client_unused, ClientSample.client_clocks)), ClientSample.client_closing)

-- what each turn is refused with, the last one first, what was committed, and the bytes that all this leaves
pub clients_sample_recovered : (ClientSample.client_refusals ≡ 0 ∷ 0 ∷ 0 ∷ 3 ∷ 0 ∷ 0 ∷ 0 ∷ 0 ∷ 0 ∷ 0 ∷ 0 ∷ 0 ∷ 0 ∷ 0 ∷ [])
    × (((model_on ClientSample.client_turns (ClientSample.client_world).bytes).committed ≡ 1 ∷ [])
    × (bytes_recovered ClientSample.client_visits ClientSample.client_turns (ClientSample.client_world).bytes ≡ ClientSample.client_recovered))
clients_sample_recovered = (ClientSample.client_refusals_lem, (ClientSample.client_committed, ClientSample.client_recovered_lem))

-- "if COMMITTED was written, the next reader finishes it": the next visit of a line PREPARED by a COMMITTED owner, and the next read of it as a new key, leave
-- it rolled forward, at any reading of the clock
pub next_visit_finishes : (b : Bytes) → Passing b → (k : Key) (now : ℕ) → now < 2 ^ 32 → has_line k (saying b).lines ≡ true → is_prepared (line_of k (saying b).lines) ≡ true → owner_decision (line_of k (saying b).lines) (coordinator_of b.coordinator) ≡ Committed → (answer_on (visit k now) b ≡ visited Forward) × (line_of k (saying (after_on (visit k now) b)).lines ≡ rolled_forward (line_of k (saying b).lines))
next_visit_finishes b p k now l h m d = NextReader.next_visit_finishes b p k now l h m d

pub next_read_finishes : (b : Bytes) → Passing b → (k : Key) (now : ℕ) → now < 2 ^ 32 → has_line k (saying b).lines ≡ true → is_prepared (line_of k (saying b).lines) ≡ true → owner_decision (line_of k (saying b).lines) (coordinator_of b.coordinator) ≡ Committed → (t : Transaction) → is_new k t ≡ true → refusal_in (answer_on (read t k now) b) ≡ 0 → line_of k (saying (after_on (read t k now) b)).lines ≡ rolled_forward (line_of k (saying b).lines)
next_read_finishes b p k now l h m d t n a = NextReader.next_read_finishes b p k now l h m d t n a

-- DOCUMENT 02, NOTE 8, for the calls that stand: "Suppose every transaction is begun as checked, in a list as demand 3 and the cut-off rule allow." Over bytes
-- and every turn of a history, a turn counting as the calls that it comes to: each committed transaction has one position in the order, each of its reads saw
-- what the committed ones before it leave, run whole one after another from the first sheets, and all of them together leave the sequential model's lines.
pub checked_serializable : (b : Bytes) → Passing b → none_prepared (saying b).lines ≡ true → (xs : List Turn)
    → LegalTurns turn_after_on turn_event_on xs b [] → all begun_checked (calls_on xs b) ≡ true
    → Serializable (saying b).lines (model_on xs b) (calls_on xs b)
checked_serializable b p z xs legal checked = Serial.checked_serializable b p z xs legal checked

-- so that after every recovery pass the record sheet is, byte for byte, what that serial run leaves
pub serial_bytes_lem : (b : Bytes) → Passing b → none_prepared (saying b).lines ≡ true → (xs : List Turn)
    → LegalTurns turn_after_on turn_event_on xs b [] → all begun_checked (calls_on xs b) ≡ true
    → (vs : List Visit) → Closing saying after_on vs (turns_left turn_after_on xs b)
    → (bytes_recovered vs xs b).records
    ≡ sheet_for (map (serial_line (saying b).lines (model_on xs b) (serial_order (calls_on xs b))) (standing_on xs b)) (saying b).size
serial_bytes_lem b p z xs legal checked vs c = Serial.serial_bytes_lem b p z xs legal checked vs c

-- a history that meets the hypotheses, the order in which its transactions count, and the order in which they committed, the last number first in both
pub serial_legal : (Passing SerialSample.serial_bytes × (none_prepared (saying SerialSample.serial_bytes).lines ≡ true))
    × (LegalTurns turn_after_on turn_event_on SerialSample.serial_turns SerialSample.serial_bytes []
    × (all begun_checked (calls_on SerialSample.serial_turns SerialSample.serial_bytes) ≡ true))
serial_legal = ((SerialSample.serial_passes, SerialSample.serial_unprepared), (SerialSample.serial_legal, SerialSample.serial_checked))

pub serial_order_lem : (serial_order (calls_on SerialSample.serial_turns SerialSample.serial_bytes) ≡ 3 ∷ 2 ∷ 1 ∷ [])
    × ((model_on SerialSample.serial_turns SerialSample.serial_bytes).committed ≡ 1 ∷ 2 ∷ 3 ∷ [])
serial_order_lem = (SerialSample.serial_order_lem, SerialSample.serial_committed)
