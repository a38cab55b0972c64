-- DOCUMENT 02, NOTE 4: what is proved of the operations on a plain sheet and a bookkeeping sheet, in the words of the definitions of `model` (TwoSheets, TwoCalls),
-- each by citing the law that proves it. The contracts of the operations on two sheets cite `response_two`, `plain_left` and `bookkeeping_left`, so that what holds of
-- these holds of the functions that run.
use Rattle.std.specs.Prelude.{◌≡◌, ◌^◌, ◌≤◌, ◌<◌, ◌&&◌, ◌∷◌}
use Rattle.lists.specs.Basics.{ℕ, true, false, List, [], map, drop, some, all}
use Rattle.model.specs.Types.{Key, Columns, Transaction, Request}
use Rattle.types.specs.declared.Reading.TheVariants.{First}
use Rattle.model.specs.Layouts.{record_bytes}
use Rattle.model.specs.Spares.{sized, sheet_for}
use Rattle.model.specs.Refusals.{Condition, first_asked}
use Rattle.model.specs.Writes.{Sheets}
use Rattle.model.specs.WellFormed.{well_formed}
use Rattle.model.specs.Steps.{units_of}
use Rattle.model.specs.Results.{Call, read, second, add, remove, answered, acknowledged, refusal_in, returns, answer_of}
use Rattle.model.specs.Conditions.{takes_two, refusals}
use Rattle.model.specs.Calls.{result_of}
use Rattle.model.specs.ByteCalls.{result_on}
use Rattle.model.specs.Histories.{ClockFits}
use Rattle.model.specs.Operations.{Operation, once, response_on, bytes_left}
use Rattle.model.specs.CallByPlace.{list_after}
use Rattle.model.specs.RecoveryPass.{Visit, none_prepared, Closing, Readings, leaves_readings}
use Rattle.model.specs.Turns.{Turn, single, turn_call, turn_writes_once, turn_shifts, turn_event, turn_after, turn_response_on, turn_after_on, turns_left, LegalTurns}
use Rattle.model.specs.TwoSheets.{bookkeeping_bytes, plain_bytes, joined_sheet, plain_part, bookkeeping_part, plain_alone, bookkeeping_alone}
use Rattle.model.specs.TwoSpares.{plain_lines, bookkeeping_lines, keys_match}
use Rattle.model.specs.TwoCalls.{TwoBytes, saying_two, PassingTwo, response_two, response_at_two, all_conditions_two, all_conditions_at_two, answer_two, after_two}
use Rattle.model.specs.TwoCalls.{turn_response_two, turn_event_two, turn_after_two}
use Rattle.model.specs.AtomicWrites.{WithinUnitTwo, OneUnitTwo}
use Rattle.model.specs.Closes.{NextLimitTwo}
use Rattle.model.specs.Kinds.{two_kind}
use Rattle.model.specs.Recovered.{Undoes, RecoveredTwo, model_two, standing_two, two_recovered}
use Rattle.model.specs.SerialOrder.{calls_two, begun_checked, serial_order, serial_line, Serializable}
use Rattle.call_laws.specs.Lifting.{Capitals}
use Rattle.recovery.specs.PassExists.{recovery_pass}
use Rattle.two_laws.specs.Deciding.{whole}
use Rattle.two_laws.specs.JoinedSheets as JoinedSheets
use Rattle.two_laws.specs.TwoEncoding.{joined_bytes, JoinableTwo, alone_joinable_two, passing_two}
use Rattle.two_turns.specs.Turns as TwoTurns
use Rattle.two_turns.specs.History as History
use Rattle.two_turns.specs.JoinedCalls as JoinedCalls
use Rattle.two_turns.specs.Units as TwoUnits
use Rattle.two_turns.specs.Refusals as Refusals
use Rattle.two_turns.specs.Readings.{plain_columns}
use Rattle.two_turns.specs.Readings as FirstCalls
use Rattle.theorems.specs.TwoSample as TwoSample

-- THE SHEETS. "Both have the same keys in the same order": as many whole lines, before the spares with keys that agree, byte for byte, are one record sheet apart, and a
-- record sheet of whole lines is its two parts joined.
pub joined-apart : (s : List ℕ) → whole record_bytes s ≡ true → joined_sheet (plain_part s) (bookkeeping_part s) ≡ s
joined-apart s w = JoinedSheets.join_split s w

pub apart-joined : (b : TwoBytes) → JoinableTwo b → (plain_part (joined_sheet b.plain b.bookkeeping) ≡ b.plain) × (bookkeeping_part (joined_sheet b.plain b.bookkeeping) ≡ b.bookkeeping)
apart-joined b j = TwoUnits.split_join_two b j

-- such are the sheets that refusal 1 of either alone and 13 let pass, and so all that are accepted
pub alone_are_joinable : (b : TwoBytes) → (sized plain_bytes b.plain && plain_alone (plain_lines b.plain)) ≡ true → (sized bookkeeping_bytes b.bookkeeping && bookkeeping_alone (bookkeeping_lines b.bookkeeping)) ≡ true → keys_match b.plain b.bookkeeping ≡ true → JoinableTwo b
alone_are_joinable b p q k = alone_joinable_two b p q k

pub accepted_are_joinable : (b : TwoBytes) → PassingTwo b → JoinableTwo b
accepted_are_joinable b p = (passing_two b p).lines

-- THE JOINED SHEET'S ANSWERS. "Apart from that and lower-case letters, each operation on the two sheets gives the answer of the joined sheet": for every turn, a
-- close and the calls by place included, and every such pair of sheets beside capitals, refused ones included
pub two_answers_joined : (x : Turn) (b : TwoBytes) → JoinableTwo b → Capitals (saying_two b) → turn_response_two x b ≡ turn_response_on x (joined_bytes b)
two_answers_joined x b j a = JoinedCalls.joined-response x b j a

pub operation_answers_joined : (o : Operation) (b : TwoBytes) → JoinableTwo b → Capitals (saying_two b) → response_two o b ≡ response_on o (joined_sheet b.plain b.bookkeeping) b.coordinator
unfolding turn_response_two turn_response_on
operation_answers_joined o b j a = two_answers_joined (single o) b j a

-- "and the sheets after it join to what that sheet would be"
pub two-leaves-joined : (x : Turn) (b : TwoBytes) → ClockFits (turn_call x) → JoinableTwo b → Capitals (saying_two b) → joined_bytes (turn_after_two x b) ≡ turn_after_on x (joined_bytes b)
two-leaves-joined x b l j a = JoinedCalls.joined-left x b l j a

-- with letters of either case they join to what the answer leaves of the joined sheet, whatever the sheets
pub two-leaves : (x : Turn) (b : TwoBytes) → ClockFits (turn_call x) → joined_bytes (turn_after_two x b) ≡ bytes_left (joined_bytes b) (turn_response_two x b)
two-leaves x b l = JoinedCalls.left-joins x b l

-- "For any other read either call is the whole one, without 7": on the joined sheet every read is such
pub either_call_is_whole : (t : Transaction) (k : Key) (now : ℕ) (c : Columns) (s : Sheets) → takes_two (units_of s) k t ≡ false → result_of (second t k now c) s ≡ result_of (read t k now) s
either_call_is_whole t k now c s h = JoinedCalls.either_is_whole t k now c s h

pub second_is_read : (t : Transaction) (k : Key) (now : ℕ) (c : Columns) (rs cs : List ℕ) → result_on (second t k now c) rs cs ≡ result_on (read t k now) rs cs
second_is_read t k now c rs cs = JoinedCalls.second_is_read t k now c rs cs

-- ACCEPTED SHEETS, letters of either case. A turn is the turn on what they say, leaves sheets that are accepted and say what it leaves, and a transaction that it
-- returns is well formed there ("Unchecked transactions go to check, and are well formed there, for such entries only")
pub two_answers : (x : Turn) (b : TwoBytes) → PassingTwo b → turn_event_two x b ≡ turn_event x (saying_two b)
two_answers x b p = TwoTurns.same_event x b p

pub two_stay_accepted : (x : Turn) (b : TwoBytes) → ClockFits (turn_event_two x b).call → PassingTwo b → (saying_two (turn_after_two x b) ≡ turn_after x (saying_two b)) × PassingTwo (turn_after_two x b)
two_stay_accepted x b l p = TwoTurns.turn_stays x b l p

pub returned_well_formed_two : (x : Turn) (b : TwoBytes) (t : Transaction) → ClockFits (turn_event_two x b).call → PassingTwo b → returns (turn_event_two x b).answer ≡ some t → well_formed (saying_two (turn_after_two x b)) t ≡ true
returned_well_formed_two x b t l p e = History.turn-returns-formed-two x b t l p e

-- "An atomic write goes to both, within one unit": every turn that writes once, and a close from one limit to the next
pub single_unit_two : (x : Turn) (b : TwoBytes) → turn_writes_once x ≡ true → ClockFits (turn_call x) → PassingTwo b → OneUnitTwo b (turn_after_two x b) (turn_call x)
single_unit_two x b w l p = TwoUnits.turn_unit_two x b w l p

-- a turn that adds and removes no line puts in and takes out none
pub within_one_unit_two : (x : Turn) (b : TwoBytes) → turn_writes_once x ≡ true → turn_shifts x ≡ false → ClockFits (turn_call x) → PassingTwo b → WithinUnitTwo b (turn_after_two x b)
within_one_unit_two x b w n l p = TwoUnits.turn-within-two x b w n l p

pub single_unit_call_two : (c : Call) (b : TwoBytes) → ClockFits c → PassingTwo b → OneUnitTwo b (after_two c b) c
single_unit_call_two c b l p = TwoUnits.call_unit_two c b l p

pub limit_by_limit_two : (t : Transaction) (now limit : ℕ) (b : TwoBytes) → now < 2 ^ 32 → NextLimitTwo t now limit b
limit_by_limit_two t now limit b fits = TwoUnits.next_limit_two t now limit b fits

-- NOTE 6: removing what was added gives both sheets back, and adding what was removed
pub added_removed_two : (k : Key) (b : TwoBytes) → PassingTwo b → answer_two (add k) b ≡ acknowledged → Undoes two_kind (add k) (remove k) b
added_removed_two k b p e = History.added_removed_two k b p e

pub removed_added_two : (k : Key) (b : TwoBytes) → PassingTwo b → answer_two (remove k) b ≡ acknowledged → Undoes two_kind (remove k) (add k) b
removed_added_two k b p e = History.removed_added_two k b p e

-- THE FIRST CALL, where "a read of a new key takes two calls": it "answers the plain sheet's columns" and returns the transaction as it came ..
pub first_answers : (t : Transaction) (k : Key) (now : ℕ) (b : TwoBytes) → takes_two (units_of (saying_two b)) k t ≡ true → refusal_in (answer_two (read t k now) b) ≡ 0
    → answer_two (read t k now) b ≡ answered (First (plain_columns k b.plain)) t
first_answers t k now b h a = FirstCalls.first_answers t k now b h a

-- .. "and writes nothing": "A station that stops between the two readings leaves nothing behind."
pub first_leaves_nothing : (t : Transaction) (k : Key) (now : ℕ) (b : TwoBytes) → takes_two (units_of (saying_two b)) k t ≡ true → after_two (read t k now) b ≡ b
first_leaves_nothing t k now b h = FirstCalls.first-leaves t k now b h

-- "The first, never refused with 12"
pub first_never_12 : (t : Transaction) (k : Key) (now : ℕ) (b : TwoBytes) → takes_two (units_of (saying_two b)) k t ≡ true → refusal_in (answer_two (read t k now) b) ≡ 12 → ⊥
first_never_12 t k now b h e = FirstCalls.first-not-12 t k now b h e

-- REFUSALS. "Errors: 13, after 2": the refusal given is the first of the operation's conditions that hold in the order of asking, 0 where none does
pub refusal_exact_two : (o : Operation) (b : TwoBytes) → first_asked (refusal_in (answer_of (response_two o b))) (all_conditions_two o b) ≡ true
refusal_exact_two o b = Refusals.refusal_exact_two o b

pub refusal_exact_two_by_place : (list : List Transaction) (place : ℕ) (q : Request) (b : TwoBytes) → first_asked (refusal_in (answer_of (response_at_two list place q b))) (all_conditions_at_two list place q b) ≡ true
refusal_exact_two_by_place list place q b = Refusals.refusal_exact_at_two list place q b

-- and these are the conditions of the call's row: "Refusal 1 is for either sheet alone and, where 13 doesn't apply, for the joined one"
pub conditions_are_the_row_two : (c : Call) (b : TwoBytes) → map (λ (x : Condition). x.number) (all_conditions_two (once c) b) ≡ 1 ∷ 1 ∷ 1 ∷ 2 ∷ 13 ∷ drop 2 (refusals c)
conditions_are_the_row_two c b = Refusals.numbers-two c b

-- after a refusal all three sheets are as they were, and by place the list
pub refused_unchanged_two : (x : Turn) (b : TwoBytes) → 1 ≤ refusal_in (turn_event_two x b).answer → turn_after_two x b ≡ b
refused_unchanged_two x b l = Refusals.refused_two_lem x b l

pub refused_list_unchanged_two : (list : List Transaction) (place : ℕ) (q : Request) (b : TwoBytes) → 1 ≤ refusal_in (answer_of (response_at_two list place q b)) → list_after list place (response_at_two list place q b) ≡ list
refused_list_unchanged_two list place q b l = Refusals.refused_list_two list place q b l

-- DEMAND 3. "In the cut-off rule accepted sheets are those that 13 lets pass too, and demand 3's lines and the plain book's are the joined sheet's, under lower-case
-- letters as well."
pub demand_3_two : (b : TwoBytes) → PassingTwo b → none_prepared (saying_two b).lines ≡ true → (xs : List Turn) → LegalTurns turn_after_two turn_event_two xs b [] → (vs : List Visit) → Closing saying_two after_two vs (turns_left turn_after_two xs b) → RecoveredTwo vs xs b
demand_3_two b p z xs legal vs c = History.demand_3_two b p z xs legal vs c

-- a recovery pass exists if each undecided number has a reading, and only then
pub recovery_pass_exists_two : (b : TwoBytes) → PassingTwo b → (xs : List Turn) → LegalTurns turn_after_two turn_event_two xs b [] → (clocks : ℕ → ℕ) → Readings clocks (saying_two (turns_left turn_after_two xs b))
    → Closing saying_two after_two (recovery_pass clocks (saying_two (turns_left turn_after_two xs b))) (turns_left turn_after_two xs b)
recovery_pass_exists_two b p xs legal clocks g = History.pass_exists_two b p xs legal clocks g

pub recovery_pass_needs_two : (b : TwoBytes) → PassingTwo b → (vs : List Visit) → Closing saying_two after_two vs b → leaves_readings (saying_two b) ≡ true
recovery_pass_needs_two b p vs c = History.pass_needs_two b p vs c

-- a history with a small letter and a pass that meet the hypotheses, the sheets that they leave, and what was committed
pub two_sample_legal : (PassingTwo TwoSample.two_sheets × (none_prepared (saying_two TwoSample.two_sheets).lines ≡ true))
    × (LegalTurns turn_after_two turn_event_two TwoSample.two_turns TwoSample.two_sheets []
    × Closing saying_two after_two TwoSample.two_visits (turns_left turn_after_two TwoSample.two_turns TwoSample.two_sheets))
two_sample_legal = ((TwoSample.two_passes, TwoSample.two_unprepared), (TwoSample.two_legal, TwoSample.two-closing))

pub two_sample_recovered : (two_recovered TwoSample.two_visits TwoSample.two_turns TwoSample.two_sheets ≡ TwoSample.recovered_sheets) × ((model_two TwoSample.two_turns TwoSample.two_sheets).committed ≡ 3 ∷ [])
two_sample_recovered = (TwoSample.two_recovered_lem, TwoSample.two-committed)

-- NOTE 8 holds there too, and after every recovery pass the joined sheet is what the serial run leaves
pub checked_serializable_two : (b : TwoBytes) → PassingTwo b → none_prepared (saying_two b).lines ≡ true → (xs : List Turn)
    → LegalTurns turn_after_two turn_event_two xs b [] → all begun_checked (calls_two xs b) ≡ true
    → Serializable (saying_two b).lines (model_two xs b) (calls_two xs b)
checked_serializable_two b p z xs legal checked = History.checked_serializable_two b p z xs legal checked

pub serial_bytes-two : (b : TwoBytes) → PassingTwo b → none_prepared (saying_two b).lines ≡ true → (xs : List Turn) → LegalTurns turn_after_two turn_event_two xs b []
    → all begun_checked (calls_two xs b) ≡ true → (vs : List Visit) → Closing saying_two after_two vs (turns_left turn_after_two xs b)
    → joined_sheet (two_recovered vs xs b).plain (two_recovered vs xs b).bookkeeping
    ≡ sheet_for (map (serial_line (saying_two b).lines (model_two xs b) (serial_order (calls_two xs b))) (standing_two xs b)) (saying_two b).size
serial_bytes-two b p z xs legal checked vs c = History.serial_bytes-two b p z xs legal checked vs c

-- a history that meets the hypotheses, the order in which its transactions count, and the order in which they committed, the last number first in both
pub two_serial_legal : (PassingTwo TwoSample.two_sheets × (none_prepared (saying_two TwoSample.two_sheets).lines ≡ true))
    × (LegalTurns turn_after_two turn_event_two TwoSample.checked_turns TwoSample.two_sheets []
    × (all begun_checked (calls_two TwoSample.checked_turns TwoSample.two_sheets) ≡ true))
two_serial_legal = ((TwoSample.two_passes, TwoSample.two_unprepared), (TwoSample.checked_legal, TwoSample.all_checked))

pub two-serial_order : (serial_order (calls_two TwoSample.checked_turns TwoSample.two_sheets) ≡ 1 ∷ 2 ∷ []) × ((model_two TwoSample.checked_turns TwoSample.two_sheets).committed ≡ 1 ∷ 2 ∷ [])
two-serial_order = (TwoSample.checked_order, TwoSample.checked_committed)
