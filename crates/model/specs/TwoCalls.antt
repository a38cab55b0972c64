-- The operations on a plain sheet, a bookkeeping sheet and a coordinator sheet: refusals 1, 2 and 13 first, then the operation on what the joined sheet says. Document 02,
-- note 4: "each operation on the two sheets gives the answer of the joined sheet, and the sheets after it join to what that sheet would be".
use Rattle.std.specs.Prelude.{◌≡◌, ◌-◌, ◌++◌}
use Rattle.lists.specs.Basics.{ℕ, List, length}
use Rattle.model.specs.Types.{Transaction, Request}
use Rattle.model.specs.Records.{records_text}
use Rattle.model.specs.Spares.{spares_text}
use Rattle.model.specs.Refusals.{Condition, refusal_of}
use Rattle.model.specs.Writes.{Sheets}
use Rattle.model.specs.Results.{Call, Answer, Response, refused, made, unless, answer_of}
use Rattle.model.specs.ByteCalls.{sheets_said}
use Rattle.model.specs.Histories.{Event}
use Rattle.model.specs.Operations.{Operation, once, operation_conditions, response, coordinator_left}
use Rattle.model.specs.CallByPlace.{operation_at, place_conditions, response_at}
use Rattle.model.specs.Turns.{Turn, single, by_place, turn_call}
use Rattle.model.specs.TwoSheets.{plain_bytes, bookkeeping_bytes, joined_sheet, plain_part, bookkeeping_part}
use Rattle.model.specs.TwoSpares.{two_conditions}
pub use Rattle.model.specs.FullCalls.{TwoBytes}

-- what they say, whatever their bytes: "demand 3's lines and the plain book's are the joined sheet's"
abbrev pub saying_two : TwoBytes → Sheets
saying_two b = sheets_said (joined_sheet b.plain b.bookkeeping) b.coordinator

-- what all calls ask of the sheets
abbrev pub conditions_of : TwoBytes → List Condition
conditions_of b = two_conditions b.plain b.bookkeeping b.coordinator

-- "accepted sheets are those that 13 lets pass too"
abbrev pub PassingTwo : TwoBytes → Type 0
PassingTwo b = refusal_of (conditions_of b) ≡ 0

abbrev pub on_two : {A E : Type 0} → TwoBytes → (Sheets → Response A E) → Response A E
on_two b call = unless (conditions_of b) (call (saying_two b))

unfoldable pub response_two : Operation → TwoBytes → Response Answer Sheets
response_two o b = on_two b (response o)

unfoldable pub response_at_two : List Transaction → ℕ → Request → TwoBytes → Response Answer Sheets
response_at_two list place q b = on_two b (response_at list place q)

-- all their conditions, in the order of asking
unfoldable pub all_conditions_two : Operation → TwoBytes → List Condition
all_conditions_two o b = conditions_of b ++ operation_conditions o (saying_two b)

unfoldable pub all_conditions_at_two : List Transaction → ℕ → Request → TwoBytes → List Condition
all_conditions_at_two list place q b = conditions_of b ++ (place_conditions list place ++ operation_conditions (operation_at list place q) (saying_two b))

-- "An atomic write goes to both": what is left, apart. A sheet is as it was where the operation is refused.

unfoldable pub plain_left : {A : Type 0} → List ℕ → Response A Sheets → List ℕ
plain_left ps (refused n) = ps
plain_left ps (made a s) = plain_part (records_text s.lines) ++ spares_text plain_bytes (s.size - length s.lines)

unfoldable pub bookkeeping_left : {A : Type 0} → List ℕ → Response A Sheets → List ℕ
bookkeeping_left bs (refused n) = bs
bookkeeping_left bs (made a s) = bookkeeping_part (records_text s.lines) ++ spares_text bookkeeping_bytes (s.size - length s.lines)

abbrev pub two_left : {A : Type 0} → TwoBytes → Response A Sheets → TwoBytes
two_left b r =
    record {
      plain = plain_left b.plain r;
      bookkeeping = bookkeeping_left b.bookkeeping r;
      coordinator = coordinator_left b.coordinator r;
    }

-- Calls and turns of a history.

unfoldable pub answer_two : Call → TwoBytes → Answer
answer_two c b = answer_of (response_two (once c) b)

unfoldable pub after_two : Call → TwoBytes → TwoBytes
after_two c b = two_left b (response_two (once c) b)

unfoldable pub turn_response_two : Turn → TwoBytes → Response Answer Sheets
turn_response_two (single o) b = response_two o b
turn_response_two (by_place list place q) b = response_at_two list place q b

unfoldable pub turn_event_two : Turn → TwoBytes → Event
turn_event_two x b = record { call = turn_call x; answer = answer_of (turn_response_two x b) }

unfoldable pub turn_after_two : Turn → TwoBytes → TwoBytes
turn_after_two x b = two_left b (turn_response_two x b)
