-- Turns of a history, over decoded sheets and over bytes: an operation, or one by place. Document 01, "The cut-off rule": "advance (by place too, taking and
-- returning the one named)"; document 02, note 1: the cut-off rule "treats each write inside the call as a point where the station may stop, meaning the
-- call with that limit", so that a crash falls between two turns.
use Rattle.std.specs.Prelude.{◌||◌, ◌∷◌, ◌++◌}
use Rattle.lists.specs.Basics.{ℕ, Bool, false, cond, List, [], length}
use Rattle.model.specs.Types.{Transaction, Request}
use Rattle.model.specs.Writes.{Sheets}
use Rattle.model.specs.Results.{Call, Answer, Response, answer_of}
use Rattle.model.specs.Histories.{Event, written, after, Permitted, one_phase_in}
use Rattle.model.specs.ByteHistories.{Bytes}
use Rattle.model.specs.Operations.{Operation, writes_once, operation_shifts, stands_for, response, sheets_left, calls_of, response_on, bytes_left}
use Rattle.model.specs.CallByPlace.{listed, operation_at, call_at, response_at, response_at_on}

pub data Turn : Type 0 where
  single : Operation → Turn
  -- of a client's list of transactions the one at a place, and what is asked of it
  by_place : List Transaction → ℕ → Request → Turn

-- what a turn is to legality and the sequential model
unfoldable pub turn_call : Turn → Call
turn_call (single o) = stands_for o
turn_call (by_place list place q) = call_at list place q

-- it writes at most once, whatever the sheets
unfoldable pub turn_writes_once : Turn → Bool
turn_writes_once (single o) = writes_once o
turn_writes_once (by_place list place q) = writes_once (operation_at list place q)

-- it adds or removes a line; a call by place does neither
abbrev pub turn_shifts : Turn → Bool
turn_shifts (single o) = operation_shifts o
turn_shifts (by_place list place q) = false

-- Over decoded sheets.

unfoldable pub turn_response : Turn → Sheets → Response Answer Sheets
turn_response (single o) s = response o s
turn_response (by_place list place q) s = response_at list place q s

-- the turn made with these sheets, and its answer
unfoldable pub turn_event : Turn → Sheets → Event
turn_event x s = record { call = turn_call x; answer = answer_of (turn_response x s) }

-- the sheets as the turn leaves them
unfoldable pub turn_after : Turn → Sheets → Sheets
turn_after x s = sheets_left s (turn_response x s)

-- the calls that a turn comes to: one by place none where the list has no such place
unfoldable pub comes_to : Turn → Sheets → List Call
comes_to (single o) s = calls_of o s
comes_to (by_place list place q) s = cond (listed (length list) place) (calls_of (operation_at list place q) s) []

-- the turn makes the one-phase write of a number
unfoldable pub turn_one_phase : ℕ → Turn → Sheets → Bool
turn_one_phase n x s = one_phase_in written after n (comes_to x s) s

-- the calls that a history comes to
unfoldable pub expanded : List Turn → Sheets → List Call
expanded [] s = []
expanded (x ∷ xs) s = comes_to x s ++ expanded xs (turn_after x s)

-- Over bytes.

unfoldable pub turn_response_on : Turn → Bytes → Response Answer Sheets
turn_response_on (single o) b = response_on o b.records b.coordinator
turn_response_on (by_place list place q) b = response_at_on list place q b.records b.coordinator

unfoldable pub turn_event_on : Turn → Bytes → Event
turn_event_on x b = record { call = turn_call x; answer = answer_of (turn_response_on x b) }

unfoldable pub turn_after_on : Turn → Bytes → Bytes
turn_after_on x b = bytes_left b (turn_response_on x b)

-- Histories of turns over any kind of sheets, by how a turn leaves them ..
module _ {S : Type 0} (leaves : Turn → S → S) where
  -- "each call given the sheets as the last one left them"
  unfoldable pub turns_left : List Turn → S → S
  turns_left [] s = s
  turns_left (x ∷ xs) s = turns_left xs (leaves x s)

  -- the one-phase write of a number is made in a history
  unfoldable pub one_phase_turn : (ℕ → Turn → S → Bool) → ℕ → List Turn → S → Bool
  one_phase_turn makes n [] s = false
  one_phase_turn makes n (x ∷ xs) s = makes n x s || one_phase_turn makes n xs (leaves x s)

  -- .. and by what it is to others.
  module _ (events : Turn → S → Event) where
    -- the turns that have been made, the last one first
    unfoldable pub turn_events : List Turn → S → List Event → List Event
    turn_events [] s es = es
    turn_events (x ∷ xs) s es = turn_events xs (leaves x s) (events x s ∷ es)

    -- a legal history of turns from these sheets, after these events
    abbrev pub LegalTurns : List Turn → S → List Event → Type 0
    LegalTurns [] s es = Unit {0}
    LegalTurns (x ∷ xs) s es = Permitted (events x s).call (events x s).answer es × LegalTurns xs (leaves x s) (events x s ∷ es)
