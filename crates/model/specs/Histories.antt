-- Histories of calls, and which are legal. Document 01, "The cut-off rule". A crash falls between two calls, so that it needs no event of its own.
use Rattle.std.specs.Prelude.{◌≡◌, ◌^◌, ◌<◌, ◌||◌, ◌∷◌, ◌⊎◌}
use Rattle.lists.specs.Basics.{ℕ, Bool, false, List, [], Option, none, some}
use Rattle.model.specs.Types.{Transaction}
use Rattle.model.specs.Writes.{Sheets, Write, is_one_phase, apply}
use Rattle.model.specs.Results.{Call, begin, read, second, put, advance, abort, visit, add, remove, Answer, turned_away, returned, answered, visited, reported}
use Rattle.model.specs.Results.{acknowledged, returns, write_of, answer_of}
use Rattle.model.specs.Calls.{result_of}

-- a call made, and its answer
pub record Event : Type 0 where
  pub call : Call
  pub answer : Answer

-- what the call answers, made with these sheets
unfoldable pub answer : Call → Sheets → Answer
answer c s = answer_of (result_of c s)

-- what the call writes, made with these sheets
unfoldable pub written : Call → Sheets → Write
written c s = write_of (result_of c s)

-- the sheets as the call leaves them
unfoldable pub after : Call → Sheets → Sheets
after c s = apply (written c s) s

-- the transaction that a call is given
unfoldable pub given : Call → Option Transaction
given (begin b) = none
given (read t k now) = some t
given (second t k now c) = some t
given (put t k c) = some t
given (advance t now) = some t
given (abort t) = some t
given (visit k now) = none
given (add k) = none
given (remove k) = none

-- the transaction that an accepted call takes; a refused call takes none
abbrev pub taken_by : Call → Answer → Option Transaction
taken_by c (turned_away n) = none
taken_by c (returned t) = given c
taken_by c (answered v t) = given c
taken_by c (visited v) = given c
taken_by c (reported n t) = given c
taken_by c acknowledged = given c

abbrev pub taken : Event → Option Transaction
taken e = taken_by e.call e.answer

-- "a state that begin gave in this list, or that an accepted call of it returned for the one it took, and that no accepted call has taken since":
-- over the events so far, the last one first
abbrev pub Available : Transaction → List Event → Type 0
Available t [] = ⊥
Available t (e ∷ es) = (returns e.answer ≡ some t) ⊎ ((taken e ≡ some t → ⊥) × Available t es)

-- the clock reading of a call is a number below 2^32
abbrev pub ClockFits : Call → Type 0
ClockFits (begin b) = Unit {0}
ClockFits (read t k now) = now < 2 ^ 32
ClockFits (second t k now c) = now < 2 ^ 32
ClockFits (put t k c) = Unit {0}
ClockFits (advance t now) = now < 2 ^ 32
ClockFits (abort t) = Unit {0}
ClockFits (visit k now) = now < 2 ^ 32
ClockFits (add k) = Unit {0}
ClockFits (remove k) = Unit {0}

-- "A refused call may bring any transaction, key and clock. An accepted one that takes a transaction takes a state" that is available.
pub record Permitted (c : Call) (a : Answer) (es : List Event) : Type 0 where
  pub clock : ClockFits c
  pub state : (t : Transaction) → taken_by c a ≡ some t → Available t es

-- Histories over any kind of sheets, decoded or bytes, by what a call answers with them and how it leaves them.
module _ {S : Type 0} (answers : Call → S → Answer) (leaves : Call → S → S) where
  -- the call made with these sheets, and its answer
  abbrev pub event : Call → S → Event
  event c s = record { call = c; answer = answers c s }

  -- the calls that have been made, the last one first
  unfoldable pub events_after : List Call → S → List Event → List Event
  events_after [] s es = es
  events_after (c ∷ cs) s es = events_after cs (leaves c s) (event c s ∷ es)

  -- "each call given the sheets as the last one left them"
  unfoldable pub left_by : List Call → S → S
  left_by [] s = s
  left_by (c ∷ cs) s = left_by cs (leaves c s)

  -- a legal history from these sheets, after these events
  abbrev pub Legal : List Call → S → List Event → Type 0
  Legal [] s es = Unit {0}
  Legal (c ∷ cs) s es = Permitted c (answers c s) es × Legal cs (leaves c s) (event c s ∷ es)

-- the one-phase write of a number is made in a history, by what a call writes with these sheets and how it leaves them
module _ {S : Type 0} (writes : Call → S → Write) (leaves : Call → S → S) where
  unfoldable pub one_phase_in : ℕ → List Call → S → Bool
  one_phase_in n [] s = false
  one_phase_in n (c ∷ cs) s = is_one_phase n (writes c s) || one_phase_in n cs (leaves c s)
