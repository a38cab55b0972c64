-- The calls, their arguments and what they come to.
use Rattle.lists.specs.Basics.{ℕ, eqb, Bool, true, false, cond, List, Option, none, some}
use Rattle.model.specs.Types.{Key, Columns, Transaction, Recovery, Reading}
use Rattle.model.specs.Refusals.{Condition, refusal_of}
use Rattle.model.specs.Writes.{Write, nothing}

-- The arguments of a call, the sheets excepted. A number ℕ is the clock reading at which the call is made.
pub data Call : Type 0 where
  begin : Bool → Call
  -- of a read in two calls the first
  read : Transaction → Key → ℕ → Call
  -- and the second, which takes the columns that the first answered
  second : Transaction → Key → ℕ → Columns → Call
  put : Transaction → Key → Columns → Call
  advance : Transaction → ℕ → Call
  abort : Transaction → Call
  visit : Key → ℕ → Call
  -- a line for a key that has none, and the line of a key taken away
  add : Key → Call
  remove : Key → Call

-- it adds or removes a line, so that those below it shift
abbrev pub shifts_lines : Call → Bool
shifts_lines (begin b) = false
shifts_lines (read t k now) = false
shifts_lines (second t k now c) = false
shifts_lines (put t k c) = false
shifts_lines (advance t now) = false
shifts_lines (abort t) = false
shifts_lines (visit k now) = false
shifts_lines (add k) = true
shifts_lines (remove k) = true

-- What a call answers to its client.
pub data Answer : Type 0 where
  turned_away : ℕ → Answer
  returned : Transaction → Answer
  answered : Reading → Transaction → Answer
  visited : Recovery → Answer
  -- of a close: how many writes it made, and the transaction as it stands
  reported : ℕ → Transaction → Answer
  -- of adding and removing, which have nothing else to say
  acknowledged : Answer

-- the number that an answer turns away with, 0 where it doesn't
abbrev pub refusal_in : Answer → ℕ
refusal_in (turned_away n) = n
refusal_in (returned t) = 0
refusal_in (answered v t) = 0
refusal_in (visited v) = 0
refusal_in (reported n t) = 0
refusal_in acknowledged = 0

-- the transaction that an accepted call returns, begin's included; "a transaction that a refusal leaves unchanged isn't returned by it"
unfoldable pub returns : Answer → Option Transaction
returns (turned_away n) = none
returns (returned t) = some t
returns (answered v t) = some t
returns (visited v) = none
returns (reported n t) = some t
returns acknowledged = none

-- how many writes a close reports, 0 of any other answer
abbrev pub report_in : Answer → ℕ
report_in (turned_away n) = 0
report_in (returned t) = 0
report_in (answered v t) = 0
report_in (visited v) = 0
report_in (reported n t) = n
report_in acknowledged = 0

-- What is asked comes to: refused with a number, or an answer and an effect.
pub data Response (A E : Type 0) : Type 0 where
  refused : ℕ → Response A E
  made : A → E → Response A E

-- A result: the effect is what is written.
abbrev pub Result : Type 0 → Type 0
Result A = Response A Write

-- refused by the first condition that holds, if one does
abbrev pub unless : {A E : Type 0} → List Condition → Response A E → Response A E
unless cs r = cond (eqb (refusal_of cs) 0) r (refused (refusal_of cs))

-- what a result writes: a refused call nothing
abbrev pub write_of : {A : Type 0} → Result A → Write
write_of (refused n) = nothing
write_of (made a w) = w

-- what is said to the client
abbrev pub answer_of : {E : Type 0} → Response Answer E → Answer
answer_of (refused n) = turned_away n
answer_of (made a w) = a

-- the transaction that an answer leaves with its client: the one returned, or the one that it had
abbrev pub held_after : Transaction → Answer → Transaction
held_after t (turned_away n) = t
held_after t (returned u) = u
held_after t (answered v u) = u
held_after t (visited v) = t
held_after t (reported n u) = u
held_after t acknowledged = t
