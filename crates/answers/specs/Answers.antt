-- What the calls answer: a refusal, or what an accepted call gives.
use Rattle.std.specs.Prelude.{Result as Either, Ok, Err}
use Rattle.lists.specs.Basics.{ℕ, false}
use Rattle.types.specs.declared.Refusal.{Refusal}
use Rattle.types.specs.declared.Reading.TheVariants.{Absent, Value, Again, First}
use Rattle.model.specs.Types.{Columns, Transaction, Recovery, Stays, Reading}
use Rattle.model.specs.Images.{by_recovery}
use Rattle.model.specs.Refusals.{refusal_number}
use Rattle.model.specs.Results.{Answer, turned_away, returned, answered, visited, reported, acknowledged, report_in, held_after, Response, refused, made}
use Rattle.model.specs.Calls.{new_transaction}
use Rattle.answers.specs.declared.Read.{Read}
use Rattle.answers.specs.declared.Closed.{Closed}
use Rattle.answers.specs.declared.Reply.{Reply}
use Rattle.answers.specs.declared.Reply.TheVariants.{Nothing, Read as WasRead, Visited, Writes}
use Rattle.answers.specs.declared.Performed.{Performed}

-- what a function answers, its refusal by the number of the table
abbrev pub in_numbers : {A : Type 0} → Either A Refusal → Either A ℕ
in_numbers (Ok a) = Ok a
in_numbers (Err r) = Err (refusal_number r)

-- what is said of a response: its refusal, or what is made of an accepted answer; its effect isn't looked at
abbrev pub said : {A E : Type 0} → (Answer → A) → Response Answer E → Either A ℕ
said f (refused n) = Err n
said f (made a e) = Ok (f a)

-- "No field of any lent memory changes": a refused call returns no transaction, and its client keeps the one that it passed.
abbrev pub to_returned : {E : Type 0} → Transaction → Response Answer E → Either Transaction ℕ
to_returned t r = said (held_after t) r

-- A begin takes no transaction.
abbrev pub to_begun : {E : Type 0} → Response Answer E → Either Transaction ℕ
to_begun r = to_returned (new_transaction 0 false) r

-- a begin without its transaction: the number given
abbrev pub to_issued : {E : Type 0} → Response Answer E → Either ℕ ℕ
to_issued r = said (λ (a : Answer). (held_after (new_transaction 0 false) a).number) r

-- what a visit came to; of another answer, that the line stays
abbrev pub recovery_in : Answer → Recovery
recovery_in (turned_away n) = Stays
recovery_in (returned t) = Stays
recovery_in (answered v t) = Stays
recovery_in (visited v) = v
recovery_in (reported n t) = Stays
recovery_in acknowledged = Stays

-- what a visit answers
abbrev pub to_visited : {E : Type 0} → Response Answer E → Either Recovery ℕ
to_visited r = said recovery_in r

-- what a read saw; of another answer, that there is nothing
abbrev pub reading_in : Answer → Reading
reading_in (turned_away n) = Absent
reading_in (returned t) = Absent
reading_in (answered v t) = v
reading_in (visited v) = Absent
reading_in (reported n t) = Absent
reading_in acknowledged = Absent

-- what was read, with the transaction as it now is
abbrev pub to_read : {E : Type 0} → Transaction → Response Answer E → Either Read ℕ
to_read t r = said (λ (a : Answer). record { value = reading_in a; transaction = held_after t a }) r

-- a close, answered: "reports how many atomic writes it made", "returns the transaction as it stands"
abbrev pub to_closed : {E : Type 0} → Transaction → Response Answer E → Either Closed ℕ
to_closed t r = said (λ (a : Answer). record { writes = report_in a; transaction = held_after t a }) r

-- what a read or a visit came to, or how many writes a close made; nothing of a call that only returns a transaction
abbrev pub replied : Answer → Reply
replied (turned_away n) = Nothing
replied (returned t) = Nothing
replied (answered v t) = WasRead v
replied (visited v) = Visited v
replied (reported n t) = Writes n
replied acknowledged = Nothing

-- what is asked, answered
abbrev pub to_performed : {E : Type 0} → Transaction → Response Answer E → Either Performed ℕ
to_performed t r = said (λ (a : Answer). record { reply = replied a; transaction = held_after t a }) r

-- Replies as numbers.

-- 0 stays, 1 forward, 2 back, 3 again. A busy line is refused and has no number of its own.
abbrev pub reply_number : Recovery → ℕ
reply_number v = by_recovery v 0 1 2 3 0

-- 0 absent, 1 a value, 2 again, 3 what the first of two calls reads
abbrev pub reading_number : Reading → ℕ
reading_number Absent = 0
reading_number (Value c) = 1
reading_number Again = 2
reading_number (First c) = 3

abbrev pub no_columns : Columns
no_columns = record { column1 = 0; column2 = 0 }

-- the columns of a value or of a first call, zeros where there are none
abbrev pub reading_columns : Reading → Columns
reading_columns Absent = no_columns
reading_columns (Value c) = c
reading_columns Again = no_columns
reading_columns (First c) = c

abbrev pub number_in : Reply → ℕ
number_in Nothing = 0
number_in (WasRead v) = reading_number v
number_in (Visited v) = reply_number v
number_in (Writes n) = n

-- what a read or a visit came to, as a number, or how many writes a close made; 0 of a call that only returns a transaction
abbrev pub reply_in : Answer → ℕ
reply_in a = number_in (replied a)

-- the columns that were read; of another answer, none
abbrev pub columns_in : Answer → Columns
columns_in a = reading_columns (reading_in a)
