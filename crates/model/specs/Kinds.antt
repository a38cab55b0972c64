-- The kinds of sheets of which histories are told: a record sheet, or a plain sheet and a bookkeeping sheet, each beside a coordinator sheet. What is said of any
-- kind is said of both.
use Rattle.lists.specs.Basics.{ℕ, List}
use Rattle.model.specs.Writes.{Sheets}
use Rattle.model.specs.Results.{Call, Answer}
use Rattle.model.specs.Histories.{Event}
use Rattle.model.specs.ByteHistories.{Bytes, saying, Passing, answer_on, after_on}
use Rattle.model.specs.Turns.{Turn, turn_event_on, turn_after_on}
use Rattle.model.specs.TwoSheets.{joined_sheet}
use Rattle.model.specs.TwoCalls.{TwoBytes, saying_two, PassingTwo, answer_two, after_two, turn_event_two, turn_after_two}

pub record Kind (S : Type 0) : Type 1 where
  -- what the sheets say, and which are accepted
  pub sheets : S → Sheets
  pub passes : S → Type 0
  -- the bytes of their record sheet, spares included
  pub text : S → List ℕ
  -- what a call answers with them, and how it leaves them
  pub answers : Call → S → Answer
  pub leaves : Call → S → S
  -- what a turn is with them, and how it leaves them
  pub events : Turn → S → Event
  pub turned : Turn → S → S

abbrev pub bytes_kind : Kind Bytes
bytes_kind =
    record {
      sheets = saying;
      passes = Passing;
      text = λ (b : Bytes). b.records;
      answers = answer_on;
      leaves = after_on;
      events = turn_event_on;
      turned = turn_after_on;
    }

-- document 02, note 4: "accepted sheets are those that 13 lets pass too, and demand 3's lines and the plain book's are the joined sheet's"
abbrev pub two_kind : Kind TwoBytes
two_kind =
    record {
      sheets = saying_two;
      passes = PassingTwo;
      text = λ (b : TwoBytes). joined_sheet b.plain b.bookkeeping;
      answers = answer_two;
      leaves = after_two;
      events = turn_event_two;
      turned = turn_after_two;
    }
