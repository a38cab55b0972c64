-- What is printed of a line of a history: of a call that was performed, by what it came to; and of a line that makes no call, with the transaction that it leaves.
use Rattle.std.specs.Prelude.{set}
use Rattle.lists.specs.Basics.{ℕ, ltb, leb, cond, List, get_or}
use Rattle.model.specs.Types.{Entry, Transaction, Recovery, Reading}
use Rattle.types.specs.declared.Reading.TheVariants as value
use Rattle.types.specs.declared.Recovery.TheVariants as came
use Rattle.answers.specs.declared.Reply as told
use Rattle.answers.specs.declared.Reply.TheVariants as said
use Rattle.answers.specs.declared.Performed.{Performed}
use Rattle.script.specs.declared.reply.Reply.{Reply}
use Rattle.script.specs.declared.reply.Reply.TheVariants as reply
use Rattle.script.specs.declared.scan.Kind.{Kind}
use Rattle.script.specs.declared.scan.Kind.TheVariants as variant
use Rattle.script_calls.specs.Parts.{key_from, columns_from}
use Rattle.script_calls.specs.Asking.{no_transaction}

abbrev pub reading : Reading → Reply
reading value.Absent = reply.Absent
reading (value.Value c) = reply.Columns c
reading (value.First c) = reply.First c
reading value.Again = reply.Again

abbrev pub visited : Recovery → Reply
visited came.Stays = reply.Stays
visited came.Forward = reply.Forward
visited came.Back = reply.Back
visited came.Again = reply.Again
visited came.Busy = reply.Again

-- a call that says nothing besides its transaction
abbrev pub said_nothing : Kind → Transaction → Reply
said_nothing variant.Begin t = reply.Begun t.number
said_nothing variant.Advance t = reply.Advanced t
said_nothing k t = reply.Made

-- what a call came to, and the transaction that came back
abbrev pub said_of : Kind → told.Reply → Transaction → Reply
said_of k (said.Read v) t = reading v
said_of k (said.Visited r) t = visited r
said_of k (said.Writes n) t = reply.Closed n t
said_of k said.Nothing t = said_nothing k t

abbrev pub answered : Kind → Performed → Reply
answered k done = said_of k done.reply done.transaction

-- the transaction with the line's numbers, which keeps its entries
abbrev pub renumbered : List ℕ → Transaction → Transaction
renumbered n t =
    record {
      number = get_or n 1 0;
      serializable = get_or n 2 0;
      phase = get_or n 3 0;
      place = get_or n 4 0;
      verdict = get_or n 5 0;
      count = get_or n 6 0;
      entries = t.entries;
    }

-- a line on a slot's transaction that makes no call: its reply
abbrev pub by_hand : Kind → List ℕ → Transaction → Reply
by_hand variant.Show n t = reply.Shown t
by_hand variant.Set n t = reply.Made
by_hand variant.Entry n t = cond (ltb 7 (get_or n 1 0)) reply.BadLine reply.Made
by_hand k n t = reply.BadLine

-- the entry that a line sets
abbrev pub entry_from : List ℕ → Entry
entry_from n =
    record {
      key = key_from n 2;
      seen = record { version = get_or n 8 0; txid = get_or n 9 0; column1 = get_or n 10 0; column2 = get_or n 11 0 };
      absent = get_or n 7 0;
      wrote = get_or n 12 0;
      put = columns_from n 13;
    }

-- the transaction with this entry at an index
abbrev pub with_entry : Transaction → ℕ → Entry → Transaction
with_entry t i e =
    record {
      number = t.number;
      serializable = t.serializable;
      phase = t.phase;
      place = t.place;
      verdict = t.verdict;
      count = t.count;
      entries = set t.entries i e;
    }

-- and the transaction that it leaves
abbrev pub left : Kind → List ℕ → Transaction → Transaction
left variant.Set n t = renumbered n t
left variant.Entry n t = cond (ltb 7 (get_or n 1 0)) t (with_entry t (get_or n 1 0) (entry_from n))
left k n t = t

-- a line that makes no call, with the transactions that there are
abbrev pub on_slot : Kind → List ℕ → List Transaction → Reply
on_slot k n slots = cond (leb 16 (get_or n 0 0)) reply.BadLine (by_hand k n (get_or slots (get_or n 0 0) no_transaction))

abbrev pub replied : Kind → List ℕ → List Transaction → Reply
replied variant.Line n slots = reply.Made
replied variant.Sheets n slots = reply.Made
replied variant.BadLine n slots = reply.BadLine
replied k n slots = on_slot k n slots

-- the transactions with another in a slot, of which there are sixteen
abbrev pub in_slot : ℕ → Transaction → List Transaction → List Transaction
in_slot slot t slots = cond (leb 16 slot) slots (set slots slot t)

-- and those that it leaves
abbrev pub left_on_slot : Kind → List ℕ → List Transaction → List Transaction
left_on_slot k n slots = in_slot (get_or n 0 0) (left k n (get_or slots (get_or n 0 0) no_transaction)) slots

abbrev pub left_by : Kind → List ℕ → List Transaction → List Transaction
left_by variant.Line n slots = slots
left_by variant.Sheets n slots = slots
left_by variant.BadLine n slots = slots
left_by k n slots = left_on_slot k n slots
