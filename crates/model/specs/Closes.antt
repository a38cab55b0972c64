-- What is claimed of a close, over bytes. Document 02, note 1.
use Rattle.std.specs.Prelude.{◌≡◌, ◌+◌, ◌⊎◌}
use Rattle.lists.specs.Basics.{ℕ, suc}
use Rattle.model.specs.Types.{Transaction}
use Rattle.model.specs.Transactions.{done_phase}
use Rattle.model.specs.Results.{advance, Answer, returned, report_in, answer_of}
use Rattle.model.specs.ByteHistories.{Bytes, answer_on, after_on}
use Rattle.model.specs.AtomicWrites.{WithinUnit, WithinUnitTwo}
use Rattle.model.specs.Operations.{close, response_on, bytes_left}
use Rattle.model.specs.TwoCalls.{TwoBytes, response_two, two_left}

-- what it answers, and the bytes that it leaves
abbrev pub close_answer : Transaction → (clock limit : ℕ) → Bytes → Answer
close_answer t now limit b = answer_of (response_on (close t now limit) b.records b.coordinator)

abbrev pub close_leaves : Transaction → (clock limit : ℕ) → Bytes → Bytes
close_leaves t now limit b = bytes_left b (response_on (close t now limit) b.records b.coordinator)

-- "advances made one after another", none of them refused and each given what the last one returned and left: from a transaction and bytes, with so many of
-- them changing a byte, to a transaction and bytes
pub data Advances (clock : ℕ) : Transaction → Bytes → ℕ → Transaction → Bytes → Type 0 where
  no_advance : (t : Transaction) (b : Bytes) → Advances clock t b 0 t b
  unwritten : (t u v : Transaction) (b c : Bytes) (n : ℕ) → answer_on (advance t clock) b ≡ returned u → after_on (advance t clock) b ≡ b
      → Advances clock u (after_on (advance t clock) b) n v c → Advances clock t b n v c
  written : (t u v : Transaction) (b c : Bytes) (n : ℕ) → answer_on (advance t clock) b ≡ returned u → (after_on (advance t clock) b ≡ b → ⊥)
      → Advances clock u (after_on (advance t clock) b) n v c → Advances clock t b (suc n) v c

-- "demand 2's single unit holds for each write in it, from one limit to the next, instead of for the call": the next limit changes nothing, or it is one more
-- write, within one unit or to the coordinator sheet. Of the answers and of what is left, on sheets of any kind.
pub data NextWrite {S : Type 0} (unit : S → S → Type 0) (answer answer' : Answer) (left left' : S) : Type 0 where
  nothing_more : answer' ≡ answer → left' ≡ left → NextWrite unit answer answer' left left'
  one_write_more : report_in answer' ≡ report_in answer + 1 → unit left left' → NextWrite unit answer answer' left left'

abbrev pub NextLimit : Transaction → (clock limit : ℕ) → Bytes → Type 0
NextLimit t clock limit b =
    NextWrite WithinUnit (close_answer t clock limit b) (close_answer t clock (limit + 1) b) (close_leaves t clock limit b) (close_leaves t clock (limit + 1) b)

abbrev pub NextLimitTwo : Transaction → (clock limit : ℕ) → TwoBytes → Type 0
NextLimitTwo t clock limit b =
    NextWrite WithinUnitTwo (answer_of (response_two (close t clock limit) b)) (answer_of (response_two (close t clock (limit + 1)) b))
    (two_left b (response_two (close t clock limit) b)) (two_left b (response_two (close t clock (limit + 1)) b))

-- "before a step that would write beyond it returns the transaction as it stands", and nowhere else but at done: as many writes were made as the limit
-- allows, and one more advance would change a byte
abbrev pub EndsAt : (clock limit writes : ℕ) → Transaction → Bytes → Type 0
EndsAt clock limit writes u b = (u.phase ≡ done_phase) ⊎ ((writes ≡ limit) × (after_on (advance u clock) b ≡ b → ⊥))
