-- Sheets that a call is lent and never writes, for every input: the definition leaves them as they were, so that the contracts of begin, put and abort, which say
-- only what they answer and what begin does to the coordinator sheet, settle both sheets too, and those of adding and removing the coordinator sheet. A refused call leaves them, and so does the write of an accepted one.
use Rattle.std.specs.Prelude.{◌≡◌}
use Rattle.lists.specs.Basics.{refl, ℕ, Bool, List}
use Rattle.model.specs.Types.{Key, Columns, Transaction}
use Rattle.model.specs.Coordinator.{Coordinator}
use Rattle.model.specs.Refusals.{Condition}
use Rattle.model.specs.SheetCalls.{check_conditions}
use Rattle.model.specs.Writes.{Write, nothing, issue, add_line, remove_line, line_after, decisions_after}
use Rattle.model.specs.Results.{begin, put, abort, add, remove, Answer, Result, made, unless}
use Rattle.model.specs.Conditions.{conditions}
use Rattle.model.specs.Calls.{outcome, result_of}
use Rattle.model.specs.ByteCalls.{sheets_said, result_on, sheet_after, coordinator_after}
use Rattle.call_laws.specs.Choices.{unless_by}
use Rattle.call_laws.specs.Accepted.{sheet_kept, coordinator_kept}

module _ (rs cs : List ℕ) where
  nothing_leaves : (ps : List Condition) (x : Answer) → (sheet_after rs cs (unless (check_conditions rs cs) (unless ps (made x nothing))) ≡ rs) × (coordinator_after rs cs (unless (check_conditions rs cs) (unless ps (made x nothing))) ≡ cs)
  unfolding sheet_after coordinator_after line_after decisions_after
  nothing_leaves ps x =
      unless_by Leaves (check_conditions rs cs) (refl, refl)
      (λ p. unless_by Leaves ps (refl, refl)
      (λ q. (sheet_kept rs cs p nothing refl (λ r. refl), coordinator_kept rs cs p nothing (λ c. refl))))
    where
      Leaves : Result Answer → Type 0
      Leaves r = (sheet_after rs cs r ≡ rs) × (coordinator_after rs cs r ≡ cs)

  -- "Begin raises the issued count by one", which leaves every line as it was.
  pub begin_leaves_records : (b : Bool) → sheet_after rs cs (result_on (begin b) rs cs) ≡ rs
  unfolding sheet_after result_on result_of outcome line_after
  begin_leaves_records b =
      unless_by Leaves (check_conditions rs cs) refl
      (λ p. unless_by Leaves (conditions (begin b) (sheets_said rs cs)) refl
      (λ q. sheet_kept rs cs p issue refl (λ r. refl)))
    where
      Leaves : Result Answer → Type 0
      Leaves r = sheet_after rs cs r ≡ rs

  -- the calls that write nothing
  pub put_leaves_sheets : (t : Transaction) (k : Key) (c : Columns) → (sheet_after rs cs (result_on (put t k c) rs cs) ≡ rs) × (coordinator_after rs cs (result_on (put t k c) rs cs) ≡ cs)
  unfolding result_on result_of outcome
  put_leaves_sheets t k c = nothing_leaves (conditions (put t k c) (sheets_said rs cs)) _

  pub abort_leaves_sheets : (t : Transaction) → (sheet_after rs cs (result_on (abort t) rs cs) ≡ rs) × (coordinator_after rs cs (result_on (abort t) rs cs) ≡ cs)
  unfolding result_on result_of outcome
  abort_leaves_sheets t = nothing_leaves (conditions (abort t) (sheets_said rs cs)) _

  -- a line put in or taken out leaves the coordinator sheet
  line-leaves : (ps : List Condition) (x : Answer) (w : Write) → ((c : Coordinator) → decisions_after w c ≡ c) → coordinator_after rs cs (unless (check_conditions rs cs) (unless ps (made x w))) ≡ cs
  unfolding coordinator_after
  line-leaves ps x w h =
      unless_by Leaves (check_conditions rs cs) refl
      (λ p. unless_by Leaves ps refl
      (λ q. coordinator_kept rs cs p w h))
    where
      Leaves : Result Answer → Type 0
      Leaves r = coordinator_after rs cs r ≡ cs

  pub add_leaves_coordinator : (k : Key) → coordinator_after rs cs (result_on (add k) rs cs) ≡ cs
  unfolding result_on result_of outcome decisions_after
  add_leaves_coordinator k = line-leaves (conditions (add k) (sheets_said rs cs)) _ (add_line k) (λ c. refl)

  pub remove_leaves_coordinator : (k : Key) → coordinator_after rs cs (result_on (remove k) rs cs) ≡ cs
  unfolding result_on result_of outcome decisions_after
  remove_leaves_coordinator k = line-leaves (conditions (remove k) (sheets_said rs cs)) _ (remove_line k) (λ c. refl)
