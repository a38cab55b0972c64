-- Issuing a number on any two sheets, and the begin that it is. A result of begin is refused, or a new transaction of the number given.
use Rattle.std.specs.Prelude.{◌≡◌, Result as Either}
use Rattle.lists.specs.Basics.{refl, ℕ, Bool, List}
use Rattle.model.specs.Types.{Transaction}
use Rattle.model.specs.SheetCalls.{check_conditions}
use Rattle.model.specs.Writes.{Sheets}
use Rattle.model.specs.Results.{Call, begin, Answer, Result, refused}
use Rattle.model.specs.Conditions.{conditions}
use Rattle.model.specs.Calls.{new_transaction, outcome, result_of}
use Rattle.model.specs.ByteCalls.{sheets_said, result_on, coordinator_after}
use Rattle.call_laws.specs.Choices.{unless_of}
use Rattle.call_laws.specs.Accepted.{SheetOutcome}
use Rattle.answers.specs.Answers.{to_begun, to_issued}
use Rattle.answers.specs.Outcomes.{mapped}

-- which number is issued and what that leaves, checked or not
pub record IssuesOn (rs cs : List ℕ) (r : Either ℕ ℕ) (cs' : List ℕ) : Type 0 where
  pub answer : (b : Bool) → r ≡ to_issued (result_on (begin b) rs cs)
  pub decisions : (b : Bool) → cs' ≡ coordinator_after rs cs (result_on (begin b) rs cs)

pub issues_on : {rs cs : List ℕ} {r : Either ℕ ℕ} {rs' cs' : List ℕ} → ((b : Bool) → SheetOutcome to_issued (result_on (begin b) rs cs) rs cs r rs' cs') → IssuesOn rs cs r cs'
issues_on o = record { answer = λ b. (o b).said; decisions = λ b. (o b).decisions }

-- a result on bytes is a refusal, or what the call comes to
on_result : (rs cs : List ℕ) (P : Result Answer → Type 0) (c : Call) → ((n : ℕ) → (n ≡ 0 → ⊥) → P (refused n)) → ((s : Sheets) → P (outcome c s)) → P (result_on c rs cs)
unfolding result_on result_of
on_result rs cs P c r o =
    unless_of P (check_conditions rs cs) (λ z. r _ z)
    (λ p. unless_of P (conditions c (sheets_said rs cs)) (λ z. r _ z) (λ q. o (sheets_said rs cs)))

-- a begin is its number, with a transaction of it
abbrev pub begun_of : Bool → ℕ → Transaction
begun_of b n = new_transaction n b

pub issued-begun : (b : Bool) (rs cs : List ℕ) → mapped (begun_of b) (to_issued (result_on (begin b) rs cs)) ≡ to_begun (result_on (begin b) rs cs)
unfolding outcome
issued-begun b rs cs =
    on_result rs cs (λ (r : Result Answer). mapped (begun_of b) (to_issued r) ≡ to_begun r) (begin b)
    (λ n z. refl)
    (λ s. refl)
