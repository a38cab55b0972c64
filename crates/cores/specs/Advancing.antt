-- Advance, case by case in the order of its conditions; an accepted one is the step of its phase.
use Rattle.std.specs.Prelude.{◌≡◌, Ok}
use Rattle.lists.specs.Basics.{ap, ℕ, true, false, List}
use Rattle.model.specs.Types.{Transaction}
use Rattle.model.specs.Coordinator.{coordinator_of, decision}
use Rattle.model.specs.Refusals.{refusal_of}
use Rattle.model.specs.WellFormed.{well_formed}
use Rattle.model.specs.Results.{advance, returned, refused, made}
use Rattle.model.specs.Conditions.{cannot_advance, conditions}
use Rattle.model.specs.Steps.{step}
use Rattle.model.specs.Calls.{outcome, result_of}
use Rattle.model.specs.ByteCalls.{sheets_of}
use Rattle.call_laws.specs.Accepted.{Outcome, outcome_made}
use Rattle.well_formed.specs.Barred.{forbids}
use Rattle.steps.specs.Stepped.{Stepped}
use Rattle.answers.specs.Answers.{to_returned}

module _ (t : Transaction) (clock : ℕ) (rs cs : List ℕ) where
  pub advance_ill : well_formed (sheets_of rs cs) t ≡ false → result_of (advance t clock) (sheets_of rs cs) ≡ refused 3
  unfolding result_of conditions refusal_of
  advance_ill e = rw e

  module _ (formed : well_formed (sheets_of rs cs) t ≡ true) where
    pub advance_forbidden : forbids t.phase (decision t.number (coordinator_of cs)) ≡ true → result_of (advance t clock) (sheets_of rs cs) ≡ refused 4
    unfolding result_of conditions cannot_advance forbids refusal_of
    advance_forbidden f = rw (formed, f)

    advance_made : forbids t.phase (decision t.number (coordinator_of cs)) ≡ false → result_of (advance t clock) (sheets_of rs cs) ≡ made (returned (step t clock (sheets_of rs cs)).transaction) (step t clock (sheets_of rs cs)).write
    unfolding result_of outcome conditions cannot_advance forbids refusal_of
    advance_made f = rw (formed, f)

    -- what the step gives
    pub step-outcome : {u : Transaction} {rs' cs' : List ℕ} → forbids t.phase (decision t.number (coordinator_of cs)) ≡ false → Stepped (sheets_of rs cs) (step t clock (sheets_of rs cs)) u rs' cs' → Outcome (to_returned t) (result_of (advance t clock) (sheets_of rs cs)) rs cs (Ok u) rs' cs'
    step-outcome f x =
        outcome_made (to_returned t) rs cs (returned (step t clock (sheets_of rs cs)).transaction) (step t clock (sheets_of rs cs)).write (advance_made f)
        (ap (λ (y : Transaction). Ok y) x.transaction) (record { lines = x.records; decisions = x.coordinator })
