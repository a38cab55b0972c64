-- The step table by its cases: what each outcome of the tests comes to, so that every arm of the code is one of them.
use Rattle.std.specs.Prelude.{◌≡◌}
use Rattle.std.proofs.Common.{◌∙◌}
use Rattle.lists.specs.Basics.{refl, sym, ap, subst, ℕ, eqb, true, false, List, get_or, all, choose_by}
use Rattle.model.specs.Types.{Undecided, Committed, Aborted, Transaction}
use denote.Enum.Declared.{tag_of}
use Rattle.transactions.specs.declared.phases.Phase.{Phase}
use Rattle.transactions.specs.contracts.phases.Phase.{the_type}
use Rattle.transactions.specs.Numbers.{phase_number}
use Rattle.lists.specs.Chosen.{Missed}
use Rattle.transactions.specs.Phases.{phase_past}
use Rattle.model.specs.Coordinator.{decision}
use Rattle.model.specs.Transactions.{by_phase, is_empty, puts, to_validate, no_entry, moved}
use Rattle.model.specs.Writes.{Sheets, nothing, decide, commit, prepare}
use Rattle.model.specs.Steps.{Step, holds, units_of, group_at, to, no_step, commits, one_phase_allowed, open_without_puts, one_phase, open_step, after_prepare, next_group}
use Rattle.model.specs.Steps.{prepare_step, next_entry, validate_step, decide_step, withdrawn, withdraw_step, finish_step, undo_step, step}
use Rattle.steps.specs.Stepped.{Stepped}

-- a phase as a number
pub number_is : (p : Phase) → tag_of the_type p ≡ phase_number p
number_is Phase.Open = refl
number_is Phase.Prepare = refl
number_is Phase.Validate = refl
number_is Phase.Decide = refl
number_is Phase.Withdraw = refl
number_is Phase.Finish = refl
number_is Phase.Undo = refl
number_is Phase.Done = refl

-- what has been stepped by a step has been stepped by an equal one
pub stepped_as : {s : Sheets} {x y : Step} {t : Transaction} {rs cs : List ℕ} → y ≡ x → Stepped s x t rs cs → Stepped s y t rs cs
stepped_as {s} {x} {y} {t} {rs} {cs} e h = subst (λ (z : Step). Stepped s z t rs cs) (sym e) h

module _ (t : Transaction) (s : Sheets) where
  pub open_done : is_empty (puts t) ≡ true → is_empty (to_validate (units_of s) t) ≡ true → open_step t s ≡ record { transaction = commits t; write = nothing }
  unfolding open_step open_without_puts
  open_done e f = rw (e, f)

  pub open_validates : is_empty (puts t) ≡ true → is_empty (to_validate (units_of s) t) ≡ false → open_step t s ≡ to 2 t
  unfolding open_step open_without_puts
  open_validates e f = rw (e, f)

  pub open_prepares : is_empty (puts t) ≡ false → one_phase_allowed t s ≡ false → open_step t s ≡ to 1 t
  unfolding open_step
  open_prepares e f = rw (e, f)

  pub open_one_phase : is_empty (puts t) ≡ false → one_phase_allowed t s ≡ true → open_step t s ≡ one_phase t s
  unfolding open_step
  open_one_phase e f = rw (e, f)

  pub one_phase_fails : all (holds s) (group_at t s) ≡ false → one_phase t s ≡ to 4 t
  unfolding one_phase
  one_phase_fails h = rw h

  pub one_phase-commits : all (holds s) (group_at t s) ≡ true → one_phase t s ≡ record { transaction = commits t; write = commit t.number (group_at t s) }
  unfolding one_phase
  one_phase-commits h = rw h

  pub prepare_fails : (now : ℕ) → all (holds s) (group_at t s) ≡ false → prepare_step t now s ≡ to 4 t
  unfolding prepare_step
  prepare_fails now h = rw h

  pub prepare_writes : (now : ℕ) → all (holds s) (group_at t s) ≡ true → prepare_step t now s ≡ record { transaction = next_group (after_prepare (units_of s) t) t s; write = prepare t.number now (group_at t s) }
  unfolding prepare_step
  prepare_writes now h = rw h

  pub validate_fails : holds s (get_or (to_validate (units_of s) t) t.place no_entry) ≡ false → validate_step t s ≡ to 4 t
  unfolding validate_step
  validate_fails h = rw h

  pub validate_passes : holds s (get_or (to_validate (units_of s) t) t.place no_entry) ≡ true → validate_step t s ≡ record { transaction = next_entry (units_of s) t; write = nothing }
  unfolding validate_step
  validate_passes h = rw h

  pub decide_commits : decision t.number s.coordinator ≡ Undecided → decide_step t s ≡ record { transaction = moved 5 0 1 t; write = decide t.number Committed }
  unfolding decide_step
  decide_commits h = rw h

  pub decide_stays : decision t.number s.coordinator ≡ Committed → decide_step t s ≡ no_step t
  unfolding decide_step
  decide_stays h = rw h

  pub decide_undoes : decision t.number s.coordinator ≡ Aborted → decide_step t s ≡ record { transaction = moved 6 0 2 t; write = nothing }
  unfolding decide_step
  decide_undoes h = rw h

  pub withdraw_aborts : decision t.number s.coordinator ≡ Undecided → withdraw_step t s ≡ record { transaction = withdrawn t; write = decide t.number Aborted }
  unfolding withdraw_step
  withdraw_aborts h = rw h

  pub withdraw_stays : decision t.number s.coordinator ≡ Committed → withdraw_step t s ≡ no_step t
  unfolding withdraw_step
  withdraw_stays h = rw h

  pub withdraw_moves : decision t.number s.coordinator ≡ Aborted → withdraw_step t s ≡ record { transaction = withdrawn t; write = nothing }
  unfolding withdraw_step
  withdraw_moves h = rw h

  -- Every phase by its number.
  module _ (now : ℕ) where
    pub step_at_lem : (p : ℕ) → t.phase ≡ p → step t now s ≡ by_phase p (open_step t s) (prepare_step t now s) (validate_step t s) (decide_step t s) (withdraw_step t s) (finish_step t s) (undo_step t s) (no_step t) (no_step t)
    unfolding step
    step_at_lem p e =
        ap (λ (q : ℕ). by_phase q (open_step t s) (prepare_step t now s) (validate_step t s) (decide_step t s) (withdraw_step t s) (finish_step t s) (undo_step t s) (no_step t) (no_step t)) e

    -- in done, or in no phase
    pub step-none : Missed 7 t.phase → step t now s ≡ no_step t
    unfolding step
    step-none n =
        phase_past t.phase (open_step t s) (prepare_step t now s) (validate_step t s) (decide_step t s) (withdraw_step t s) (finish_step t s) (undo_step t s)
        (no_step t) (no_step t) n
        ∙ choose_by (λ (y : Step). y ≡ no_step t) (eqb t.phase 7) (λ e. refl) (λ e. refl)
