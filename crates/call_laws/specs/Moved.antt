-- A step changes the phase, the place and the verdict of a transaction and nothing else: what does not depend on them is as it was. A walk through the table of
-- steps.
use Rattle.std.specs.Prelude.{◌≡◌, ◌+◌}
use Rattle.lists.specs.Basics.{refl, ℕ, ltb, length, get_or, all, choose_by}
use Rattle.model.specs.Types.{Transaction}
use Rattle.model.specs.Coordinator.{decision}
use Rattle.model.specs.Transactions.{done_phase, is_empty, puts, to_validate, no_entry, moved}
use Rattle.model.specs.Writes.{Sheets}
use Rattle.model.specs.Steps.{Step, holds, units_of, groups_of, group_at, one_phase_allowed, open_without_puts, one_phase, open_step, after_prepare, next_group, prepare_step}
use Rattle.model.specs.Steps.{next_entry, validate_step, decide_step, withdraw_step, finish_step, undo_step, step}
use Rattle.call_laws.specs.Choices.{by_phase_lem, by_decision_lem}

module _ {A : Type 0} (f : Transaction → A) (t : Transaction) (h : (phase place verdict : ℕ) → f (moved phase place verdict t) ≡ f t) (s : Sheets) where
  abbrev As : Transaction → Type 0
  As u = f u ≡ f t

  abbrev Same : Step → Type 0
  Same x = As x.transaction

  next_group_lem : (p : ℕ) → As (next_group p t s)
  unfolding next_group
  next_group_lem p = choose_by As (ltb (t.place + 1) (groups_of t s)) (λ e. h _ _ _) (λ e. h _ _ _)

  next_entry_lem : As (next_entry (units_of s) t)
  unfolding next_entry
  next_entry_lem =
      choose_by As (ltb (t.place + 1) (length (to_validate (units_of s) t))) (λ e. h _ _ _)
      (λ e. choose_by As (is_empty (puts t)) (λ g. h _ _ _) (λ g. h _ _ _))

  pub step-leaves : (now : ℕ) → As (step t now s).transaction
  unfolding step open_step open_without_puts one_phase prepare_step validate_step decide_step withdraw_step finish_step undo_step
  step-leaves now =
      by_phase_lem Same t.phase
      (choose_by Same (is_empty (puts t)) (λ e. choose_by Same (is_empty (to_validate (units_of s) t)) (λ g. h _ _ _) (λ g. h _ _ _))
      (λ e. choose_by Same (one_phase_allowed t s) (λ g. choose_by Same (all (holds s) (group_at t s)) (λ c. h _ _ _) (λ c. h _ _ _)) (λ g. h _ _ _)))
      (choose_by Same (all (holds s) (group_at t s)) (λ c. next_group_lem (after_prepare (units_of s) t)) (λ c. h _ _ _))
      (choose_by Same (holds s (get_or (to_validate (units_of s) t) t.place no_entry)) (λ c. next_entry_lem) (λ c. h _ _ _))
      (by_decision_lem Same (decision t.number s.coordinator) (h _ _ _) refl (h _ _ _))
      (by_decision_lem Same (decision t.number s.coordinator) (h _ _ _) refl (h _ _ _))
      (next_group_lem done_phase)
      (next_group_lem done_phase)
      refl
      refl
