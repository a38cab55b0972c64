-- What learners doubt, as corollaries of the invariant.
use Rattle.std.specs.Prelude.{◌≡◌, ◌<◌, ◌||◌, ◌∷◌}
use Rattle.std.proofs.Common.{◌∙◌}
use Rattle.lists.specs.Basics.{sym, ap, ℕ, Bool, true, false, List, [], map}
use Rattle.model.specs.Types.{Key, Undecided, Committed}
use Rattle.model.specs.Records.{line_of}
use Rattle.model.specs.Coordinator.{decision}
use Rattle.model.specs.Images.{is_prepared, rolled_back}
use Rattle.model.specs.Writes.{Sheets, sheets_good}
use Rattle.model.specs.Visits.{owner_decision}
use Rattle.model.specs.Results.{Call}
use Rattle.model.specs.Histories.{answer, written, after, events_after, left_by, Legal, one_phase_in}
use Rattle.model.specs.SequentialModel.{first_model, model_after, is_committed}
use Rattle.model.specs.RecoveryPass.{Visit, visit_call, none_prepared, Expiring, Closing}
use Rattle.call_laws.specs.Choices.{by_visit}
use Rattle.call_laws.specs.Sheets.{parts_good}
use Rattle.call_laws.specs.Closure.{sheets_stay_good}
use Rattle.recovery.specs.Settling.{settled_back}
use Rattle.recovery.specs.Memory.{Away, away_nothing}
use Rattle.recovery.specs.Counted.{Silent, silent_kept}
use Rattle.recovery.specs.Calls.{visit_away}
use Rattle.recovery.specs.Invariant.{Inv}
use Rattle.recovery.specs.History.{first_inv, ones_after, history_kept}
use Rattle.recovery.specs.Theorem.{model_of, recovered_by, RecoveredLines, recovery_theorem}
use Rattle.recovery.specs.Commits.{visits_later, ones_are}

-- a visit keeps a number silent
visit_silent : (n : ℕ) (v : Visit) (s : Sheets) → Silent n s → Silent n (after (visit_call v) s)
unfolding after
visit_silent n v s x =
    silent_kept n s (written (visit_call v) s) (by_visit (Away s n) v.key v.clock s away_nothing (visit_away s v.clock v.key n)) x

visits_silent : (n : ℕ) (vs : List Visit) (s : Sheets) → sheets_good s ≡ true → Expiring (λ (y : Sheets). y) after vs s → Silent n s → Silent n (left_by answer after (map visit_call vs) s)
unfolding left_by
visits_silent n [] s g e x = x
visits_silent n (v ∷ vs) s g e x =
    visits_silent n vs (after (visit_call v) s) (sheets_stay_good (visit_call v) s e.0 g) e.1.1 (visit_silent n v s x)

module _ (s : Sheets) (good : sheets_good s ≡ true) (none : none_prepared s.lines ≡ true) (cs : List Call) (legal : Legal answer after cs s []) where
  invariant : Inv s.coordinator.issued (ones_after cs s (λ (n : ℕ). false)) (left_by answer after cs s) (events_after answer after cs s []) (model_of cs s)
  unfolding model_after
  invariant = history_kept cs s [] (first_model s.lines) (first_inv s good none) legal

  -- "They take a PREPARED line for half a commit; it is nothing until the coordinator's line has decided": unless its owner is COMMITTED, the model has the
  -- line that was there before.
  pub prepared_is_nothing : (k : Key) → is_prepared (line_of k (left_by answer after cs s).lines) ≡ true → (owner_decision (line_of k (left_by answer after cs s).lines) (left_by answer after cs s).coordinator ≡ Committed → ⊥) → (model_of cs s).line k ≡ rolled_back (line_of k (left_by answer after cs s).lines)
  prepared_is_nothing k p d =
      sym (invariant.view k) ∙ settled_back (left_by answer after cs s).coordinator (line_of k (left_by answer after cs s).lines) p d

  -- "They think a dead station means a lost order; if COMMITTED was written, the next reader finishes it": the model has committed the number, and every
  -- recovery pass leaves the coordinator line, no line PREPARED and the model's lines (RecoveredLines).
  pub committed_completes : (n : ℕ) → s.coordinator.issued < n → decision n (left_by answer after cs s).coordinator ≡ Committed → (vs : List Visit) → Closing (λ (y : Sheets). y) after vs (left_by answer after cs s) → ((is_committed n (model_of cs s) ≡ true) × (decision n (recovered_by vs cs s).coordinator ≡ Committed)) × RecoveredLines vs cs s
  committed_completes n new d vs c =
      ((invariant.counted.decided n new d, visits_later vs (left_by answer after cs s) n d), recovery_theorem s good none cs legal vs c)

  -- "They look for a COMMITTED row after a one-phase commit, and there is none": the coordinator line is `-`, after the history and after every recovery pass.
  pub one_phase-leaves-undecided : (n : ℕ) → one_phase_in written after n cs s ≡ true → (vs : List Visit) → Expiring (λ (y : Sheets). y) after vs (left_by answer after cs s) → decision n (recovered_by vs cs s).coordinator ≡ Undecided
  one_phase-leaves-undecided n h vs e =
      let o : ones_after cs s (λ (i : ℕ). false) n ≡ true = ones_are cs s (λ (i : ℕ). false) n ∙ ap (λ (b : Bool). b || false) h in
      (visits_silent n vs (left_by answer after cs s) (parts_good (left_by answer after cs s) invariant.good) e (invariant.finished n o).silent).undecided
