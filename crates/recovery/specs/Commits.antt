-- A transaction with puts is committed in the model exactly when its coordinator line says so or its one-phase write was made: from the count that the
-- history keeps, which the visits of a recovery pass leave alone.
use Rattle.std.specs.Prelude.{◌≡◌, ◌<◌, ◌||◌, ◌∷◌, ◌⊎◌}
use Rattle.std.proofs.Common.{◌∙◌}
use Rattle.lists.specs.Basics.{refl, sym, ap, ℕ, Bool, true, false, List, [], map, none, some, none-ne-some, inl, inr}
use Rattle.model.specs.Types.{Key, Decision, Committed}
use Rattle.model.specs.Images.{Change}
use Rattle.model.specs.Records.{line_of}
use Rattle.model.specs.Coordinator.{decision}
use Rattle.model.specs.Writes.{Sheets, sheets_good, is_one_phase, apply}
use Rattle.model.specs.Results.{Call}
use Rattle.model.specs.Histories.{answer, written, after, events_after, left_by, Legal, one_phase_in}
use Rattle.model.specs.SequentialModel.{first_model, model_after, is_committed}
use Rattle.model.specs.RecoveryPass.{Visit, visit_call, none_prepared}
use Rattle.model.specs.Recovered.{CommittedExactly}
use Rattle.call_laws.specs.Choices.{by_visit}
use Rattle.recovery.specs.Settling.{Gentle, gentle_nothing}
use Rattle.recovery.specs.Counted.{Counted, one_after, gentle_before, gentle_later}
use Rattle.recovery.specs.Calls.{visit_gentle}
use Rattle.recovery.specs.History.{first_inv, ones_after, history_kept}
use Rattle.recovery.specs.Theorem.{model_of, recovered_by}

-- Visits make no COMMITTED and take none away.

call_gentle : (v : Visit) (s : Sheets) → Gentle s (written (visit_call v) s)
call_gentle v s = by_visit (Gentle s) v.key v.clock s gentle_nothing (visit_gentle s v.clock (line_of v.key s.lines))

pub visits_before : (vs : List Visit) (s : Sheets) (n : ℕ) → decision n (left_by answer after (map visit_call vs) s).coordinator ≡ Committed → decision n s.coordinator ≡ Committed
unfolding left_by after apply
visits_before [] s n e = e
visits_before (v ∷ vs) s n e = gentle_before s (written (visit_call v) s) (call_gentle v s) n (visits_before vs (after (visit_call v) s) n e)

pub visits_later : (vs : List Visit) (s : Sheets) (n : ℕ) → decision n s.coordinator ≡ Committed → decision n (left_by answer after (map visit_call vs) s).coordinator ≡ Committed
unfolding left_by after apply
visits_later [] s n e = e
visits_later (v ∷ vs) s n e = visits_later vs (after (visit_call v) s) n (gentle_later s (written (visit_call v) s) (call_gentle v s) n e)

-- One-phase writes, as the history has them and as they were counted.

or_shift : (a b c : Bool) → (b || (a || c)) ≡ ((a || b) || c)
or_shift true true c = refl
or_shift true false c = refl
or_shift false b c = refl

pub ones_are : (cs : List Call) (s : Sheets) (one : ℕ → Bool) (n : ℕ) → ones_after cs s one n ≡ (one_phase_in written after n cs s || one n)
unfolding ones_after one_phase_in
ones_are [] s one n = refl
ones_are (c ∷ cs) s one n =
    ones_are cs (after c s) (one_after (written c s) one) n
    ∙ or_shift (is_one_phase n (written c s)) (one_phase_in written after n cs (after c s)) (one n)

pub or-none : (a : Bool) → (a || false) ≡ a
or-none true = refl
or-none false = refl

-- "A transaction with puts is committed exactly when its coordinator line says so or its one-phase write was made", for a number begun in the history.
abbrev pub Exactly : ℕ → List Visit → List Call → Sheets → Type 0
Exactly n vs cs s = CommittedExactly (is_committed n (model_of cs s)) (decision n (recovered_by vs cs s).coordinator) (one_phase_in written after n cs s)

-- the same of what is equal
pub exactly-same : {a b : Bool} {d e : Decision} {o p : Bool} → a ≡ b → d ≡ e → o ≡ p → CommittedExactly a d o → CommittedExactly b e p
exactly-same {d = d} {e = e} {o = o} {p = p} f g h x =
    record { only_if = λ q. either (x.only_if (f ∙ q)); decided = λ q. sym f ∙ x.decided (g ∙ q); one_phased = λ q. sym f ∙ x.one_phased (h ∙ q) }
  where
    either : (d ≡ Committed) ⊎ (o ≡ true) → (e ≡ Committed) ⊎ (p ≡ true)
    either (inl q) = inl (sym g ∙ q)
    either (inr q) = inr (sym h ∙ q)

pub commits-exactly : (s : Sheets) → sheets_good s ≡ true → none_prepared s.lines ≡ true → (cs : List Call) → Legal answer after cs s [] → (vs : List Visit) (n : ℕ) → s.coordinator.issued < n → (k : Key) (c : Change) → (model_of cs s).writes n k ≡ some c → Exactly n vs cs s
unfolding model_after
commits-exactly s g z cs legal vs n new k c put =
    record {
      only_if = λ h. reason (count.why n h);
      decided = λ d. count.decided n new (visits_before vs (left_by answer after cs s) n d);
      one_phased = λ h. count.one_phased n (ones_are cs s (λ (i : ℕ). false) n ∙ ap (λ (b : Bool). b || false) h);
    }
  where
    count : Counted s.coordinator.issued (ones_after cs s (λ (i : ℕ). false)) (left_by answer after cs s) (events_after answer after cs s []) (model_of cs s)
    count = (history_kept cs s [] (first_model s.lines) (first_inv s g z) legal).counted

    reason : (decision n (left_by answer after cs s).coordinator ≡ Committed) ⊎ ((ones_after cs s (λ (i : ℕ). false) n ≡ true) ⊎ ((i : Key) → (model_of cs s).writes n i ≡ none)) → (decision n (recovered_by vs cs s).coordinator ≡ Committed) ⊎ (one_phase_in written after n cs s ≡ true)
    reason (inl d) = inl (visits_later vs (left_by answer after cs s) n d)
    reason (inr (inl o)) = inr (sym (ones_are cs s (λ (i : ℕ). false) n ∙ or-none (one_phase_in written after n cs s)) ∙ o)
    reason (inr (inr e)) = absurd (none-ne-some c (sym (e k) ∙ put))
