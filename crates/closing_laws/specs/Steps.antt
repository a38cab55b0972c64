-- The steps of a close go through: what may be closed may be advanced, and after the step is done or may be closed on. By phase: where the step decides, the
-- own line reads as the next phase wants it; in every other phase it stays as it was.
use Rattle.std.specs.Prelude.{◌≡◌, ◌+◌, ◌^◌, ◌≤◌, ◌<◌, ◌&&◌, ◌||◌, ◌⊎◌}
use Rattle.std.proofs.Common.{◌∙◌}
use Rattle.lists.specs.Basics.{refl, sym, ap, ℕ, eqb, ltb, Bool, true, false, not, true≢false, cond, List, length}
use Rattle.lists.specs.Basics.{get_or, zero, suc, inl, inr, arith, eqb-true, not-false, all, choose_by}
use Rattle.model.specs.Types.{Decision, Committed, Aborted, Transaction}
use Rattle.model.specs.Coordinator.{Letter, decision, with_decision}
use Rattle.model.specs.Refusals.{refusal_of}
use Rattle.model.specs.Transactions.{done_phase, aborted_verdict, is_empty, held, puts, to_validate, no_entry, moved}
use Rattle.model.specs.Groups.{group_count}
use Rattle.model.specs.Images.{by_decision}
use Rattle.model.specs.Writes.{Sheets, sheets_good, nothing, decide, prepare, forward, back, decisions_after, apply}
use Rattle.model.specs.WellFormed.{verdict_formed, well_formed}
use Rattle.model.specs.Conditions.{cannot_advance}
use Rattle.model.specs.Steps.{Step, holds, units_of, groups_of, group_at, keys_of, one_phase_allowed, open_without_puts, one_phase, open_step, next_group, prepare_step}
use Rattle.model.specs.Steps.{next_entry, validate_step, decide_step, withdraw_step, finish_step, undo_step, step}
use Rattle.model.specs.Closing.{Run, step_writes, stops, goes_on, turn, closing, starting, close_barred, cannot_close, close_conditions}
use Rattle.sheet_laws.specs.Coordinator.{bounds}
use Rattle.call_laws.specs.Choices.{by_phase_of, by_decision_of, not_first}
use Rattle.call_laws.specs.Sheets.{GoodSheets, good_parts, parts_good, decided-own, write_closed}
use Rattle.call_laws.specs.Transactions.{Body, Stage, well_formed-parts, verdict_at_lem}
use Rattle.call_laws.specs.Steps.{Closed, step_closed}
use Rattle.call_laws.specs.Keeping.{units_kept, formed-after}
use Rattle.call_laws.specs.Moved.{step-leaves}

-- "refused as one advance would be": what may be closed may be advanced
pub close_advance : (t : Transaction) (s : Sheets) → cannot_close t s ≡ false → cannot_advance t s ≡ false
unfolding cannot_advance close_barred
close_advance t s =
    by_phase_of (λ (x : Bool). x ≡ false → cannot_advance t s ≡ false) t.phase
    (λ e h. at 0 e refl)
    (λ e h. at 1 e refl)
    (λ e h. at 2 e refl)
    (λ e h. at 3 e h)
    (λ e h. at 4 e h)
    (λ e h. at 5 e h)
    (λ e h. at 6 e h)
    (λ e h. absurd (true≢false h))
    (λ h. absurd (true≢false h))
  where
    at : (p : ℕ) → t.phase ≡ p → cannot_advance (moved p t.place t.verdict t) s ≡ false → cannot_advance t s ≡ false
    at p e h = ap (λ (q : ℕ). cannot_advance (moved q t.place t.verdict t) s) e ∙ h

-- done, or may be closed
abbrev pub Going : Transaction → Sheets → Type 0
Going t s = (t.phase ≡ done_phase) ⊎ (cannot_close t s ≡ false)

-- the own line once it is decided
pub own_line : (s : Sheets) → GoodSheets s → (t : Transaction) → Body s t → (d : Decision) → decision t.number (with_decision t.number d s.coordinator) ≡ d
own_line s good t b d =
    let most : s.coordinator.issued ≤ length s.coordinator.decisions = (bounds s.coordinator good.decisions).issued in
    let mine : t.number ≤ s.coordinator.issued = b.known in
    decided-own t.number d s.coordinator b.number (omega arith)

-- what may be closed before finish isn't COMMITTED
pub not-committed : (d : Decision) → d ≡ Committed → by_decision d false true false ≡ false → ⊥
not-committed d e h = true≢false (ap (λ (x : Decision). by_decision x false true false) (sym e) ∙ h)

module _ (s : Sheets) (good : GoodSheets s) (t : Transaction) (b : Body s t) (now : ℕ) where
  abbrev NextGoing : Step → Type 0
  NextGoing x = Going x.transaction (apply x.write s)

  abbrev own : Decision
  own = decision t.number s.coordinator

  -- after a step the transaction is done or may be closed on
  pub next_going : cannot_close t s ≡ false → NextGoing (step t now s)
  unfolding step open_step open_without_puts one_phase prepare_step validate_step next_entry decide_step withdraw_step finish_step undo_step next_group close_barred apply decisions_after
  next_going ok =
      by_phase_of NextGoing t.phase
      (λ e. let free : by_decision own false true false ≡ false = at 0 e in
      choose_by NextGoing (is_empty (puts t))
      (λ x. choose_by NextGoing (is_empty (to_validate (units_of s) t)) (λ y. inl refl) (λ y. inr free))
      (λ x. choose_by NextGoing (one_phase_allowed t s)
      (λ y. choose_by NextGoing (all (holds s) (group_at t s)) (λ z. inl refl) (λ z. inr free))
      (λ y. inr free)))
      (λ e. let free : by_decision own false true false ≡ false = at 1 e in
      let w = prepare t.number now (group_at t s) in
      choose_by NextGoing (all (holds s) (group_at t s))
      (λ x. choose_by (λ (u : Transaction). Going u (apply w s)) (ltb (t.place + 1) (groups_of t s))
      (λ y. inr ok)
      (λ y. choose_by (λ (p : ℕ). Going (moved p 0 t.verdict t) (apply w s)) (is_empty (to_validate (units_of s) t)) (λ z. inr free) (λ z. inr free)))
      (λ x. inr free))
      (λ e. let free : by_decision own false true false ≡ false = at 2 e in
      choose_by NextGoing (holds s (get_or (to_validate (units_of s) t) t.place no_entry))
      (λ x. choose_by (λ (u : Transaction). Going u (apply nothing s)) (ltb (t.place + 1) (length (to_validate (units_of s) t)))
      (λ y. inr free)
      (λ y. choose_by (λ (u : Transaction). Going u (apply nothing s)) (is_empty (puts t)) (λ z. inl refl) (λ z. inr free)))
      (λ x. inr free))
      (λ e. by_decision_of NextGoing own
      (λ d. inr (ap (λ (x : Decision). by_decision x true false true) (own_line s good t b Committed)))
      (λ d. absurd (not-committed own d (at 3 e)))
      (λ d. inr (ap (λ (x : Decision). by_decision x true true false) d)))
      (λ e. by_decision_of NextGoing own
      (λ d. choose_by (λ (p : ℕ). Going (moved p 0 aborted_verdict t) (apply (decide t.number Aborted) s)) (is_empty (puts t))
      (λ x. inl refl)
      (λ x. inr (ap (λ (y : Decision). by_decision y true true false) (own_line s good t b Aborted))))
      (λ d. absurd (not-committed own d (at 4 e)))
      (λ d. choose_by (λ (p : ℕ). Going (moved p 0 aborted_verdict t) (apply nothing s)) (is_empty (puts t))
      (λ x. inl refl)
      (λ x. inr (ap (λ (y : Decision). by_decision y true true false) d))))
      (λ e. choose_by (λ (u : Transaction). Going u (apply (forward t.number (keys_of (group_at t s))) s)) (ltb (t.place + 1) (groups_of t s))
      (λ y. inr ok)
      (λ y. inl refl))
      (λ e. choose_by (λ (u : Transaction). Going u (apply (back t.number (keys_of (group_at t s))) s)) (ltb (t.place + 1) (groups_of t s))
      (λ y. inr ok)
      (λ y. inl refl))
      (λ e. absurd (true≢false (at 7 e)))
      (inr ok)
    where
      at : (p : ℕ) → t.phase ≡ p → close_barred p own ≡ false
      at p e = ap (λ (q : ℕ). close_barred q own) (sym e) ∙ ok

-- What a close keeps from turn to turn.
pub record Sound (x : Run) : Type 0 where
  pub good : sheets_good x.sheets ≡ true
  pub formed : well_formed x.sheets x.transaction ≡ true
  pub going : Going x.transaction x.sheets

-- a close that isn't refused begins so, whatever its limit
pub starts_sound : (t : Transaction) (limit : ℕ) (s : Sheets) → sheets_good s ≡ true → refusal_of (close_conditions t s) ≡ 0 → Sound (starting t limit s)
unfolding close_conditions
starts_sound t limit s g z =
    let a = not_first 3 (not (well_formed s t)) _ (omega arith) z in
    record { good = g; formed = not-false (well_formed s t) a.0; going = inr (not_first 4 (cannot_close t s) _ (omega arith) a.1).0 }

-- a step that is made is one that may be
pub may_go : (now : ℕ) (x : Run) → Going x.transaction x.sheets → stops now x ≡ false → cannot_close x.transaction x.sheets ≡ false
may_go now x (inl d) q = absurd (true≢false (sym (ap (λ (p : ℕ). eqb p done_phase || step_writes now x && eqb x.left 0) d) ∙ q))
may_go now x (inr c) q = c

pub sound_next : (now : ℕ) → now < 2 ^ 32 → (x : Run) → Sound x → cannot_close x.transaction x.sheets ≡ false → Sound (goes_on now x)
sound_next now fits x k c =
    let t = x.transaction in
    let s = x.sheets in
    let g : GoodSheets s = good_parts s k.good in
    let parts = well_formed-parts s t k.formed in
    let y : Closed s (step t now s) = step_closed s g t parts.0 parts.1 now (omega (arith, fits)) in
    record {
      good = parts_good (apply (step t now s).write s) (write_closed s g y.fits);
      formed = formed-after s (step t now s).write (step t now s).transaction y.body y.stage;
      going = next_going s g t parts.0 now c;
    }

-- a close that stops goes no further
pub stays_stopped : (n now : ℕ) (x : Run) → stops now x ≡ true → closing n now x ≡ x
unfolding closing turn
stays_stopped zero now x q = refl
stays_stopped (suc n) now x q = ap (λ (b : Bool). closing n now (cond b x (goes_on now x))) q ∙ stays_stopped n now x q

-- what every step keeps, whatever the sheets, a close keeps
pub closing_every : (P : Run → Type 0) (now : ℕ) → ((y : Run) → P y → P (goes_on now y)) → (n : ℕ) (x : Run) → P x → P (closing n now x)
unfolding closing turn
closing_every P now f zero x p = p
closing_every P now f (suc n) x p = closing_every P now f n (turn now x) (choose_by P (stops now x) (λ e. p) (λ e. f x p))

-- what each step of a close keeps, the close keeps
pub closing_by : (P : Run → Type 0) (now : ℕ) → now < 2 ^ 32 → ((y : Run) → Sound y → stops now y ≡ false → P y → P (goes_on now y)) → (n : ℕ) (x : Run)
    → Sound x → P x → P (closing n now x)
unfolding closing turn
closing_by P now fits f zero x k p = p
closing_by P now fits f (suc n) x k p = go (stops now x) refl (λ y k' p'. closing_by P now fits f n y k' p')
  where
    go : (b : Bool) → stops now x ≡ b → ((y : Run) → Sound y → P y → P (closing n now y)) → P (closing n now (cond b x (goes_on now x)))
    go true q rec = rec x k p
    go false q rec = rec (goes_on now x) (sound_next now fits x k (may_go now x k.going q)) (f x k q p)

-- a verdict once given stays
pub verdict_stays : (s : Sheets) (t : Transaction) (now : ℕ) → Stage (units_of s) t → (t.verdict ≡ 0 → ⊥) → (step t now s).transaction.verdict ≡ t.verdict
unfolding step finish_step undo_step next_group verdict_formed
verdict_stays s t now g v =
    by_phase_of (λ (x : Step). x.transaction.verdict ≡ t.verdict) t.phase
    (λ e. absurd (v (eqb-true t.verdict 0 (verdict_at_lem (units_of s) t g 0 e))))
    (λ e. absurd (v (eqb-true t.verdict 0 (verdict_at_lem (units_of s) t g 1 e))))
    (λ e. absurd (v (eqb-true t.verdict 0 (verdict_at_lem (units_of s) t g 2 e))))
    (λ e. absurd (v (eqb-true t.verdict 0 (verdict_at_lem (units_of s) t g 3 e))))
    (λ e. absurd (v (eqb-true t.verdict 0 (verdict_at_lem (units_of s) t g 4 e))))
    (λ e. choose_by (λ (u : Transaction). u.verdict ≡ t.verdict) (ltb (t.place + 1) (groups_of t s)) (λ y. refl) (λ y. refl))
    (λ e. choose_by (λ (u : Transaction). u.verdict ≡ t.verdict) (ltb (t.place + 1) (groups_of t s)) (λ y. refl) (λ y. refl))
    (λ e. refl)
    refl

-- A step leaves the number, the groups and the entries to validate.

pub step-number : (t : Transaction) (now : ℕ) (s : Sheets) → (step t now s).transaction.number ≡ t.number
step-number t now s = step-leaves (λ (u : Transaction). u.number) t (λ p q v. refl) s now

pub groups_after : (s : Sheets) (t : Transaction) (now : ℕ) → groups_of (step t now s).transaction (apply (step t now s).write s) ≡ groups_of t s
unfolding apply puts held
groups_after s t now =
    ap (λ (us : List Letter). group_count us (puts (step t now s).transaction)) (units_kept (step t now s).write s.coordinator)
    ∙ step-leaves (λ (u : Transaction). group_count (units_of s) (puts u)) t (λ p q v. refl) s now

-- how many entries there are to validate
abbrev pub validations : Transaction → Sheets → ℕ
validations t s = length (to_validate (units_of s) t)

pub validations-after : (s : Sheets) (t : Transaction) (now : ℕ) → validations (step t now s).transaction (apply (step t now s).write s) ≡ validations t s
unfolding apply to_validate held
validations-after s t now =
    ap (λ (us : List Letter). length (to_validate us (step t now s).transaction)) (units_kept (step t now s).write s.coordinator)
    ∙ step-leaves (λ (u : Transaction). length (to_validate (units_of s) u)) t (λ p q v. refl) s now
