-- Where a close ends: done, or before a step that writes with its limit used up; and done if the limit is 17 or more. Every step comes nearer to done, and from
-- anywhere 18 are enough; while the budget of writes is affordable it stays so.
use Rattle.std.specs.Prelude.{◌≡◌, ◌+◌, ◌-◌, ◌^◌, ◌≤◌, ◌<◌, ◌&&◌, ◌||◌, ◌⊎◌}
use Rattle.std.proofs.Common.{◌∙◌}
use Rattle.lists.specs.Basics.{refl, sym, ap, ap₂, subst, ℕ, zero, suc, eqb, ltb, Bool, true, false, cond}
use Rattle.lists.specs.Basics.{true≢false, get_or, inl, inr, arith, eqb-true, ltb-true, all, choose_by}
use Rattle.model.specs.Types.{Decision, Transaction}
use Rattle.model.specs.Coordinator.{decision}
use Rattle.model.specs.Transactions.{by_phase, done_phase, aborted_verdict, is_empty, held, puts, to_validate, no_entry, moved}
use Rattle.model.specs.Writes.{Sheets}
use Rattle.model.specs.WellFormed.{place_formed}
use Rattle.model.specs.Steps.{Step, holds, units_of, groups_of, group_at, one_phase_allowed, open_without_puts, one_phase, open_step, next_group, prepare_step, next_entry}
use Rattle.model.specs.Steps.{validate_step, decide_step, withdraw_step, finish_step, undo_step, no_step, step}
use Rattle.model.specs.Closing.{Run, step_writes, stops, goes_on, turn, closing, starting, most_steps, close_barred, cannot_close}
use Rattle.call_laws.specs.Choices.{by_phase_lem, by_phase_of, by_decision_of}
use Rattle.call_laws.specs.Transactions.{Stage, well_formed-parts, place_at_lem}
use Rattle.closing_laws.specs.Steps.{not-committed, Going, Sound, may_go, sound_next, stays_stopped, closing_by, groups_after, validations, validations-after}
use Rattle.closing_laws.specs.Report.{budget, step_pays, budget-after, few_steps, budget-17}

-- steps to done at most, with g groups and v entries to validate
unfoldable pub steps_at : ℕ → ℕ → ℕ → ℕ → ℕ
steps_at p place g v = by_phase p (2 + g + v + g) ((g - place) + v + 1 + g) ((v - place) + 1 + g) (1 + g) (1 + g) (g - place) (g - place) 0 0

abbrev pub steps_left : Transaction → Sheets → ℕ
steps_left t s = steps_at t.phase t.place (groups_of t s) (validations t s)

-- eight entries are done in 18 steps
pub steps_18 : (t : Transaction) (s : Sheets) → t.count ≤ 8 → steps_left t s ≤ most_steps
unfolding steps_at
steps_18 t s l =
    let f = few_steps t s l in
    by_phase_lem (λ (n : ℕ). n ≤ 18) t.phase (omega (arith, f)) (omega (arith, f)) (omega (arith, f)) (omega (arith, f)) (omega (arith, f)) (omega (arith, f))
    (omega (arith, f)) (omega arith) (omega arith)

abbrev pub Nearer : Transaction → Sheets → Step → Type 0
Nearer t s x = steps_at x.transaction.phase x.transaction.place (groups_of t s) (validations t s) + 1 ≤ steps_left t s

pub step_nearer : (s : Sheets) (t : Transaction) (now : ℕ) → Stage (units_of s) t → cannot_close t s ≡ false → Nearer t s (step t now s)
unfolding step open_step open_without_puts one_phase prepare_step validate_step next_entry decide_step withdraw_step finish_step undo_step next_group steps_at place_formed puts held to_validate close_barred
step_nearer s t now st ok =
    by_phase_of (λ (b : Bool). b ≡ false → Nearer t s (step t now s)) t.phase
    (λ e h. at 0 e
    (choose_by (P 0) (is_empty (puts t))
    (λ x. choose_by (P 0) (is_empty (to_validate (units_of s) t)) (λ y. omega arith) (λ y. omega arith))
    (λ x. choose_by (P 0) (one_phase_allowed t s)
    (λ y. choose_by (P 0) (all (holds s) (group_at t s)) (λ z. omega arith) (λ z. omega arith))
    (λ y. omega arith))))
    (λ e h. at 1 e
    (let below : t.place < g = ltb-true t.place g (place_at_lem (units_of s) t st 1 e) in
    choose_by (P 1) (all (holds s) (group_at t s))
    (λ x. choose_by (T 1) (ltb (t.place + 1) g)
    (λ y. subst (λ (q : ℕ). steps_at q (t.place + 1) g v + 1 ≤ steps_at 1 t.place g v) (sym e) (omega arith))
    (λ y. choose_by (λ (p : ℕ). T 1 (moved p 0 t.verdict t)) (is_empty (to_validate (units_of s) t)) (λ z. omega arith) (λ z. omega arith)))
    (λ x. omega arith)))
    (λ e h. at 2 e
    (let below : t.place < v = ltb-true t.place v (place_at_lem (units_of s) t st 2 e) in
    choose_by (P 2) (holds s (get_or (to_validate (units_of s) t) t.place no_entry))
    (λ x. choose_by (T 2) (ltb (t.place + 1) v)
    (λ y. omega arith)
    (λ y. choose_by (T 2) (is_empty (puts t)) (λ z. omega arith) (λ z. omega arith)))
    (λ x. omega arith)))
    (λ e h. at 3 e
    (by_decision_of (P 3) own (λ d. omega arith) (λ d. absurd (not-committed own d h)) (λ d. omega arith)))
    (λ e h. at 4 e
    (by_decision_of (P 4) own
    (λ d. choose_by (λ (p : ℕ). T 4 (moved p 0 aborted_verdict t)) (is_empty (puts t)) (λ z. omega arith) (λ z. omega arith))
    (λ d. absurd (not-committed own d h))
    (λ d. choose_by (λ (p : ℕ). T 4 (moved p 0 aborted_verdict t)) (is_empty (puts t)) (λ z. omega arith) (λ z. omega arith))))
    (λ e h. at 5 e (rolls 5 e (ltb-true t.place g (place_at_lem (units_of s) t st 5 e)) (λ n. refl)))
    (λ e h. at 6 e (rolls 6 e (ltb-true t.place g (place_at_lem (units_of s) t st 6 e)) (λ n. refl)))
    (λ e h. absurd (true≢false h))
    (λ h. absurd (true≢false h))
    ok
  where
    g : ℕ
    g = groups_of t s

    v : ℕ
    v = validations t s

    own : Decision
    own = decision t.number s.coordinator

    -- from phase p, to a transaction and to a step's
    T : ℕ → Transaction → Type 0
    T p x = steps_at x.phase x.place g v + 1 ≤ steps_at p t.place g v

    P : ℕ → Step → Type 0
    P p x = T p x.transaction

    step_in : ℕ → Step
    step_in p =
        by_phase p (open_step t s) (prepare_step t now s) (validate_step t s) (decide_step t s) (withdraw_step t s) (finish_step t s) (undo_step t s) (no_step t)
        (no_step t)

    at : (p : ℕ) → t.phase ≡ p → P p (step_in p) → Nearer t s (step t now s)
    at p e h = subst (λ (q : ℕ). P q (step_in q)) (sym e) h

    rolls : (p : ℕ) → t.phase ≡ p → t.place < g → ((n : ℕ) → steps_at p n g v ≡ g - n) → T p (next_group done_phase t s)
    rolls p e l f =
        choose_by (T p) (ltb (t.place + 1) g)
        (λ y. let a : steps_at t.phase (t.place + 1) g v ≡ g - (t.place + 1) = ap (λ (q : ℕ). steps_at q (t.place + 1) g v) e ∙ f (t.place + 1) in
        omega (arith, a, f t.place, l))
        (λ y. omega (arith, f t.place, l))

-- the steps left after one that a close makes
steps_after : (now : ℕ) (x : Run) → Sound x → cannot_close x.transaction x.sheets ≡ false
    → steps_left (goes_on now x).transaction (goes_on now x).sheets + 1 ≤ steps_left x.transaction x.sheets
steps_after now x k c =
    let t = x.transaction in
    let s = x.sheets in
    let u = (step t now s).transaction in
    subst (λ (n : ℕ). n + 1 ≤ steps_left t s) (sym (ap₂ (steps_at u.phase u.place) (groups_after s t now) (validations-after s t now)))
    (step_nearer s t now (well_formed-parts s t k.formed).1 c)

-- done, or before a step that would write with nothing left of the limit
abbrev pub Ended : ℕ → Run → Type 0
Ended now x = (x.transaction.phase ≡ done_phase) ⊎ ((step_writes now x ≡ true) × (x.left ≡ 0))

-- "before a step that would write beyond it returns the transaction as it stands", and nowhere else but at done
pub ends_there : (n now : ℕ) → now < 2 ^ 32 → (x : Run) → Sound x → steps_left x.transaction x.sheets ≤ n → Ended now (closing n now x)
unfolding closing turn
ends_there zero now fits x k l = go k.going
  where
    go : Going x.transaction x.sheets → Ended now x
    go (inl d) = inl d
    go (inr c) = absurd (omega (arith, steps_after now x k c, l))
ends_there (suc n) now fits x k l = go (stops now x) refl (λ y k' l'. ends_there n now fits y k' l')
  where
    stopped : (d : Bool) → eqb x.transaction.phase done_phase ≡ d → (w : Bool) → step_writes now x ≡ w → (e : Bool) → eqb x.left 0 ≡ e
        → (d || w && e) ≡ true → Ended now x
    stopped true d w f e g h = inl (eqb-true x.transaction.phase done_phase d)
    stopped false d true f true g h = inr (f, eqb-true x.left 0 g)
    stopped false d true f false g h = absurd (true≢false (sym h))
    stopped false d false f e g h = absurd (true≢false (sym h))

    go : (b : Bool) → stops now x ≡ b → ((y : Run) → Sound y → steps_left y.transaction y.sheets ≤ n → Ended now (closing n now y))
        → Ended now (closing n now (cond b x (goes_on now x)))
    go true q rec =
        subst (Ended now) (sym (stays_stopped n now x q)) (stopped (eqb x.transaction.phase done_phase) refl (step_writes now x) refl (eqb x.left 0) refl q)
    go false q rec =
        let c = may_go now x k.going q in
        let a = steps_after now x k c in
        rec (goes_on now x) (sound_next now fits x k c) (omega (arith, a, l))

-- a close that can afford its budget ends done
pub closes : (n now : ℕ) → now < 2 ^ 32 → (x : Run) → Sound x → steps_left x.transaction x.sheets ≤ n → budget x.transaction x.sheets ≤ x.left
    → (closing n now x).transaction.phase ≡ done_phase
closes n now fits x k l m = by_end (ends_there n now fits x k l)
  where
    end : Run
    end = closing n now x

    sound : Sound end
    sound = closing_by Sound now fits (λ y k' q p. sound_next now fits y k' (may_go now y k'.going q)) n x k k

    pays : (b : Bool) (m r q : ℕ) → cond b 1 0 + m ≤ r → r ≤ q → m ≤ cond b (q - 1) q
    pays true m r q y z = omega arith
    pays false m r q y z = omega arith

    affords : budget end.transaction end.sheets ≤ end.left
    affords =
        closing_by (λ (y : Run). budget y.transaction y.sheets ≤ y.left) now fits
        (λ y k' q p. pays (step_writes now y) _ (budget y.transaction y.sheets) y.left (budget-after now y k' q) p) n x k m

    at_least : (b : Bool) (m r : ℕ) → b ≡ true → cond b 1 0 + m ≤ r → 1 ≤ r
    at_least true m r e h = omega arith
    at_least false m r e h = absurd (true≢false (sym e))

    -- a step that writes has something to pay from
    room : step_writes now end ≡ true → cannot_close end.transaction end.sheets ≡ false → 1 ≤ budget end.transaction end.sheets
    room w c =
        at_least (step_writes now end) _ (budget end.transaction end.sheets) w
        (step_pays end.sheets end.transaction now (well_formed-parts end.sheets end.transaction sound.formed).1 c)

    by_end : Ended now end → end.transaction.phase ≡ done_phase
    by_end (inl d) = d
    by_end (inr w) = go sound.going
      where
        go : Going end.transaction end.sheets → end.transaction.phase ≡ done_phase
        go (inl d) = d
        go (inr c) = absurd (omega (arith, room w.0 c, affords, w.1))

-- "17 or more closes the order"
pub seventeen_closes : (now : ℕ) → now < 2 ^ 32 → (t : Transaction) (limit : ℕ) (s : Sheets) → 17 ≤ limit → Sound (starting t limit s)
    → (closing most_steps now (starting t limit s)).transaction.phase ≡ done_phase
seventeen_closes now fits t limit s l k =
    let few = (well_formed-parts s t k.formed).0.few in
    let b = budget-17 t s few in
    closes most_steps now fits (starting t limit s) k (steps_18 t s few) (omega (arith, b, l))
