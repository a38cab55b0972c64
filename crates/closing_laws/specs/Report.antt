-- The report is at most 17. Each phase has a budget of writes, by the groups left: a step that writes takes it at least one lower, any other doesn't raise it;
-- and eight entries have at most eight groups.
use Rattle.std.specs.Prelude.{◌≡◌, ◌+◌, ◌-◌, ◌*◌, ◌^◌, ◌≤◌, ◌<◌, ◌&&◌, ◌||◌, ◌∷◌}
use Rattle.std.proofs.Common.{◌∙◌}
use Rattle.lists.specs.Basics.{refl, sym, ap, subst, ℕ, eqb, ltb, Bool, true, false, not, cond}
use Rattle.lists.specs.Basics.{true≢false, List, [], length, take, get_or, length-take, arith, eqb-false, ltb-true, all, any, filter, eq_list}
use Rattle.lists.specs.Basics.{choose_by}
use Rattle.model.specs.Types.{Decision, Aborted, Entry, Transaction}
use Rattle.model.specs.Coordinator.{Letter}
use Rattle.model.specs.Transactions.{by_phase, done_phase, aborted_verdict, is_serializable, is_empty, held, is_put, puts, must_validate, to_validate, no_entry, moved}
use Rattle.model.specs.Groups.{is_lower, scope, add_scope, scopes, group_count}
use Rattle.model.specs.Writes.{Sheets, Write, nothing, decide, prepare, forward, back}
use Rattle.model.specs.WellFormed.{place_formed}
use Rattle.model.specs.Conditions.{own_decision}
use Rattle.model.specs.Steps.{Step, holds, units_of, groups_of, group_at, keys_of, one_phase_allowed, open_without_puts, one_phase, open_step, next_group, prepare_step}
use Rattle.model.specs.Steps.{next_entry, validate_step, decide_step, withdraw_step, finish_step, undo_step, step}
use Rattle.model.specs.Closing.{changes, Run, step_writes, stops, goes_on, closing, starting, close_barred, cannot_close}
use Rattle.call_laws.specs.Choices.{by_phase_lem, by_phase_of, by_decision_of}
use Rattle.call_laws.specs.Transactions.{Stage, well_formed-parts, place_at_lem}
use Rattle.closing_laws.specs.Steps.{not-committed, Sound, may_go, closing_by, groups_after, validations}

-- the writes that are possible from here on, with g groups: groups to prepare, the decision, groups to roll
unfoldable pub budget_at : ℕ → ℕ → ℕ → ℕ
budget_at p place g = by_phase p (g + 1 + g) ((g - place) + 1 + g) (1 + g) (1 + g) (1 + g) (g - place) (g - place) 0 0

abbrev pub budget : Transaction → Sheets → ℕ
budget t s = budget_at t.phase t.place (groups_of t s)

abbrev pub Pays : Transaction → Sheets → Step → Type 0
Pays t s x = cond (changes x.write s) 1 0 + budget_at x.transaction.phase x.transaction.place (groups_of t s) ≤ budget t s

one-or-none : (b : Bool) (n m : ℕ) → n + 1 ≤ m → cond b 1 0 + n ≤ m
one-or-none true n m l = omega arith
one-or-none false n m l = omega arith

-- each step pays for its write
pub step_pays : (s : Sheets) (t : Transaction) (now : ℕ) → Stage (units_of s) t → cannot_close t s ≡ false → Pays t s (step t now s)
unfolding step open_step open_without_puts one_phase prepare_step validate_step next_entry decide_step withdraw_step finish_step undo_step next_group changes budget_at place_formed puts held close_barred
step_pays s t now st ok =
    by_phase_of (Pays t s) t.phase
    (λ e. at 0 e (open_step t s)
    (choose_by (P 0) (is_empty (puts t))
    (λ x. choose_by (P 0) (is_empty (to_validate (units_of s) t)) (λ y. omega arith) (λ y. omega arith))
    (λ x. choose_by (P 0) (one_phase_allowed t s)
    (λ y. choose_by (P 0) (all (holds s) (group_at t s)) (λ z. one-or-none some_put 0 (g + 1 + g) (omega arith)) (λ z. omega arith))
    (λ y. omega arith))))
    (λ e. at 1 e (prepare_step t now s)
    (let below : t.place < g = ltb-true t.place g (place_at_lem (units_of s) t st 1 e) in
    choose_by (P 1) (all (holds s) (group_at t s))
    (λ x. choose_by (λ (u : Transaction). P 1 (prepares u)) (ltb (t.place + 1) g)
    (λ y. subst (λ (q : ℕ). cond some_put 1 0 + budget_at q (t.place + 1) g ≤ budget_at 1 t.place g) (sym e)
    (one-or-none some_put ((g - (t.place + 1)) + 1 + g) ((g - t.place) + 1 + g) (omega arith)))
    (λ y. choose_by (λ (p : ℕ). P 1 (prepares (moved p 0 t.verdict t))) (is_empty (to_validate (units_of s) t))
    (λ z. one-or-none some_put (1 + g) ((g - t.place) + 1 + g) (omega arith))
    (λ z. one-or-none some_put (1 + g) ((g - t.place) + 1 + g) (omega arith))))
    (λ x. omega arith)))
    (λ e. at 2 e (validate_step t s)
    (choose_by (P 2) (holds s (get_or (to_validate (units_of s) t) t.place no_entry))
    (λ x. choose_by (λ (u : Transaction). P 2 (with u nothing)) (ltb (t.place + 1) (validations t s))
    (λ y. omega arith)
    (λ y. choose_by (λ (u : Transaction). P 2 (with u nothing)) (is_empty (puts t)) (λ z. omega arith) (λ z. omega arith)))
    (λ x. omega arith)))
    (λ e. at 3 e (decide_step t s)
    (by_decision_of (P 3) own (λ d. omega arith)
    (λ d. absurd (not-committed own d (barred 3 e)))
    (λ d. omega arith)))
    (λ e. at 4 e (withdraw_step t s)
    (by_decision_of (P 4) own
    (λ d. choose_by (λ (p : ℕ). P 4 (with (moved p 0 aborted_verdict t) (decide t.number Aborted))) (is_empty (puts t)) (λ z. omega arith) (λ z. omega arith))
    (λ d. absurd (not-committed own d (barred 4 e)))
    (λ d. choose_by (λ (p : ℕ). P 4 (with (moved p 0 aborted_verdict t) nothing)) (is_empty (puts t)) (λ z. omega arith) (λ z. omega arith))))
    (λ e. at 5 e (finish_step t s) (rolls 5 e (forward t.number (keys_of (group_at t s))) (ltb-true t.place g (place_at_lem (units_of s) t st 5 e)) (λ n. refl)))
    (λ e. at 6 e (undo_step t s) (rolls 6 e (back t.number (keys_of (group_at t s))) (ltb-true t.place g (place_at_lem (units_of s) t st 6 e)) (λ n. refl)))
    (λ e. omega arith)
    (omega arith)
  where
    g : ℕ
    g = groups_of t s

    own : Decision
    own = own_decision t s

    some_put : Bool
    some_put = not (is_empty (group_at t s))

    with : Transaction → Write → Step
    with u w = record { transaction = u; write = w }

    prepares : Transaction → Step
    prepares u = with u (prepare t.number now (group_at t s))

    P : ℕ → Step → Type 0
    P p x = cond (changes x.write s) 1 0 + budget_at x.transaction.phase x.transaction.place g ≤ budget_at p t.place g

    at : (p : ℕ) → t.phase ≡ p → (x : Step) → P p x → Pays t s x
    at p e x h = subst (λ (q : ℕ). P q x) (sym e) h

    barred : (p : ℕ) → t.phase ≡ p → close_barred p own ≡ false
    barred p e = ap (λ (q : ℕ). close_barred q own) (sym e) ∙ ok

    rolls : (p : ℕ) → t.phase ≡ p → (w : Write) → t.place < g → ((n : ℕ) → budget_at p n g ≡ g - n) → P p (with (next_group done_phase t s) w)
    rolls p e w l f =
        choose_by (λ (u : Transaction). P p (with u w)) (ltb (t.place + 1) g)
        (λ y. let a : budget_at t.phase (t.place + 1) g ≡ g - (t.place + 1) = ap (λ (q : ℕ). budget_at q (t.place + 1) g) e ∙ f (t.place + 1) in
        one-or-none (changes w s) (budget_at t.phase (t.place + 1) g) (budget_at p t.place g) (omega (arith, a, f t.place, l)))
        (λ y. one-or-none (changes w s) 0 (budget_at p t.place g) (omega (arith, f t.place, l)))

-- what is left of the budget after a step that a close makes
pub budget-after : (now : ℕ) (x : Run) → Sound x → stops now x ≡ false
    → cond (step_writes now x) 1 0 + budget (goes_on now x).transaction (goes_on now x).sheets ≤ budget x.transaction x.sheets
budget-after now x k q =
    let t = x.transaction in
    let s = x.sheets in
    let u = (step t now s).transaction in
    subst (λ (g : ℕ). cond (step_writes now x) 1 0 + budget_at u.phase u.place g ≤ budget t s) (sym (groups_after s t now))
    (step_pays s t now (well_formed-parts s t k.formed).1 (may_go now x k.going q))

-- the report stays within the budget
pub report_within : (n now : ℕ) → now < 2 ^ 32 → (x : Run) → Sound x → (closing n now x).writes ≤ x.writes + budget x.transaction x.sheets
report_within n now fits x k =
    let all-within : Within (closing n now x) =
    closing_by Within now fits (λ y k' q p. sum (step_writes now y) y.writes _ _ _ (budget-after now y k' q) p) n x k (omega arith) in
    omega (arith, all-within)
  where
    Within : Run → Type 0
    Within y = y.writes + budget y.transaction y.sheets ≤ x.writes + budget x.transaction x.sheets

    sum : (b : Bool) (w m r most : ℕ) → cond b 1 0 + m ≤ r → w + r ≤ most → cond b (w + 1) w + m ≤ most
    sum true w m r most p q = omega arith
    sum false w m r most p q = omega arith

-- and within the limit: what is left of it and the report are together what they were
pub limit_kept : (n now : ℕ) → now < 2 ^ 32 → (x : Run) → Sound x → (closing n now x).left + (closing n now x).writes ≡ x.left + x.writes
limit_kept n now fits x k =
    closing_by (λ (y : Run). y.left + y.writes ≡ x.left + x.writes) now fits
    (λ y k' q p. moves (eqb y.transaction.phase done_phase) (step_writes now y) (eqb y.left 0) y.left y.writes refl q ∙ p) n x k refl
  where
    moves : (d b e : Bool) (l w : ℕ) → eqb l 0 ≡ e → (d || b && e) ≡ false → cond b (l - 1) l + cond b (w + 1) w ≡ l + w
    moves true b e l w f q = absurd (true≢false q)
    moves false true true l w f q = absurd (true≢false q)
    moves false true false l w f q = omega (arith, eqb-false l 0 f)
    moves false false e l w f q = refl

-- Groups and entries to validate are at most eight together.

scope_more : (s : List ℕ) (ss : List (List ℕ)) → length (add_scope s ss) ≤ length ss + 1
unfolding add_scope
scope_more s ss = choose_by (λ (x : List (List ℕ)). length x ≤ length ss + 1) (any (eq_list s) ss) (λ e. omega arith) (λ e. omega arith)

pub few-scopes : (us : List Letter) (es : List Entry) → group_count us es ≤ length es
unfolding group_count scopes
few-scopes us [] = omega arith
few-scopes us (e ∷ es) =
    let a = scope_more (scope us e.key) (scopes us es) in
    let b = few-scopes us es in
    omega (arith, a, b)

apart_filters : (p q : Entry → Bool) → ((e : Entry) → p e ≡ true → q e ≡ false) → (es : List Entry) → length (filter p es) + length (filter q es) ≤ length es
unfolding filter
apart_filters p q h [] = omega arith
apart_filters p q h (e ∷ es) = go (p e) refl (q e) refl (apart_filters p q h es)
  where
    go : (a : Bool) → p e ≡ a → (b : Bool) → q e ≡ b → length (filter p es) + length (filter q es) ≤ length es
        → length (cond a (e ∷ filter p es) (filter p es)) + length (cond b (e ∷ filter q es) (filter q es)) ≤ length (e ∷ es)
    go true x true y l = absurd (true≢false (sym y ∙ h e x))
    go true x false y l = omega arith
    go false x true y l = omega arith
    go false x false y l = omega arith

pub few_steps : (t : Transaction) (s : Sheets) → t.count ≤ 8 → groups_of t s + validations t s ≤ 8
unfolding puts to_validate held
few_steps t s l =
    let us = units_of s in
    let a = few-scopes us (puts t) in
    let b = apart_filters is_put (must_validate us t) (λ e h. ap (λ (b : Bool). not b && (is_serializable t || is_lower us e.key)) h) (held t) in
    let c : length (take t.count t.entries) ≤ t.count = simp length-take (omega arith) in
    omega (arith, a, b, c, l)

-- the greatest count possible for so many puts: to prepare each, to decide, to roll each
pub greatest_possible : (t : Transaction) (s : Sheets) → budget t s ≤ 2 * length (puts t) + 1
unfolding budget_at
greatest_possible t s =
    let f = few-scopes (units_of s) (puts t) in
    by_phase_lem (λ (n : ℕ). n ≤ 2 * length (puts t) + 1) t.phase (omega (arith, f)) (omega (arith, f)) (omega (arith, f)) (omega (arith, f)) (omega (arith, f))
    (omega (arith, f)) (omega (arith, f)) (omega arith) (omega arith)

-- "and is at most 17"
pub budget-17 : (t : Transaction) (s : Sheets) → t.count ≤ 8 → budget t s ≤ 17
unfolding budget_at
budget-17 t s l =
    let f = few_steps t s l in
    by_phase_lem (λ (n : ℕ). n ≤ 17) t.phase (omega (arith, f)) (omega (arith, f)) (omega (arith, f)) (omega (arith, f)) (omega (arith, f)) (omega (arith, f))
    (omega (arith, f)) (omega arith) (omega arith)

pub most-17 : (n now : ℕ) → now < 2 ^ 32 → (t : Transaction) (limit : ℕ) (s : Sheets) → Sound (starting t limit s)
    → (closing n now (starting t limit s)).writes ≤ 17
most-17 n now fits t limit s k =
    let a = report_within n now fits (starting t limit s) k in
    let b = budget-17 t s (well_formed-parts s t k.formed).0.few in
    omega (arith, a, b)
