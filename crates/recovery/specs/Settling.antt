-- The settled view: what each line would be once its owner is finished with. A prepared line whose owner is COMMITTED counts as rolled forward, any
-- other prepared line as rolled back; other lines count as they are. All writes but a commit leave the settled lines alone.
use Rattle.std.specs.Prelude.{◌≡◌, ◌+◌, ◌∷◌}
use Rattle.lists.specs.Basics.{refl, sym, ap, ap₂, ℕ, zero, suc, eqb, Bool, true, false, cond, List, [], get_or, set, Option}
use Rattle.lists.specs.Basics.{none, some, arith, eqb-true, eqb-false, choose_by, tests}
use Rattle.std.proofs.Common.{get_or-set_other, ◌∙◌}
use Rattle.model.specs.Types.{Key, Record, Decision, Undecided, Committed, Aborted, Entry}
use Rattle.model.specs.Records.{line_of, state_rule}
use Rattle.model.specs.Coordinator.{Coordinator, decision_number, decision, with_decision, with_issued}
use Rattle.model.specs.Images.{is_prepared, prepared_by, prepared, rolled_forward, rolled_back, by_decision, Change, change_of}
use Rattle.model.specs.Writes.{Sheets, Write, nothing, issue, decide, prepare, forward, back, add_line, remove_line, entry_for, by_entry, is_of, line_after, decisions_after}
use Rattle.model.specs.Visits.{owner_decision}
use Rattle.call_laws.specs.Images.{forward_plain, back_plain, back_is_before}
use Rattle.call_laws.specs.Lines.{Linewise, nothing_linewise, issue_linewise, decide_linewise, forward_linewise, back_linewise}
use Rattle.call_laws.specs.Sheets.{MayPutAll, prepare_linewise}

unfoldable pub settle : Coordinator → Record → Record
settle c r = cond (is_prepared r) (by_decision (owner_decision r c) (rolled_back r) (rolled_forward r) (rolled_back r)) r

-- A decision that was written leaves the others.
pub decided_other : (i j : ℕ) (d : Decision) (c : Coordinator) → (i ≡ j → ⊥) → decision j (with_decision i d c) ≡ decision j c
unfolding decision with_decision
decided_other zero j d c n = refl
decided_other (suc i) zero d c n = refl
decided_other (suc i) (suc j) d c n = get_or-set_other c.decisions i j d Undecided (λ e. n (ap suc (sym e)))

-- Settled lines.

pub settled_plain : (c : Coordinator) (r : Record) → is_prepared r ≡ false → settle c r ≡ r
unfolding settle
settled_plain c r p = ap (λ (b : Bool). cond b (by_decision (owner_decision r c) (rolled_back r) (rolled_forward r) (rolled_back r)) r) p

pub settled_by : (c : Coordinator) (r : Record) (d : Decision) → is_prepared r ≡ true → owner_decision r c ≡ d → settle c r ≡ by_decision d (rolled_back r) (rolled_forward r) (rolled_back r)
unfolding settle
settled_by c r d p e = ap₂ (λ (b : Bool) (x : Decision). cond b (by_decision x (rolled_back r) (rolled_forward r) (rolled_back r)) r) p e

-- The writes that leave every settled line alone.
pub data Gentle (s : Sheets) : Write → Type 0 where
  gentle_nothing : Gentle s nothing
  gentle_issue : Gentle s issue
  -- ABORTED for an undecided number
  gentle_abort : (i : ℕ) → decision i s.coordinator ≡ Undecided → Gentle s (decide i Aborted)
  gentle_forward : (i : ℕ) (ks : List Key) → decision i s.coordinator ≡ Committed → Gentle s (forward i ks)
  gentle_back : (i : ℕ) (ks : List Key) → decision i s.coordinator ≡ Aborted → Gentle s (back i ks)
  -- a line for a key that counts as it did without, and the other way round
  gentle_add : (k : Key) → Linewise s.lines (add_line k) → Gentle s (add_line k)
  gentle_remove : (k : Key) → Linewise s.lines (remove_line k) → Gentle s (remove_line k)
  gentle_prepare : (n now : ℕ) (es : List Entry) → (decision n s.coordinator ≡ Committed → ⊥) → MayPutAll s n es → Gentle s (prepare n now es)

-- without a COMMITTED a prepared line counts as rolled back
pub settled_back : (c : Coordinator) (r : Record) → is_prepared r ≡ true → (owner_decision r c ≡ Committed → ⊥) → settle c r ≡ rolled_back r
settled_back c r p n = go (owner_decision r c) refl
  where
    go : (d : Decision) → owner_decision r c ≡ d → settle c r ≡ rolled_back r
    go Undecided e = settled_by c r Undecided p e
    go Committed e = absurd (n e)
    go Aborted e = settled_by c r Aborted p e

-- Decisions are three.

pub undecided-committed : Undecided ≡ Committed → ⊥
unfolding decision_number
undecided-committed e = absurd (omega (arith, ap decision_number e))

pub aborted_committed : Aborted ≡ Committed → ⊥
unfolding decision_number
aborted_committed e = absurd (omega (arith, ap decision_number e))

pub undecided_aborted : Undecided ≡ Aborted → ⊥
unfolding decision_number
undecided_aborted e = absurd (omega (arith, ap decision_number e))

set_aborted : (ds : List Decision) (i : ℕ) → get_or (set ds i Aborted) i Undecided ≡ Committed → ⊥
set_aborted [] i e = undecided-committed e
set_aborted (d ∷ ds) zero e = aborted_committed e
set_aborted (d ∷ ds) (suc i) e = set_aborted ds i e

own_aborted : (i : ℕ) (c : Coordinator) → decision i (with_decision i Aborted c) ≡ Committed → ⊥
unfolding decision with_decision
own_aborted zero c e = undecided-committed e
own_aborted (suc i) c e = set_aborted c.decisions i e

-- ABORTED makes no COMMITTED
pub abort_commits_none : (c : Coordinator) (i j : ℕ) → decision j (with_decision i Aborted c) ≡ Committed → decision j c ≡ Committed
abort_commits_none c i j e = go (eqb i j) refl
  where
    go : (b : Bool) → eqb i j ≡ b → decision j c ≡ Committed
    go true q = absurd (own_aborted j c (ap (λ (x : ℕ). decision j (with_decision x Aborted c)) (sym (eqb-true i j q)) ∙ e))
    go false q = sym (decided_other i j Aborted c (eqb-false i j q)) ∙ e

-- a line before and after ABORTED is written for an undecided number
abort_settled : (c : Coordinator) (i : ℕ) (r : Record) → decision i c ≡ Undecided → settle (with_decision i Aborted c) r ≡ settle c r
abort_settled c i r u = go (is_prepared r) refl (eqb i r.image.txid) refl
  where
    go : (p : Bool) → is_prepared r ≡ p → (b : Bool) → eqb i r.image.txid ≡ b → settle (with_decision i Aborted c) r ≡ settle c r
    go false e b q = settled_plain (with_decision i Aborted c) r e ∙ sym (settled_plain c r e)
    go true e true q =
        let o : decision r.image.txid c ≡ Undecided = ap (λ (x : ℕ). decision x c) (sym (eqb-true i r.image.txid q)) ∙ u in
        settled_back (with_decision i Aborted c) r e
        (λ m. undecided-committed (sym o ∙ abort_commits_none c i r.image.txid m))
        ∙ sym (settled_back c r e (λ m. undecided-committed (sym o ∙ m)))
    go true e false q =
        let o : owner_decision r (with_decision i Aborted c) ≡ owner_decision r c = decided_other i r.image.txid Aborted c (eqb-false i r.image.txid q) in
        settled_by (with_decision i Aborted c) r (owner_decision r c) e o ∙ sym (settled_by c r (owner_decision r c) e refl)

-- a rolled line was prepared by the number
pub own_line : (n : ℕ) (ks : List Key) (r : Record) → is_of n ks r ≡ true → (is_prepared r ≡ true) × (r.image.txid ≡ n)
unfolding is_of prepared_by
own_line n ks r h = (search tests, search tests)

-- a line rolled as its owner's decision says counts as it did
rolled_settled : (d : Decision) (c : Coordinator) (n : ℕ) (ks : List Key) (r x : Record) → is_prepared x ≡ false → x ≡ by_decision d (rolled_back r) (rolled_forward r) (rolled_back r) → decision n c ≡ d → settle c (cond (is_of n ks r) x r) ≡ settle c r
rolled_settled d c n ks r x p q e =
    choose_by (λ (y : Record). settle c y ≡ settle c r) (is_of n ks r)
    (λ h. let o = own_line n ks r h in
    settled_plain c x p
    ∙ (q ∙ sym (settled_by c r d o.0 (ap (λ (m : ℕ). decision m c) o.1 ∙ e))))
    (λ h. refl)

-- a line that is prepared by a number without COMMITTED still counts as it was
prepare_settled : (c : Coordinator) (n now : ℕ) (x : Change) (r : Record) → state_rule r ≡ true → is_prepared r ≡ false → (decision n c ≡ Committed → ⊥) → settle c (prepared n now x r) ≡ settle c r
unfolding prepared
prepare_settled c n now x r g f d = settled_back c (prepared n now x r) refl d ∙ (back_is_before n now x r f g ∙ sym (settled_plain c r f))

-- one more number decides nothing
pub issued-decision : (n j : ℕ) (c : Coordinator) → decision j (with_issued n c) ≡ decision j c
unfolding decision with_issued
issued-decision n zero c = refl
issued-decision n (suc j) c = refl

issue_settled : (n : ℕ) (c : Coordinator) (r : Record) → settle (with_issued n c) r ≡ settle c r
unfolding settle
issue_settled n c r =
    ap (λ (d : Decision). cond (is_prepared r) (by_decision d (rolled_back r) (rolled_forward r) (rolled_back r)) r) (issued-decision n r.image.txid c)

-- Every gentle write leaves the settled line of a key alone.
pub gentle_settled : (s : Sheets) (w : Write) → Gentle s w → (r : Record) → line_of r.key s.lines ≡ r → state_rule r ≡ true → settle (decisions_after w s.coordinator) (line_after w r) ≡ settle s.coordinator r
unfolding decisions_after line_after
gentle_settled s w gentle_nothing r l g = refl
gentle_settled s w gentle_issue r l g = issue_settled (s.coordinator.issued + 1) s.coordinator r
gentle_settled s w (gentle_abort i d) r l g = abort_settled s.coordinator i r d
gentle_settled s w (gentle_forward i ks d) r l g = rolled_settled Committed s.coordinator i ks r (rolled_forward r) (forward_plain r) refl d
gentle_settled s w (gentle_back i ks d) r l g = rolled_settled Aborted s.coordinator i ks r (rolled_back r) (back_plain r) refl d
gentle_settled s w (gentle_add k l) r h g = refl
gentle_settled s w (gentle_remove k l) r h g = refl
gentle_settled s w (gentle_prepare n now es d m) r l g = go (entry_for r.key es) refl
  where
    go : (o : Option Entry) → entry_for r.key es ≡ o → settle s.coordinator (by_entry o r (λ (e : Entry). prepared n now (change_of e) r)) ≡ settle s.coordinator r
    go none e = refl
    go (some x) e = prepare_settled s.coordinator n now (change_of x) r g (ap is_prepared (sym l) ∙ (m r.key x e).1.free) d

-- and goes line by line
pub gentle_linewise : (s : Sheets) (w : Write) → Gentle s w → Linewise s.lines w
gentle_linewise s w gentle_nothing = nothing_linewise s.lines
gentle_linewise s w gentle_issue = issue_linewise s.lines
gentle_linewise s w (gentle_abort i d) = decide_linewise s.lines i Aborted
gentle_linewise s w (gentle_forward i ks d) = forward_linewise s.lines i ks
gentle_linewise s w (gentle_back i ks d) = back_linewise s.lines i ks
gentle_linewise s w (gentle_add k l) = l
gentle_linewise s w (gentle_remove k l) = l
gentle_linewise s w (gentle_prepare n now es d m) = prepare_linewise s n now es m
