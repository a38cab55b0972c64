-- Which numbers the model has committed, and why: by their decision, by their one-phase write, or having put nothing. Beside the invariant of the lines, over
-- the same histories.
use Rattle.std.specs.Prelude.{◌≡◌, ◌≤◌, ◌<◌, ◌||◌, ◌∷◌, ◌⊎◌}
use Rattle.std.proofs.Common.{◌∙◌}
use Rattle.lists.specs.Basics.{refl, sym, ap, subst, ℕ, eqb, Bool, true, false, true≢false, List, length, none, some}
use Rattle.lists.specs.Basics.{none-ne-some, some-injective, inl, inr, arith, eqb-true, eqb-false, eq-eqb, any, or_else, or_left, or_right}
use Rattle.model.specs.Types.{Key, Undecided, Committed, Aborted, Entry, Transaction}
use Rattle.model.specs.Results.{returns}
use Rattle.model.specs.Coordinator.{decision}
use Rattle.model.specs.Writes.{Sheets, Write, nothing, decide, commit, decisions_after, apply, is_one_phase}
use Rattle.model.specs.Histories.{Event, taken, Available}
use Rattle.model.specs.SequentialModel.{Model, model_commit, is_committed}
use Rattle.call_laws.specs.Sheets.{decided-own}
use Rattle.call_laws.specs.Keeping.{issued_grows}
use Rattle.model.specs.Records.{line_of}
use Rattle.recovery.specs.Memory.{prepared_change, Away, undecided_kept, none_prepared_kept}
use Rattle.recovery.specs.Settling.{Gentle, gentle_nothing, gentle_issue, gentle_abort, gentle_forward, gentle_back, gentle_add, gentle_remove, gentle_prepare}
use Rattle.recovery.specs.Settling.{decided_other, issued-decision, abort_commits_none, undecided-committed}

-- the numbers whose one-phase write has been made, after one more write
abbrev pub one_after : Write → (ℕ → Bool) → ℕ → Bool
one_after w one n = is_one_phase n w || one n

-- a number that is undecided and has prepared no line
pub record Silent (n : ℕ) (s : Sheets) : Type 0 where
  pub undecided : decision n s.coordinator ≡ Undecided
  pub unprepared : (k : Key) → prepared_change n (line_of k s.lines) ≡ none

-- it stays so under the writes of others
pub silent_kept : (n : ℕ) (s : Sheets) (w : Write) → Away s n w → Silent n s → Silent n (apply w s)
unfolding apply
silent_kept n s w a x =
    record {
      undecided = undecided_kept s n w a x.unprepared x.undecided;
      unprepared = none_prepared_kept s n w a x.unprepared x.undecided;
    }

-- Why a transaction that commits in the model does: by the decision, by its one-phase write, or without a write since it has put nothing.
pub data Why (s : Sheets) (m : Model) (n : ℕ) : Write → Type 0 where
  by_its_decision : Why s m n (decide n Committed)
  -- in one phase, from a state that has prepared nothing and is undecided
  by_one_phase : (es : List Entry) → Away s n (commit n es) → Silent n s → Why s m n (commit n es)
  by_nothing : ((k : Key) → m.writes n k ≡ none) → Why s m n nothing

-- What a call does to the model's committed numbers: nothing, by a gentle write; or its own transaction commits. One that has its verdict puts nothing more.
pub data Effect (s : Sheets) (m : Model) (t : Transaction) (w : Write) (m' : Model) (t' : Transaction) : Type 0 where
  quiet : Gentle s w → m'.committed ≡ m.committed → (5 ≤ t.phase → (5 ≤ t'.phase) × ((k : Key) → m'.writes t.number k ≡ m.writes t.number k)) → Effect s m t w m' t'
  commits : m' ≡ model_commit t.number m → 5 ≤ t'.phase → (is_one_phase t.number w ≡ true → t'.phase ≡ 7) → Why s m t.number w → Effect s m t w m' t'

-- The numbers above `base` were begun in the history; `one` tells of one-phase writes.
pub record Counted (base : ℕ) (one : ℕ → Bool) (s : Sheets) (es : List Event) (m : Model) : Type 0 where
  pub bound : (n : ℕ) → is_committed n m ≡ true → n ≤ s.coordinator.issued
  -- a committed number's state has its verdict
  pub late : (t : Transaction) → Available t es → is_committed t.number m ≡ true → 5 ≤ t.phase
  pub why : (n : ℕ) → is_committed n m ≡ true → (decision n s.coordinator ≡ Committed) ⊎ ((one n ≡ true) ⊎ ((k : Key) → m.writes n k ≡ none))
  pub decided : (n : ℕ) → base < n → decision n s.coordinator ≡ Committed → is_committed n m ≡ true
  pub one_phased : (n : ℕ) → one n ≡ true → is_committed n m ≡ true

-- Gentle writes make no COMMITTED and take none away, and none is a one-phase write.

pub gentle_before : (s : Sheets) (w : Write) → Gentle s w → (n : ℕ) → decision n (decisions_after w s.coordinator) ≡ Committed → decision n s.coordinator ≡ Committed
unfolding decisions_after
gentle_before s w gentle_nothing n e = e
gentle_before s w gentle_issue n e = sym (issued-decision _ n s.coordinator) ∙ e
gentle_before s w (gentle_abort i u) n e = abort_commits_none s.coordinator i n e
gentle_before s w (gentle_forward i ks d) n e = e
gentle_before s w (gentle_back i ks d) n e = e
gentle_before s w (gentle_add k l) n e = e
gentle_before s w (gentle_remove k l) n e = e
gentle_before s w (gentle_prepare i now es d m) n e = e

pub gentle_later : (s : Sheets) (w : Write) → Gentle s w → (n : ℕ) → decision n s.coordinator ≡ Committed → decision n (decisions_after w s.coordinator) ≡ Committed
unfolding decisions_after
gentle_later s w gentle_nothing n e = e
gentle_later s w gentle_issue n e = issued-decision _ n s.coordinator ∙ e
gentle_later s w (gentle_abort i u) n e =
    decided_other i n Aborted s.coordinator (λ q. undecided-committed (sym u ∙ (ap (λ (x : ℕ). decision x s.coordinator) q ∙ e))) ∙ e
gentle_later s w (gentle_forward i ks d) n e = e
gentle_later s w (gentle_back i ks d) n e = e
gentle_later s w (gentle_add k l) n e = e
gentle_later s w (gentle_remove k l) n e = e
gentle_later s w (gentle_prepare i now es d m) n e = e

pub gentle_one : (s : Sheets) (w : Write) → Gentle s w → (n : ℕ) → is_one_phase n w ≡ false
unfolding is_one_phase
gentle_one s w gentle_nothing n = refl
gentle_one s w gentle_issue n = refl
gentle_one s w (gentle_abort i u) n = refl
gentle_one s w (gentle_forward i ks d) n = refl
gentle_one s w (gentle_back i ks d) n = refl
gentle_one s w (gentle_add k l) n = refl
gentle_one s w (gentle_remove k l) n = refl
gentle_one s w (gentle_prepare i now es d m) n = refl

-- A gentle write, by a call that changes the write set of at most one number, and of one that is not committed.
module _ {base : ℕ} {one : ℕ → Bool} (s : Sheets) (es : List Event) (m m' : Model) (w : Write) (e : Event) (c : Counted base one s es m) (g : Gentle s w) (same : m'.committed ≡ m.committed) (sets : (n : ℕ) (k : Key) → is_committed n m ≡ true → m'.writes n k ≡ m.writes n k) where
  before : (n : ℕ) → is_committed n m' ≡ true → is_committed n m ≡ true
  before n h = ap (any (eqb n)) (sym same) ∙ h

  later : (n : ℕ) → is_committed n m ≡ true → is_committed n m' ≡ true
  later n h = ap (any (eqb n)) same ∙ h

  counted_quiet : ((t : Transaction) → Available t (e ∷ es) → is_committed t.number m ≡ true → 5 ≤ t.phase) → Counted base (one_after w one) (apply w s) (e ∷ es) m'
  unfolding apply
  counted_quiet l =
      record {
        bound = λ n h. let x : n ≤ s.coordinator.issued = c.bound n (before n h) in
            let y : s.coordinator.issued ≤ (decisions_after w s.coordinator).issued = issued_grows w s.coordinator in
            omega arith;
        late = λ t a h. l t a (before t.number h);
        why = λ n h. reason n (before n h) (c.why n (before n h));
        decided = λ n b d. later n (c.decided n b (gentle_before s w g n d));
        one_phased = λ n h. later n (c.one_phased n (ap (λ (x : Bool). x || one n) (sym (gentle_one s w g n)) ∙ h));
      }
    where
      reason : (n : ℕ) → is_committed n m ≡ true → (decision n s.coordinator ≡ Committed) ⊎ ((one n ≡ true) ⊎ ((k : Key) → m.writes n k ≡ none)) → (decision n (decisions_after w s.coordinator) ≡ Committed) ⊎ ((one_after w one n ≡ true) ⊎ ((k : Key) → m'.writes n k ≡ none))
      reason n h (inl d) = inl (gentle_later s w g n d)
      reason n h (inr (inl o)) = inr (inl (or_right (is_one_phase n w) (one n) o))
      reason n h (inr (inr z)) = inr (inr (λ k. sets n k h ∙ z k))

pub counted_free : {base : ℕ} {one : ℕ → Bool} (s : Sheets) (es : List Event) (m : Model) (w : Write) (e : Event) → Counted base one s es m → returns e.answer ≡ none → Gentle s w → Counted base (one_after w one) (apply w s) (e ∷ es) m
counted_free s es m w e c rt g = counted_quiet s es m m w e c g refl (λ n k h. refl) l
  where
    l : (t : Transaction) → Available t (e ∷ es) → is_committed t.number m ≡ true → 5 ≤ t.phase
    l t (inl q) h = absurd (none-ne-some t (sym rt ∙ q))
    l t (inr b) h = c.late t b.1 h

pub counted_begun : {base : ℕ} {one : ℕ → Bool} (s : Sheets) (es : List Event) (m m' : Model) (t' : Transaction) (w : Write) (e : Event) → Counted base one s es m → s.coordinator.issued < t'.number → returns e.answer ≡ some t' → Gentle s w → ((j : ℕ) (k : Key) → (j ≡ t'.number → ⊥) → m'.writes j k ≡ m.writes j k) → m'.committed ≡ m.committed → Counted base (one_after w one) (apply w s) (e ∷ es) m'
counted_begun s es m m' t' w e c new rt g o same =
    counted_quiet s es m m' w e c g same (λ n k h. o n k (λ q. too_high n h q)) l
  where
    too_high : (n : ℕ) → is_committed n m ≡ true → n ≡ t'.number → ⊥
    too_high n h q = let x : n ≤ s.coordinator.issued = c.bound n h in omega (arith, x, q, new)

    l : (t : Transaction) → Available t (e ∷ es) → is_committed t.number m ≡ true → 5 ≤ t.phase
    l t (inl q) h = absurd (too_high t.number h (ap (λ (x : Transaction). x.number) (some-injective t t' (sym q ∙ rt))))
    l t (inr b) h = c.late t b.1 h

-- A call that takes a state: quiet, or its commit.
module _ {base : ℕ} {one : ℕ → Bool} (s : Sheets) (es : List Event) (m m' : Model) (t t' : Transaction) (w : Write) (e : Event) (c : Counted base one s es m) (a : Available t es) (rt : returns e.answer ≡ some t') (apart : (u : Transaction) → (taken e ≡ some u → ⊥) → Available u es → u.number ≡ t.number → ⊥) (fits : (1 ≤ t.number) × (t.number ≤ s.coordinator.issued) × (s.coordinator.issued ≤ length s.coordinator.decisions)) (others : (j : ℕ) (k : Key) → (j ≡ t.number → ⊥) → m'.writes j k ≡ m.writes j k) (number : t'.number ≡ t.number) where
  -- quiet
  quiet_taken : Gentle s w → m'.committed ≡ m.committed → (5 ≤ t.phase → (5 ≤ t'.phase) × ((k : Key) → m'.writes t.number k ≡ m.writes t.number k)) → Counted base (one_after w one) (apply w s) (e ∷ es) m'
  quiet_taken g same x = counted_quiet s es m m' w e c g same sets l
    where
      sets : (n : ℕ) (k : Key) → is_committed n m ≡ true → m'.writes n k ≡ m.writes n k
      sets n k h = go (eqb n t.number) refl
        where
          go : (b : Bool) → eqb n t.number ≡ b → m'.writes n k ≡ m.writes n k
          go true q =
              let p : n ≡ t.number = eqb-true n t.number q in
              subst (λ (i : ℕ). m'.writes i k ≡ m.writes i k) (sym p) ((x (c.late t a (ap (λ (i : ℕ). is_committed i m) (sym p) ∙ h))).1 k)
          go false q = others n k (eqb-false n t.number q)

      l : (u : Transaction) → Available u (e ∷ es) → is_committed u.number m ≡ true → 5 ≤ u.phase
      l u (inl q) h =
          let p : t' ≡ u = some-injective t' u (sym rt ∙ q) in
          subst (λ (y : Transaction). 5 ≤ y.phase) p
          (x (c.late t a (ap (λ (i : ℕ). is_committed i m) (sym (ap (λ (y : Transaction). y.number) (sym p) ∙ number)) ∙ h))).0
      l u (inr b) h = c.late u b.1 h

  -- the decisions after a commit
  commit_before : (w' : Write) → Why s m t.number w' → (n : ℕ) → (n ≡ t.number → ⊥) → decision n (decisions_after w' s.coordinator) ≡ decision n s.coordinator
  unfolding decisions_after
  commit_before w' by_its_decision n d = decided_other t.number n Committed s.coordinator (λ q. d (sym q))
  commit_before w' (by_one_phase es a x) n d = refl
  commit_before w' (by_nothing z) n d = refl

  commit_one : (w' : Write) → Why s m t.number w' → (n : ℕ) → is_one_phase n w' ≡ true → n ≡ t.number
  unfolding is_one_phase
  commit_one w' by_its_decision n h = absurd (true≢false (sym h))
  commit_one w' (by_one_phase es a x) n h = eqb-true n t.number h
  commit_one w' (by_nothing z) n h = absurd (true≢false (sym h))

  commit_reason : (w' : Write) → Why s m t.number w' → (decision t.number (decisions_after w' s.coordinator) ≡ Committed) ⊎ ((one_after w' one t.number ≡ true) ⊎ ((k : Key) → m.writes t.number k ≡ none))
  unfolding decisions_after is_one_phase
  commit_reason w' by_its_decision = inl (decided-own t.number Committed s.coordinator fits.0 (let x : t.number ≤ s.coordinator.issued = fits.1 in let y : s.coordinator.issued ≤ length s.coordinator.decisions = fits.2 in omega arith))
  commit_reason w' (by_one_phase es a x) = inr (inl (or_left (eqb t.number t.number) (one t.number) (eq-eqb t.number t.number refl)))
  commit_reason w' (by_nothing z) = inr (inr z)

  commit_taken : m' ≡ model_commit t.number m → 5 ≤ t'.phase → Why s m t.number w → Counted base (one_after w one) (apply w s) (e ∷ es) m'
  unfolding apply model_commit any
  commit_taken q late why =
      subst (λ (x : Model). Counted base (one_after w one) (apply w s) (e ∷ es) x) (sym q)
      (record {
        bound = λ n h. either n h (λ p. let x : t.number ≤ s.coordinator.issued = fits.1 in bound_later n (omega (arith, x, p))) (λ p k. bound_later n (c.bound n k));
        late = λ u b h. lates u b h;
        why = λ n h. either n h (λ p. subst Reason (sym p) own_reason) (λ p k. other_reason n p (c.why n k));
        decided = λ n b d. decides n b d;
        one_phased = λ n h. ones n h;
      })
    where
      n₀ : ℕ
      n₀ = t.number

      Reason : ℕ → Type 0
      Reason n = (decision n (decisions_after w s.coordinator) ≡ Committed) ⊎ ((one_after w one n ≡ true) ⊎ ((k : Key) → m.writes n k ≡ none))

      -- a committed number is this one or was committed before
      either : {P : Type 0} (n : ℕ) → (eqb n t.number || is_committed n m) ≡ true → (n ≡ t.number → P) → ((n ≡ t.number → ⊥) → is_committed n m ≡ true → P) → P
      either n h f g = or_else (eqb n t.number) (is_committed n m) h (λ p. f (eqb-true n t.number p)) (λ p k. g (eqb-false n t.number p) k)

      bound_later : (n : ℕ) → n ≤ s.coordinator.issued → n ≤ (decisions_after w s.coordinator).issued
      bound_later n x = let y : s.coordinator.issued ≤ (decisions_after w s.coordinator).issued = issued_grows w s.coordinator in omega arith

      lates : (u : Transaction) → Available u (e ∷ es) → (eqb u.number t.number || is_committed u.number m) ≡ true → 5 ≤ u.phase
      lates u (inl p) h = subst (λ (y : Transaction). 5 ≤ y.phase) (some-injective t' u (sym rt ∙ p)) late
      lates u (inr b) h = either u.number h (λ p. absurd (apart u b.0 b.1 p)) (λ p k. c.late u b.1 k)

      own_reason : Reason t.number
      own_reason = commit_reason w why

      other_reason : (n : ℕ) → (n ≡ t.number → ⊥) → (decision n s.coordinator ≡ Committed) ⊎ ((one n ≡ true) ⊎ ((k : Key) → m.writes n k ≡ none)) → Reason n
      other_reason n d (inl x) = inl (commit_before w why n d ∙ x)
      other_reason n d (inr (inl x)) = inr (inl (or_right (is_one_phase n w) (one n) x))
      other_reason n d (inr (inr x)) = inr (inr x)

      decides : (n : ℕ) → base < n → decision n (decisions_after w s.coordinator) ≡ Committed → (eqb n t.number || is_committed n m) ≡ true
      decides n b d = go (eqb n t.number) refl
        where
          go : (x : Bool) → eqb n t.number ≡ x → (x || is_committed n m) ≡ true
          go true p = refl
          go false p = c.decided n b (sym (commit_before w why n (eqb-false n t.number p)) ∙ d)

      ones : (n : ℕ) → one_after w one n ≡ true → (eqb n t.number || is_committed n m) ≡ true
      ones n h =
          or_else (is_one_phase n w) (one n) h
          (λ x. or_left (eqb n t.number) (is_committed n m) (eq-eqb n t.number (commit_one w why n x)))
          (λ x k. or_right (eqb n t.number) (is_committed n m) (c.one_phased n k))

  pub counted_taken : Effect s m t w m' t' → Counted base (one_after w one) (apply w s) (e ∷ es) m'
  counted_taken (quiet g same x) = quiet_taken g same x
  counted_taken (commits q late one why) = commit_taken q late why
