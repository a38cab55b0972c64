-- What is remembered of a transaction that may still commit: its decision is not COMMITTED, and while it is undecided the columns that it has prepared are
-- those put in the groups done so far. Writes of others keep it.
use Rattle.std.specs.Prelude.{◌≡◌, ◌&&◌, ◌∷◌}
use Rattle.std.proofs.Common.{◌∙◌}
use Rattle.lists.specs.Basics.{refl, sym, ap, ℕ, zero, suc, eqb, ltb, Bool, true, false, cond, and-false, List, [], get_or, set, Option}
use Rattle.lists.specs.Basics.{none, some, none-ne-some, eqb-true, eqb-false, ne_eqb, choose_by}
use Rattle.model.specs.Types.{Key, Record, Decision, Undecided, Committed, Aborted, Entry, Transaction}
use Rattle.model.specs.Records.{line_of, same_key}
use Rattle.model.specs.Coordinator.{Letter, Coordinator, decision, with_decision}
use Rattle.model.specs.Transactions.{by_phase, is_put, held, puts}
use Rattle.model.specs.Groups.{group_count, group_place}
use Rattle.model.specs.Images.{is_prepared, prepared_by, prepared, committed, rolled_forward, rolled_back, Change, change_of, change_in}
use Rattle.model.specs.Writes.{Sheets, Write, nothing, issue, decide, commit, prepare, forward, back, add_line, remove_line, entry_for, by_entry, is_of, line_after, decisions_after, apply}
use Rattle.model.specs.Steps.{units_of}
use Rattle.call_laws.specs.Images.{forward_plain, back_plain}
use Rattle.call_laws.specs.Lines.{Linewise, nothing_linewise, issue_linewise, decide_linewise, forward_linewise, back_linewise}
use Rattle.call_laws.specs.Sheets.{MayPutAll, commit_linewise, prepare_linewise}
use Rattle.call_laws.specs.Keeping.{units_kept}
use Rattle.recovery.specs.Settling.{decided_other, issued-decision, abort_commits_none, own_line, undecided-committed, undecided_aborted}
use Rattle.recovery.specs.View.{own_key, line_after_lem}

-- what is put for a key, if anything
unfoldable pub put_in : Key → List Entry → Option Change
put_in k [] = none
put_in k (e ∷ es) = cond (is_put e && same_key e.key k) (some (change_of e)) (put_in k es)

-- what a number has prepared on a line, if anything
unfoldable pub prepared_change : ℕ → Record → Option Change
prepared_change n r = cond (prepared_by n r) (some (change_in r)) none

-- the groups done so far: none in open, those before the place in prepare, all in validate and decide
unfoldable pub groups_done : List Letter → Transaction → ℕ
groups_done us t = by_phase t.phase 0 t.place (group_count us (puts t)) (group_count us (puts t)) 0 0 0 0 0

-- what is put for a key that is in a group done so far
unfoldable pub done_at : List Letter → Transaction → Key → Option Change
done_at us t k = cond (ltb (group_place us (puts t) k) (groups_done us t)) (put_in k (held t)) none

pub record Memory (s : Sheets) (t : Transaction) : Type 0 where
  pub undone : decision t.number s.coordinator ≡ Committed → ⊥
  pub changes : decision t.number s.coordinator ≡ Undecided → (k : Key) → prepared_change t.number (line_of k s.lines) ≡ done_at (units_of s) t k

-- a line that a number has prepared
pub record PreparedLine (s : Sheets) (j : ℕ) : Type 0 where
  pub key : Key
  pub by : prepared_by j (line_of key s.lines) ≡ true

-- The writes that keep the memory of number j: those of other numbers, and rolling its own lines once it is decided.
pub data Away (s : Sheets) (j : ℕ) : Write → Type 0 where
  away_nothing : Away s j nothing
  away_issue : Away s j issue
  -- others abort only the owner of a line
  away_abort : (i : ℕ) → (i ≡ j → PreparedLine s j) → Away s j (decide i Aborted)
  away_decide : (i : ℕ) (d : Decision) → (i ≡ j → ⊥) → Away s j (decide i d)
  away_commit : (i : ℕ) (es : List Entry) → MayPutAll s i es → Away s j (commit i es)
  away_prepare : (i now : ℕ) (es : List Entry) → (i ≡ j → ⊥) → MayPutAll s i es → Away s j (prepare i now es)
  away_forward : (i : ℕ) (ks : List Key) → (i ≡ j → decision j s.coordinator ≡ Committed) → Away s j (forward i ks)
  away_back : (i : ℕ) (ks : List Key) → (i ≡ j → decision j s.coordinator ≡ Aborted) → Away s j (back i ks)
  away_add : (k : Key) → Linewise s.lines (add_line k) → Away s j (add_line k)
  away_remove : (k : Key) → Linewise s.lines (remove_line k) → Away s j (remove_line k)

-- they go line by line
pub away_linewise : (s : Sheets) (j : ℕ) (w : Write) → Away s j w → Linewise s.lines w
away_linewise s j w away_nothing = nothing_linewise s.lines
away_linewise s j w away_issue = issue_linewise s.lines
away_linewise s j w (away_abort i x) = decide_linewise s.lines i Aborted
away_linewise s j w (away_decide i d n) = decide_linewise s.lines i d
away_linewise s j w (away_commit i es m) = commit_linewise s i es m
away_linewise s j w (away_prepare i now es n m) = prepare_linewise s i now es m
away_linewise s j w (away_forward i ks h) = forward_linewise s.lines i ks
away_linewise s j w (away_back i ks h) = back_linewise s.lines i ks
away_linewise s j w (away_add k l) = l
away_linewise s j w (away_remove k l) = l

-- A line without a preparation of the number.

pub not-prepared : (j : ℕ) (r : Record) → is_prepared r ≡ false → prepared_change j r ≡ none
unfolding prepared_change prepared_by
not-prepared j r p = rw p

pub other_owner : (j : ℕ) (r : Record) → (r.image.txid ≡ j → ⊥) → prepared_change j r ≡ none
unfolding prepared_change prepared_by
other_owner j r n =
    let e : eqb r.image.txid j ≡ false = ne_eqb r.image.txid j n in
    rw (e, and-false (is_prepared r))

-- The columns prepared on a line stay.
module _ (s : Sheets) (j : ℕ) (u : decision j s.coordinator ≡ Undecided) (r : Record) (own : line_of r.key s.lines ≡ r) where
  put_away : (i : ℕ) (es : List Entry) (f : Entry → Record) → MayPutAll s i es → ((e : Entry) → prepared_change j (f e) ≡ none) → prepared_change j (by_entry (entry_for r.key es) r f) ≡ prepared_change j r
  put_away i es f m h = go (entry_for r.key es) refl
    where
      go : (o : Option Entry) → entry_for r.key es ≡ o → prepared_change j (by_entry o r f) ≡ prepared_change j r
      go none e = refl
      go (some x) e = h x ∙ sym (not-prepared j r (ap is_prepared (sym own) ∙ (m r.key x e).1.free))

  roll_away : (i : ℕ) (ks : List Key) (r' : Record) → (i ≡ j → ⊥) → is_prepared r' ≡ false → prepared_change j (cond (is_of i ks r) r' r) ≡ prepared_change j r
  roll_away i ks r' n p =
      choose_by (λ (x : Record). prepared_change j x ≡ prepared_change j r) (is_of i ks r)
      (λ h. not-prepared j r' p ∙ sym (other_owner j r (λ e. n (sym (own_line i ks r h).1 ∙ e))))
      (λ h. refl)

  away_columns : (w : Write) → Away s j w → prepared_change j (line_after w r) ≡ prepared_change j r
  unfolding line_after committed prepared
  away_columns w away_nothing = refl
  away_columns w away_issue = refl
  away_columns w (away_abort i x) = refl
  away_columns w (away_decide i d n) = refl
  away_columns w (away_commit i es m) =
      put_away i es (λ (e : Entry). committed i (change_of e) r) m (λ e. not-prepared j (committed i (change_of e) r) refl)
  away_columns w (away_prepare i now es n m) =
      put_away i es (λ (e : Entry). prepared i now (change_of e) r) m (λ e. other_owner j (prepared i now (change_of e) r) n)
  away_columns w (away_forward i ks h) = roll_away i ks (rolled_forward r) (λ e. undecided-committed (sym u ∙ h e)) (forward_plain r)
  away_columns w (away_back i ks h) = roll_away i ks (rolled_back r) (λ e. undecided_aborted (sym u ∙ h e)) (back_plain r)
  away_columns w (away_add k l) = refl
  away_columns w (away_remove k l) = refl

-- The decision.

set-undecided : (ds : List Decision) (i : ℕ) → get_or (set ds i Aborted) i Undecided ≡ Undecided → get_or ds i Undecided ≡ Undecided
set-undecided [] i e = refl
set-undecided (d ∷ ds) zero e = absurd (undecided_aborted (sym e))
set-undecided (d ∷ ds) (suc i) e = set-undecided ds i e

own-undecided : (i : ℕ) (c : Coordinator) → decision i (with_decision i Aborted c) ≡ Undecided → decision i c ≡ Undecided
unfolding decision with_decision
own-undecided zero c e = refl
own-undecided (suc i) c e = set-undecided c.decisions i e

pub abort_undecided : (c : Coordinator) (i j : ℕ) → decision j (with_decision i Aborted c) ≡ Undecided → decision j c ≡ Undecided
abort_undecided c i j e = go (eqb i j) refl
  where
    go : (b : Bool) → eqb i j ≡ b → decision j c ≡ Undecided
    go true q = own-undecided j c (ap (λ (x : ℕ). decision j (with_decision x Aborted c)) (sym (eqb-true i j q)) ∙ e)
    go false q = sym (decided_other i j Aborted c (eqb-false i j q)) ∙ e

-- a decision that stands afterwards and that no ABORTED could have brought stood before
pub away_stood : (d : Decision) (s : Sheets) (j : ℕ) (w : Write) → ((i : ℕ) → decision j (with_decision i Aborted s.coordinator) ≡ d → decision j s.coordinator ≡ d) → Away s j w → decision j (decisions_after w s.coordinator) ≡ d → decision j s.coordinator ≡ d
unfolding decisions_after
away_stood d s j w f away_nothing e = e
away_stood d s j w f away_issue e = sym (issued-decision _ j s.coordinator) ∙ e
away_stood d s j w f (away_abort i x) e = f i e
away_stood d s j w f (away_decide i x n) e = sym (decided_other i j x s.coordinator n) ∙ e
away_stood d s j w f (away_commit i es m) e = e
away_stood d s j w f (away_prepare i now es n m) e = e
away_stood d s j w f (away_forward i ks h) e = e
away_stood d s j w f (away_back i ks h) e = e
away_stood d s j w f (away_add k l) e = e
away_stood d s j w f (away_remove k l) e = e

-- Writes away from a transaction keep what is remembered of it.
pub memory_kept : (s : Sheets) (t : Transaction) (w : Write) → Away s t.number w → Memory s t → Memory (apply w s) t
unfolding apply
memory_kept s t w a m =
    record {
      undone = λ e. m.undone (away_stood Committed s t.number w (λ i. abort_commits_none s.coordinator i t.number) a e);
      changes = λ e k. let u : decision t.number s.coordinator ≡ Undecided = away_stood Undecided s t.number w (λ i. abort_undecided s.coordinator i t.number) a e in
          ap (prepared_change t.number) (line_after_lem s w (away_linewise s t.number w a) k)
          ∙ (away_columns s t.number u (line_of k s.lines) (own_key s k) w a
          ∙ (m.changes u k ∙ ap (λ (us : List Letter). done_at us t k) (sym (units_kept w s.coordinator))));
    }

owns_none : (s : Sheets) (j : ℕ) → ((k : Key) → prepared_change j (line_of k s.lines) ≡ none) → PreparedLine s j → ⊥
unfolding prepared_change
owns_none s j n x =
    none-ne-some _ (sym (n x.key) ∙ ap (λ (b : Bool). cond b (some (record { column1 = (line_of x.key s.lines).image.column1; column2 = (line_of x.key s.lines).image.column2 })) none) x.by)

-- Undecided as long as no line is prepared: nobody aborts a number that owns no line.
pub undecided_kept : (s : Sheets) (j : ℕ) (w : Write) → Away s j w → ((k : Key) → prepared_change j (line_of k s.lines) ≡ none) → decision j s.coordinator ≡ Undecided → decision j (decisions_after w s.coordinator) ≡ Undecided
unfolding decisions_after
undecided_kept s j w away_nothing n u = u
undecided_kept s j w away_issue n u = issued-decision _ j s.coordinator ∙ u
undecided_kept s j w (away_abort i x) n u = decided_other i j Aborted s.coordinator (λ e. owns_none s j n (x e)) ∙ u
undecided_kept s j w (away_decide i d e) n u = decided_other i j d s.coordinator e ∙ u
undecided_kept s j w (away_commit i es m) n u = u
undecided_kept s j w (away_prepare i now es e m) n u = u
undecided_kept s j w (away_forward i ks h) n u = u
undecided_kept s j w (away_back i ks h) n u = u
undecided_kept s j w (away_add k l) n u = u
undecided_kept s j w (away_remove k l) n u = u

-- and none is prepared by the writes of others
pub none_prepared_kept : (s : Sheets) (j : ℕ) (w : Write) → Away s j w → ((k : Key) → prepared_change j (line_of k s.lines) ≡ none) → decision j s.coordinator ≡ Undecided → (k : Key) → prepared_change j (line_of k (apply w s).lines) ≡ none
unfolding apply
none_prepared_kept s j w a n u k =
    ap (prepared_change j) (line_after_lem s w (away_linewise s j w a) k) ∙ (away_columns s j u (line_of k s.lines) (own_key s k) w a ∙ n k)
