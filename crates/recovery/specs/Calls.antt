-- Every call keeps the invariant of a history. A refused call changes nothing; a visit, adding and removing make a gentle write; begin adds a state of a new number; read, its
-- second call, put, abort and advance replace the state that they take.
use Rattle.std.specs.Prelude.{◌≡◌, ◌+◌, ◌≤◌, ◌<◌, ◌&&◌, ◌∷◌}
use Rattle.std.proofs.Common.{◌∙◌}
use Rattle.lists.specs.Basics.{refl, sym, ap, subst, ℕ, zero, suc, eqb, Bool, true, false, not, cond, true≢false, List, []}
use Rattle.lists.specs.Basics.{take, drop, get_or, set, none, some, arith, add-one, eqb-true, eq-eqb, ne_eqb, not-false, all, and_snd, and_both, choose_by, tests}
use Rattle.model.specs.Types.{Key, Image, Record, Decision, Undecided, Committed, Aborted, Found, None, Columns, Entry, Transaction, Recovery}
use Rattle.model.specs.Refusals.{refusal_of}
use Rattle.model.specs.Records.{same_key, line_of, is_missing, by_found}
use Rattle.model.specs.Coordinator.{Coordinator, decision, is_undecided, coordinator_good}
use Rattle.model.specs.Groups.{is_lower}
use Rattle.model.specs.Images.{prepared_by}
use Rattle.model.specs.Writes.{Sheets, Write, nothing, issue, add_line, remove_line, line_after, decisions_after, apply}
use Rattle.model.specs.WellFormed.{well_formed}
use Rattle.model.specs.Visits.{owner_decision, owner_expired, meeting, recovery_write}
use Rattle.model.specs.Results.{Call, begin, read, second, put, advance, abort, visit, add, remove, Result, refused, write_of, Answer, returns, answer_of}
use Rattle.model.specs.Transactions.{withdraw_phase, is_put, held, no_entry, held_at, with_put, moved, with_entry}
use Rattle.model.specs.Conditions.{is_new, takes_two, cannot_advance, cannot_abort, conditions}
use Rattle.model.specs.Steps.{units_of, step}
use Rattle.model.specs.Calls.{new_transaction, seen_second, holding, whole_read, after_put, outcome, result_of}
use Rattle.model.specs.Histories.{Event, given, taken_by, Available}
use Rattle.model.specs.SequentialModel.{Model, model_begin, model_put, model_commit, model_call, model_step}
use Rattle.sheet_laws.specs.Search.{FirstAt, first_by}
use Rattle.call_laws.specs.Choices.{by_phase_of, unless_by, test_of, accepted, by_meeting, entry_read, by_whole}
use Rattle.sheet_laws.specs.KeyOrder.{same_key_lem}
use Rattle.call_laws.specs.Lines.{Linewise, issue_linewise}
use Rattle.call_laws.specs.Adding.{may_add, may_remove}
use Rattle.call_laws.specs.Sheets.{GoodSheets, added_linewise, removed_linewise}
use Rattle.call_laws.specs.Transactions.{well_formed-parts}
use Rattle.call_laws.specs.Entries.{get_or-first}
use Rattle.recovery.specs.Settling.{Gentle, gentle_nothing, gentle_issue, gentle_abort, gentle_forward, gentle_back, gentle_add, gentle_remove, issued-decision, undecided-committed}
use Rattle.recovery.specs.View.{own_txid, line_after_lem, gentle_view}
use Rattle.recovery.specs.Memory.{put_in, prepared_change, Memory, other_owner, memory_kept, undecided_kept, Away, away_nothing, away_issue, away_abort}
use Rattle.recovery.specs.Memory.{away_forward, away_back, away_add, away_remove}
use Rattle.recovery.specs.Advance.{never_both, after_step, plain, withdraws, stays, step_moves, advance_live}
use Rattle.recovery.specs.Puts.{put_in_more, put_in-replaced, take-set}
use Rattle.recovery.specs.Stages.{memory_as, done_in_open}
use Rattle.recovery.specs.Counted.{one_after, quiet}
use Rattle.recovery.specs.Invariant.{Remembered, open_unprepared, Inv, Moves, inv_taken, inv_free, inv_begun}

-- What a visit of a line writes is gentle, and away from every number: it aborts only the owner of the line.

pub visit_gentle : (s : Sheets) (now : ℕ) (r : Record) → Gentle s (recovery_write (meeting now s r) r)
unfolding meeting recovery_write
visit_gentle s now r =
    by_meeting (λ (v : Recovery). Gentle s (recovery_write v r)) r (owner_decision r s.coordinator) (owner_expired now s.lines r)
    (λ p. gentle_nothing)
    (λ p d. gentle_forward r.image.txid (r.key ∷ []) d)
    (λ p d. gentle_back r.image.txid (r.key ∷ []) d)
    (λ p d x. gentle_abort r.image.txid d)
    (λ p d x. gentle_nothing)

pub visit_away : (s : Sheets) (now : ℕ) (k : Key) (j : ℕ) → Away s j (recovery_write (meeting now s (line_of k s.lines)) (line_of k s.lines))
unfolding meeting recovery_write prepared_by
visit_away s now k j =
    by_meeting (λ (v : Recovery). Away s j (recovery_write v r)) r (owner_decision r s.coordinator) (owner_expired now s.lines r)
    (λ p. away_nothing)
    (λ p d. away_forward r.image.txid (r.key ∷ []) (λ e. ap (λ (x : ℕ). decision x s.coordinator) (sym e) ∙ d))
    (λ p d. away_back r.image.txid (r.key ∷ []) (λ e. ap (λ (x : ℕ). decision x s.coordinator) (sym e) ∙ d))
    (λ p d x. away_abort r.image.txid (λ e. record { key = k; by = and_both p (eq-eqb r.image.txid j e) }))
    (λ p d x. away_nothing)
  where
    r : Record
    r = line_of k s.lines

-- lines above the issued count are undecided
undecided-from : (ds : List Decision) (n i : ℕ) → n ≤ i → all is_undecided (drop n ds) ≡ true → get_or ds i Undecided ≡ Undecided
unfolding all is_undecided
undecided-from [] n i l h = refl
undecided-from (Undecided ∷ ds) zero zero l h = refl
undecided-from (Committed ∷ ds) zero zero l h = absurd (true≢false (sym h))
undecided-from (Aborted ∷ ds) zero zero l h = absurd (true≢false (sym h))
undecided-from (d ∷ ds) zero (suc i) l h = undecided-from ds zero i (omega arith) (and_snd (is_undecided d) (all is_undecided ds) h)
undecided-from (d ∷ ds) (suc n) zero l h = absurd (omega arith)
undecided-from (d ∷ ds) (suc n) (suc i) l h = undecided-from ds n i (omega arith) h

pub above_undecided : (c : Coordinator) → coordinator_good c ≡ true → (n : ℕ) → c.issued < n → decision n c ≡ Undecided
unfolding decision coordinator_good
above_undecided c h zero l = refl
above_undecided c h (suc n) l =
    let d : all is_undecided (drop c.issued c.decisions) ≡ true = search tests in
    undecided-from c.decisions c.issued n (omega arith) d

-- abort is for open, prepare, validate and decide
early_abort : (t : Transaction) → cannot_abort t ≡ false → t.phase ≤ 4
unfolding cannot_abort
early_abort t =
    by_phase_of (λ (x : Bool). x ≡ false → t.phase ≤ 4) t.phase
    (λ e h. omega arith)
    (λ e h. omega arith)
    (λ e h. omega arith)
    (λ e h. omega arith)
    (λ e h. omega arith)
    (λ e h. absurd (true≢false h))
    (λ e h. absurd (true≢false h))
    (λ e h. absurd (true≢false h))
    (λ h. absurd (true≢false h))

pub missing-none : is_missing None ≡ false → ⊥
unfolding is_missing
missing-none q = true≢false q

module _ {base : ℕ} {one : ℕ → Bool} (s : Sheets) (es : List Event) (m : Model) (inv : Inv base one s es m) where
  abbrev event_of : Call → Result Answer → Event
  event_of c r = record { call = c; answer = answer_of r }

  -- A result keeps the invariant, if it leaves good sheets and a well-formed transaction, and takes a state that may be handed on.
  abbrev pub Kept : Call → Result Answer → Type 0
  Kept c r =
      GoodSheets (apply (write_of r) s)
      → ((u : Transaction) → returns (answer_of r) ≡ some u → well_formed (apply (write_of r) s) u ≡ true)
      → ((u : Transaction) → taken_by c (answer_of r) ≡ some u → Available u es)
      → Inv base (one_after (write_of r) one) (apply (write_of r) s) (event_of c r ∷ es) (model_step (event_of c r) m)

  kept_refused : (c : Call) (n : ℕ) → Kept c (refused n)
  unfolding model_step returns
  kept_refused c n g w a = inv_free s es m nothing _ inv refl g gentle_nothing (λ j. away_nothing)

  visit_kept : (k : Key) (now : ℕ) → refusal_of (conditions (visit k now) s) ≡ 0 → Kept (visit k now) (outcome (visit k now) s)
  unfolding outcome conditions test_of model_step returns
  visit_kept k now z g w a =
      inv_free s es m (recovery_write (meeting now s (line_of k s.lines)) (line_of k s.lines)) _ inv refl g
      (visit_gentle s now (line_of k s.lines)) (visit_away s now k)

  -- Adding and removing change the line of no key, one without a line counting as an ABSENT line of version 0.

  add_kept : (k : Key) → refusal_of (conditions (add k) s) ≡ 0 → Kept (add k) (outcome (add k) s)
  unfolding outcome model_step returns
  add_kept k z g w a =
      let l : Linewise s.lines (add_line k) = added_linewise s inv.good k (may_add k s z) in
      inv_free s es m (add_line k) _ inv refl g (gentle_add k l) (λ j. away_add k l)

  remove_kept : (k : Key) → refusal_of (conditions (remove k) s) ≡ 0 → Kept (remove k) (outcome (remove k) s)
  unfolding outcome model_step returns
  remove_kept k z g w a =
      let l : Linewise s.lines (remove_line k) = removed_linewise s inv.good k (may_remove k s z) in
      inv_free s es m (remove_line k) _ inv refl g (gentle_remove k l) (λ j. away_remove k l)

  advance_kept : (t : Transaction) (now : ℕ) → refusal_of (conditions (advance t now) s) ≡ 0 → Kept (advance t now) (outcome (advance t now) s)
  unfolding outcome conditions test_of model_step model_call returns given after_step
  advance_kept t now z g w a =
      let ok : cannot_advance t s ≡ false = accepted 4 (advance t now) s z in
      inv_taken s es m _ t (step t now s).transaction (step t now s).write _ inv (a t refl) refl refl (advance_live t s ok) g (w (step t now s).transaction refl)
      (step_moves s m t inv.good inv.view (inv.known t (a t refl)) now ok)

  abort_kept : (t : Transaction) → refusal_of (conditions (abort t) s) ≡ 0 → Kept (abort t) (outcome (abort t) s)
  unfolding outcome conditions test_of model_step model_call returns given after_step
  abort_kept t z g w a =
      let early : t.phase ≤ 4 = early_abort t (accepted 4 (abort t) s z) in
      inv_taken s es m _ t (moved withdraw_phase 0 t.verdict t) nothing _ inv (a t refl) refl refl (omega arith) g (w (moved withdraw_phase 0 t.verdict t) refl)
      (withdraws s m t inv.good inv.view (inv.known t (a t refl)) early)

  -- Begin.

  new_undecided : decision (s.coordinator.issued + 1) s.coordinator ≡ Undecided
  new_undecided = above_undecided s.coordinator inv.good.decisions (s.coordinator.issued + 1) (omega arith)

  begin_undecided : decision (s.coordinator.issued + 1) (apply issue s).coordinator ≡ Undecided
  unfolding apply decisions_after
  begin_undecided = issued-decision (s.coordinator.issued + 1) (s.coordinator.issued + 1) s.coordinator ∙ new_undecided

  -- nobody has prepared a line under a new number
  begin_memory : (b : Bool) → Memory (apply issue s) (new_transaction (s.coordinator.issued + 1) b)
  unfolding apply decisions_after line_after
  begin_memory b =
      record {
        undone = λ e. undecided-committed (sym new_undecided ∙ (sym (issued-decision (s.coordinator.issued + 1) (s.coordinator.issued + 1) s.coordinator) ∙ e));
        changes = λ e k. let x : (line_of k s.lines).image.txid ≤ s.coordinator.issued = own_txid s inv.good k in
            ap (prepared_change (s.coordinator.issued + 1)) (line_after_lem s issue (issue_linewise s.lines) k)
            ∙ (other_owner (s.coordinator.issued + 1) (line_of k s.lines) (λ q. omega (arith, x, q))
            ∙ sym (done_in_open (units_of (apply issue s)) (new_transaction (s.coordinator.issued + 1) b) refl k));
      }

  begin_sets : (b : Bool) (k : Key) → (model_begin (s.coordinator.issued + 1) m).writes (s.coordinator.issued + 1) k ≡ put_in k (held (new_transaction (s.coordinator.issued + 1) b))
  unfolding model_begin held put_in
  begin_sets b k =
      ap (λ (x : Bool). cond x (λ (i : Key). none) (m.writes (s.coordinator.issued + 1)) k) (eq-eqb (s.coordinator.issued + 1) (s.coordinator.issued + 1) refl)

  begin_kept : (b : Bool) → refusal_of (conditions (begin b) s) ≡ 0 → Kept (begin b) (outcome (begin b) s)
  unfolding outcome model_step model_call model_begin returns
  begin_kept b z g w a =
      inv_begun s es m (model_begin (s.coordinator.issued + 1) m) (new_transaction (s.coordinator.issued + 1) b) issue _ inv (omega arith) refl g gentle_issue
      (gentle_view s m issue inv.good gentle_issue inv.view) (λ j. away_issue)
      (λ j k d. let e : eqb j (s.coordinator.issued + 1) ≡ false = ne_eqb j (s.coordinator.issued + 1) d in
      ap (λ (x : Bool). cond x (λ (i : Key). none) (m.writes j) k) e)
      refl
      (record {
        formed = w (new_transaction (s.coordinator.issued + 1) b) refl;
        sets = begin_sets b;
        memory = λ l. begin_memory b;
        open_undecided = λ e. begin_undecided;
      })

  -- Put.

  put_moves : (t : Transaction) (k : Key) (c : Columns) (i : ℕ) → Remembered s m t → t.phase ≡ 0 → FirstAt (λ (e : Entry). same_key e.key k) (held t) no_entry i → Moves s m t nothing (model_put t.number k c m) (with_entry t.count i (with_put c (get_or t.entries i no_entry)) t)
  unfolding model_put held decisions_after
  put_moves t k c i known ph x =
      let y = get_or t.entries i no_entry in
      let same : get_or (held t) i no_entry ≡ y = get_or-first t.count t.entries i no_entry x.within in
      let there : (get_or (held t) i no_entry).key ≡ k = same_key_lem (get_or (held t) i no_entry).key k x.passes in
      let t' = with_entry t.count i (with_put c y) t in
      record {
        view = gentle_view s m nothing inv.good gentle_nothing inv.view;
        number = refl;
        sets = λ j. ap (λ (b : Bool). cond (b && same_key k j) (some c) (m.writes t.number j)) (eq-eqb t.number t.number refl)
            ∙ (ap (cond (same_key k j) (some c)) (known.sets j)
            ∙ sym (ap (put_in j) (take-set t.count i (with_put c y) t.entries)
            ∙ put_in-replaced k j (with_put c y) no_entry i (held t) (well_formed-parts s t known.formed).0.distinct x.within there
            (ap (λ (e : Entry). e.key) (sym same) ∙ there) refl));
        memory = λ l. memory_kept s t' nothing away_nothing
            (memory_as s t t' refl (λ j. done_in_open (units_of s) t' ph j ∙ sym (done_in_open (units_of s) t ph j)) (known.memory (omega arith)));
        open_undecided = λ e. known.open_undecided ph;
        away = λ j d. away_nothing;
        others = λ j i d. let e : eqb j t.number ≡ false = ne_eqb j t.number d in
            ap (λ (b : Bool). cond (b && same_key k i) (some c) (m.writes j i)) e;
        effect = quiet gentle_nothing refl (λ l. absurd (omega (arith, l, ph)));
      }

  put_kept : (t : Transaction) (k : Key) (c : Columns) → refusal_of (conditions (put t k c) s) ≡ 0 → Kept (put t k c) (outcome (put t k c) s)
  unfolding outcome conditions test_of model_step model_call returns given after_put held_at
  put_kept t k c z g w a =
      let c4 : not (eqb t.phase 0) ≡ false = accepted 4 (put t k c) s z in
      let c10 : is_new k t ≡ false = accepted 10 (put t k c) s z in
      let ph : t.phase ≡ 0 = eqb-true t.phase 0 (not-false (eqb t.phase 0) c4) in
      inv_taken s es m _ t (after_put t k c) nothing _ inv (a t refl) refl refl (omega arith) g (w (after_put t k c) refl)
      (first_by (λ (e : Entry). same_key e.key k)
      (λ (f : Found). is_missing f ≡ false → Moves s m t nothing (model_put t.number k c m) (by_found f t (λ (i : ℕ). with_entry t.count i (with_put c (get_or t.entries i no_entry)) t)))
      (held t) no_entry
      (λ n q. absurd (missing-none q))
      (λ i x q. put_moves t k c i (inv.known t (a t refl)) ph x)
      c10)

  -- Read.

  -- one more entry, without a put, in open
  read_moves : (t : Transaction) (e : Entry) (w : Write) → Remembered s m t → t.phase ≡ 0 → is_put e ≡ false → Gentle s w → ((j : ℕ) → Away s j w) → Moves s m t w (cond (eqb t.verdict 0 && eqb t.verdict 1) (model_commit t.number m) m) (holding e t)
  unfolding held
  read_moves t e w known ph p gentle away =
      subst (λ (x : Model). Moves s m t w x (holding e t)) (sym (ap (λ (b : Bool). cond b (model_commit t.number m) m) (never_both t.verdict)))
      (record {
        view = gentle_view s m w inv.good gentle inv.view;
        number = refl;
        sets = λ k. known.sets k
            ∙ sym (ap (λ (n : ℕ). put_in k (take n (set t.entries t.count e))) (add-one t.count) ∙ put_in_more k e p t.count t.entries);
        memory = λ l. memory_kept s (holding e t) w (away t.number)
            (memory_as s t (holding e t) refl (λ j. done_in_open (units_of s) (holding e t) ph j ∙ sym (done_in_open (units_of s) t ph j)) (known.memory (omega arith)));
        open_undecided = λ q. undecided_kept s t.number w (away t.number) (open_unprepared s m t known ph) (known.open_undecided ph);
        away = λ j d. away j;
        others = λ j i d. refl;
        effect = quiet gentle refl (λ l. absurd (omega (arith, l, ph)));
      })

  -- the whole read, whatever it sees of the line, as a call that takes the transaction and puts nothing
  whole_kept : (c : Call) (t : Transaction) → given c ≡ some t → ((u : Transaction) → model_call c (some u) m ≡ cond (eqb t.verdict 0 && eqb u.verdict 1) (model_commit t.number m) m) → t.phase ≡ 0 → (sees : Record → Image) (k : Key) (now : ℕ) → Kept c (whole_read sees t k now s)
  unfolding model_step returns after_step
  whole_kept c t takes model ph sees k now =
      let r = line_of k s.lines in
      let w = recovery_write (meeting now s r) r in
      let e = entry_read sees t k now s in
      let gentle : Gentle s w = visit_gentle s now r in
      let away : (j : ℕ) → Away s j w = visit_away s now k in
      by_whole sees t k now s (Kept c)
      (λ n x g f a. inv_taken s es m _ t t w _ inv (a t takes) takes refl (omega arith) g (f t refl)
      (subst (λ (x : Model). Moves s m t w x t) (sym (model t))
      (plain s m t inv.good inv.view (inv.known t (a t takes)) w t (never_both t.verdict) gentle (λ j d. away j) refl refl (λ l. l)
      (λ l. undecided_kept s t.number w (away t.number) (open_unprepared s m t (inv.known t (a t takes)) ph) ((inv.known t (a t takes)).open_undecided ph))
      (λ l. memory_kept s t w (away t.number) ((inv.known t (a t takes)).memory l)))))
      (λ n x g f a. inv_taken s es m _ t (holding e t) w _ inv (a t takes) takes refl (omega arith) g (f (holding e t) refl)
      (subst (λ (x : Model). Moves s m t w x (holding e t)) (sym (model (holding e t)))
      (read_moves t e w (inv.known t (a t takes)) ph refl gentle away)))
      (λ n g f a. inv_taken s es m _ t t nothing _ inv (a t takes) takes refl (omega arith) g (f t refl)
      (subst (λ (x : Model). Moves s m t nothing x t) (sym (model t)) (stays s m t inv.good inv.view (inv.known t (a t takes)))))

  -- the first of two calls leaves the transaction as it is
  read_kept : (t : Transaction) (k : Key) (now : ℕ) → refusal_of (conditions (read t k now) s) ≡ 0 → Kept (read t k now) (outcome (read t k now) s)
  unfolding outcome conditions test_of model_step model_call returns given after_step
  read_kept t k now z =
      let c4 : not (eqb t.phase 0) ≡ false = accepted 4 (read t k now) s z in
      let ph : t.phase ≡ 0 = eqb-true t.phase 0 (not-false (eqb t.phase 0) c4) in
      choose_by (Kept (read t k now)) (takes_two (units_of s) k t)
      (λ n g w a. inv_taken s es m _ t t nothing _ inv (a t refl) refl refl (omega arith) g (w t refl)
      (stays s m t inv.good inv.view (inv.known t (a t refl))))
      (λ n. whole_kept (read t k now) t refl (λ u. refl) ph (λ (r : Record). r.image) k now)

  second_kept : (t : Transaction) (k : Key) (now : ℕ) (c : Columns) → refusal_of (conditions (second t k now c) s) ≡ 0 → Kept (second t k now c) (outcome (second t k now c) s)
  unfolding outcome conditions test_of model_call given
  second_kept t k now c z =
      let c4 : not (eqb t.phase 0) ≡ false = accepted 4 (second t k now c) s z in
      whole_kept (second t k now c) t refl (λ u. refl) (eqb-true t.phase 0 (not-false (eqb t.phase 0) c4)) (seen_second (is_lower (units_of s) k) c) k now

  -- Every call.

  accepted_kept : (c : Call) → refusal_of (conditions c s) ≡ 0 → Kept c (outcome c s)
  accepted_kept (begin b) = begin_kept b
  accepted_kept (read t k now) = read_kept t k now
  accepted_kept (second t k now c) = second_kept t k now c
  accepted_kept (put t k c) = put_kept t k c
  accepted_kept (advance t now) = advance_kept t now
  accepted_kept (abort t) = abort_kept t
  accepted_kept (visit k now) = visit_kept k now
  accepted_kept (add k) = add_kept k
  accepted_kept (remove k) = remove_kept k

  pub result_kept : (c : Call) → Kept c (result_of c s)
  unfolding result_of
  result_kept c = unless_by (Kept c) (conditions c s) (kept_refused c (refusal_of (conditions c s))) (accepted_kept c)
