-- An advance keeps the invariant of the order: phase by phase, a walk of the step table. A checked transaction never commits in one phase; it gets its position
-- by its last prepare or on leaving open, validates entry by entry, and commits by its decision or, without puts, by its last step.
use Rattle.std.specs.Prelude.{◌≡◌, ◌+◌, ◌≤◌, ◌<◌, ◌∷◌, ◌⊎◌}
use Rattle.std.proofs.Common.{◌∙◌}
use Rattle.lists.specs.Basics.{refl, sym, ap, subst, ℕ, zero, suc, eqb, ltb, Bool, true, false, not, cond, true≢false, and-false}
use Rattle.lists.specs.Basics.{List, length, get_or, none, some, none-ne-some, inl, inr, arith, eqb-true, ltb-true, ltb-false, eq-eqb, ne_eqb}
use Rattle.lists.specs.Basics.{le-ltb, not-true, all, choose_by, tests}
use Rattle.lists.specs.Members.{Mem, mem_passes, mem_filter}
use Rattle.model.specs.Types.{Key, Record, Decision, Undecided, Committed, Aborted, Entry, Transaction}
use Rattle.model.specs.Coordinator.{decision}
use Rattle.model.specs.Groups.{group_count, group_place, group}
use Rattle.model.specs.Images.{Change}
use Rattle.model.specs.Transactions.{by_phase, prepare_phase, validate_phase, decide_phase, withdraw_phase, finish_phase, undo_phase, done_phase, no_verdict}
use Rattle.model.specs.Transactions.{committed_verdict, aborted_verdict, held, is_put, puts, to_validate, no_entry, is_empty, is_serializable, moved}
use Rattle.model.specs.Writes.{Sheets, Write, nothing, prepare, decide, decisions_after, apply}
use Rattle.model.specs.WellFormed.{place_formed, verdict_formed}
use Rattle.model.specs.Conditions.{cannot_advance}
use Rattle.model.specs.Steps.{Step, holds, units_of, groups_of, group_at, to, no_step, commits as committing, open_step, open_without_puts, one_phase_allowed, next_group}
use Rattle.model.specs.Steps.{prepare_step, next_entry, validate_step, decide_step, withdrawn, withdraw_step, finish_step, undo_step, step}
use Rattle.model.specs.Results.{advance, returned}
use Rattle.model.specs.Histories.{Event, Available}
use Rattle.model.specs.SequentialModel.{Model, model_commit, commits_it}
use Rattle.call_laws.specs.Choices.{by_decision_of}
use Rattle.call_laws.specs.Transactions.{Stage, well_formed-parts, place_at_lem, verdict_at_lem, groups_none}
use Rattle.recovery.specs.Memory.{put_in}
use Rattle.recovery.specs.OwnWrites.{done_to, all_done}
use Rattle.recovery.specs.Stages.{done_in_prepare}
use Rattle.recovery.specs.Advance.{never_both, advance_live}
use Rattle.serial.specs.Runs.{Placing, Fresh}
use Rattle.serial.specs.Entries.{none_in, put_or_validated, put_there, only_put}
use Rattle.serial.specs.InDoubt.{Facts, holds_fresh}
use Rattle.serial.specs.Invariant.{placing, placed_as, unplaced, ValidatedIn, Ordered}
use Rattle.serial.specs.Handover.{Handover}
use Rattle.serial.specs.Quiet.{ended, to_prepare, aborted_goes_on}
use Rattle.serial.specs.Validation.{ValidatedNow, next_validated, last_validated, validates}
use Rattle.serial.specs.Entering.{gets_position_lem}
use Rattle.serial.specs.Commits.{decides, reads_validated, reads_nothing}

module _ {first : Key → Record} {s : Sheets} {es : List Event} {m : Model} {ps : List Placing} (f : Facts s es m) (o : Ordered first s es m ps)
    (t : Transaction) (now : ℕ) (a : Available t es) where
  abbrev event_for : Transaction → Event
  event_for t' = record { call = advance t now; answer = returned t' }

  abbrev model_for : Transaction → Model
  model_for t' = cond (commits_it (some t) (some t')) (model_commit t.number m) m

  abbrev pub StepKept : Step → Type 0
  StepKept x =
      Handover s x.write es (event_for x.transaction) m (model_for x.transaction) t x.transaction
      → Ordered first (apply x.write s) (event_for x.transaction ∷ es) (model_for x.transaction) (placed_as (some t) (some x.transaction) ps)

  stage : Stage (units_of s) t
  stage = (well_formed-parts s t (f.known t a).formed).1

  -- A step, by what becomes of the model and of the order.

  becomes : (w : Write) (t' : Transaction) (m' : Model) (ps' : List Placing) → model_for t' ≡ m' → placed_as (some t) (some t') ps ≡ ps'
      → (Handover s w es (event_for t') m m' t t' → Ordered first (apply w s) (event_for t' ∷ es) m' ps') → StepKept (record { transaction = t'; write = w })
  becomes w t' m' ps' p q g =
      subst (λ (x : Model). Handover s w es (event_for t') m x t t' → Ordered first (apply w s) (event_for t' ∷ es) x (placed_as (some t) (some t') ps)) (sym p)
      (λ h. subst (Ordered first (apply w s) (event_for t' ∷ es) m') (sym q) (g h))

  -- no verdict is new
  same : (t' : Transaction) → commits_it (some t) (some t') ≡ false → model_for t' ≡ m
  same t' e = ap (λ (b : Bool). cond b (model_commit t.number m) m) e

  -- committed now
  commits : (t' : Transaction) → t.verdict ≡ no_verdict → t'.verdict ≡ committed_verdict → model_for t' ≡ model_commit t.number m
  commits t' v v' = rw (v, v')

  -- from validate on nobody gets a position
  late_step : (t' : Transaction) → 2 ≤ t.phase → placed_as (some t) (some t') ps ≡ ps
  late_step t' l =
      let x : eqb t.phase 1 ≡ false = ne_eqb t.phase 1 (λ q. omega (arith, q, l)) in
      let y : eqb t.phase 0 ≡ false = ne_eqb t.phase 0 (λ q. omega (arith, q, l)) in
      rw (x, y)

  withdraws : StepKept (to withdraw_phase t)
  unfolding held
  withdraws =
      let t' = moved withdraw_phase 0 t.verdict t in
      becomes nothing t' m ps (same t' (never_both t.verdict)) (unplaced t t' ps withdraw_phase refl refl refl)
      (λ h. ended withdraw_phase 0 t.verdict h o refl (omega arith))

  -- Prepare.

  -- what is prepared with the group at the place is fresh: by its condition, or as before
  group_fresh : t.phase ≡ 1 → decision t.number s.coordinator ≡ Undecided → all (holds s) (group_at t s) ≡ true → (x : Entry) → Mem x (held t)
      → (c : Change) → done_to (units_of s) t (t.place + 1) x.key ≡ some c → Fresh m.line x
  unfolding puts group
  group_fresh ph u h x n c g = go (ltb place t.place) refl (ltb place (t.place + 1)) refl g
    where
      place : ℕ
      place = group_place (units_of s) (puts t) x.key

      go : (b : Bool) → ltb place t.place ≡ b → (d : Bool) → ltb place (t.place + 1) ≡ d → cond d (put_in x.key (held t)) none ≡ some c
          → Fresh m.line x
      go b e false d y = absurd (none-ne-some c y)
      go true e true d y =
          o.prepared_fresh t a (omega (arith, ph)) u x n c
          (done_in_prepare (units_of s) t ph x.key ∙ (ap (λ (z : Bool). cond z (put_in x.key (held t)) none) e ∙ y))
      go false e true d y =
          let l : t.place ≤ place = ltb-false place t.place e in
          let r : place < t.place + 1 = ltb-true place (t.place + 1) d in
          let q : place ≡ t.place = omega (arith, l, r) in
          let i : is_put x ≡ true = only_put (held t) (well_formed-parts s t (f.known t a).formed).0.distinct x n c y in
          let j : Mem x (group_at t s) =
          mem_filter (λ (e : Entry). eqb (group_place (units_of s) (puts t) e.key) t.place) (puts t) (mem_filter is_put (held t) n i)
          (eq-eqb place t.place q) in
          holds_fresh f x (mem_passes (holds s) (group_at t s) h j) (o.aged t a x n)

  prepare_kept : t.phase ≡ 1 → StepKept (prepare_step t now s)
  unfolding prepare_step next_group place_formed puts held to_validate decisions_after apply
  prepare_kept ph =
      choose_by StepKept (all (holds s) (group_at t s))
      (λ c. choose_by (λ (u : Transaction). StepKept (record { transaction = u; write = w })) (ltb (t.place + 1) (groups_of t s))
      (λ l. let t' = moved t.phase (t.place + 1) t.verdict t in
      becomes w t' m ps (same t' (never_both t.verdict)) (unplaced t t' ps prepare_phase ph refl refl)
      (λ h. to_prepare t.phase (t.place + 1) t.verdict h o (omega (arith, ph)) ph some_put
      (λ q u x n z g. group_fresh ph u c x n z (sym (done_in_prepare (units_of s) t' ph x.key) ∙ g))))
      (λ l. choose_by (λ (p : ℕ). StepKept (record { transaction = moved p 0 t.verdict t; write = w })) (is_empty (to_validate (units_of s) t))
      (λ e. last decide_phase (omega arith) (omega arith) c l (λ q. all_put e) (rw ph))
      (λ e. last validate_phase (omega arith) (omega arith) c l (λ q. absurd (omega (arith, q))) (rw ph))))
      (λ c. withdraws)
    where
      w : Write
      w = prepare t.number now (group_at t s)

      below : t.place < groups_of t s
      below = ltb-true t.place (groups_of t s) (place_at_lem (units_of s) t stage 1 ph)

      some_put : is_empty (puts t) ≡ false
      some_put = groups_none (units_of s) (puts t) t.place below

      all_put : is_empty (to_validate (units_of s) t) ≡ true → (x : Entry) → Mem x (held t) → is_put x ≡ true
      all_put e x n = by (put_or_validated (units_of s) t (o.checked t a) x n)
        where
          by : (is_put x ≡ true) ⊎ Mem x (to_validate (units_of s) t) → is_put x ≡ true
          by (inl p) = p
          by (inr p) = absurd (none_in (to_validate (units_of s) t) p e)

      -- its last group
      last : (p : ℕ) → 2 ≤ p → p ≤ 3 → all (holds s) (group_at t s) ≡ true → ltb (t.place + 1) (groups_of t s) ≡ false
          → (p ≡ 3 → (x : Entry) → Mem x (held t) → is_put x ≡ true) → placed_as (some t) (some (moved p 0 t.verdict t)) ps ≡ placing t ∷ ps
          → StepKept (record { transaction = moved p 0 t.verdict t; write = w })
      last p lo hi c l put order =
          becomes w (moved p 0 t.verdict t) m (placing t ∷ ps) (same (moved p 0 t.verdict t) (never_both t.verdict)) order
          (λ h. gets_position_lem p t.verdict h o (omega (arith, ph)) lo hi fresh put (λ z. absurd (true≢false (sym z ∙ some_put))))
        where
          full : group_count (units_of s) (puts t) ≡ t.place + 1
          full = let x : groups_of t s ≤ t.place + 1 = ltb-false (t.place + 1) (groups_of t s) l in omega (arith, x, below)

          fresh : decision t.number s.coordinator ≡ Undecided → (x : Entry) → Mem x (held t) → is_put x ≡ true → Fresh m.line x
          fresh u x n i =
              let y = put_there x (held t) n i in
              group_fresh ph u c x n y.0 (sym (ap (λ (j : ℕ). done_to (units_of s) t j x.key) full) ∙ (all_done (units_of s) t x.key ∙ y.1))

  -- Validate.

  -- one more entry, unless a visitor has aborted the transaction: then it goes on, but it may not commit
  onward : (p i : ℕ) → 2 ≤ p → p ≤ 3 → t.phase ≡ 2
      → ((x : Entry) → Mem x (held t) → ValidatedIn (units_of s) (moved p i t.verdict t) x → ValidatedNow s t x)
      → StepKept (record { transaction = moved p i t.verdict t; write = nothing })
  onward p i lo hi ph newly =
      let t' = moved p i t.verdict t in
      becomes nothing t' m ps (same t' (never_both t.verdict)) (late_step t' (omega (arith, ph)))
      (λ h. by_own (decision t.number s.coordinator) refl h)
    where
      by_own : (d : Decision) → decision t.number s.coordinator ≡ d
          → Handover s nothing es (event_for (moved p i t.verdict t)) m m t (moved p i t.verdict t)
          → Ordered first (apply nothing s) (event_for (moved p i t.verdict t) ∷ es) m ps
      by_own Undecided u h = validates p i t.verdict h o ph u lo hi newly
      by_own Committed u h = absurd (((f.known t a).memory (omega (arith, ph))).undone u)
      by_own Aborted u h = aborted_goes_on p i t.verdict h o ph lo u

  validate_kept : t.phase ≡ 2 → StepKept (validate_step t s)
  unfolding validate_step next_entry verdict_formed to_validate held
  validate_kept ph =
      choose_by StepKept (holds s (get_or (to_validate (units_of s) t) t.place no_entry))
      (λ c. choose_by (λ (u : Transaction). StepKept (record { transaction = u; write = nothing })) (ltb (t.place + 1) (length (to_validate (units_of s) t)))
      (λ l. onward validate_phase (t.place + 1) (omega arith) (omega arith) ph (λ x n y. next_validated s t c t.verdict x y))
      (λ l. choose_by (λ (u : Transaction). StepKept (record { transaction = u; write = nothing })) (is_empty (puts t))
      (λ e. becomes nothing (committing t) (model_commit t.number m) ps (commits (committing t) verdict refl) (late_step (committing t) (omega (arith, ph)))
      (λ h. reads_validated done_phase 0 committed_verdict h o (omega arith) e ph (last_validated s t c (o.checked t a) (last l))))
      (λ e. onward decide_phase 0 (omega arith) (omega arith) ph (λ x n y. last_validated s t c (o.checked t a) (last l) x n))))
      (λ c. withdraws)
    where
      verdict : t.verdict ≡ no_verdict
      verdict = eqb-true t.verdict 0 (verdict_at_lem (units_of s) t stage 2 ph)

      last : ltb (t.place + 1) (length (to_validate (units_of s) t)) ≡ false → length (to_validate (units_of s) t) ≤ t.place + 1
      last l = ltb-false (t.place + 1) (length (to_validate (units_of s) t)) l

  -- Open: without puts to validate, or at once to done; all others prepare, since one phase is not for checked ones.
  open_kept : t.phase ≡ 0 → StepKept (open_step t s)
  unfolding open_step open_without_puts one_phase_allowed verdict_formed puts held apply decisions_after to_validate
  open_kept ph =
      choose_by StepKept (is_empty (puts t))
      (λ e. choose_by StepKept (is_empty (to_validate (units_of s) t))
      (λ g. becomes nothing (committing t) (model_commit t.number m) (placing t ∷ ps) (commits (committing t) verdict refl) (rw (ph, e))
      (λ h. reads_nothing done_phase 0 committed_verdict h o (omega arith) e ph (λ x n. none-held e g x n)))
      (λ g. let t' = moved validate_phase 0 t.verdict t in
      becomes nothing t' m (placing t ∷ ps) (same t' (never_both t.verdict)) (rw (ph, e))
      (λ h. gets_position_lem validate_phase t.verdict h o (omega (arith, ph)) (omega arith) (omega arith)
      (λ u x n i. absurd (none_in (puts t) (mem_filter is_put (held t) n i) e))
      (λ q. absurd (omega (arith, q)))
      (λ z. o.calm t a (omega (arith, ph)) e))))
      (λ e. choose_by StepKept (one_phase_allowed t s)
      (λ g. let free : not (is_serializable t) ≡ true = search (tests, g) in
      absurd (true≢false (sym (o.checked t a) ∙ not-true (is_serializable t) free)))
      (λ g. let t' = moved prepare_phase 0 t.verdict t in
      becomes nothing t' m ps (same t' (never_both t.verdict)) (unplaced t t' ps prepare_phase refl refl refl)
      (λ h. to_prepare prepare_phase 0 t.verdict h o (omega (arith, ph)) refl e
      (λ q u x n c y. absurd (none-ne-some c (sym (done_none x.key) ∙ (sym (done_in_prepare (units_of s) t' refl x.key) ∙ y)))))))
    where
      verdict : t.verdict ≡ no_verdict
      verdict = eqb-true t.verdict 0 (verdict_at_lem (units_of s) t stage 0 ph)

      done_none : (k : Key) → done_to (units_of s) t 0 k ≡ none
      done_none k = ap (λ (b : Bool). cond b (put_in k (held t)) none) (le-ltb (group_place (units_of s) (puts t) k) 0 (omega arith))

      none-held : is_empty (puts t) ≡ true → is_empty (to_validate (units_of s) t) ≡ true → (x : Entry) → Mem x (held t) → ⊥
      none-held e g x n = go (put_or_validated (units_of s) t (o.checked t a) x n)
        where
          go : (is_put x ≡ true) ⊎ Mem x (to_validate (units_of s) t) → ⊥
          go (inl p) = none_in (puts t) (mem_filter is_put (held t) n p) e
          go (inr p) = none_in (to_validate (units_of s) t) p g

  -- Past decide.
  late_kept : (w : Write) (p i v : ℕ) → 2 ≤ t.phase → 4 ≤ p → commits_it (some t) (some (moved p i v t)) ≡ false
      → StepKept (record { transaction = moved p i v t; write = w })
  unfolding held
  late_kept w p i v l late c =
      becomes w (moved p i v t) m ps (same (moved p i v t) c) (late_step (moved p i v t) l)
      (λ h. ended p i v h o refl late)

  -- Decide.
  decide_kept : t.phase ≡ 3 → StepKept (decide_step t s)
  unfolding decide_step verdict_formed held
  decide_kept ph =
      let v : t.verdict ≡ no_verdict = eqb-true t.verdict 0 (verdict_at_lem (units_of s) t stage 3 ph) in
      by_decision_of StepKept (decision t.number s.coordinator)
      (λ u. let t' = moved finish_phase 0 committed_verdict t in
      becomes (decide t.number Committed) t' (model_commit t.number m) ps (commits t' v refl) (late_step t' (omega (arith, ph)))
      (λ h. decides finish_phase 0 committed_verdict h o ph u (omega arith)))
      (λ u. absurd (((f.known t a).memory (omega (arith, ph))).undone u))
      (λ u. late_kept nothing undo_phase 0 aborted_verdict (omega (arith, ph)) (omega arith) (and-false (eqb t.verdict 0)))

  withdraw_kept : t.phase ≡ 4 → StepKept (withdraw_step t s)
  unfolding withdraw_step
  withdraw_kept ph =
      by_decision_of StepKept (decision t.number s.coordinator)
      (λ u. late_kept (decide t.number Aborted) _ 0 aborted_verdict (omega (arith, ph)) late (and-false (eqb t.verdict 0)))
      (λ u. late_kept nothing t.phase t.place t.verdict (omega (arith, ph)) (omega (arith, ph)) (never_both t.verdict))
      (λ u. late_kept nothing _ 0 aborted_verdict (omega (arith, ph)) late (and-false (eqb t.verdict 0)))
    where
      late : 4 ≤ (withdrawn t).phase
      late = choose_by (λ (p : ℕ). 4 ≤ p) (is_empty (puts t)) (λ e. omega arith) (λ e. omega arith)

  rolls_kept : (w : Write) → 5 ≤ t.phase → StepKept (record { transaction = next_group done_phase t s; write = w })
  unfolding next_group
  rolls_kept w l =
      choose_by (λ (u : Transaction). StepKept (record { transaction = u; write = w })) (ltb (t.place + 1) (groups_of t s))
      (λ e. late_kept w t.phase (t.place + 1) t.verdict (omega (arith, l)) (omega (arith, l)) (never_both t.verdict))
      (λ e. late_kept w done_phase 0 t.verdict (omega (arith, l)) (omega arith) (never_both t.verdict))

  -- Every step that is not refused.
  pub step_kept : cannot_advance t s ≡ false → StepKept (step t now s)
  unfolding step finish_step undo_step
  step_kept ok = go t.phase refl (advance_live t s ok)
    where
      go : (p : ℕ) → t.phase ≡ p → p ≤ 6
          → StepKept
          (by_phase p (open_step t s) (prepare_step t now s) (validate_step t s) (decide_step t s) (withdraw_step t s) (finish_step t s) (undo_step t s)
          (no_step t) (no_step t))
      go zero e l = open_kept e
      go (suc zero) e l = prepare_kept e
      go (suc (suc zero)) e l = validate_kept e
      go (suc (suc (suc zero))) e l = decide_kept e
      go (suc (suc (suc (suc zero)))) e l = withdraw_kept e
      go (suc (suc (suc (suc (suc zero))))) e l = rolls_kept _ (omega (arith, e))
      go (suc (suc (suc (suc (suc (suc zero)))))) e l = rolls_kept _ (omega (arith, e))
      go (suc (suc (suc (suc (suc (suc (suc n))))))) e l = absurd (omega (arith, l))
