-- An advance moves the settled lines as the model does, and what is remembered of its transaction stays true: phase by phase, a walk of the step table.
use Rattle.std.specs.Prelude.{◌≡◌, ◌+◌, ◌≤◌, ◌<◌, ◌&&◌}
use Rattle.std.proofs.Common.{◌∙◌}
use Rattle.lists.specs.Basics.{refl, sym, ap, subst, ℕ, eqb, ltb, Bool, true, false, cond, true≢false, and-false, length}
use Rattle.lists.specs.Basics.{get_or, none, arith, eqb-true, ltb-true, ltb-false, ne_eqb, le-ltb, all, choose_by, tests}
use Rattle.model.specs.Types.{Key, Decision, Undecided, Committed, Aborted, Transaction}
use Rattle.model.specs.Records.{line_of}
use Rattle.model.specs.Coordinator.{decision}
use Rattle.model.specs.Transactions.{prepare_phase, validate_phase, decide_phase, withdraw_phase, finish_phase, undo_phase, done_phase, no_verdict, committed_verdict}
use Rattle.model.specs.Transactions.{aborted_verdict, is_empty, held, puts, to_validate, no_entry, moved}
use Rattle.model.specs.Groups.{group_count, group_place}
use Rattle.model.specs.Images.{by_decision}
use Rattle.model.specs.Writes.{Sheets, Write, nothing, decide, commit, prepare, forward, back, decisions_after, apply, is_one_phase}
use Rattle.model.specs.WellFormed.{place_formed, verdict_formed}
use Rattle.model.specs.Conditions.{cannot_advance}
use Rattle.model.specs.Steps.{Step, holds, units_of, groups_of, group_at, keys_of, to, no_step, commits, one_phase_allowed, open_without_puts, one_phase, open_step}
use Rattle.model.specs.Steps.{next_group, prepare_step, next_entry, validate_step, decide_step, withdrawn, withdraw_step, finish_step, undo_step, step}
use Rattle.model.specs.SequentialModel.{Model, model_commit}
use Rattle.call_laws.specs.Choices.{by_phase_of, by_decision_of}
use Rattle.call_laws.specs.Sheets.{GoodSheets, MayPutAll}
use Rattle.call_laws.specs.Transactions.{Body, Stage, well_formed-parts, place_at_lem, verdict_at_lem}
use Rattle.call_laws.specs.Steps.{may_put}
use Rattle.sheet_laws.specs.Coordinator.{bounds}
use Rattle.recovery.specs.Settling.{Gentle, gentle_nothing, gentle_abort, gentle_forward, gentle_back, gentle_prepare}
use Rattle.recovery.specs.View.{View, gentle_view}
use Rattle.recovery.specs.Memory.{put_in, prepared_change, done_at, Memory, Away, away_nothing, away_abort, away_decide, away_commit, away_prepare}
use Rattle.recovery.specs.Memory.{away_forward, away_back, memory_kept}
use Rattle.recovery.specs.Puts.{put_in_empty}
use Rattle.recovery.specs.OwnWrites.{done_to, all_done, prepare_columns, one_phase_view, empty_view, decide_view}
use Rattle.recovery.specs.Stages.{memory_as, done_in_open, done_in_prepare, done_in_validate, done_in_decide}
use Rattle.recovery.specs.Counted.{Why, by_its_decision, by_one_phase, by_nothing, quiet, commits as commits-by}
use Rattle.recovery.specs.Invariant.{Remembered, open_unprepared, Moves}

-- finish and undo are refused unless the own line says so
only_committed : (d : Decision) → by_decision d true false true ≡ false → d ≡ Committed
only_committed Undecided h = absurd (true≢false h)
only_committed Committed h = refl
only_committed Aborted h = absurd (true≢false h)

only_aborted : (d : Decision) → by_decision d true true false ≡ false → d ≡ Aborted
only_aborted Undecided h = absurd (true≢false h)
only_aborted Committed h = absurd (true≢false h)
only_aborted Aborted h = refl

-- a verdict that stays commits nothing
pub never_both : (x : ℕ) → (eqb x 0 && eqb x 1) ≡ false
never_both x = go (eqb x 0) refl
  where
    go : (b : Bool) → eqb x 0 ≡ b → (b && eqb x 1) ≡ false
    go true e = ne_eqb x 1 (λ q. omega (arith, eqb-true x 0 e, q))
    go false e = refl

module _ (s : Sheets) (m : Model) (t : Transaction) (good : GoodSheets s) (view : View s m) (known : Remembered s m t) where
  -- "an accepted call that takes a transaction with verdict none and returns it committed"
  unfoldable pub after_step : Transaction → Model
  after_step t' = cond (eqb t.verdict no_verdict && eqb t'.verdict committed_verdict) (model_commit t.number m) m

  abbrev pub StepMoves : Step → Type 0
  StepMoves x = Moves s m t x.write (after_step x.transaction) x.transaction

  body : Body s t
  body = (well_formed-parts s t known.formed).0

  stage : Stage (units_of s) t
  stage = (well_formed-parts s t known.formed).1

  -- A step that commits nothing in the model.
  pub plain : (w : Write) (t' : Transaction) → (eqb t.verdict 0 && eqb t'.verdict 1) ≡ false → Gentle s w → ((j : ℕ) → (j ≡ t.number → ⊥) → Away s j w) → t'.number ≡ t.number → held t' ≡ held t → (5 ≤ t.phase → 5 ≤ t'.phase) → (t'.phase ≡ 0 → decision t'.number (decisions_after w s.coordinator) ≡ Undecided) → (t'.phase ≤ 3 → Memory (apply w s) t') → Moves s m t w (after_step t') t'
  unfolding after_step
  plain w t' c g a n h late shut mem =
      subst (λ (x : Model). Moves s m t w x t') (sym (ap (λ (b : Bool). cond b (model_commit t.number m) m) c))
      (record {
        view = gentle_view s m w good g view;
        number = n;
        sets = λ k. known.sets k ∙ ap (put_in k) (sym h);
        memory = mem;
        open_undecided = shut;
        away = a;
        others = λ j k d. refl;
        effect = quiet g refl (λ l. (late l, λ k. refl));
      })

  -- A step that commits.
  commits_it_lem : (w : Write) (t' : Transaction) → (eqb t.verdict 0 && eqb t'.verdict 1) ≡ true → View (apply w s) (model_commit t.number m) → ((j : ℕ) → (j ≡ t.number → ⊥) → Away s j w) → t'.number ≡ t.number → held t' ≡ held t → 5 ≤ t'.phase → (is_one_phase t.number w ≡ true → t'.phase ≡ 7) → Why s m t.number w → Moves s m t w (after_step t') t'
  unfolding after_step model_commit
  commits_it_lem w t' c v a n h late seven why =
      subst (λ (x : Model). Moves s m t w x t') (sym (ap (λ (b : Bool). cond b (model_commit t.number m) m) c))
      (record {
        view = v;
        number = n;
        sets = λ k. known.sets k ∙ ap (put_in k) (sym h);
        memory = λ l. absurd (omega (arith, l, late));
        open_undecided = λ l. absurd (omega (arith, l, late));
        away = a;
        others = λ j k d. refl;
        effect = commits-by refl late seven why;
      })

  -- a move to another stage with nothing written, and nothing committed
  pub moves : (phase place verdict : ℕ) → (eqb t.verdict 0 && eqb verdict 1) ≡ false → t.phase ≤ 4 → (phase ≡ 0 → ⊥) → (phase ≤ 3 → Memory (apply nothing s) (moved phase place verdict t)) → StepMoves (record { transaction = moved phase place verdict t; write = nothing })
  unfolding held
  moves phase place verdict c early shut mem =
      plain nothing (moved phase place verdict t) c gentle_nothing (λ j d. away_nothing) refl refl (λ l. absurd (omega (arith, l, early))) (λ q. absurd (shut q)) mem

  aborted_verdict_lem : (eqb t.verdict 0 && eqb aborted_verdict 1) ≡ false
  aborted_verdict_lem = and-false (eqb t.verdict 0)

  pub withdraws : t.phase ≤ 4 → StepMoves (to withdraw_phase t)
  withdraws early = moves withdraw_phase 0 t.verdict (never_both t.verdict) early (λ q. omega (arith, q)) (λ l. absurd (omega arith))

  -- the memory of a stage with the same columns done, and nothing written
  memory_at : (phase place verdict : ℕ) → t.phase ≤ 3 → ((k : Key) → done_at (units_of s) (moved phase place verdict t) k ≡ done_at (units_of s) t k) → Memory (apply nothing s) (moved phase place verdict t)
  memory_at phase place verdict l d =
      memory_kept s (moved phase place verdict t) nothing away_nothing
      (memory_as s t (moved phase place verdict t) refl d (known.memory l))

  -- without puts the model commits nothing
  commits_nothing : t.verdict ≡ no_verdict → is_empty (puts t) ≡ true → StepMoves (record { transaction = commits t; write = nothing })
  unfolding puts held
  commits_nothing v e =
      commits_it_lem nothing (commits t) (ap (λ (x : ℕ). eqb x 0 && true) v)
      (gentle_view s (model_commit t.number m) nothing good gentle_nothing
      (empty_view s good t m (λ k. known.sets k ∙ put_in_empty k (held t) e) view))
      (λ j d. away_nothing) refl refl (omega arith) (λ q. refl) (by_nothing (λ k. known.sets k ∙ put_in_empty k (held t) e))

  -- Open.
  open_moves : t.phase ≡ 0 → StepMoves (open_step t s)
  unfolding open_step open_without_puts one_phase one_phase_allowed place_formed verdict_formed puts held
  open_moves ph =
      let v : t.verdict ≡ no_verdict = eqb-true t.verdict 0 (verdict_at_lem (units_of s) t stage 0 ph) in
      let z : t.place ≡ 0 = eqb-true t.place 0 (place_at_lem (units_of s) t stage 0 ph) in
      let early : t.phase ≤ 3 = omega arith in
      choose_by StepMoves (is_empty (puts t))
      (λ e. choose_by StepMoves (is_empty (to_validate (units_of s) t))
      (λ f. commits_nothing v e)
      (λ f. moves validate_phase 0 t.verdict (never_both t.verdict) (omega arith) (λ q. omega (arith, q))
      (λ l. memory_at validate_phase 0 t.verdict early
      (λ k. done_in_validate (units_of s) (moved validate_phase 0 t.verdict t) refl k
      ∙ (put_in_empty k (held t) e ∙ sym (done_in_open (units_of s) t ph k))))))
      (λ e. choose_by StepMoves (one_phase_allowed t s)
      (λ f. choose_by StepMoves (all (holds s) (group_at t s))
      (λ h. let may : MayPutAll s t.number (group_at t s) = may_put s good t body h in
      let one : groups_of t s ≡ 1 = search (tests, f) in
      commits_it_lem (commit t.number (group_at t s)) (commits t) (ap (λ (x : ℕ). eqb x 0 && true) v)
      (one_phase_view s good t m known.sets may z one view)
      (λ j d. away_commit t.number (group_at t s) may) refl refl (omega arith) (λ q. refl) (by_one_phase (group_at t s) (away_commit t.number (group_at t s) may) (record { undecided = known.open_undecided ph; unprepared = open_unprepared s m t known ph })))
      (λ h. withdraws (omega arith)))
      (λ f. moves prepare_phase 0 t.verdict (never_both t.verdict) (omega arith) (λ q. omega (arith, q))
      (λ l. memory_at prepare_phase 0 t.verdict early
      (λ k. done_in_prepare (units_of s) (moved prepare_phase 0 t.verdict t) refl k
      ∙ (done_none k ∙ sym (done_in_open (units_of s) t ph k))))))
    where
      done_none : (k : Key) → done_to (units_of s) t 0 k ≡ none
      done_none k = ap (λ (b : Bool). cond b (put_in k (held t)) none) (le-ltb (group_place (units_of s) (puts t) k) 0 (omega arith))

  -- Prepare.

  -- after a group was prepared, a stage in which the groups up to it are done
  prepared_memory : (now : ℕ) → MayPutAll s t.number (group_at t s) → t.phase ≡ 1 → (t' : Transaction) → t'.number ≡ t.number → ((k : Key) → done_at (units_of s) t' k ≡ done_to (units_of s) t (t.place + 1) k) → Memory (apply (prepare t.number now (group_at t s)) s) t'
  unfolding apply decisions_after
  prepared_memory now may ph t' n d =
      let mem : Memory s t = known.memory (omega arith) in
      record {
        undone = λ e. mem.undone (ap (λ (x : ℕ). decision x s.coordinator) (sym n) ∙ e);
        changes = λ e k. let u : decision t.number s.coordinator ≡ Undecided = ap (λ (x : ℕ). decision x s.coordinator) (sym n) ∙ e in
            ap (λ (x : ℕ). prepared_change x (line_of k (apply (prepare t.number now (group_at t s)) s).lines)) n
            ∙ (prepare_columns s good t now may (λ j. mem.changes u j ∙ done_in_prepare (units_of s) t ph j) k ∙ sym (d k));
      }

  prepare_moves : (now : ℕ) → t.phase ≡ 1 → StepMoves (prepare_step t now s)
  unfolding prepare_step next_group place_formed verdict_formed puts held
  prepare_moves now ph =
      let v : t.verdict ≡ no_verdict = eqb-true t.verdict 0 (verdict_at_lem (units_of s) t stage 1 ph) in
      let below : t.place < groups_of t s = ltb-true t.place (groups_of t s) (place_at_lem (units_of s) t stage 1 ph) in
      let mem : Memory s t = known.memory (omega arith) in
      let w = prepare t.number now (group_at t s) in
      choose_by StepMoves (all (holds s) (group_at t s))
      (λ h. let may : MayPutAll s t.number (group_at t s) = may_put s good t body h in
      let gentle : Gentle s w = gentle_prepare t.number now (group_at t s) mem.undone may in
      choose_by (λ (u : Transaction). StepMoves (record { transaction = u; write = w })) (ltb (t.place + 1) (groups_of t s))
      (λ l. plain w (moved t.phase (t.place + 1) t.verdict t) (never_both t.verdict) gentle
      (λ j d. away_prepare t.number now (group_at t s) (λ e. d (sym e)) may) refl refl (λ q. absurd (omega (arith, q, ph))) (λ q. absurd (omega (arith, q, ph)))
      (λ q. prepared_memory now may ph (moved t.phase (t.place + 1) t.verdict t) refl
      (λ k. done_in_prepare (units_of s) (moved t.phase (t.place + 1) t.verdict t) ph k)))
      (λ l. let last : group_count (units_of s) (puts t) ≡ t.place + 1 = let x : groups_of t s ≤ t.place + 1 = ltb-false (t.place + 1) (groups_of t s) l in omega arith in
      choose_by (λ (p : ℕ). StepMoves (record { transaction = moved p 0 t.verdict t; write = w })) (is_empty (to_validate (units_of s) t))
      (λ e. plain w (moved decide_phase 0 t.verdict t) (never_both t.verdict) gentle
      (λ j d. away_prepare t.number now (group_at t s) (λ q. d (sym q)) may) refl refl (λ q. absurd (omega (arith, q, ph))) (λ q. absurd (omega (arith, q)))
      (λ q. prepared_memory now may ph (moved decide_phase 0 t.verdict t) refl
      (λ k. done_in_decide (units_of s) (moved decide_phase 0 t.verdict t) refl k ∙ all-to last k)))
      (λ e. plain w (moved validate_phase 0 t.verdict t) (never_both t.verdict) gentle
      (λ j d. away_prepare t.number now (group_at t s) (λ q. d (sym q)) may) refl refl (λ q. absurd (omega (arith, q, ph))) (λ q. absurd (omega (arith, q)))
      (λ q. prepared_memory now may ph (moved validate_phase 0 t.verdict t) refl
      (λ k. done_in_validate (units_of s) (moved validate_phase 0 t.verdict t) refl k ∙ all-to last k)))))
      (λ h. withdraws (omega arith))
    where
      all-to : group_count (units_of s) (puts t) ≡ t.place + 1 → (k : Key) → put_in k (held t) ≡ done_to (units_of s) t (t.place + 1) k
      all-to last k = sym (all_done (units_of s) t k) ∙ ap (λ (n : ℕ). done_to (units_of s) t n k) last

  -- Validate.
  validate_moves : t.phase ≡ 2 → StepMoves (validate_step t s)
  unfolding validate_step next_entry verdict_formed puts held
  validate_moves ph =
      let v : t.verdict ≡ no_verdict = eqb-true t.verdict 0 (verdict_at_lem (units_of s) t stage 2 ph) in
      let early : t.phase ≤ 3 = omega arith in
      choose_by StepMoves (holds s (get_or (to_validate (units_of s) t) t.place no_entry))
      (λ h. choose_by (λ (u : Transaction). StepMoves (record { transaction = u; write = nothing })) (ltb (t.place + 1) (length (to_validate (units_of s) t)))
      (λ l. moves validate_phase (t.place + 1) t.verdict (never_both t.verdict) (omega arith) (λ q. omega (arith, q))
      (λ q. memory_at validate_phase (t.place + 1) t.verdict early
      (λ k. done_in_validate (units_of s) (moved validate_phase (t.place + 1) t.verdict t) refl k ∙ sym (done_in_validate (units_of s) t ph k))))
      (λ l. choose_by (λ (u : Transaction). StepMoves (record { transaction = u; write = nothing })) (is_empty (puts t))
      (λ e. commits_nothing v e)
      (λ e. moves decide_phase 0 t.verdict (never_both t.verdict) (omega arith) (λ q. omega (arith, q))
      (λ q. memory_at decide_phase 0 t.verdict early
      (λ k. done_in_decide (units_of s) (moved decide_phase 0 t.verdict t) refl k ∙ sym (done_in_validate (units_of s) t ph k))))))
      (λ h. withdraws (omega arith))

  -- the transaction as it is
  pub stays : StepMoves (no_step t)
  unfolding decisions_after
  stays =
      plain nothing t (never_both t.verdict) gentle_nothing (λ j d. away_nothing) refl refl (λ l. l) known.open_undecided
      (λ l. memory_kept s t nothing away_nothing (known.memory l))

  -- Decide.
  decide_moves : t.phase ≡ 3 → StepMoves (decide_step t s)
  unfolding decide_step verdict_formed held is_one_phase
  decide_moves ph =
      let v : t.verdict ≡ no_verdict = eqb-true t.verdict 0 (verdict_at_lem (units_of s) t stage 3 ph) in
      let mem : Memory s t = known.memory (omega arith) in
      let most : s.coordinator.issued ≤ length s.coordinator.decisions = (bounds s.coordinator good.decisions).issued in
      let mine : t.number ≤ s.coordinator.issued = body.known in
      by_decision_of StepMoves (decision t.number s.coordinator)
      (λ u. commits_it_lem (decide t.number Committed) (moved finish_phase 0 committed_verdict t) (ap (λ (x : ℕ). eqb x 0 && true) v)
      (decide_view s good t m known.sets body.number (omega arith) u
      (λ k. mem.changes u k ∙ done_in_decide (units_of s) t ph k) view)
      (λ j d. away_decide t.number Committed (λ e. d (sym e))) refl refl (omega arith) (λ q. absurd (true≢false (sym q))) by_its_decision)
      (λ u. stays)
      (λ u. moves undo_phase 0 aborted_verdict aborted_verdict_lem (omega arith) (λ q. omega (arith, q)) (λ l. absurd (omega arith)))

  -- Withdraw.
  late_undo : 5 ≤ (withdrawn t).phase
  late_undo = choose_by (λ (p : ℕ). 5 ≤ p) (is_empty (puts t)) (λ e. omega arith) (λ e. omega arith)

  withdraw_moves : StepMoves (withdraw_step t s)
  unfolding withdraw_step held
  withdraw_moves =
      by_decision_of StepMoves (decision t.number s.coordinator)
      (λ u. plain (decide t.number Aborted) (withdrawn t) aborted_verdict_lem (gentle_abort t.number u) (λ j d. away_abort t.number (λ e. absurd (d (sym e)))) refl refl (λ l. late_undo) (λ l. absurd (omega (arith, l, late_undo))) (λ l. absurd (omega (arith, l, late_undo))))
      (λ u. stays)
      (λ u. plain nothing (withdrawn t) aborted_verdict_lem gentle_nothing (λ j d. away_nothing) refl refl (λ l. late_undo) (λ l. absurd (omega (arith, l, late_undo))) (λ l. absurd (omega (arith, l, late_undo))))

  -- Finish and undo: a group rolled by a decided number.
  rolls : (p : ℕ) (w : Write) → 5 ≤ p → t.phase ≡ p → eqb t.verdict 0 ≡ false → Gentle s w → ((j : ℕ) → (j ≡ t.number → ⊥) → Away s j w) → StepMoves (record { transaction = next_group done_phase t s; write = w })
  unfolding next_group held
  rolls p w late ph v g a =
      choose_by (λ (u : Transaction). StepMoves (record { transaction = u; write = w })) (ltb (t.place + 1) (groups_of t s))
      (λ l. plain w (moved t.phase (t.place + 1) t.verdict t) (ap (λ (b : Bool). b && eqb t.verdict 1) v) g a refl refl (λ q. q) (λ q. absurd (omega arith)) (λ q. absurd (omega arith)))
      (λ l. plain w (moved done_phase 0 t.verdict t) (ap (λ (b : Bool). b && eqb t.verdict 1) v) g a refl refl (λ q. omega arith) (λ q. absurd (omega arith)) (λ q. absurd (omega arith)))

  finish_moves : t.phase ≡ 5 → decision t.number s.coordinator ≡ Committed → StepMoves (finish_step t s)
  unfolding finish_step verdict_formed
  finish_moves ph d =
      let v : t.verdict ≡ committed_verdict = eqb-true t.verdict 1 (verdict_at_lem (units_of s) t stage 5 ph) in
      rolls 5 (forward t.number (keys_of (group_at t s))) (omega arith) ph (ap (λ (x : ℕ). eqb x 0) v)
      (gentle_forward t.number (keys_of (group_at t s)) d)
      (λ j n. away_forward t.number (keys_of (group_at t s)) (λ e. absurd (n (sym e))))

  undo_moves : t.phase ≡ 6 → decision t.number s.coordinator ≡ Aborted → StepMoves (undo_step t s)
  unfolding undo_step verdict_formed
  undo_moves ph d =
      let v : t.verdict ≡ aborted_verdict = eqb-true t.verdict 2 (verdict_at_lem (units_of s) t stage 6 ph) in
      rolls 6 (back t.number (keys_of (group_at t s))) (omega arith) ph (ap (λ (x : ℕ). eqb x 0) v)
      (gentle_back t.number (keys_of (group_at t s)) d)
      (λ j n. away_back t.number (keys_of (group_at t s)) (λ e. absurd (n (sym e))))

  -- Every step that is not refused.
  pub step_moves : (now : ℕ) → cannot_advance t s ≡ false → StepMoves (step t now s)
  unfolding step cannot_advance
  step_moves now ok =
      by_phase_of StepMoves t.phase
      (λ e. open_moves e)
      (λ e. prepare_moves now e)
      (λ e. validate_moves e)
      (λ e. decide_moves e)
      (λ e. withdraw_moves)
      (λ e. finish_moves e (own-committed e))
      (λ e. undo_moves e (own_aborted e))
      (λ e. stays)
      stays
    where
      at : (p : ℕ) → t.phase ≡ p → cannot_advance (moved p t.place t.verdict t) s ≡ false
      at p e = ap (λ (q : ℕ). cannot_advance (moved q t.place t.verdict t) s) (sym e) ∙ ok

      own-committed : t.phase ≡ 5 → decision t.number s.coordinator ≡ Committed
      own-committed e = only_committed (decision t.number s.coordinator) (at 5 e)

      own_aborted : t.phase ≡ 6 → decision t.number s.coordinator ≡ Aborted
      own_aborted e = only_aborted (decision t.number s.coordinator) (at 6 e)

-- a step that is not refused is of no transaction that is done
pub advance_live : (t : Transaction) (s : Sheets) → cannot_advance t s ≡ false → t.phase ≤ 6
unfolding cannot_advance
advance_live t s =
    by_phase_of (λ (x : Bool). x ≡ false → t.phase ≤ 6) t.phase
    (λ e h. omega arith)
    (λ e h. omega arith)
    (λ e h. omega arith)
    (λ e h. omega arith)
    (λ e h. omega arith)
    (λ e h. omega arith)
    (λ e h. omega arith)
    (λ e h. absurd (true≢false h))
    (λ h. absurd (true≢false h))
