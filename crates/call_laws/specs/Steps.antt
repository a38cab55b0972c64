-- T4 for an advance: what a step writes keeps good sheets good, and the transaction that it returns is well formed.
-- Each phase is a walk of its definition; the facts that a write needs come from the conditions that held and the well-formed entries.
use Rattle.std.specs.Prelude.{◌≡◌, ◌+◌, ◌≤◌, ◌&&◌, ◌||◌}
use Rattle.std.proofs.Common.{◌∙◌}
use Rattle.lists.specs.Basics.{sym, ap, subst, ℕ, leb, ltb, Bool, true, false, not, length, get_or, arith, eqb-true, ltb-true}
use Rattle.lists.specs.Basics.{not-true, all, and_fst, and_snd, choose_by, tests}
use Rattle.lists.specs.All.{all-and}
use Rattle.lists.specs.Chosen.{all_filter, filter_passes}
use Rattle.model.specs.Types.{Key, Committed, Aborted, Entry, Transaction}
use Rattle.model.specs.Records.{has_line, line_of}
use Rattle.model.specs.Coordinator.{decision}
use Rattle.model.specs.Transactions.{prepare_phase, validate_phase, decide_phase, withdraw_phase, finish_phase, undo_phase, done_phase, no_verdict, committed_verdict}
use Rattle.model.specs.Transactions.{aborted_verdict, is_put, is_empty, held, puts, to_validate, no_entry, moved}
use Rattle.model.specs.Groups.{group}
use Rattle.model.specs.Images.{is_prepared, unchanged, change_of}
use Rattle.model.specs.Writes.{Sheets, Write, nothing, prepare, forward, back}
use Rattle.model.specs.WellFormed.{columns_in_range, put_fits, entry_formed, place_formed, verdict_formed}
use Rattle.model.specs.Steps.{Step, holds, units_of, groups_of, group_at, keys_of, to, one_phase_allowed, open_without_puts, one_phase, open_step, after_prepare}
use Rattle.model.specs.Steps.{next_group, prepare_step, next_entry, validate_step, decide_step, withdrawn, withdraw_step, finish_step, undo_step, step}
use Rattle.sheet_laws.specs.Coordinator.{bounds}
use Rattle.call_laws.specs.Choices.{by_phase_of, by_decision_lem}
use Rattle.call_laws.specs.Keys.{entry_has_key, entry_passes}
use Rattle.sheet_laws.specs.KeyOrder.{lists_key, has_line_lem}
use Rattle.call_laws.specs.Images.{MayPut}
use Rattle.call_laws.specs.Sheets.{GoodSheets, MayPutAll, Fit, fit_nothing, fit_decide, fit_commit, fit_prepare, fit_forward, fit_back}
use Rattle.call_laws.specs.Transactions.{Body, Stage, body-moved, place_at_lem, verdict_at_lem, groups_none, to_withdraw, to_prepare, to_validate_lem, to_decide}
use Rattle.call_laws.specs.Transactions.{to_finish, to_undo, to_done_committed, to_done_aborted, next_prepare, next_validate, next_finish, next_undo}
use Rattle.call_laws.specs.Transactions.{has_put}

-- a well-formed entry with a put may take one more version
pub put_fits_lem : (i : ℕ) (e : Entry) → entry_formed i e ≡ true → is_put e ≡ true → (leb e.seen.version 99998 && columns_in_range e.put) ≡ true
unfolding entry_formed put_fits
put_fits_lem i e h p =
    let q : put_fits e ≡ true = search tests in
    ap (λ (b : Bool). not b || leb e.seen.version 99998 && columns_in_range e.put) (sym p) ∙ q

pub few-issued : (s : Sheets) → GoodSheets s → s.coordinator.issued ≤ 999
few-issued s good =
    let x = bounds s.coordinator good.decisions in
    let y : length s.coordinator.decisions ≤ 999 = x.few in
    let z : s.coordinator.issued ≤ length s.coordinator.decisions = x.issued in
    omega arith

-- an entry whose condition holds: its key has a line, which is as it was read
pub holds_parts : (s : Sheets) (e : Entry) → holds s e ≡ true → (has_line e.key s.lines ≡ true) × (unchanged e (line_of e.key s.lines) ≡ true)
unfolding holds
holds_parts s e c =
    let r = line_of e.key s.lines in
    let p : (has_line e.key s.lines && unchanged e r) ≡ true = and_fst (has_line e.key s.lines && unchanged e r) _ c in
    (and_fst (has_line e.key s.lines) (unchanged e r) p, and_snd (has_line e.key s.lines) (unchanged e r) p)

-- what is asked of a step
pub record Closed (s : Sheets) (x : Step) : Type 0 where
  pub fits : Fit s x.write
  pub body : Body s x.transaction
  pub stage : Stage (units_of s) x.transaction

module _ (s : Sheets) (good : GoodSheets s) (t : Transaction) (b : Body s t) where
  -- an entry of a group is well formed and has a put
  pub group-formed : all (λ (e : Entry). entry_formed s.coordinator.issued e && is_put e) (group_at t s) ≡ true
  unfolding puts group
  group-formed =
      all_filter _ (λ (e : Entry). entry_formed s.coordinator.issued e && is_put e) (puts t)
      (all-and (entry_formed s.coordinator.issued) is_put (puts t)
      (all_filter is_put (entry_formed s.coordinator.issued) (held t) b.entries) (filter_passes is_put (held t)))

  -- an entry whose condition holds, well formed and with a put, may be written over the line of its key
  pub may_put_over : (e : Entry) → holds s e ≡ true → (entry_formed s.coordinator.issued e && is_put e) ≡ true → MayPut s.coordinator.issued t.number (change_of e) (line_of e.key s.lines)
  unfolding unchanged
  may_put_over e c f =
      let i = s.coordinator.issued in
      let r = line_of e.key s.lines in
      let u : unchanged e r ≡ true = (holds_parts s e c).1 in
      let w : (leb e.seen.version 99998 && columns_in_range e.put) ≡ true =
      put_fits_lem i e (and_fst (entry_formed i e) (is_put e) f) (and_snd (entry_formed i e) (is_put e) f) in
      let v : r.image.version ≡ e.seen.version = search (tests, u) in
      let n : not (is_prepared r) ≡ true = search (tests, u) in
      let m : e.seen.version ≤ 99998 = search (tests, w) in
      record {
        number = b.number;
        known = b.known;
        few = few-issued s good;
        version = omega arith;
        columns = search (tests, w);
        free = not-true (is_prepared r) n;
      }

  -- the puts of a group whose conditions hold may be written
  pub may_put : all (holds s) (group_at t s) ≡ true → MayPutAll s t.number (group_at t s)
  may_put h k e found =
      let i = s.coordinator.issued in
      let same : e.key ≡ k = entry_has_key k (group_at t s) e found in
      let c : holds s e ≡ true = entry_passes (holds s) k (group_at t s) e h found in
      let l : has_line e.key s.lines ≡ true = (holds_parts s e c).0 in (
        ap (λ (x : Key). lists_key x s.lines) (sym same) ∙ (sym (has_line_lem e.key s.lines) ∙ l),
        subst (λ (x : Key). MayPut i t.number (change_of e) (line_of x s.lines)) same
            (may_put_over e c (entry_passes (λ (x : Entry). entry_formed i x && is_put x) k (group_at t s) e group-formed found)),
      )

  -- a move to another phase that writes nothing
  moves : (phase place verdict : ℕ) → Stage (units_of s) (moved phase place verdict t) → Closed s (record { transaction = moved phase place verdict t; write = nothing })
  moves phase place verdict g = record { fits = fit_nothing; body = body-moved s t phase place verdict b; stage = g }

  withdraws : t.verdict ≡ no_verdict → Closed s (to withdraw_phase t)
  withdraws v = moves withdraw_phase 0 t.verdict (to_withdraw (units_of s) t v)

  open_closed : t.verdict ≡ no_verdict → Closed s (open_step t s)
  unfolding open_step open_without_puts one_phase
  open_closed v =
      choose_by (Closed s) (is_empty (puts t))
      (λ e. choose_by (Closed s) (is_empty (to_validate (units_of s) t))
      (λ f. moves done_phase 0 committed_verdict (to_done_committed (units_of s) t))
      (λ f. moves validate_phase 0 t.verdict (to_validate_lem (units_of s) t v f)))
      (λ e. choose_by (Closed s) (one_phase_allowed t s)
      (λ f. choose_by (Closed s) (all (holds s) (group_at t s))
      (λ h. record {
        fits = fit_commit t.number (group_at t s) (may_put h);
        body = body-moved s t done_phase 0 committed_verdict b;
        stage = to_done_committed (units_of s) t;
      })
      (λ h. withdraws v))
      (λ f. moves prepare_phase 0 t.verdict (to_prepare (units_of s) t v e)))

  -- the next group in the same phase, or another phase after the last
  next_closed : (p after : ℕ) (w : Write) → t.phase ≡ p → Fit s w → (ltb (t.place + 1) (groups_of t s) ≡ true → Stage (units_of s) (moved p (t.place + 1) t.verdict t)) → Stage (units_of s) (moved after 0 t.verdict t) → Closed s (record { transaction = next_group after t s; write = w })
  unfolding next_group
  next_closed p after w e f next last =
      choose_by (λ (u : Transaction). Closed s (record { transaction = u; write = w })) (ltb (t.place + 1) (groups_of t s))
      (λ l. record {
        fits = f;
        body = body-moved s t t.phase (t.place + 1) t.verdict b;
        stage = subst (λ (q : ℕ). Stage (units_of s) (moved q (t.place + 1) t.verdict t)) (sym e) (next l);
      })
      (λ l. record { fits = f; body = body-moved s t after 0 t.verdict b; stage = last })

  module _ (g : Stage (units_of s) t) where
    -- "place is below the number of groups", so that there are puts
    some_puts : ltb t.place (groups_of t s) ≡ true → is_empty (puts t) ≡ false
    some_puts l = groups_none (units_of s) (puts t) t.place (ltb-true t.place (groups_of t s) l)

    prepare_closed : t.phase ≡ 1 → (now : ℕ) → now ≤ 4294967295 → Closed s (prepare_step t now s)
    unfolding prepare_step place_formed verdict_formed puts held
    prepare_closed e now l =
        let v : t.verdict ≡ no_verdict = eqb-true t.verdict 0 (verdict_at_lem (units_of s) t g 1 e) in
        let n : is_empty (puts t) ≡ false = some_puts (place_at_lem (units_of s) t g 1 e) in
        choose_by (Closed s) (all (holds s) (group_at t s))
        (λ h. next_closed 1 (after_prepare (units_of s) t) (prepare t.number now (group_at t s)) e (fit_prepare t.number now (group_at t s) l (may_put h))
        (λ m. next_prepare (units_of s) t v m)
        (choose_by (λ (p : ℕ). Stage (units_of s) (moved p 0 t.verdict t)) (is_empty (to_validate (units_of s) t))
        (λ f. to_decide (units_of s) t v n)
        (λ f. to_validate_lem (units_of s) t v f)))
        (λ h. withdraws v)

    validate_closed : t.phase ≡ 2 → Closed s (validate_step t s)
    unfolding validate_step next_entry verdict_formed place_formed
    validate_closed e =
        let v : t.verdict ≡ no_verdict = eqb-true t.verdict 0 (verdict_at_lem (units_of s) t g 2 e) in
        choose_by (Closed s) (holds s (get_or (to_validate (units_of s) t) t.place no_entry))
        (λ h. choose_by (λ (u : Transaction). Closed s (record { transaction = u; write = nothing })) (ltb (t.place + 1) (length (to_validate (units_of s) t)))
        (λ l. moves validate_phase (t.place + 1) t.verdict (next_validate (units_of s) t v l))
        (λ l. choose_by (λ (u : Transaction). Closed s (record { transaction = u; write = nothing })) (is_empty (puts t))
        (λ f. moves done_phase 0 committed_verdict (to_done_committed (units_of s) t))
        (λ f. moves decide_phase 0 t.verdict (to_decide (units_of s) t v f))))
        (λ h. withdraws v)

    decide_closed : t.phase ≡ 3 → Closed s (decide_step t s)
    unfolding decide_step
    decide_closed e =
        let n : is_empty (puts t) ≡ false = has_put (units_of s) t g e in
        by_decision_lem (Closed s) (decision t.number s.coordinator)
        (record {
          fits = fit_decide t.number Committed b.known;
          body = body-moved s t finish_phase 0 committed_verdict b;
          stage = to_finish (units_of s) t n;
        })
        (record { fits = fit_nothing; body = b; stage = g })
        (moves undo_phase 0 aborted_verdict (to_undo (units_of s) t n))

    withdrawn_stage : Stage (units_of s) (withdrawn t)
    withdrawn_stage =
        choose_by (λ (p : ℕ). Stage (units_of s) (moved p 0 aborted_verdict t)) (is_empty (puts t))
        (λ f. to_done_aborted (units_of s) t)
        (λ f. to_undo (units_of s) t f)

    withdraw_closed : Closed s (withdraw_step t s)
    unfolding withdraw_step
    withdraw_closed =
        by_decision_lem (Closed s) (decision t.number s.coordinator)
        (record { fits = fit_decide t.number Aborted b.known; body = body-moved s t _ 0 aborted_verdict b; stage = withdrawn_stage })
        (record { fits = fit_nothing; body = b; stage = g })
        (record { fits = fit_nothing; body = body-moved s t _ 0 aborted_verdict b; stage = withdrawn_stage })

    finish_closed : t.phase ≡ 5 → Closed s (finish_step t s)
    unfolding finish_step verdict_formed
    finish_closed e =
        let v : t.verdict ≡ committed_verdict = eqb-true t.verdict 1 (verdict_at_lem (units_of s) t g 5 e) in
        next_closed 5 done_phase (forward t.number (keys_of (group_at t s))) e (fit_forward t.number (keys_of (group_at t s)))
        (λ m. next_finish (units_of s) t v m)
        (subst (λ (x : ℕ). Stage (units_of s) (moved done_phase 0 x t)) (sym v) (to_done_committed (units_of s) t))

    undo_closed : t.phase ≡ 6 → Closed s (undo_step t s)
    unfolding undo_step verdict_formed
    undo_closed e =
        let v : t.verdict ≡ aborted_verdict = eqb-true t.verdict 2 (verdict_at_lem (units_of s) t g 6 e) in
        next_closed 6 done_phase (back t.number (keys_of (group_at t s))) e (fit_back t.number (keys_of (group_at t s)))
        (λ m. next_undo (units_of s) t v m)
        (subst (λ (x : ℕ). Stage (units_of s) (moved done_phase 0 x t)) (sym v) (to_done_aborted (units_of s) t))

    -- every step, whether or not it would be refused
    pub step_closed : (now : ℕ) → now ≤ 4294967295 → Closed s (step t now s)
    unfolding step verdict_formed
    step_closed now l =
        by_phase_of (Closed s) t.phase
        (λ e. open_closed (eqb-true t.verdict 0 (verdict_at_lem (units_of s) t g 0 e)))
        (λ e. prepare_closed e now l)
        (λ e. validate_closed e)
        (λ e. decide_closed e)
        (λ e. withdraw_closed)
        (λ e. finish_closed e)
        (λ e. undo_closed e)
        (λ e. record { fits = fit_nothing; body = b; stage = g })
        (record { fits = fit_nothing; body = b; stage = g })
