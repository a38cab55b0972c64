-- T2: whatever a call writes, it changes lines of one atomicity unit or puts one in or takes one out and leaves the coordinator alone, or it leaves the record sheet alone.
-- A write of a group changes only lines whose keys are in it, and those agree in the fields of their unit; a visit changes one line.
use Rattle.std.specs.Prelude.{◌≡◌, ◌∷◌}
use Rattle.std.proofs.Common.{◌∙◌}
use Rattle.lists.specs.Basics.{refl, sym, ap, ℕ, Bool, true, false, cond, true≢false, and-false, List, [], get_or, Option, all, any}
use Rattle.lists.specs.Basics.{choose_by, or_left}
use Rattle.lists.specs.Chosen.{any-map}
use Rattle.model.specs.Types.{Key, Image, Record, Decision, Committed, Aborted, Entry, Transaction, Recovery, Stays, Forward, Back, Again, Busy}
use Rattle.model.specs.Records.{same_key, line_of}
use Rattle.model.specs.Coordinator.{Letter, Coordinator, decision}
use Rattle.model.specs.Groups.{scope, group}
use Rattle.model.specs.Images.{prepared_by, prepared, committed, rolled_forward, rolled_back, change_of}
use Rattle.model.specs.Writes.{Sheets, Write, nothing, issue, decide, commit, prepare, forward, back, add_line, remove_line, by_entry, is_of, line_after, decisions_after}
use Rattle.model.specs.Transactions.{puts, to_validate, is_empty, no_entry}
use Rattle.model.specs.Visits.{recovery_write, meeting}
use Rattle.model.specs.Steps.{Step, holds, units_of, group_at, keys_of, one_phase_allowed, open_without_puts, one_phase, open_step, prepare_step, validate_step}
use Rattle.model.specs.Steps.{decide_step, withdraw_step, finish_step, undo_step, step}
use Rattle.model.specs.Results.{Call, begin, read, second, put, advance, abort, visit, add, remove, shifts_lines, Answer, Result, write_of}
use Rattle.model.specs.Conditions.{takes_two, conditions}
use Rattle.model.specs.Calls.{whole_read, outcome, result_of}
use Rattle.model.specs.Histories.{written}
use Rattle.call_laws.specs.Choices.{by_phase_lem, by_decision_lem, by_written, by_whole}
use Rattle.model.specs.Refusals.{refusal_of}
use Rattle.sheet_laws.specs.KeyOrder.{same_key_refl, other_key}
use Rattle.call_laws.specs.Lines.{shifts}
use Rattle.call_laws.specs.Adding.{MayAdd, may_add, MayRemove, may_remove}
use Rattle.call_laws.specs.Keys.{has_key, no_entry_lem}
use Rattle.call_laws.specs.Groups.{InGroup, in_group_lem, one-scope}

-- a write to lines of one scope, or to the coordinator sheet
pub data SingleUnit (us : List Letter) (w : Write) : Type 0 where
  one_unit : shifts w ≡ false → (g : List ℕ) → ((r : Record) → (scope us r.key ≡ g → ⊥) → line_after w r ≡ r) → ((c : Coordinator) → decisions_after w c ≡ c) → SingleUnit us w
  coordinator_only : shifts w ≡ false → ((r : Record) → line_after w r ≡ r) → SingleUnit us w

pub unit_shifts : {us : List Letter} {w : Write} → SingleUnit us w → shifts w ≡ false
unit_shifts (one_unit h g others kept) = h
unit_shifts (coordinator_only h kept) = h

module _ (us : List Letter) (es : List Entry) (i : ℕ) where
  -- the scope of the group at place i, no fields if there is none
  group_scope : List Entry → List ℕ
  group_scope [] = []
  group_scope (e ∷ g) = scope us e.key

  -- a key of the group has the group's scope
  own-scope : (g : List Entry) → g ≡ group us es i → (k : Key) → has_key k g ≡ true → scope us k ≡ group_scope g
  unfolding any group_scope
  own-scope [] e k h = absurd (true≢false (sym h))
  own-scope (f ∷ g) e k h =
      let a : InGroup us es i k = in_group_lem us es i k (ap (has_key k) (sym e) ∙ h) in
      let o : has_key f.key (f ∷ g) ≡ true = or_left (same_key f.key f.key) (has_key f.key g) (same_key_refl f.key) in
      let b : InGroup us es i f.key = in_group_lem us es i f.key (ap (has_key f.key) (sym e) ∙ o) in
      one-scope us es k f.key a.listed b.listed (a.place ∙ sym b.place)

  -- a line of another scope is no line of the group
  not_in : (r : Record) → (scope us r.key ≡ group_scope (group us es i) → ⊥) → has_key r.key (group us es i) ≡ false
  not_in r d = go (has_key r.key (group us es i)) refl
    where
      go : (b : Bool) → has_key r.key (group us es i) ≡ b → b ≡ false
      go true e = absurd (d (own-scope (group us es i) refl r.key e))
      go false e = refl

  pub commit_unit : (n : ℕ) → SingleUnit us (commit n (group us es i))
  unfolding line_after decisions_after
  commit_unit n =
      one_unit refl (group_scope (group us es i))
      (λ r d. ap (λ (o : Option Entry). by_entry o r (λ (e : Entry). committed n (change_of e) r)) (no_entry_lem r.key (group us es i) (not_in r d)))
      (λ c. refl)

  pub prepare_unit : (n now : ℕ) → SingleUnit us (prepare n now (group us es i))
  unfolding line_after decisions_after
  prepare_unit n now =
      one_unit refl (group_scope (group us es i))
      (λ r d. ap (λ (o : Option Entry). by_entry o r (λ (e : Entry). prepared n now (change_of e) r)) (no_entry_lem r.key (group us es i) (not_in r d)))
      (λ c. refl)

  -- none of the group's lines that the number has prepared
  not_of : (n : ℕ) (r : Record) → (scope us r.key ≡ group_scope (group us es i) → ⊥) → is_of n (keys_of (group us es i)) r ≡ false
  unfolding is_of
  not_of n r d =
      let e : any (λ (k : Key). same_key k r.key) (keys_of (group us es i)) ≡ false =
      any-map (λ (f : Entry). f.key) (λ (k : Key). same_key k r.key) (group us es i) ∙ not_in r d in
      rw e (and-false (prepared_by n r))

  pub forward_unit : (n : ℕ) → SingleUnit us (forward n (keys_of (group us es i)))
  unfolding line_after decisions_after
  forward_unit n =
      one_unit refl (group_scope (group us es i))
      (λ r d. ap (λ (b : Bool). cond b (rolled_forward r) r) (not_of n r d))
      (λ c. refl)

  pub back_unit : (n : ℕ) → SingleUnit us (back n (keys_of (group us es i)))
  unfolding line_after decisions_after
  back_unit n =
      one_unit refl (group_scope (group us es i))
      (λ r d. ap (λ (b : Bool). cond b (rolled_back r) r) (not_of n r d))
      (λ c. refl)

module _ (us : List Letter) where
  -- nothing, one more number, a decision: no line changes
  pub nothing_unit : SingleUnit us nothing
  unfolding line_after
  nothing_unit = coordinator_only refl (λ r. refl)

  pub issue_unit : SingleUnit us issue
  unfolding line_after
  issue_unit = coordinator_only refl (λ r. refl)

  pub decide_unit : (n : ℕ) (d : Decision) → SingleUnit us (decide n d)
  unfolding line_after
  decide_unit n d = coordinator_only refl (λ r. refl)

  -- a visit: one line, or the coordinator
  not_line : (n : ℕ) (k : Key) (r : Record) → (scope us r.key ≡ scope us k → ⊥) → is_of n (k ∷ []) r ≡ false
  unfolding is_of any
  not_line n k r d =
      let e : same_key k r.key ≡ false = other_key k r.key (λ p. d (ap (scope us) (sym p))) in
      rw e (and-false (prepared_by n r))

  pub visit_unit : (v : Recovery) (r : Record) → SingleUnit us (recovery_write v r)
  unfolding recovery_write line_after decisions_after
  visit_unit Stays r = nothing_unit
  visit_unit Forward r =
      one_unit refl (scope us r.key) (λ x d. ap (λ (b : Bool). cond b (rolled_forward x) x) (not_line r.image.txid r.key x d)) (λ c. refl)
  visit_unit Back r =
      one_unit refl (scope us r.key) (λ x d. ap (λ (b : Bool). cond b (rolled_back x) x) (not_line r.image.txid r.key x d)) (λ c. refl)
  visit_unit Again r = decide_unit r.image.txid Aborted
  visit_unit Busy r = nothing_unit

-- Steps and visits.

abbrev InUnit : Sheets → Write → Type 0
InUnit s w = SingleUnit s.coordinator.units w

prepare_single : (t : Transaction) (now : ℕ) (s : Sheets) → InUnit s (prepare_step t now s).write
unfolding prepare_step
prepare_single t now s =
    choose_by (λ (x : Step). InUnit s x.write) (all (holds s) (group_at t s))
    (λ e. prepare_unit (units_of s) (puts t) t.place t.number now)
    (λ e. nothing_unit (units_of s))

open_single : (t : Transaction) (s : Sheets) → InUnit s (open_step t s).write
unfolding open_step open_without_puts one_phase
open_single t s =
    choose_by P (is_empty (puts t))
    (λ e. choose_by P (is_empty (to_validate (units_of s) t)) (λ f. nothing_unit (units_of s)) (λ f. nothing_unit (units_of s)))
    (λ e. choose_by P (one_phase_allowed t s)
    (λ f. choose_by P (all (holds s) (group_at t s))
    (λ g. commit_unit (units_of s) (puts t) t.place t.number)
    (λ g. nothing_unit (units_of s)))
    (λ f. nothing_unit (units_of s)))
  where
    P : Step → Type 0
    P x = InUnit s x.write

pub step_single : (t : Transaction) (now : ℕ) (s : Sheets) → InUnit s (step t now s).write
unfolding step validate_step decide_step withdraw_step finish_step undo_step
step_single t now s =
    by_phase_lem (λ (x : Step). InUnit s x.write) t.phase
    (open_single t s)
    (prepare_single t now s)
    (choose_by (λ (x : Step). InUnit s x.write) (holds s (get_or (to_validate (units_of s) t) t.place no_entry)) (λ e. none) (λ e. none))
    (by_decision_lem (λ (x : Step). InUnit s x.write) (decision t.number s.coordinator) (decide_unit (units_of s) t.number Committed) none none)
    (by_decision_lem (λ (x : Step). InUnit s x.write) (decision t.number s.coordinator) (decide_unit (units_of s) t.number Aborted) none none)
    (forward_unit (units_of s) (puts t) t.place t.number)
    (back_unit (units_of s) (puts t) t.place t.number)
    none none
  where
    none : InUnit s nothing
    none = nothing_unit (units_of s)

whole_single : (sees : Record → Image) (t : Transaction) (k : Key) (now : ℕ) (s : Sheets) → InUnit s (write_of (whole_read sees t k now s))
whole_single sees t k now s =
    by_whole sees t k now s (λ (x : Result Answer). InUnit s (write_of x)) (λ n a. visit_unit (units_of s) v r) (λ n a. visit_unit (units_of s) v r) (λ n. nothing_unit (units_of s))
  where
    r : Record
    r = line_of k s.lines

    v : Recovery
    v = meeting now s r

-- The calls.

pub outcome_unit : (c : Call) (s : Sheets) → shifts_lines c ≡ false → InUnit s (write_of (outcome c s))
unfolding outcome
outcome_unit (begin b) s h = issue_unit (units_of s)
outcome_unit (read t k now) s h =
    choose_by (λ (x : Result Answer). InUnit s (write_of x)) (takes_two (units_of s) k t) (λ e. nothing_unit (units_of s)) (λ e. whole_single _ t k now s)
outcome_unit (second t k now c) s h = whole_single _ t k now s
outcome_unit (put t k c) s h = nothing_unit (units_of s)
outcome_unit (advance t now) s h = step_single t now s
outcome_unit (abort t) s h = nothing_unit (units_of s)
outcome_unit (visit k now) s h = visit_unit (units_of s) (meeting now s (line_of k s.lines)) (line_of k s.lines)
outcome_unit (add k) s h = absurd (true≢false h)
outcome_unit (remove k) s h = absurd (true≢false h)

-- every other call shifts no line
pub written_unit : (c : Call) (s : Sheets) → shifts_lines c ≡ false → InUnit s (written c s)
written_unit c s h = by_written (InUnit s) c s (nothing_unit (units_of s)) (λ z. outcome_unit c s h)

pub written-shifts : (c : Call) (s : Sheets) → shifts_lines c ≡ false → shifts (written c s) ≡ false
written-shifts c s h = unit_shifts (written_unit c s h)

pub made_shifts : (c : Call) (s : Sheets) → shifts_lines c ≡ false → shifts (write_of (result_of c s)) ≡ false
unfolding written
made_shifts c s h = written-shifts c s h

-- What a call may write: to one unit, or to the coordinator sheet, or a line for its key, which has none, or its key's line taken away.
pub data Single (s : Sheets) : Call → Write → Type 0 where
  in_unit : {c : Call} {w : Write} → InUnit s w → Single s c w
  line_added : (k : Key) → MayAdd k s → Single s (add k) (add_line k)
  line_removed : (k : Key) → MayRemove k s → Single s (remove k) (remove_line k)

outcome_single : (c : Call) (s : Sheets) → refusal_of (conditions c s) ≡ 0 → Single s c (write_of (outcome c s))
unfolding outcome
outcome_single (begin b) s z = in_unit (outcome_unit (begin b) s refl)
outcome_single (read t k now) s z = in_unit (outcome_unit (read t k now) s refl)
outcome_single (second t k now c) s z = in_unit (outcome_unit (second t k now c) s refl)
outcome_single (put t k c) s z = in_unit (outcome_unit (put t k c) s refl)
outcome_single (advance t now) s z = in_unit (outcome_unit (advance t now) s refl)
outcome_single (abort t) s z = in_unit (outcome_unit (abort t) s refl)
outcome_single (visit k now) s z = in_unit (outcome_unit (visit k now) s refl)
outcome_single (add k) s z = line_added k (may_add k s z)
outcome_single (remove k) s z = line_removed k (may_remove k s z)

-- "writes to at most one unit or the coordinator sheet", whatever the call, its arguments and the sheets
pub single_unit : (c : Call) (s : Sheets) → Single s c (written c s)
single_unit c s = by_written (Single s c) c s (in_unit (nothing_unit (units_of s))) (λ z. outcome_single c s z)
