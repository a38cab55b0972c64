-- The recovery pass: a visit raises a line from undecided to decided to not prepared, and visits to other lines never lower it. After two visits no line is
-- prepared, and then every line is its settled line.
use Rattle.std.specs.Prelude.{◌≡◌, ◌+◌, ◌^◌, ◌≤◌, ◌<◌, ◌&&◌, ◌∷◌}
use Rattle.std.proofs.Common.{◌∙◌}
use Rattle.lists.specs.Basics.{refl, sym, ap, ap₂, subst, ℕ, zero, suc, eqb, Bool, true, false, cond, true≢false, List, []}
use Rattle.lists.specs.Basics.{map, length, arith, eq-eqb, any, count, choose_by, tests}
use Rattle.model.specs.Types.{Key, Record, Decision, Undecided, Aborted, Recovery, Stays, Forward, Back, Again, Busy}
use Rattle.model.specs.Calls.{outcome, result_of}
use Rattle.model.specs.Records.{same_key, line_of, has_line, key_in_range, prepared_rule}
use Rattle.model.specs.Coordinator.{decision, with_decision, is_undecided}
use Rattle.model.specs.Images.{is_prepared, prepared_by, rolled_forward, rolled_back}
use Rattle.model.specs.Writes.{Sheets, Write, nothing, decide, forward, back, is_of, line_after, decisions_after, apply}
use Rattle.model.specs.Visits.{owner_decision, owner_expired, meeting, is_busy, recovery_write}
use Rattle.model.specs.Refusals.{refusal_of}
use Rattle.model.specs.Results.{visit, made, write_of, visited}
use Rattle.model.specs.Conditions.{conditions}
use Rattle.model.specs.Histories.{answer, written, after, left_by}
use Rattle.model.specs.RecoveryPass.{Visit, visit_call, line_undecided, times_visited, Expiring, Closing}
use Rattle.model.specs.SequentialModel.{Model}
use Rattle.call_laws.specs.Choices.{by_meeting, by_visit}
use Rattle.sheet_laws.specs.Coordinator.{bounds}
use Rattle.sheet_laws.specs.KeyOrder.{same_key_lem, same_key_refl, lists_key, has_line_lem}
use Rattle.call_laws.specs.Images.{forward_plain, back_plain, when_prepared}
use Rattle.call_laws.specs.Lines.{shifts, lists_after_lem, line_of_key, Linewise, nothing_linewise, decide_linewise, forward_linewise, back_linewise}
use Rattle.call_laws.specs.Sheets.{GoodSheets, good_parts, parts_good, decided-own, listed_good}
use Rattle.call_laws.specs.Closure.{sheets_stay_good}
use Rattle.recovery.specs.Settling.{settle, settled_plain, gentle_nothing, undecided_aborted}
use Rattle.recovery.specs.View.{View, own-rule, own_txid, line_after_lem, gentle_view}
use Rattle.recovery.specs.Memory.{abort_undecided}
use Rattle.recovery.specs.Calls.{visit_gentle}

-- a line is undecided, decided or not prepared any more
abbrev pub AtLeast : ℕ → Sheets → Key → Type 0
AtLeast zero s k = Unit {0}
AtLeast (suc zero) s k = is_prepared (line_of k s.lines) ≡ true → owner_decision (line_of k s.lines) s.coordinator ≡ Undecided → ⊥
AtLeast (suc (suc n)) s k = is_prepared (line_of k s.lines) ≡ false

-- The writes of visits.
pub data Visiting : Write → Type 0 where
  visiting_nothing : Visiting nothing
  visiting_abort : (i : ℕ) → Visiting (decide i Aborted)
  visiting_forward : (i : ℕ) (ks : List Key) → Visiting (forward i ks)
  visiting_back : (i : ℕ) (ks : List Key) → Visiting (back i ks)

recovery_visiting : (v : Recovery) (r : Record) → Visiting (recovery_write v r)
unfolding recovery_write
recovery_visiting Stays r = visiting_nothing
recovery_visiting Forward r = visiting_forward _ _
recovery_visiting Back r = visiting_back _ _
recovery_visiting Again r = visiting_abort _
recovery_visiting Busy r = visiting_nothing

pub visit_visiting : (k : Key) (now : ℕ) (s : Sheets) → Visiting (written (visit k now) s)
visit_visiting k now s = by_visit Visiting k now s visiting_nothing (recovery_visiting _ _)

pub visiting_shifts : {w : Write} → Visiting w → shifts w ≡ false
visiting_shifts visiting_nothing = refl
visiting_shifts (visiting_abort i) = refl
visiting_shifts (visiting_forward i ks) = refl
visiting_shifts (visiting_back i ks) = refl

pub visiting_linewise : (rs : List Record) (w : Write) → Visiting w → Linewise rs w
visiting_linewise rs w visiting_nothing = nothing_linewise rs
visiting_linewise rs w (visiting_abort i) = decide_linewise rs i Aborted
visiting_linewise rs w (visiting_forward i ks) = forward_linewise rs i ks
visiting_linewise rs w (visiting_back i ks) = back_linewise rs i ks

-- a line that is prepared after a visit was prepared before, by the same number
pub prepared-before : (w : Write) → Visiting w → (r : Record) → is_prepared (line_after w r) ≡ true → line_after w r ≡ r
unfolding line_after
prepared-before w visiting_nothing r p = refl
prepared-before w (visiting_abort i) r p = refl
prepared-before w (visiting_forward i ks) r p =
    choose_by (λ (x : Record). is_prepared x ≡ true → x ≡ r) (is_of i ks r) (λ h q. absurd (true≢false (sym q ∙ forward_plain r))) (λ h q. refl) p
prepared-before w (visiting_back i ks) r p =
    choose_by (λ (x : Record). is_prepared x ≡ true → x ≡ r) (is_of i ks r) (λ h q. absurd (true≢false (sym q ∙ back_plain r))) (λ h q. refl) p

-- a line that isn't prepared stays so
settled_stays : (w : Write) → Visiting w → (r : Record) → is_prepared r ≡ false → is_prepared (line_after w r) ≡ false
settled_stays w v r p = go (is_prepared (line_after w r)) refl
  where
    go : (b : Bool) → is_prepared (line_after w r) ≡ b → b ≡ false
    go true e = absurd (true≢false (sym e ∙ (ap is_prepared (prepared-before w v r e) ∙ p)))
    go false e = refl

pub undecided-before : (w : Write) → Visiting w → (s : Sheets) (n : ℕ) → decision n (decisions_after w s.coordinator) ≡ Undecided → decision n s.coordinator ≡ Undecided
unfolding decisions_after
undecided-before w visiting_nothing s n e = e
undecided-before w (visiting_abort i) s n e = abort_undecided s.coordinator i n e
undecided-before w (visiting_forward i ks) s n e = e
undecided-before w (visiting_back i ks) s n e = e

-- Visits to any line never lower a line.
rank_kept : (n : ℕ) (s : Sheets) (w : Write) (k : Key) → Visiting w → AtLeast n s k → AtLeast n (apply w s) k
unfolding apply
rank_kept zero s w k v a = tt
rank_kept (suc zero) s w k v a = λ p u.
    let l : line_of k (apply w s).lines ≡ line_after w (line_of k s.lines) = line_after_lem s w (visiting_linewise s.lines w v) k in
    let q : is_prepared (line_after w (line_of k s.lines)) ≡ true = ap is_prepared (sym l) ∙ p in
    let e : line_of k (apply w s).lines ≡ line_of k s.lines = l ∙ prepared-before w v (line_of k s.lines) q in
    a (ap is_prepared (sym e) ∙ p)
    (undecided-before w v s (line_of k s.lines).image.txid (ap (λ (r : Record). owner_decision r (decisions_after w s.coordinator)) (sym e) ∙ u))
rank_kept (suc (suc n)) s w k v a = ap is_prepared (line_after_lem s w (visiting_linewise s.lines w v) k) ∙ settled_stays w v (line_of k s.lines) a

-- A visit at a reading at which an undecided line has expired.
module _ (s : Sheets) (good : GoodSheets s) (k : Key) (now : ℕ) (listed : lists_key k s.lines ≡ true) (expiring : line_undecided s (line_of k s.lines) ≡ true → owner_expired now s.lines (line_of k s.lines) ≡ true) where
  no_busy : is_prepared (line_of k s.lines) ≡ true → owner_decision (line_of k s.lines) s.coordinator ≡ Undecided → owner_expired now s.lines (line_of k s.lines) ≡ false → ⊥
  unfolding line_undecided is_undecided
  no_busy p d x = true≢false (sym (expiring (ap₂ (λ (b : Bool) (e : Decision). b && is_undecided e) p d)) ∙ x)

  not-busy : is_busy (meeting now s (line_of k s.lines)) ≡ false
  unfolding meeting
  not-busy =
      by_meeting (λ (v : Recovery). is_busy v ≡ false) (line_of k s.lines) (owner_decision (line_of k s.lines) s.coordinator) (owner_expired now s.lines (line_of k s.lines))
      (λ p. refl) (λ p d. refl) (λ p d. refl) (λ p d x. refl)
      (λ p d x. absurd (no_busy p d x))

  -- it is accepted
  pub visit_made : result_of (visit k now) s ≡ made (visited (meeting now s (line_of k s.lines))) (recovery_write (meeting now s (line_of k s.lines)) (line_of k s.lines))
  unfolding result_of outcome conditions refusal_of
  visit_made =
      let i : key_in_range k ≡ true = ap key_in_range (sym (line_of_key k s.lines)) ∙ (listed_good s good k listed).key in
      let h : has_line k s.lines ≡ true = has_line_lem k s.lines ∙ listed in
      rw (i, h, not-busy)

  visit_written : written (visit k now) s ≡ recovery_write (meeting now s (line_of k s.lines)) (line_of k s.lines)
  unfolding written
  visit_written = ap write_of visit_made

  -- the line rolled is the line visited
  pub rolled_line : (f : Record → Record) → is_prepared (line_of k s.lines) ≡ true → cond (is_of (line_of k s.lines).image.txid ((line_of k s.lines).key ∷ []) (line_of k s.lines)) (f (line_of k s.lines)) (line_of k s.lines) ≡ f (line_of k s.lines)
  unfolding is_of prepared_by any
  rolled_line f p =
      let e : eqb (line_of k s.lines).image.txid (line_of k s.lines).image.txid ≡ true = eq-eqb (line_of k s.lines).image.txid (line_of k s.lines).image.txid refl in
      let q : same_key (line_of k s.lines).key (line_of k s.lines).key ≡ true = same_key_refl (line_of k s.lines).key in
      rw (p, e, q)

  -- after it the line is decided
  decided_now : is_prepared (line_of k s.lines) ≡ true → decision (line_of k s.lines).image.txid (with_decision (line_of k s.lines).image.txid Aborted s.coordinator) ≡ Undecided → ⊥
  unfolding prepared_rule
  decided_now p u =
      let x : prepared_rule (line_of k s.lines) ≡ true = when_prepared (line_of k s.lines) p (own-rule s good k) in
      let one : 1 ≤ (line_of k s.lines).image.txid = search (tests, x) in
      let known : (line_of k s.lines).image.txid ≤ s.coordinator.issued = own_txid s good k in
      let most : s.coordinator.issued ≤ length s.coordinator.decisions = (bounds s.coordinator good.decisions).issued in
      undecided_aborted (sym u ∙ decided-own (line_of k s.lines).image.txid Aborted s.coordinator one (omega arith))

  -- the line's own key and number
  abbrev here : Key
  here = (line_of k s.lines).key

  abbrev owner : ℕ
  owner = (line_of k s.lines).image.txid

  -- the line after each outcome
  abbrev line_after_visit : Recovery → Record
  line_after_visit v = line_of k (apply (recovery_write v (line_of k s.lines)) s).lines

  clear_stays : is_prepared (line_of k s.lines) ≡ false → is_prepared (line_after_visit Stays) ≡ false
  unfolding recovery_write line_after
  clear_stays p = ap is_prepared (line_after_lem s nothing (nothing_linewise s.lines) k) ∙ p

  clear_forward : is_prepared (line_of k s.lines) ≡ true → is_prepared (line_after_visit Forward) ≡ false
  unfolding recovery_write line_after
  clear_forward p = ap is_prepared (line_after_lem s (forward owner (here ∷ [])) (forward_linewise s.lines owner (here ∷ [])) k ∙ rolled_line rolled_forward p) ∙ forward_plain (line_of k s.lines)

  clear_back : is_prepared (line_of k s.lines) ≡ true → is_prepared (line_after_visit Back) ≡ false
  unfolding recovery_write line_after
  clear_back p = ap is_prepared (line_after_lem s (back owner (here ∷ [])) (back_linewise s.lines owner (here ∷ [])) k ∙ rolled_line rolled_back p) ∙ back_plain (line_of k s.lines)

  same_again : line_after_visit Again ≡ line_of k s.lines
  unfolding recovery_write line_after
  same_again = line_after_lem s (decide owner Aborted) (decide_linewise s.lines owner Aborted) k

  raised : (n : ℕ) → AtLeast n s k → AtLeast (suc n) (apply (recovery_write (meeting now s (line_of k s.lines)) (line_of k s.lines)) s) k
  unfolding meeting recovery_write apply decisions_after
  raised zero a =
      by_meeting (λ (v : Recovery). AtLeast 1 (apply (recovery_write v (line_of k s.lines)) s) k) (line_of k s.lines) (owner_decision (line_of k s.lines) s.coordinator) (owner_expired now s.lines (line_of k s.lines))
      (λ p q u. true≢false (sym q ∙ clear_stays p))
      (λ p d q u. true≢false (sym q ∙ clear_forward p))
      (λ p d q u. true≢false (sym q ∙ clear_back p))
      (λ p d x q u. decided_now p (ap (λ (r : Record). decision r.image.txid (with_decision (line_of k s.lines).image.txid Aborted s.coordinator)) (sym same_again) ∙ u))
      (λ p d x q u. no_busy p d x)
  raised (suc zero) a =
      by_meeting (λ (v : Recovery). is_prepared (line_after_visit v) ≡ false) (line_of k s.lines) (owner_decision (line_of k s.lines) s.coordinator) (owner_expired now s.lines (line_of k s.lines))
      clear_stays (λ p d. clear_forward p) (λ p d. clear_back p) (λ p d x. absurd (a p d)) (λ p d x. absurd (a p d))
  raised (suc (suc n)) a =
      by_meeting (λ (v : Recovery). is_prepared (line_after_visit v) ≡ false) (line_of k s.lines) (owner_decision (line_of k s.lines) s.coordinator) (owner_expired now s.lines (line_of k s.lines))
      clear_stays (λ p d. clear_forward p) (λ p d. clear_back p)
      (λ p d x. absurd (true≢false (sym p ∙ a))) (λ p d x. absurd (true≢false (sym p ∙ a)))

  pub visit_raises : (n : ℕ) → AtLeast n s k → AtLeast (suc n) (after (visit k now) s) k
  unfolding after
  visit_raises n a = subst (λ (w : Write). AtLeast (suc n) (apply w s) k) (sym visit_written) (raised n a)

-- The whole pass.

one_visit : (b : Bool) (n p q : ℕ) → p ≤ cond b (suc q) q + n → p ≤ q + cond b (suc n) n
one_visit true n p q l = omega arith
one_visit false n p q l = l

-- a line that has come further has come this far
lower : (n p : ℕ) (s : Sheets) (k : Key) → p ≤ n → AtLeast n s k → AtLeast p s k
lower n zero s k l a = tt
lower zero (suc p) s k l a = absurd (omega arith)
lower (suc zero) (suc zero) s k l a = a
lower (suc zero) (suc (suc p)) s k l a = absurd (omega arith)
lower (suc (suc n)) (suc zero) s k l a = λ p u. true≢false (sym p ∙ a)
lower (suc (suc n)) (suc (suc p)) s k l a = a

-- one visit of a pass, seen from a line
turn : (v : Visit) (s : Sheets) (good : GoodSheets s) (k : Key) (n : ℕ) → lists_key k s.lines ≡ true → (line_undecided s (line_of v.key s.lines) ≡ true → owner_expired v.clock s.lines (line_of v.key s.lines) ≡ true) → AtLeast n s k → AtLeast (cond (same_key v.key k) (suc n) n) (after (visit_call v) s) k
unfolding after
turn v s good k n h x a =
    choose_by (λ (i : ℕ). AtLeast i (after (visit_call v) s) k) (same_key v.key k)
    (λ e. let q : v.key ≡ k = same_key_lem v.key k e in
    subst (λ (j : Key). AtLeast (suc n) (after (visit j v.clock) s) k) (sym q)
    (visit_raises s good k v.clock h (subst (λ (j : Key). line_undecided s (line_of j s.lines) ≡ true → owner_expired v.clock s.lines (line_of j s.lines) ≡ true) q x) n a))
    (λ e. rank_kept n s (written (visit_call v) s) k (visit_visiting v.key v.clock s) a)

-- A visit leaves good sheets, the same settled lines and the same keys.
module _ (m : Model) (v : Visit) (fits : v.clock < 2 ^ 32) (s : Sheets) (good : GoodSheets s) where
  visit_good : GoodSheets (after (visit_call v) s)
  visit_good = good_parts (after (visit_call v) s) (sheets_stay_good (visit_call v) s fits (parts_good s good))

  visit_view : View s m → View (after (visit_call v) s) m
  unfolding after
  visit_view w =
      by_visit (λ (x : Write). View (apply x s) m) v.key v.clock s (gentle_view s m nothing good gentle_nothing w)
      (gentle_view s m _ good (visit_gentle s v.clock (line_of v.key s.lines)) w)

pub visit_lists : (v : Visit) (s : Sheets) (k : Key) → lists_key k (after (visit_call v) s).lines ≡ lists_key k s.lines
unfolding after apply
visit_lists v s k = lists_after_lem (written (visit_call v) s) k s.lines (visiting_shifts (visit_visiting v.key v.clock s))

-- what a pass leaves
pub record Passed (m : Model) (vs : List Visit) (s s' : Sheets) : Type 0 where
  pub good : GoodSheets s'
  pub view : View s' m
  pub rank : (k : Key) (n p : ℕ) → lists_key k s.lines ≡ true → p ≤ times_visited k vs + n → AtLeast n s k → AtLeast p s' k
  pub lists : (k : Key) → lists_key k s'.lines ≡ lists_key k s.lines

pub pass_kept : (m : Model) (vs : List Visit) (s : Sheets) → GoodSheets s → View s m → Expiring (λ (x : Sheets). x) after vs s → Passed m vs s (left_by answer after (map visit_call vs) s)
unfolding left_by count
pass_kept m [] s g w x = record { good = g; view = w; rank = λ k n p h l a. lower n p s k (omega arith) a; lists = λ k. refl }
pass_kept m (v ∷ vs) s g w x =
    let r = pass_kept m vs (after (visit_call v) s) (visit_good m v x.0 s g) (visit_view m v x.0 s g w) x.1.1 in
    record {
      good = r.good;
      view = r.view;
      rank = λ k n p h l a. r.rank k (cond (same_key v.key k) (suc n) n) p (visit_lists v s k ∙ h)
          (one_visit (same_key v.key k) n p (times_visited k vs) l) (turn v s g k n h x.1.0 a);
      lists = λ k. r.lists k ∙ visit_lists v s k;
    }

-- Once every line has been visited twice, no line is prepared and each is its settled line, the model's.
pub closed : (m : Model) (vs : List Visit) (s : Sheets) → GoodSheets s → View s m → Closing (λ (x : Sheets). x) after vs s → (r : Record) → lists_key r.key (left_by answer after (map visit_call vs) s).lines ≡ true → line_of r.key (left_by answer after (map visit_call vs) s).lines ≡ r → (is_prepared r ≡ false) × (r ≡ m.line r.key)
closed m vs s g w c r h e =
    let p = pass_kept m vs s g w c.expiring in
    let l : lists_key r.key s.lines ≡ true = sym (p.lists r.key) ∙ h in
    let two : 2 ≤ times_visited r.key vs = c.twice r.key (has_line_lem r.key s.lines ∙ l) in
    let f : is_prepared r ≡ false = ap is_prepared (sym e) ∙ p.rank r.key 0 2 l (omega arith) tt in (
      f,
      sym (settled_plain (left_by answer after (map visit_call vs) s).coordinator r f)
          ∙ (ap (settle (left_by answer after (map visit_call vs) s).coordinator) (sym e) ∙ p.view r.key),
    )
