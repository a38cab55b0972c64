-- T4: after an accepted call the sheets are good and the transaction that it returns is well formed; after a refused one nothing has changed.
use Rattle.std.specs.Prelude.{◌≡◌, ◌+◌, ◌^◌, ◌≤◌, ◌<◌, ◌&&◌}
use Rattle.std.proofs.Common.{◌∙◌}
use Rattle.lists.specs.Basics.{cond, refl, sym, ap, ap₂, ℕ, suc, eqb, leb, Bool, true, false, not, true≢false, List, length}
use Rattle.lists.specs.Basics.{take, get_or, set, some, none-ne-some, arith, add-one, eqb-true, leb-false, le-leb, not-true, not-false, all, and_fst, and_snd, and_both, choose_by}
use Rattle.lists.specs.Basics.{tests}
use Rattle.lists.specs.All.{all_at}
use Rattle.model.specs.Types.{Key, Image, Record, Found, Columns, Entry, Transaction, Recovery, Stays, Forward, Back, Again, Busy}
use Rattle.model.specs.Layouts.{record_layout, image_layout, columns_layout}
use Rattle.model.specs.Lines.{in_range, row_good}
use Rattle.model.specs.Records.{image_numbers, absence, key_in_range, same_key, has_line, line_of, by_found}
use Rattle.model.specs.Coordinator.{Letter, with_issued}
use Rattle.model.specs.Groups.{is_lower}
use Rattle.model.specs.Transactions.{withdraw_phase, no_verdict, held, no_entry, held_at, was_absent, entry_as, with_put, moved, with_entry}
use Rattle.model.specs.Images.{is_absent, is_prepared, rolled_forward}
use Rattle.model.specs.Writes.{Sheets, sheets_good, Write, nothing, issue, add_line, remove_line, decisions_after, apply}
use Rattle.model.specs.WellFormed.{columns_in_range, image_in_range, put_fits, entry_formed, distinct_keys, place_formed, verdict_formed, well_formed}
use Rattle.model.specs.Visits.{meeting, is_again, is_busy, recovered, recovery_write}
use Rattle.model.specs.Refusals.{refusal_of}
use Rattle.model.specs.Results.{Call, begin, read, second, put, advance, abort, visit, add, remove, returned, acknowledged, made, returns}
use Rattle.model.specs.Conditions.{is_new, takes_two, held_entry, busy, cannot_abort, conditions}
use Rattle.model.specs.Steps.{units_of, step}
use Rattle.model.specs.Calls.{new_transaction, seen_second, holding, whole_read, after_put, outcome, result_of}
use Rattle.model.specs.Histories.{answer, written, after, ClockFits}
use Rattle.sheet_laws.specs.Search.{first_by}
use Rattle.sheet_laws.specs.Coordinator.{bounds}
use Rattle.call_laws.specs.Choices.{by_phase_of, unless_by, test_of, accepted, by_meeting, entry_read, by_whole}
use Rattle.call_laws.specs.Keys.{has_key}
use Rattle.call_laws.specs.Ranges.{GoodParts}
use Rattle.call_laws.specs.Images.{flag_says, back_plain, version_some, when_settled, forward_fine, back_fine}
use Rattle.call_laws.specs.Lines.{line_of_key}
use Rattle.call_laws.specs.Sheets.{GoodSheets, good_parts, parts_good, Fit, fit_nothing, fit_issue, fit_decide, fit_forward, fit_back, fit_add, fit_remove, write_closed}
use Rattle.call_laws.specs.Adding.{may_add, may_remove}
use Rattle.call_laws.specs.Transactions.{Body, Stage, parts-well_formed, body-moved, verdict_at_lem, to_withdraw}
use Rattle.call_laws.specs.Steps.{Closed, step_closed}
use Rattle.call_laws.specs.Entries.{get_or-first, all_more, all-replaced, distinct_more, distinct_replaced}
use Rattle.call_laws.specs.Keeping.{Keeps, formed-after, keeps_refused, keeps_made, strictly, taken-parts, line_good_lem, less_than_eight, not-held}
use Rattle.call_laws.specs.Keeping.{open_again}

module _ (s : Sheets) (good : GoodSheets s) where
  -- Begin.

  begin_body : (b : Bool) → Body (apply issue s) (new_transaction (s.coordinator.issued + 1) b)
  unfolding apply decisions_after with_issued held all distinct_keys
  begin_body b =
      record {
        number = omega arith;
        known = omega arith;
        flag = choose_by (λ (n : ℕ). n ≤ 1) b (λ e. omega arith) (λ e. omega arith);
        few = omega arith;
        entries = refl;
        distinct = refl;
      }

  begin_stage : (us : List Letter) (n : ℕ) (b : Bool) → Stage us (new_transaction n b)
  unfolding place_formed verdict_formed
  begin_stage us n b = record { decides = refl; place = refl; verdict = refl }

  begin_keeps : (b : Bool) → refusal_of (conditions (begin b) s) ≡ 0 → Keeps s (outcome (begin b) s)
  unfolding outcome conditions returns test_of
  begin_keeps b z =
      let n : eqb s.coordinator.issued (length s.coordinator.decisions) ≡ false = accepted 8 (begin b) s z in
      let m : s.coordinator.issued ≤ length s.coordinator.decisions = (bounds s.coordinator good.decisions).issued in
      let l : s.coordinator.issued < length s.coordinator.decisions = strictly s.coordinator.issued (length s.coordinator.decisions) m n in
      keeps_made s (returned (new_transaction (s.coordinator.issued + 1) b)) issue (new_transaction (s.coordinator.issued + 1) b) refl (fit_issue l)
      (parts-well_formed (apply issue s) (new_transaction (s.coordinator.issued + 1) b) (begin_body b) (begin_stage _ (s.coordinator.issued + 1) b))

  -- Advance and abort.

  advance_keeps : (t : Transaction) (now : ℕ) → now < 2 ^ 32 → refusal_of (conditions (advance t now) s) ≡ 0 → Keeps s (outcome (advance t now) s)
  unfolding outcome conditions returns
  advance_keeps t now l z =
      let p = taken-parts s t _ z in
      let c : Closed s (step t now s) = step_closed s good t p.0 p.1 now (omega arith) in
      keeps_made s (returned (step t now s).transaction) (step t now s).write (step t now s).transaction refl c.fits
      (formed-after s (step t now s).write (step t now s).transaction c.body c.stage)

  abort_verdict : (t : Transaction) → Stage (units_of s) t → cannot_abort t ≡ false → t.verdict ≡ no_verdict
  unfolding cannot_abort verdict_formed
  abort_verdict t g =
      by_phase_of (λ (x : Bool). x ≡ false → t.verdict ≡ no_verdict) t.phase
      (λ e h. eqb-true t.verdict 0 (verdict_at_lem (units_of s) t g 0 e))
      (λ e h. eqb-true t.verdict 0 (verdict_at_lem (units_of s) t g 1 e))
      (λ e h. eqb-true t.verdict 0 (verdict_at_lem (units_of s) t g 2 e))
      (λ e h. eqb-true t.verdict 0 (verdict_at_lem (units_of s) t g 3 e))
      (λ e h. absurd (true≢false h))
      (λ e h. absurd (true≢false h))
      (λ e h. absurd (true≢false h))
      (λ e h. absurd (true≢false h))
      (λ h. absurd (true≢false h))

  abort_keeps : (t : Transaction) → refusal_of (conditions (abort t) s) ≡ 0 → Keeps s (outcome (abort t) s)
  unfolding outcome conditions returns test_of
  abort_keeps t z =
      let p = taken-parts s t _ z in
      let c : cannot_abort t ≡ false = accepted 4 (abort t) s z in
      keeps_made s (returned (moved withdraw_phase 0 t.verdict t)) nothing (moved withdraw_phase 0 t.verdict t) refl fit_nothing
      (formed-after s nothing (moved withdraw_phase 0 t.verdict t) (body-moved s t withdraw_phase 0 t.verdict p.0)
      (to_withdraw (units_of s) t (abort_verdict t p.1 c)))

  -- Visit.

  pub visit_fits : (k : Key) (now : ℕ) → has_line k s.lines ≡ true → Fit s (recovery_write (meeting now s (line_of k s.lines)) (line_of k s.lines))
  unfolding recovery_write
  visit_fits k now h = any-fits (meeting now s (line_of k s.lines))
    where
      known : (line_of k s.lines).image.txid ≤ s.coordinator.issued
      known = (line_good_lem s good k h).txid

      any-fits : (v : Recovery) → Fit s (recovery_write v (line_of k s.lines))
      any-fits Stays = fit_nothing
      any-fits Forward = fit_forward _ _
      any-fits Back = fit_back _ _
      any-fits Again = fit_decide _ _ known
      any-fits Busy = fit_nothing

  visit_keeps : (k : Key) (now : ℕ) → refusal_of (conditions (visit k now) s) ≡ 0 → Keeps s (outcome (visit k now) s)
  unfolding outcome conditions returns test_of
  visit_keeps k now z =
      let c6 : not (has_line k s.lines) ≡ false = accepted 6 (visit k now) s z in
      record { fits = visit_fits k now (not-false (has_line k s.lines) c6); formed = λ t e. absurd (none-ne-some t e) }

  -- Read.

  -- a line that was visited, and neither aborted nor busy
  visited_good : (k : Key) (now : ℕ) → has_line k s.lines ≡ true → is_again (meeting now s (line_of k s.lines)) ≡ false → is_busy (meeting now s (line_of k s.lines)) ≡ false → GoodParts s.coordinator.issued (recovered (meeting now s (line_of k s.lines)) (line_of k s.lines)) × (is_prepared (recovered (meeting now s (line_of k s.lines)) (line_of k s.lines)) ≡ false)
  unfolding meeting recovered rolled_forward
  visited_good k now h =
      by_meeting
      (λ (v : Recovery). is_again v ≡ false → is_busy v ≡ false → GoodParts s.coordinator.issued (recovered v (line_of k s.lines)) × (is_prepared (recovered v (line_of k s.lines)) ≡ false))
      (line_of k s.lines) _ _
      (λ p a b. (line_good_lem s good k h, p))
      (λ p d a b. (forward_fine s.coordinator.issued (line_of k s.lines) (line_good_lem s good k h) p, refl))
      (λ p d a b. (back_fine s.coordinator.issued (line_of k s.lines) (line_good_lem s good k h) p, back_plain (line_of k s.lines)))
      (λ p d x a b. absurd (true≢false a))
      (λ p d x a b. absurd (true≢false b))

  -- a good line with other columns in range
  columns-ranged : (m : Image) (c : Columns) → image_in_range m ≡ true → columns_in_range c ≡ true → image_in_range (record { version = m.version; txid = m.txid; column1 = c.column1; column2 = c.column2 }) ≡ true
  unfolding image_in_range columns_in_range columns_layout image_layout record_layout row_good in_range image_numbers
  columns-ranged m c h g =
      let v = leb 0 m.version && leb m.version 99999 in
      let n = leb 0 m.txid && leb m.txid 999 in
      let rest = and_snd v _ h in
      and_both (and_fst v _ h) (and_both (and_fst n _ rest) g)

  -- an image read of a record, absent or not
  flag_fits : (a : Bool) → leb (cond a 1 0) 1 ≡ true
  flag_fits true = refl
  flag_fits false = refl

  entry_fits : (k : Key) (a : Bool) (m : Image) → key_in_range k ≡ true → image_in_range m ≡ true → leb m.txid s.coordinator.issued ≡ true → cond a (absence m) (leb 1 m.version) ≡ true → entry_formed s.coordinator.issued (entry_as k a m) ≡ true
  unfolding entry_formed put_fits
  entry_fits k a m i g n h =
      and_both (and_both (and_both (and_both (and_both (and_both (flag_fits a) refl) g) n) (ap (λ (b : Bool). cond b (absence m) (leb 1 m.version)) (flag_says a) ∙ h)) refl) i

  -- the entry of a good line that isn't prepared is well formed
  entry_of_line : (k : Key) (r : Record) → key_in_range k ≡ true → GoodParts s.coordinator.issued r → is_prepared r ≡ false → entry_formed s.coordinator.issued (entry_as k (is_absent r) r.image) ≡ true
  entry_of_line k r i g p = entry_fits k (is_absent r) r.image i g.image (le-leb r.image.txid s.coordinator.issued g.txid) (when_settled r p g.rule)

  -- and so is that of a second call, whose columns are in range where they count
  entry_of_second : (lower : Bool) (c : Columns) (k : Key) (r : Record) → key_in_range k ≡ true → (lower ≡ true → columns_in_range c ≡ true) → GoodParts s.coordinator.issued r → is_prepared r ≡ false → entry_formed s.coordinator.issued (entry_as k (is_absent r) (seen_second lower c r)) ≡ true
  unfolding seen_second
  entry_of_second lower c k r i h g p =
      choose_by (λ (m : Image). entry_formed s.coordinator.issued (entry_as k (is_absent r) m) ≡ true) (lower && not (is_absent r))
      (λ e. let a : is_absent r ≡ false = not-true (is_absent r) (and_snd lower (not (is_absent r)) e) in
      let v : leb 1 r.image.version ≡ true = version_some r p a g.rule in
      entry_fits k (is_absent r) _ i (columns-ranged r.image c g.image (h (and_fst lower (not (is_absent r)) e))) (le-leb r.image.txid s.coordinator.issued g.txid) (rw a v))
      (λ e. entry_of_line k r i g p)

  module _ (t : Transaction) (b : Body s t) where
    -- one more entry, of a key that isn't held
    holding-body : (e : Entry) → t.count < 8 → has_key e.key (held t) ≡ false → entry_formed s.coordinator.issued e ≡ true → Body s (holding e t)
    unfolding held
    holding-body e l n f =
        let more : take (t.count + 1) (set t.entries t.count e) ≡ take (suc t.count) (set t.entries t.count e) =
        ap (λ (m : ℕ). take m (set t.entries t.count e)) (add-one t.count) in
        record {
          number = b.number;
          known = b.known;
          flag = b.flag;
          few = omega arith;
          entries =
              ap (all (entry_formed s.coordinator.issued)) more
              ∙ all_more (entry_formed s.coordinator.issued) e t.count t.entries b.entries f;
          distinct = ap distinct_keys more ∙ distinct_more e t.count t.entries b.distinct n;
        }

  -- the whole read, by what it sees of the line
  module _ (sees : Record → Image) (t : Transaction) (k : Key) (now : ℕ) (p : Body s t × Stage (units_of s) t) (ph : t.phase ≡ 0) (h : has_line k s.lines ≡ true) where
    abbrev line : Record
    line = line_of k s.lines

    abbrev met : Recovery
    met = meeting now s line

    whole-keeps : (is_new k t && leb 8 t.count) ≡ false → (is_new k t ≡ true → is_busy met ≡ false)
        → ((r : Record) → is_new k t ≡ true → GoodParts s.coordinator.issued r → is_prepared r ≡ false → entry_formed s.coordinator.issued (entry_as line.key (is_absent r) (sees r)) ≡ true)
        → Keeps s (whole_read sees t k now s)
    unfolding returns
    whole-keeps few free formed =
        by_whole sees t k now s (Keeps s)
        (λ n a. keeps_made s _ (recovery_write met line) t refl (visit_fits k now h) (formed-after s (recovery_write met line) t p.0 p.1))
        (λ n a. let u = visited_good k now h a (free n) in
        let e = entry_read sees t k now s in
        let l : leb 8 t.count ≡ false = ap (λ (x : Bool). x && leb 8 t.count) (sym n) ∙ few in
        let kk : line.key ≡ k = line_of_key k s.lines in
        let body : Body s (holding e t) =
        holding-body t p.0 e (less_than_eight t.count l) (ap (λ (x : Key). has_key x (held t)) kk ∙ not-held k t n)
        (formed (recovered met line) n u.0 u.1) in
        keeps_made s _ (recovery_write met line) (holding e t) refl (visit_fits k now h)
        (formed-after s (recovery_write met line) (holding e t) body (open_again (units_of s) t p.1 ph (t.count + 1) t.count e)))
        (λ n. keeps_made s _ nothing t refl fit_nothing (formed-after s nothing t p.0 p.1))

  read_keeps : (t : Transaction) (k : Key) (now : ℕ) → refusal_of (conditions (read t k now) s) ≡ 0 → Keeps s (outcome (read t k now) s)
  unfolding outcome conditions returns test_of
  read_keeps t k now z =
      let p = taken-parts s t _ z in
      let c4 : not (eqb t.phase 0) ≡ false = accepted 4 (read t k now) s z in
      let c5 : not (key_in_range k) ≡ false = accepted 5 (read t k now) s z in
      let c6 : not (has_line k s.lines) ≡ false = accepted 6 (read t k now) s z in
      let c9 : (is_new k t && leb 8 t.count) ≡ false = accepted 9 (read t k now) s z in
      let c12 : (is_new k t && not (is_lower (units_of s) k) && busy k now s) ≡ false = accepted 12 (read t k now) s z in
      choose_by (Keeps s) (takes_two (units_of s) k t)
      (λ e. keeps_made s _ nothing t refl fit_nothing (formed-after s nothing t p.0 p.1))
      (λ e. whole-keeps (λ (r : Record). r.image) t k now p (eqb-true t.phase 0 (not-false (eqb t.phase 0) c4)) (not-false (has_line k s.lines) c6) c9
      (λ n. let f : is_lower (units_of s) k ≡ false = ap (λ (x : Bool). x && is_lower (units_of s) k) (sym n) ∙ e in
      ap₂ (λ (x y : Bool). x && not y && busy k now s) (sym n) (sym f) ∙ c12)
      (λ r n g q. entry_of_line _ r (ap key_in_range (line_of_key k s.lines) ∙ not-false (key_in_range k) c5) g q))

  second-keeps : (t : Transaction) (k : Key) (now : ℕ) (c : Columns) → refusal_of (conditions (second t k now c) s) ≡ 0 → Keeps s (outcome (second t k now c) s)
  unfolding outcome conditions returns test_of
  second-keeps t k now c z =
      let call = second t k now c in
      let lower = is_lower (units_of s) k in
      let c4 : not (eqb t.phase 0) ≡ false = accepted 4 call s z in
      let c5 : not (key_in_range k) ≡ false = accepted 5 call s z in
      let c6 : not (has_line k s.lines) ≡ false = accepted 6 call s z in
      let c7 : (is_new k t && lower && not (columns_in_range c)) ≡ false = accepted 7 call s z in
      let c9 : (is_new k t && leb 8 t.count) ≡ false = accepted 9 call s z in
      let c12 : (is_new k t && busy k now s) ≡ false = accepted 12 call s z in
      whole-keeps (seen_second lower c) t k now (taken-parts s t _ z) (eqb-true t.phase 0 (not-false (eqb t.phase 0) c4)) (not-false (has_line k s.lines) c6) c9
      (λ n. ap (λ (x : Bool). x && busy k now s) (sym n) ∙ c12)
      (λ r n g q. entry_of_second lower c _ r (ap key_in_range (line_of_key k s.lines) ∙ not-false (key_in_range k) c5)
      (λ e. not-false (columns_in_range c) (ap₂ (λ (x y : Bool). x && y && not (columns_in_range c)) (sym n) (sym e) ∙ c7)) g q)

  -- Put.

  put_entry : (c : Columns) (y : Entry) → entry_formed s.coordinator.issued y ≡ true → columns_in_range c ≡ true → leb 99999 y.seen.version ≡ false → entry_formed s.coordinator.issued (with_put c y) ≡ true
  unfolding entry_formed put_fits
  put_entry c y f r v =
      let l : y.seen.version < 99999 = leb-false 99999 y.seen.version v in
      let a : leb y.seen.version 99998 ≡ true = le-leb y.seen.version 99998 (omega arith) in
      let b : image_in_range y.seen ≡ true = search (tests, f) in
      let d : leb y.seen.txid s.coordinator.issued ≡ true = search (tests, f) in
      let e : cond (was_absent y) (absence y.seen) (leb 1 y.seen.version) ≡ true = search (tests, f) in
      let i : key_in_range y.key ≡ true = search (tests, f) in
      let n : leb y.absent 1 ≡ true = search (tests, f) in
      and_both (and_both (and_both (and_both (and_both (and_both n refl) b) d) e) (and_both a r)) i

  module _ (t : Transaction) (b : Body s t) (c : Columns) where
    -- the entry at an index replaced by one with a put
    put_body : (m : ℕ) → m < length (held t) → columns_in_range c ≡ true → leb 99999 (get_or t.entries m no_entry).seen.version ≡ false → Body s (with_entry t.count m (with_put c (get_or t.entries m no_entry)) t)
    unfolding held
    put_body m l r v =
        let y = get_or t.entries m no_entry in
        let same : get_or (held t) m no_entry ≡ y = get_or-first t.count t.entries m no_entry l in
        let f : entry_formed s.coordinator.issued y ≡ true =
        ap (entry_formed s.coordinator.issued) (sym same) ∙ all_at (entry_formed s.coordinator.issued) (held t) no_entry m b.entries l in
        record {
          number = b.number;
          known = b.known;
          flag = b.flag;
          few = b.few;
          entries = all-replaced (entry_formed s.coordinator.issued) (with_put c y) t.count m t.entries b.entries (put_entry c y f r v);
          distinct = distinct_replaced (with_put c y) no_entry t.count m t.entries refl ∙ b.distinct;
        }

    -- what a put leaves is well formed
    put_formed : (k : Key) → Stage (units_of s) t → t.phase ≡ 0 → columns_in_range c ≡ true → leb 99999 (held_entry k t).seen.version ≡ false → well_formed (apply nothing s) (after_put t k c) ≡ true
    unfolding after_put held_at
    put_formed k g ph r =
        first_by (λ (e : Entry). same_key e.key k)
        (λ (f : Found). leb 99999 (by_found f no_entry (λ (i : ℕ). get_or t.entries i no_entry)).seen.version ≡ false → well_formed (apply nothing s) (by_found f t (λ (i : ℕ). with_entry t.count i (with_put c (get_or t.entries i no_entry)) t)) ≡ true)
        (held t) no_entry
        (λ n v. formed-after s nothing t b g)
        (λ m x v. formed-after s nothing (with_entry t.count m (with_put c (get_or t.entries m no_entry)) t) (put_body m x.within r v)
        (open_again (units_of s) t g ph t.count m (with_put c (get_or t.entries m no_entry))))

  put_keeps : (t : Transaction) (k : Key) (c : Columns) → refusal_of (conditions (put t k c) s) ≡ 0 → Keeps s (outcome (put t k c) s)
  unfolding outcome conditions returns test_of
  put_keeps t k c z =
      let p = taken-parts s t _ z in
      let c4 : not (eqb t.phase 0) ≡ false = accepted 4 (put t k c) s z in
      let c7 : not (columns_in_range c) ≡ false = accepted 7 (put t k c) s z in
      let c11 : leb 99999 (held_entry k t).seen.version ≡ false = accepted 11 (put t k c) s z in
      let ph : t.phase ≡ 0 = eqb-true t.phase 0 (not-false (eqb t.phase 0) c4) in
      keeps_made s (returned (after_put t k c)) nothing (after_put t k c) refl fit_nothing
      (put_formed t p.0 c k p.1 ph (not-false (columns_in_range c) c7) c11)

-- Adding and removing, which return no transaction.

free-keeps : (s : Sheets) (w : Write) → Fit s w → Keeps s (made acknowledged w)
unfolding returns
free-keeps s w f = record { fits = f; formed = λ t e. absurd (none-ne-some t e) }

add_keeps : (s : Sheets) (k : Key) → refusal_of (conditions (add k) s) ≡ 0 → Keeps s (outcome (add k) s)
unfolding outcome
add_keeps s k z = free-keeps s (add_line k) (fit_add k (may_add k s z))

remove_keeps : (s : Sheets) (k : Key) → refusal_of (conditions (remove k) s) ≡ 0 → Keeps s (outcome (remove k) s)
unfolding outcome
remove_keeps s k z = free-keeps s (remove_line k) (fit_remove k (may_remove k s z))

-- Every call.

accepted_keeps : (c : Call) (s : Sheets) → GoodSheets s → ClockFits c → refusal_of (conditions c s) ≡ 0 → Keeps s (outcome c s)
accepted_keeps (begin b) s g l = begin_keeps s g b
accepted_keeps (read t k now) s g l = read_keeps s g t k now
accepted_keeps (second t k now c) s g l = second-keeps s g t k now c
accepted_keeps (put t k c) s g l = put_keeps s g t k c
accepted_keeps (advance t now) s g l = advance_keeps s g t now l
accepted_keeps (abort t) s g l = abort_keeps s g t
accepted_keeps (visit k now) s g l = visit_keeps s g k now
accepted_keeps (add k) s g l = add_keeps s k
accepted_keeps (remove k) s g l = remove_keeps s k

kept : (c : Call) (s : Sheets) → GoodSheets s → ClockFits c → Keeps s (result_of c s)
unfolding result_of
kept c s g l = unless_by (Keeps s) (conditions c s) (keeps_refused s _) (accepted_keeps c s g l)

-- the sheets after any call are good if they were
pub sheets_stay_good : (c : Call) (s : Sheets) → ClockFits c → sheets_good s ≡ true → sheets_good (after c s) ≡ true
unfolding after written
sheets_stay_good c s l h =
    let g : GoodSheets s = good_parts s h in
    parts_good (after c s) (write_closed s g (kept c s g l).fits)

-- the transaction that a call returns is well formed, on the sheets that it leaves
pub returned_well_formed : (c : Call) (s : Sheets) (t : Transaction) → ClockFits c → sheets_good s ≡ true → returns (answer c s) ≡ some t → well_formed (after c s) t ≡ true
unfolding answer after written
returned_well_formed c s t l h e = (kept c s (good_parts s h) l).formed t e
