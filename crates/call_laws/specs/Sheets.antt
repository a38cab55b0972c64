-- Sheets stay good under the writes that calls make: each line by the lemma of its image, order because keys are kept or a line goes where its key belongs, the coordinator by its
-- own rules.
use Rattle.std.specs.Prelude.{◌≡◌, ◌+◌, ◌≤◌, ◌<◌}
use Rattle.lists.specs.Basics.{refl, sym, ap, subst, ℕ, zero, suc, true, false, true≢false, List, length, length-map, Option, none}
use Rattle.lists.specs.Basics.{some, arith, add-one, le-leb, all, and_fst, and_snd, and_both, choose_by, tests}
use Rattle.std.proofs.Common.{get_or-set_same, ◌∙◌}
use Rattle.lists.specs.All.{all-and, all_weaken, all_map}
use Rattle.model.specs.Types.{Key, Record, Decision, Undecided, Entry}
use Rattle.model.specs.Records.{good_alone, key_in_range, rising, records_good, absent_at, line_of}
use Rattle.model.specs.Coordinator.{Coordinator, coordinator_good, names_issued, decision, with_decision, with_issued}
use Rattle.model.specs.Images.{is_prepared, prepared_by, prepared, committed, change_of}
use Rattle.model.specs.Writes.{Sheets, size_good, sheets_good, Write, nothing, issue, decide, commit, prepare, forward, back, add_line, remove_line, entry_for, by_entry, is_of, line_after}
use Rattle.model.specs.Writes.{lines_after, decisions_after, apply}
use Rattle.sheet_laws.specs.Decisions.{good_decided, good_raised}
use Rattle.call_laws.specs.Ranges.{GoodParts, fine, fine-parts, parts-fine, absent_good}
use Rattle.call_laws.specs.Images.{MayPut, committed-fine, prepared-fine, forward_fine, back_fine, blank_is}
use Rattle.sheet_laws.specs.KeyOrder.{lists_key}
use Rattle.sheet_laws.specs.AddedLines.{rising-inserted, length_inserted, all_inserted, rising-without, length_without, all_without}
use Rattle.call_laws.specs.Lines.{shifts, lines_mapped, lines_added, lines_removed, rising-after, Linewise, linewise, add_linewise, remove_linewise, all_lines, line_passes}
use Rattle.call_laws.specs.Lines.{line_of_key}
use Rattle.call_laws.specs.Adding.{MayAdd, MayRemove}

-- Good sheets, in parts.
pub record GoodSheets (s : Sheets) : Type 0 where
  pub some_size : 1 ≤ s.size
  pub few_size : s.size ≤ 500
  pub few_lines : length s.lines ≤ s.size
  pub fine_lines : all (fine s.coordinator.issued) s.lines ≡ true
  pub order : rising s.lines ≡ true
  pub decisions : coordinator_good s.coordinator ≡ true

pub good_parts : (s : Sheets) → sheets_good s ≡ true → GoodSheets s
unfolding sheets_good size_good records_good
good_parts s h =
    let a : all good_alone s.lines ≡ true = search tests in
    let b : all (names_issued s.coordinator.issued) s.lines ≡ true = search tests in
    record {
      some_size = search tests;
      few_size = search tests;
      few_lines = search tests;
      fine_lines = all-and good_alone (names_issued s.coordinator.issued) s.lines a b;
      order = search tests;
      decisions = search tests;
    }

pub parts_good : (s : Sheets) → GoodSheets s → sheets_good s ≡ true
unfolding sheets_good size_good records_good
parts_good s g =
    let i = s.coordinator.issued in
    let a : all good_alone s.lines ≡ true =
    all_weaken (fine i) good_alone (λ r h. and_fst (good_alone r) (names_issued i r) h) s.lines g.fine_lines in
    let b : all (names_issued i) s.lines ≡ true =
    all_weaken (fine i) (names_issued i) (λ r h. and_snd (good_alone r) (names_issued i r) h) s.lines g.fine_lines in
    let c : length s.lines ≤ 500 = let x = g.few_lines in let y = g.few_size in omega arith in
    and_both
    (and_both
    (and_both
    (and_both (and_both (le-leb 1 s.size g.some_size) (le-leb s.size 500 g.few_size)) (le-leb (length s.lines) s.size g.few_lines))
    (and_both (and_both (le-leb (length s.lines) 500 c) a) g.order))
    g.decisions) b

-- the key of an entry has a line, over which the entry may be put
abbrev pub MayPutAll : Sheets → ℕ → List Entry → Type 0
MayPutAll s n es =
    (k : Key) (e : Entry) → entry_for k es ≡ some e → (lists_key k s.lines ≡ true) × MayPut s.coordinator.issued n (change_of e) (line_of k s.lines)

-- keys without a line have no entry
no_entry-there : (s : Sheets) (n : ℕ) (es : List Entry) → MayPutAll s n es → (k : Key) → lists_key k s.lines ≡ false → entry_for k es ≡ none
no_entry-there s n es m k h = go (entry_for k es) refl
  where
    go : (o : Option Entry) → entry_for k es ≡ o → o ≡ none
    go none e = refl
    go (some x) e = absurd (true≢false (sym (m k x e).0 ∙ h))

pub commit_linewise : (s : Sheets) (n : ℕ) (es : List Entry) → MayPutAll s n es → Linewise s.lines (commit n es)
unfolding line_after
commit_linewise s n es m =
    linewise s.lines (commit n es) refl
    (λ k h. ap (λ (o : Option Entry). by_entry o (absent_at k) (λ (e : Entry). committed n (change_of e) (absent_at k))) (no_entry-there s n es m k h))

pub prepare_linewise : (s : Sheets) (n now : ℕ) (es : List Entry) → MayPutAll s n es → Linewise s.lines (prepare n now es)
unfolding line_after
prepare_linewise s n now es m =
    linewise s.lines (prepare n now es) refl
    (λ k h. ap (λ (o : Option Entry). by_entry o (absent_at k) (λ (e : Entry). prepared n now (change_of e) (absent_at k))) (no_entry-there s n es m k h))

-- The writes that keep sheets good.
pub data Fit (s : Sheets) : Write → Type 0 where
  fit_nothing : Fit s nothing
  fit_issue : s.coordinator.issued < length s.coordinator.decisions → Fit s issue
  fit_decide : (n : ℕ) (d : Decision) → n ≤ s.coordinator.issued → Fit s (decide n d)
  fit_commit : (n : ℕ) (es : List Entry) → MayPutAll s n es → Fit s (commit n es)
  fit_prepare : (n now : ℕ) (es : List Entry) → now ≤ 4294967295 → MayPutAll s n es → Fit s (prepare n now es)
  fit_forward : (n : ℕ) (ks : List Key) → Fit s (forward n ks)
  fit_back : (n : ℕ) (ks : List Key) → Fit s (back n ks)
  fit_add : (k : Key) → MayAdd k s → Fit s (add_line k)
  fit_remove : (k : Key) → MayRemove k s → Fit s (remove_line k)

-- a decision leaves the count and the units alone
pub decided-issued : (n : ℕ) (d : Decision) (c : Coordinator) → (with_decision n d c).issued ≡ c.issued
unfolding with_decision
decided-issued zero d c = refl
decided-issued (suc n) d c = refl

pub decided-units : (n : ℕ) (d : Decision) (c : Coordinator) → (with_decision n d c).units ≡ c.units
unfolding with_decision
decided-units zero d c = refl
decided-units (suc n) d c = refl

-- the number decided reads what was written
pub decided-own : (i : ℕ) (d : Decision) (c : Coordinator) → 1 ≤ i → i ≤ length c.decisions → decision i (with_decision i d c) ≡ d
unfolding decision with_decision
decided-own zero d c l m = absurd (omega arith)
decided-own (suc i) d c l m = get_or-set_same c.decisions i d Undecided (omega arith)

-- more numbers issued
pub more_issued : (i j : ℕ) (r : Record) → i ≤ j → GoodParts i r → GoodParts j r
more_issued i j r l g =
    record {
      key = g.key;
      image = g.image;
      before = g.before;
      clock = g.clock;
      rule = g.rule;
      txid = let a : r.image.txid ≤ i = g.txid in omega arith;
      before_txid = let a : r.before.txid ≤ i = g.before_txid in omega arith;
    }

-- a line with the put of an entry, if there is one
entry_fine : (i : ℕ) (r : Record) (o : Option Entry) (f : Entry → Record) → GoodParts i r → ((e : Entry) → o ≡ some e → GoodParts i (f e)) → GoodParts i (by_entry o r f)
entry_fine i r none f g h = g
entry_fine i r (some e) f g h = h e refl

-- a rolled line was prepared
rolled : (n : ℕ) (ks : List Key) (r : Record) → is_of n ks r ≡ true → is_prepared r ≡ true
unfolding is_of prepared_by
rolled n ks r h = search tests

-- the line of a key that has one
pub listed_good : (s : Sheets) → GoodSheets s → (k : Key) → lists_key k s.lines ≡ true → GoodParts s.coordinator.issued (line_of k s.lines)
listed_good s g k h =
    fine-parts s.coordinator.issued (line_of k s.lines)
    (line_passes (fine s.coordinator.issued) k s.lines g.fine_lines h)

pub listed_range : (s : Sheets) → GoodSheets s → (k : Key) → lists_key k s.lines ≡ true → key_in_range k ≡ true
listed_range s g k h = ap key_in_range (sym (line_of_key k s.lines)) ∙ (listed_good s g k h).key

module _ (s : Sheets) (good : GoodSheets s) where
  -- the line after a write
  line_fit : {w : Write} → Fit s w → (r : Record) → lists_key r.key s.lines ≡ true → line_of r.key s.lines ≡ r → GoodParts s.coordinator.issued r → GoodParts (decisions_after w s.coordinator).issued (line_after w r)
  unfolding line_after decisions_after with_issued
  line_fit fit_nothing r k e g = g
  line_fit (fit_issue l) r k e g = more_issued s.coordinator.issued (s.coordinator.issued + 1) r (omega arith) g
  line_fit (fit_decide n d l) r k e g =
      more_issued s.coordinator.issued (with_decision n d s.coordinator).issued r (omega (arith, decided-issued n d s.coordinator)) g
  line_fit (fit_commit n es m) r k e g =
      entry_fine s.coordinator.issued r (entry_for r.key es) (λ (x : Entry). committed n (change_of x) r) g
      (λ x o. committed-fine s.coordinator.issued n (change_of x) r g (subst (MayPut s.coordinator.issued n (change_of x)) e (m r.key x o).1))
  line_fit (fit_prepare n now es l m) r k e g =
      entry_fine s.coordinator.issued r (entry_for r.key es) (λ (x : Entry). prepared n now (change_of x) r) g
      (λ x o. prepared-fine s.coordinator.issued n (change_of x) r g (subst (MayPut s.coordinator.issued n (change_of x)) e (m r.key x o).1) now l)
  line_fit (fit_forward n ks) r k e g =
      choose_by (GoodParts s.coordinator.issued) (is_of n ks r)
      (λ h. forward_fine s.coordinator.issued r g (rolled n ks r h)) (λ h. g)
  line_fit (fit_back n ks) r k e g =
      choose_by (GoodParts s.coordinator.issued) (is_of n ks r)
      (λ h. back_fine s.coordinator.issued r g (rolled n ks r h)) (λ h. g)
  line_fit (fit_add j m) r k e g = g
  line_fit (fit_remove j m) r k e g = g

  mapped_fit : {w : Write} → shifts w ≡ false → Fit s w → all (fine (decisions_after w s.coordinator).issued) (lines_after w s.lines) ≡ true
  mapped_fit {w} h f =
      ap (all (fine (decisions_after w s.coordinator).issued)) (lines_mapped w s.lines h)
      ∙ all_map (fine (decisions_after w s.coordinator).issued) (line_after w) s.lines
      ∙ all_lines (λ (r : Record). fine (decisions_after w s.coordinator).issued (line_after w r)) s.lines good.order
      (λ r k e. let h : fine s.coordinator.issued r ≡ true =
      ap (fine s.coordinator.issued) (sym e) ∙ line_passes (fine s.coordinator.issued) r.key s.lines good.fine_lines k in
      parts-fine (decisions_after w s.coordinator).issued (line_after w r) (line_fit f r k e (fine-parts s.coordinator.issued r h)))

  -- what the lines owe
  record LinesStay (w : Write) : Type 0 where
    few : length (lines_after w s.lines) ≤ s.size
    fine_after : all (fine (decisions_after w s.coordinator).issued) (lines_after w s.lines) ≡ true
    order : rising (lines_after w s.lines) ≡ true

  mapped_stay : {w : Write} → shifts w ≡ false → Fit s w → LinesStay w
  mapped_stay {w} h f =
      let n : length (lines_after w s.lines) ≡ length s.lines = ap length (lines_mapped w s.lines h) ∙ length-map s.lines (line_after w) in
      let a : length s.lines ≤ s.size = good.few_lines in
      record { few = omega arith; fine_after = mapped_fit h f; order = rising-after w s.lines h ∙ good.order }

  lines_stay : {w : Write} → Fit s w → LinesStay w
  unfolding decisions_after
  lines_stay fit_nothing = mapped_stay refl fit_nothing
  lines_stay (fit_issue l) = mapped_stay refl (fit_issue l)
  lines_stay (fit_decide n d l) = mapped_stay refl (fit_decide n d l)
  lines_stay (fit_commit n es m) = mapped_stay refl (fit_commit n es m)
  lines_stay (fit_prepare n now es l m) = mapped_stay refl (fit_prepare n now es l m)
  lines_stay (fit_forward n ks) = mapped_stay refl (fit_forward n ks)
  lines_stay (fit_back n ks) = mapped_stay refl (fit_back n ks)
  lines_stay (fit_add k m) =
      let e = lines_added k s.lines in
      let n : length (lines_after (add_line k) s.lines) ≡ suc (length s.lines) = ap length e ∙ length_inserted k s.lines in
      let a : length s.lines < s.size = m.room in
      let i = s.coordinator.issued in
      record {
        few = omega arith;
        fine_after = ap (all (fine i)) e ∙ all_inserted k (fine i) s.lines (parts-fine i (absent_at k) (absent_good i k m.is_in_range)) good.fine_lines;
        order = ap rising e ∙ rising-inserted k s.lines good.order m.unlisted;
      }
  lines_stay (fit_remove k m) =
      let e = lines_removed k s.lines in
      let n : suc (length (lines_after (remove_line k) s.lines)) ≡ length s.lines = ap (λ (ls : List Record). suc (length ls)) e ∙ length_without k s.lines m.listed in
      let a : length s.lines ≤ s.size = good.few_lines in
      record {
        few = omega arith;
        fine_after = ap (all (fine s.coordinator.issued)) e ∙ all_without k (fine s.coordinator.issued) s.lines good.fine_lines;
        order = ap rising e ∙ rising-without k s.lines good.order;
      }

  decide_fit : (n : ℕ) (d : Decision) → n ≤ s.coordinator.issued → coordinator_good (with_decision n d s.coordinator) ≡ true
  unfolding with_decision
  decide_fit zero d l = good.decisions
  decide_fit (suc n) d l = good_decided n d s.coordinator good.decisions (omega arith)

  decisions_fit : {w : Write} → Fit s w → coordinator_good (decisions_after w s.coordinator) ≡ true
  unfolding decisions_after
  decisions_fit fit_nothing = good.decisions
  decisions_fit (fit_issue l) =
      ap (λ (n : ℕ). coordinator_good (with_issued n s.coordinator)) (add-one s.coordinator.issued) ∙ good_raised s.coordinator good.decisions l
  decisions_fit (fit_decide n d l) = decide_fit n d l
  decisions_fit (fit_commit n es m) = good.decisions
  decisions_fit (fit_prepare n now es l m) = good.decisions
  decisions_fit (fit_forward n ks) = good.decisions
  decisions_fit (fit_back n ks) = good.decisions
  decisions_fit (fit_add k m) = good.decisions
  decisions_fit (fit_remove k m) = good.decisions

  -- good sheets stay good
  pub write_closed : {w : Write} → Fit s w → GoodSheets (apply w s)
  unfolding apply
  write_closed {w} f =
      let l : LinesStay w = lines_stay f in
      record {
        some_size = good.some_size;
        few_size = good.few_size;
        few_lines = l.few;
        fine_lines = l.fine_after;
        order = l.order;
        decisions = decisions_fit f;
      }

  -- a blank line is ABSENT, of version 0 and nothing else
  pub removed_line : (k : Key) → MayRemove k s → line_of k s.lines ≡ absent_at k
  removed_line k m =
      blank_is (line_of k s.lines) (listed_good s good k m.listed).rule m.blank ∙ ap absent_at (line_of_key k s.lines)

  -- adding and removing change the line of no key
  pub added_linewise : (k : Key) → MayAdd k s → Linewise s.lines (add_line k)
  added_linewise k m = add_linewise s.lines k m.unlisted

  pub removed_linewise : (k : Key) → MayRemove k s → Linewise s.lines (remove_line k)
  removed_linewise k m = remove_linewise s.lines k good.order (removed_line k m)
