-- What the visit of line i writes: setting that line in the bytes is the write of its key, and setting its owner's decision is the decide.
use Rattle.std.specs.Prelude.{◌≡◌, ◌*◌, ◌/◌, ◌≤◌, ◌<◌, ◌∷◌}
use Rattle.std.proofs.Common.{◌∙◌}
use Rattle.lists.specs.Basics.{refl, sym, ap, subst, ℕ, ltb, Bool, true, false, cond, and-false, List, [], map, length, get_or}
use Rattle.lists.specs.Basics.{set, length-map, get_or-map, arith, eq-eqb, lt-ltb, any, and_fst, choose_by, tests}
use Rattle.lists.specs.Pieces.{over}
use Rattle.lists.specs.All.{get_or_any}
use Rattle.model.specs.Types.{Key, Record, Aborted, Some, Recovery, Stays, Forward, Back, Again, Busy}
use Rattle.model.specs.Layouts.{record_bytes, coordinator_bytes}
use Rattle.model.specs.Records.{no_record, records, record_text, records_text, records_good, good_alone, same_key, found, line_of, prepared_rule}
use Rattle.model.specs.Coordinator.{Coordinator, coordinator_of, names_issued}
use Rattle.model.specs.Images.{is_prepared, prepared_by, rolled_forward, rolled_back, by_recovery}
use Rattle.model.specs.Writes.{Sheets, Write, sheets_good, nothing, decide, forward, back, is_of, line_after, lines_after, decisions_after, apply}
use Rattle.model.specs.Visits.{owner_decision, owner_expired, meeting, is_busy, recovered, recovery_write}
use Rattle.model.specs.Results.{Answer, Result, refused, made}
use Rattle.model.specs.ByteCalls.{sheets_of, records_after, coordinator_after}
use Rattle.sheet_laws.specs.Records.{records_read_written}
use Rattle.sheet_laws.specs.Coordinator.{decision_text}
use Rattle.sheet_laws.specs.ByIndex.{length-records}
use Rattle.sheet_laws.specs.Decisions.{number_has_line}
use Rattle.call_laws.specs.Choices.{by_meeting}
use Rattle.sheet_laws.specs.KeyOrder.{same_key_refl, has_line_lem}
use Rattle.call_laws.specs.Keys.{same_key_flip}
use Rattle.call_laws.specs.Ranges.{GoodParts, parts-fine}
use Rattle.call_laws.specs.Images.{when_prepared, forward_fine, back_fine}
use Rattle.call_laws.specs.Lines.{shifts, line_key, lines_mapped}
use Rattle.call_laws.specs.SingleUnit.{unit_shifts, visit_unit}
use Rattle.call_laws.specs.Sheets.{Fit, write_closed, parts_good}
use Rattle.call_laws.specs.Keeping.{line_good_lem}
use Rattle.call_laws.specs.Closure.{visit_fits}
use Rattle.call_laws.specs.ByIndex.{FoundAt, found_at, at_key, set-at_key, line-replaced, decision-written}
use Rattle.call_laws.specs.Accepted.{Written, Outcome, outcome_made, Accepted, lines_kept, decisions_kept, written_nothing}

abbrev pub line_at : List ℕ → ℕ → Record
line_at rs i = get_or (records rs) i no_record

-- Accepted sheets, and an index that has a line.
pub record Standing (rs cs : List ℕ) (i : ℕ) : Type 0 where
  pub accepted : Accepted rs cs
  pub index : FoundAt (line_at rs i).key (records rs) i

-- the index that a search gave
pub standing : (rs cs : List ℕ) (k : Key) (i : ℕ) → Accepted rs cs → found k (records rs) ≡ Some i → Standing rs cs i
standing rs cs k i a e =
    let x = found_at k (records rs) i e in
    record { accepted = a; index = subst (λ (j : Key). FoundAt j (records rs) i) (sym x.key) x }

-- a visit changes something only where the line is prepared
unfoldable pub pending : Recovery → Record → Bool
pending v r = by_recovery v true (is_prepared r) (is_prepared r) (is_prepared r) true

abbrev pub Pending : Recovery → Record → Type 0
Pending v r = pending v r ≡ true

pub meeting-pending : (now : ℕ) (s : Sheets) (r : Record) → Pending (meeting now s r) r
unfolding meeting pending
meeting-pending now s r =
    by_meeting (λ (v : Recovery). Pending v r) r (owner_decision r s.coordinator) (owner_expired now s.lines r)
    (λ p. refl) (λ p d. p) (λ p d. p) (λ p d x. p) (λ p d x. refl)

-- What a visit of line i gives and leaves.
pub record Recovered (now i : ℕ) (rs cs : List ℕ) (v : Recovery) (rs' cs' : List ℕ) : Type 0 where
  pub met : v ≡ meeting now (sheets_of rs cs) (line_at rs i)
  pub written : Written (recovery_write v (line_at rs i)) rs cs rs' cs'

-- The write of one key.

-- a line of another key is not among those of the write
not_of : (n : ℕ) (k : Key) (r : Record) → same_key r.key k ≡ false → is_of n (k ∷ []) r ≡ false
unfolding is_of any
not_of n k r h = rw (same_key_flip r.key k h) (and-false (prepared_by n r))

is_of_lem : (r : Record) → is_prepared r ≡ true → is_of r.image.txid (r.key ∷ []) r ≡ true
unfolding is_of any prepared_by
is_of_lem r h = rw (h, eq-eqb r.image.txid r.image.txid refl, same_key_refl r.key)

-- a write that leaves all lines of other keys alone
abbrev Alone : Write → Key → Type 0
Alone w k = (r : Record) → same_key r.key k ≡ false → line_after w r ≡ r

at_key_alone : (w : Write) (k : Key) → Alone w k → (r : Record) → at_key k (line_after w) r ≡ line_after w r
at_key_alone w k h r = choose_by (λ (x : Record). x ≡ line_after w r) (same_key r.key k) (λ e. refl) (λ e. sym (h r e))

map_alone : (w : Write) (k : Key) → Alone w k → (ls : List Record) → map (at_key k (line_after w)) ls ≡ map (line_after w) ls
map_alone w k h [] = refl
map_alone w k h (r ∷ ls) = λ i. at_key_alone w k h r i ∷ map_alone w k h ls i

module _ (rs cs : List ℕ) (i : ℕ) (s : Standing rs cs i) where
  abbrev here : Record
  here = line_at rs i

  pub line-parts : GoodParts (coordinator_of cs).issued here
  line-parts =
      subst (GoodParts (coordinator_of cs).issued) (sym s.index.line)
      (line_good_lem (sheets_of rs cs) s.accepted.good here.key (has_line_lem here.key (records rs) ∙ s.index.listed))

  -- the line of one key replaced
  line_set_lem : (w : Write) (r : Record) → shifts w ≡ false → Alone w here.key → line_after w here ≡ r → GoodParts (coordinator_of cs).issued r → cond (ltb i (length rs / record_bytes)) (over rs (i * record_bytes) (record_text r)) rs ≡ records_text (apply w (sheets_of rs cs)).lines
  unfolding apply
  line_set_lem w r calm h e g =
      let l : i < length (records rs) = s.index.within in
      let m : ltb i (length rs / record_bytes) ≡ true = lt-ltb i (length rs / record_bytes) (omega (arith, length-records rs)) in
      let q : good_alone r ≡ true = and_fst (good_alone r) (names_issued (coordinator_of cs).issued r) (parts-fine (coordinator_of cs).issued r g) in
      let k : r.key ≡ here.key = ap (λ (x : Record). x.key) (sym e) ∙ line_key w here in
      let f : r ≡ line_after w (line_of here.key (records rs)) = sym e ∙ ap (line_after w) s.index.line in
      ap (λ (b : Bool). cond b (over rs (i * record_bytes) (record_text r)) rs) m
      ∙ ((line-replaced rs i r s.accepted.lines l q k).0
      ∙ (ap (λ (x : Record). records_text (set (records rs) i x)) f
      ∙ ap records_text
      (set-at_key here.key (line_after w) (records rs) i s.accepted.good.order l refl
      ∙ (map_alone w here.key h (records rs) ∙ sym (lines_mapped w (records rs) calm)))))

  -- the line rolled, by a write that rolls it alone
  settle_rolled : (w : Write) (roll : Record → Record) {rs' : List ℕ} → shifts w ≡ false → ((r : Record) → line_after w r ≡ cond (is_of here.image.txid (here.key ∷ []) r) (roll r) r) → ((c : Coordinator) → decisions_after w c ≡ c) → GoodParts (coordinator_of cs).issued (roll here) → is_prepared here ≡ true → rs' ≡ cond (ltb i (length rs / record_bytes)) (over rs (i * record_bytes) (record_text (roll here))) rs → Written w rs cs rs' cs
  settle_rolled w roll calm rolls still g p e =
      record {
        lines =
            e
            ∙ line_set_lem w (roll here) calm
            (λ r h. rolls r ∙ ap (λ (b : Bool). cond b (roll r) r) (not_of here.image.txid here.key r h))
            (rolls here ∙ ap (λ (b : Bool). cond b (roll here) here) (is_of_lem here p))
            g;
        decisions = decisions_kept rs cs s.accepted w still;
      }

  pub settle_forward : {rs' : List ℕ} → is_prepared here ≡ true → rs' ≡ cond (ltb i (length rs / record_bytes)) (over rs (i * record_bytes) (record_text (rolled_forward here))) rs → Written (forward here.image.txid (here.key ∷ [])) rs cs rs' cs
  unfolding line_after decisions_after
  settle_forward p =
      settle_rolled (forward here.image.txid (here.key ∷ [])) rolled_forward refl (λ r. refl) (λ c. refl) (forward_fine (coordinator_of cs).issued here line-parts p) p

  pub settle_back : {rs' : List ℕ} → is_prepared here ≡ true → rs' ≡ cond (ltb i (length rs / record_bytes)) (over rs (i * record_bytes) (record_text (rolled_back here))) rs → Written (back here.image.txid (here.key ∷ [])) rs cs rs' cs
  unfolding line_after decisions_after
  settle_back p =
      settle_rolled (back here.image.txid (here.key ∷ [])) rolled_back refl (λ r. refl) (λ c. refl) (back_fine (coordinator_of cs).issued here line-parts p) p

  pub settle_again : {cs' : List ℕ} → is_prepared here ≡ true → cs' ≡ cond (number_has_line here.image.txid cs) (over cs (here.image.txid * coordinator_bytes) (decision_text here.image.txid Aborted)) cs → Written (decide here.image.txid Aborted) rs cs rs cs'
  unfolding apply line_after decisions_after prepared_rule
  settle_again p e =
      let w = decide here.image.txid Aborted in
      let h : prepared_rule here ≡ true = when_prepared here p line-parts.rule in
      let l : 1 ≤ here.image.txid = search (tests, h) in
      record {
        lines = lines_kept rs cs s.accepted w refl (λ r. refl);
        decisions = e ∙ decision-written cs here.image.txid Aborted s.accepted.decisions l line-parts.txid;
      }

-- What the visit makes of the line.

after_line : (v : Recovery) (r : Record) → Pending v r → line_after (recovery_write v r) r ≡ recovered v r
unfolding recovery_write line_after recovered pending
after_line Stays r p = refl
after_line Forward r p = ap (λ (b : Bool). cond b (rolled_forward r) r) (is_of_lem r p)
after_line Back r p = ap (λ (b : Bool). cond b (rolled_back r) r) (is_of_lem r p)
after_line Again r p = refl
after_line Busy r p = refl

module _ (now : ℕ) (rs cs : List ℕ) (i : ℕ) (s : Standing rs cs i) (v : Recovery) {rs' cs' : List ℕ} (h : Recovered now i rs cs v rs' cs') where
  visit_fit : Fit (sheets_of rs cs) (recovery_write v (line_at rs i))
  visit_fit =
      let k = (line_at rs i).key in
      let met : v ≡ meeting now (sheets_of rs cs) (line_of k (records rs)) = h.met ∙ ap (meeting now (sheets_of rs cs)) s.index.line in
      subst (λ (r : Record). Fit (sheets_of rs cs) (recovery_write v r)) (sym s.index.line)
      (subst (λ (x : Recovery). Fit (sheets_of rs cs) (recovery_write x (line_of k (records rs)))) (sym met)
      (visit_fits (sheets_of rs cs) s.accepted.good k now (has_line_lem k (records rs) ∙ s.index.listed)))

  pub recovered-line : line_at rs' i ≡ recovered v (line_at rs i)
  unfolding sheets_good apply
  recovered-line =
      let w = recovery_write v (line_at rs i) in
      let good : sheets_good (apply w (sheets_of rs cs)) ≡ true = parts_good (apply w (sheets_of rs cs)) (write_closed (sheets_of rs cs) s.accepted.good visit_fit) in
      let g : records_good (lines_after w (records rs)) ≡ true = search (tests, good) in
      let l : i < length (records rs) = s.index.within in
      let m : i < length (map (line_after w) (records rs)) = omega (arith, length-map (records rs) (line_after w)) in
      let p : Pending v (line_at rs i) = subst (λ (x : Recovery). Pending x (line_at rs i)) (sym h.met) (meeting-pending now (sheets_of rs cs) (line_at rs i)) in
      ap (λ (x : List ℕ). get_or (records x) i no_record) h.written.lines
      ∙ (ap (λ (ls : List Record). get_or ls i no_record) ((records_read_written (lines_after w (records rs)) g).0 ∙ lines_mapped w (records rs) (unit_shifts (visit_unit (coordinator_of cs).units v (line_at rs i))))
      ∙ (get_or_any (map (line_after w) (records rs)) i no_record (line_after w no_record) m
      ∙ (get_or-map (line_after w) (records rs) i no_record ∙ after_line v (line_at rs i) p)))

-- A call that visits the line: refused if it is busy, else made with what the visit writes.
abbrev pub unless_busy : Recovery → Answer → Record → Result Answer
unless_busy v a r = cond (is_busy v) (refused 12) (made a (recovery_write v r))

module _ {B : Type 0} (f : Result Answer → B) (rs cs : List ℕ) (a : Accepted rs cs) {result : Result Answer} {answer : B} {rs' cs' : List ℕ} where
  -- a line that is busy stays
  busy-outcome : result ≡ refused 12 → answer ≡ f (refused 12) → Written nothing rs cs rs' cs' → Outcome f result rs cs answer rs' cs'
  unfolding records_after coordinator_after
  busy-outcome e b h =
      let n = written_nothing rs cs a in
      record {
        said = b ∙ ap f (sym e);
        lines = h.lines ∙ (sym n.lines ∙ ap (records_after rs cs) (sym e));
        decisions = h.decisions ∙ (sym n.decisions ∙ ap (coordinator_after rs cs) (sym e));
      }

  pub outcome-met : (v : Recovery) (x : Answer) (r : Record) → result ≡ unless_busy v x r → answer ≡ f (unless_busy v x r) → Written (recovery_write v r) rs cs rs' cs' → Outcome f result rs cs answer rs' cs'
  unfolding recovery_write
  outcome-met Stays x r e b w = outcome_made f rs cs x _ e b w
  outcome-met Forward x r e b w = outcome_made f rs cs x _ e b w
  outcome-met Back x r e b w = outcome_made f rs cs x _ e b w
  outcome-met Again x r e b w = outcome_made f rs cs x _ e b w
  outcome-met Busy x r e b w = busy-outcome e b w
