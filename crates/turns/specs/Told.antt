-- What is told of a turn on accepted sheets that adds and removes no line. Sheets keep their lengths, so that nothing is refused; lines that differ are of the one unit that the turn may
-- write, and then the coordinator sheet stays. Keys rise, so that every line between two of one unit is of it too: the range told begins and ends in lines
-- that differ, and is of one unit throughout.
use Rattle.std.specs.Prelude.{◌≡◌, ◌+◌, ◌-◌, ◌*◌, ◌/◌, ◌%◌, ◌^◌, ◌≤◌, ◌<◌}
use Rattle.std.proofs.Common.{◌∙◌}
use Rattle.lists.specs.Basics.{refl, sym, ap, subst, ℕ, zero, suc, eqb, ltb, Bool, true, false, not}
use Rattle.lists.specs.Basics.{true≢false, List, length, take, drop, get_or, all, ltb-true, ltb-false, length-drop, length-set, arith, eqb-true, eqb-false, eq-eqb, lt-leb, tests, eq_list}
use Rattle.lists.specs.Basics.{eq_list-true, eq_list_refl}
use Rattle.model.specs.Types.{Key, Record, Some}
use Rattle.model.specs.Layouts.{record_bytes, coordinator_bytes}
use Rattle.lists.specs.All.{all_at}
use Rattle.lists.specs.Pieces.{take-drop-take}
use Rattle.model.specs.Records.{records, record_in, good_alone, key_less, rising, records_good, records_accepted, no_record}
use Rattle.model.specs.Spares.{filled_lines, front, record_lines, sheet_accepted}
use Rattle.model.specs.Coordinator.{Letter, Coordinator, coordinator_of, coordinator_readable, with_decision, with_issued}
use Rattle.model.specs.Refusals.{refusal_of}
use Rattle.model.specs.SheetCalls.{line_at}
use Rattle.model.specs.Writes.{Sheets, Write, nothing, issue, decide, commit, prepare, forward, back, add_line, remove_line, decisions_after}
use Rattle.model.specs.Groups.{scope}
use Rattle.model.specs.Histories.{ClockFits}
use Rattle.model.specs.ByteHistories.{Bytes, saying, Readable, Passing}
use Rattle.model.specs.AtomicWrites.{scope_at, WithinUnit, lines_of_one_unit, coordinator_only}
use Rattle.model.specs.Turns.{Turn, turn_call, turn_writes_once, turn_shifts, turn_after, turn_event_on, turn_after_on}
use Rattle.model.specs.Changes.{differs, reach_of, last_reach, first_differing, length_conditions, sheets_told, written_conditions, written_number, told_of}
use Rattle.model.specs.Changes.{ToldAtomic, nothing_told, coordinator_told, only_lines_told}
use Rattle.sheet_laws.specs.Records.{good_ranged}
use Rattle.sheet_laws.specs.ByIndex.{length-records, record_at}
use Rattle.sheet_laws.specs.Fronts.{sized-few, spare_at, front-count}
use Rattle.sheet_laws.specs.Spared.{storage_some, spare_record, accepted_sized, accepted_lines, accepted_whole}
use Rattle.sheet_laws.specs.Decisions.{readable_parts, readable_length, length-decisions}
use Rattle.call_laws.specs.Groups.{scope_storage, scope_between}
use Rattle.call_laws.specs.ByIndex.{rising_at}
use Rattle.call_laws.specs.Lifting.{readable_both, passing_readable, encoded}
use Rattle.call_laws.specs.Told.{reach_within, told_ends, told_none}
use Rattle.turns.specs.Turns.{turn-keeps, turn-bytes, turn_stays_readable, turn_stays_passing}
use Rattle.turns.specs.Units.{readable_within}

-- The sheets keep their lengths.

decisions_kept : (w : Write) (c : Coordinator) → length (decisions_after w c).decisions ≡ length c.decisions
unfolding decisions_after with_decision with_issued
decisions_kept nothing c = refl
decisions_kept issue c = refl
decisions_kept (decide zero d) c = refl
decisions_kept (decide (suc i) d) c = length-set c.decisions i d
decisions_kept (commit n es) c = refl
decisions_kept (prepare n now es) c = refl
decisions_kept (forward n ks) c = refl
decisions_kept (back n ks) c = refl
decisions_kept (add_line k) c = refl
decisions_kept (remove_line k) c = refl

turn-keeps-decisions : (x : Turn) (s : Sheets) → length (turn_after x s).coordinator.decisions ≡ length s.coordinator.decisions
turn-keeps-decisions x s = turn-keeps (λ (c : Coordinator). length c.decisions ≡ length s.coordinator.decisions) (λ w c e. decisions_kept w c ∙ e) x s refl

pub turn-decisions : (x : Turn) (b : Bytes) → ClockFits (turn_event_on x b).call → Passing b → length (saying (turn_after_on x b)).coordinator.decisions ≡ length (saying b).coordinator.decisions
turn-decisions x b l p = ap (λ (s : Sheets). length s.coordinator.decisions) (turn_stays_passing x b l p).0 ∙ turn-keeps-decisions x (saying b)

-- a head and a line for each decision
coordinator_size_lem : (s : List ℕ) → coordinator_readable s ≡ true → length s ≡ coordinator_bytes + length (coordinator_of s).decisions * coordinator_bytes
coordinator_size_lem s a = omega (arith, readable_length s a, (readable_parts s a).whole, length-decisions s, length-drop coordinator_bytes s)

coordinator-length : (b a : Bytes) → Readable b → Readable a → length (saying a).coordinator.decisions ≡ length (saying b).coordinator.decisions → length b.coordinator ≡ length a.coordinator
coordinator-length b a p q n =
    coordinator_size_lem b.coordinator (readable_both b p).1.0
    ∙ (ap (λ (m : ℕ). coordinator_bytes + m * coordinator_bytes) (sym n)
    ∙ sym (coordinator_size_lem a.coordinator (readable_both a q).1.0))

-- What is told where nothing is refused.

not_refused : (a b c d e : ℕ) → a ≡ b → a % record_bytes ≡ 0 → a / record_bytes < 2 ^ 32 → e ≡ 2 → c ≡ d → refusal_of (length_conditions a b c d e) ≡ 0
unfolding length_conditions refusal_of
not_refused a b c d e s w l t q =
    rw (eq-eqb a b s, eq-eqb (a % record_bytes) 0 w, lt-leb (2 ^ 32) (a / record_bytes) l, eq-eqb e 2 t, eq-eqb c d q)

-- a sheet has no line that differs from its own
reach_same : (s : List ℕ) (n : ℕ) → reach_of s s n ≡ 0
unfolding reach_of
reach_same s zero = refl
reach_same s (suc n) = let e : eq_list (line_at s (Some n)) (line_at s (Some n)) ≡ true = eq_list_refl (line_at s (Some n)) in rw e (reach_same s n)

-- The scopes of lines of an accepted sheet: record lines, and spares below them, which are all of one.
module _ (b : Bytes) (accepted : sheet_accepted b.records ≡ true) where
  abbrev ours : List ℕ
  ours = record_lines b.records

  fit : records_accepted ours ≡ true
  fit = accepted_lines b.records accepted

  filled : ℕ
  filled = filled_lines record_bytes b.records

  count : length ours / record_bytes ≡ filled
  unfolding filled
  count = front-count record_bytes (omega arith) b.records (accepted_whole b.records accepted)

  abbrev key_at : ℕ → Key
  key_at i = (get_or (records ours) i no_record).key

  abbrev units : List Letter
  units = (coordinator_of b.coordinator).units

  front-line : (i : ℕ) → i < filled → take record_bytes (drop (i * record_bytes) b.records) ≡ take record_bytes (drop (i * record_bytes) ours)
  unfolding filled front
  front-line i l = sym (take-drop-take record_bytes (i * record_bytes) (filled_lines record_bytes b.records * record_bytes) b.records (omega arith))

  scope_at_lem : (i : ℕ) → i < filled → scope_at i b ≡ scope units (key_at i)
  unfolding line_at
  scope_at_lem i l =
      ap (λ (x : List ℕ). scope units (record_in x).key) (front-line i l)
      ∙ sym (ap (λ (r : Record). scope units r.key) (record_at ours i (omega (arith, count))))

  scope-spare : (i : ℕ) → filled ≤ i → i < length b.records / record_bytes → scope_at i b ≡ scope units no_record.key
  unfolding line_at filled
  scope-spare i l m =
      ap (λ (x : List ℕ). scope units (record_in x).key) (spare_at record_bytes (omega arith) b.records (accepted_whole b.records accepted) i l m)
      ∙ ap (λ (r : Record). scope units r.key) spare_record

  higher : (i j : ℕ) → i < j → j < filled → key_less (key_at i) (key_at j) ≡ true
  unfolding records_accepted records_good
  higher i j k l =
      let f : records_accepted ours ≡ true = fit in
      let r : rising (records ours) ≡ true = search tests in
      rising_at (records ours) i j r k (omega (arith, length-records ours, count))

  -- a record line and a spare are of different units
  apart : (i j : ℕ) → i < filled → filled ≤ j → j < length b.records / record_bytes → scope_at i b ≡ scope_at j b → ⊥
  unfolding records_accepted records_good
  apart i j l m n e =
      let f : records_accepted ours ≡ true = fit in
      let g : all good_alone (records ours) ≡ true = search tests in
      let p : i < length (records ours) = omega (arith, length-records ours, count) in
      let q : 1 ≤ (key_at i).storage = storage_some (get_or (records ours) i no_record) (good_ranged (get_or (records ours) i no_record) (all_at good_alone (records ours) no_record i g p)) in
      let z : (key_at i).storage ≡ 0 = scope_storage units (key_at i) no_record.key (sym (scope_at_lem i l) ∙ (e ∙ scope-spare j m n)) in
      omega (arith, q, z)

  -- a line between two of one unit, or one of the two, is of that unit
  line_between : (i m j : ℕ) → i ≤ m → m ≤ j → j < length b.records / record_bytes → scope_at i b ≡ scope_at j b → scope_at m b ≡ scope_at i b
  line_between i m j p q l e = go (ltb j filled) refl
    where
      among : j < filled → (x : Bool) → eqb i m ≡ x → (y : Bool) → eqb m j ≡ y → scope_at m b ≡ scope_at i b
      among t true f y g = ap (λ (n : ℕ). scope_at n b) (sym (eqb-true i m f))
      among t false f true g = ap (λ (n : ℕ). scope_at n b) (eqb-true m j g) ∙ sym e
      among t false f false g =
          let c = eqb-false i m f in
          let d = eqb-false m j g in
          let h : i < m = omega (arith, c) in
          let k : m < j = omega (arith, d) in
          let u : scope units (key_at i) ≡ scope units (key_at j) = sym (scope_at_lem i (omega arith)) ∙ (e ∙ scope_at_lem j t) in
          scope_at_lem m (omega arith)
          ∙ (scope_between units (key_at i) (key_at m) (key_at j) (higher i m h (omega arith)) (higher m j k t) u ∙ sym (scope_at_lem i (omega arith)))

      below : filled ≤ j → (x : Bool) → ltb i filled ≡ x → scope_at m b ≡ scope_at i b
      below t true h = absurd (apart i j (ltb-true i filled h) t l e)
      below t false h =
          let k = ltb-false i filled h in
          scope-spare m (omega arith) (omega arith) ∙ sym (scope-spare i k (omega arith))

      go : (x : Bool) → ltb j filled ≡ x → scope_at m b ≡ scope_at i b
      go true h = among (ltb-true j filled h) (eqb i m) refl (eqb m j) refl
      go false h = below (ltb-false j filled h) (ltb i filled) refl

module _ (b a : Bytes) where
  abbrev rs : List ℕ
  rs = b.records

  abbrev rs' : List ℕ
  rs' = a.records

  -- a line that differs is of the unit written
  of_unit : (unit : List ℕ) → ((i : ℕ) → (scope_at i b ≡ unit → ⊥) → line_at rs' (Some i) ≡ line_at rs (Some i))
      → (i : ℕ) → differs rs rs' i ≡ true → scope_at i b ≡ unit
  of_unit unit f i d = go (eq_list (scope_at i b) unit) refl
    where
      go : (x : Bool) → eq_list (scope_at i b) unit ≡ x → scope_at i b ≡ unit
      go true e = eq_list-true (scope_at i b) unit e
      go false e =
          let o : line_at rs' (Some i) ≡ line_at rs (Some i) = f i (λ q. true≢false (sym (eq_list_refl unit) ∙ (ap (λ (u : List ℕ). eq_list u unit) (sym q) ∙ e))) in
          let s : eq_list (line_at rs (Some i)) (line_at rs' (Some i)) ≡ true = ap (eq_list (line_at rs (Some i))) o ∙ eq_list_refl (line_at rs (Some i)) in
          absurd (true≢false (sym d ∙ ap not s))

  module _ (accepted : sheet_accepted rs ≡ true) where
    whole : length rs % record_bytes ≡ 0
    whole = omega (arith, accepted_whole rs accepted)

    -- a line of the range told is of the unit of the first, since the last that differs is
    range_of_unit : ((i j : ℕ) → differs rs rs' i ≡ true → differs rs rs' j ≡ true → scope_at i b ≡ scope_at j b)
        → (i : ℕ) → first_differing rs rs' ≤ i → i < last_reach rs rs' → scope_at i b ≡ scope_at (first_differing rs rs') b
    range_of_unit f i p q =
        let r = reach_within rs rs' (length rs / record_bytes) in
        let ends = told_ends rs rs' (omega arith) in
        line_between b accepted (first_differing rs rs') i (last_reach rs rs' - 1) p (omega arith) (omega arith)
        (f (first_differing rs rs') (last_reach rs rs' - 1) ends.0 ends.1)

    told_by_unit : WithinUnit b a → ToldAtomic b a (sheets_told rs rs' b.coordinator a.coordinator)
    told_by_unit (coordinator_only e) = go (eq_list b.coordinator a.coordinator) refl
      where
        none : last_reach rs rs' ≡ 0
        none = ap (λ (s : List ℕ). reach_of rs s (length rs / record_bytes)) e ∙ reach_same rs (length rs / record_bytes)

        go : (x : Bool) → eq_list b.coordinator a.coordinator ≡ x → ToldAtomic b a (sheets_told rs rs' b.coordinator a.coordinator)
        go true c = nothing_told (rw (c, none)) (λ i. record { records = e i; coordinator = sym (eq_list-true b.coordinator a.coordinator c) i })
        go false c = coordinator_told (rw (c, none)) e
    told_by_unit (lines_of_one_unit unit c n f) = go (eqb (last_reach rs rs') 0) refl
      where
        stays : eq_list b.coordinator a.coordinator ≡ true
        stays = ap (eq_list b.coordinator) c ∙ eq_list_refl b.coordinator

        go : (x : Bool) → eqb (last_reach rs rs') 0 ≡ x → ToldAtomic b a (sheets_told rs rs' b.coordinator a.coordinator)
        go true e =
            let s = told_none rs rs' (sym n) whole (eqb-true (last_reach rs rs') 0 e) in
            nothing_told (rw (stays, e)) (λ i. record { records = sym s i; coordinator = c i })
        go false e = only_lines_told (rw (stays, e)) c (range_of_unit (λ i j p q. of_unit unit f i p ∙ sym (of_unit unit f j q)))

same_size : (b a : Bytes) → WithinUnit b a → length b.records ≡ length a.records
same_size b a (lines_of_one_unit unit c n f) = sym n
same_size b a (coordinator_only e) = sym (ap length e)

-- between readable sheets that differ in one unit
pub told_between : (b a : Bytes) (target : List ℕ) → length target ≡ 2 → Readable b → Readable a → WithinUnit b a
    → length (saying a).coordinator.decisions ≡ length (saying b).coordinator.decisions → ToldAtomic b a (told_of b a target)
unfolding written_number
told_between b a target t p q u d =
    let r = (readable_both b p).0 in
    let w = whole b a r in
    let f : length b.records / record_bytes < 2 ^ 32 = omega (arith, sized-few record_bytes b.records (accepted_sized b.records r)) in
    let n = refusal_of (written_conditions b.records a.records b.coordinator a.coordinator target) in
    let z : n ≡ 0 = not_refused _ _ _ _ _ (same_size b a u) w f t (coordinator-length b a p q d) in
    let e : eqb n 0 ≡ true = eq-eqb n 0 z in
    rw e (told_by_unit b a r u)

-- and of a turn, on readable bytes with what it leaves on what they say, encoded
pub told_of_readable : (x : Turn) (b : Bytes) (target : List ℕ) → length target ≡ 2 → turn_writes_once x ≡ true → turn_shifts x ≡ false → ClockFits (turn_call x) → Readable b
    → ToldAtomic b (encoded (turn_after x (saying b))) (told_of b (encoded (turn_after x (saying b))) target)
told_of_readable x b target t w n l p =
    let e = turn_stays_readable x b l p in
    told_between b (encoded (turn_after x (saying b))) target t p e.1 (readable_within x b w n l p)
    (ap (λ (s : Sheets). length s.coordinator.decisions) e.0 ∙ turn-keeps-decisions x (saying b))

pub told_of-turn : (x : Turn) (b : Bytes) (target : List ℕ) → length target ≡ 2 → turn_writes_once x ≡ true → turn_shifts x ≡ false → ClockFits (turn_event_on x b).call → Passing b
    → ToldAtomic b (turn_after_on x b) (told_of b (turn_after_on x b) target)
unfolding turn_event_on
told_of-turn x b target t w n l p =
    subst (λ (a : Bytes). ToldAtomic b a (told_of b a target)) (sym (turn-bytes x b p)) (told_of_readable x b target t w n l (passing_readable b p).0)
