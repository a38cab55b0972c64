-- T2 over bytes: a write to lines of one unit leaves the coordinator's bytes and the bytes of every other line; a line put in or taken out leaves those of all others, and the
-- coordinator's; any other write leaves the record sheet's.
-- Lines of a sheet that passes stand at multiples of their length, before and after, and a record that stays has the same text.
use Rattle.std.specs.Prelude.{◌≡◌, ◌+◌, ◌-◌, ◌*◌, ◌/◌, ◌≤◌, ◌<◌, ◌++◌}
use Rattle.std.proofs.Common.{◌∙◌}
use Rattle.lists.specs.Basics.{refl, sym, ap, subst, ℕ, ltb, Bool, true, false, List, [], map, length, length-append, length-drop, take, drop, drop-drop, drop_at, get_or}
use Rattle.lists.specs.Basics.{length-map, drop_of_length-le, get_or-map, arith, ltb-true, ltb-false, all, tests}
use Rattle.std.proofs.lemmas.List.{take-append-le, drop-append-le}
use Rattle.lists.specs.All.{get_or_any, all_weaken}
use Rattle.model.specs.Types.{Key, Record, Some}
use Rattle.model.specs.Layouts.{record_bytes}
use Rattle.model.specs.Records.{records, records_text, record_in, record_text, good_alone, rank, records_good, records_accepted, no_record}
use Rattle.model.specs.Spares.{spares_text, record_lines, sheet_for, sheet_accepted}
use Rattle.model.specs.Coordinator.{coordinator_text}
use Rattle.model.specs.SheetCalls.{line_at}
use Rattle.model.specs.Writes.{Write, sheets_good, add_line, remove_line, line_after, decisions_after, without, lines_after, apply}
use Rattle.model.specs.Results.{Call, add, remove, shifts_lines}
use Rattle.model.specs.Histories.{written, after, ClockFits}
use Rattle.model.specs.ByteCalls.{sheet_text}
use Rattle.model.specs.ByteHistories.{Bytes, saying, Readable, Passing, after_on}
use Rattle.model.specs.AtomicWrites.{WithinUnit, lines_of_one_unit, coordinator_only, LinePutIn, line_for, OneUnit, within_unit}
use Rattle.model.specs.AtomicWrites as Atomic
use Rattle.sheet_laws.specs.Records.{ranged, good_ranged, length-record_text, record_written_read, records_read_written, sheet_written_read}
use Rattle.sheet_laws.specs.Spared.{accepted_lines, sheet-said}
use Rattle.sheet_laws.specs.Coordinator.{coordinator_written_read}
use Rattle.sheet_laws.specs.ByIndex.{whole_lines_lem, length-records, record_at, line_set_lem}
use Rattle.call_laws.specs.Lines.{shifts, lines_mapped, lines_added, lines_removed, lines_unmoved}
use Rattle.call_laws.specs.Closure.{sheets_stay_good}
use Rattle.call_laws.specs.Lifting.{readable_both, passing_readable, readable_good, good_records, encoded, same_bytes}
use Rattle.call_laws.specs.SingleUnit.{SingleUnit, unit_shifts, written_unit, Single, in_unit, line_added, line_removed, single_unit}
use Rattle.call_laws.specs.SingleUnit as Units
use Rattle.call_laws.specs.Adding.{MayAdd, MayRemove}
use Rattle.call_laws.specs.PutIn.{added_in, removed_in}
use Rattle.call_laws.specs.Sheets.{GoodSheets, good_parts, removed_line, listed_range}
use Rattle.call_laws.specs.Ranges.{absent_ranged}

-- a line of a sheet that passes is the text of its record
line_text_lem : (s : List ℕ) (i : ℕ) → records_accepted s ≡ true → i < length s / record_bytes → line_at s (Some i) ≡ record_text (get_or (records s) i no_record)
unfolding line_at
line_text_lem s i a l = sym (ap record_text (record_at s i l) ∙ record_written_read (take record_bytes (drop (i * record_bytes) s)) (line_set_lem s i a l))

no_line : (s : List ℕ) (i : ℕ) → records_accepted s ≡ true → length s / record_bytes ≤ i → line_at s (Some i) ≡ []
unfolding line_at
no_line s i a l =
    let m : length s ≤ i * record_bytes = omega (arith, whole_lines_lem s a) in
    ap (take record_bytes) (drop_of_length-le s m)

-- Lines of records, and what a write makes of them that shifts none.
module _ (rs : List ℕ) (accepted : records_accepted rs ≡ true) (w : Write) (calm : shifts w ≡ false) (good : records_good (lines_after w (records rs)) ≡ true) where
  abbrev lines : List Record
  lines = records rs

  abbrev sheet : List ℕ
  sheet = records_text (lines_after w lines)

  read_back : (records sheet ≡ lines_after w lines) × (records_accepted sheet ≡ true)
  read_back = records_read_written (lines_after w lines) good

  same_count : length sheet / record_bytes ≡ length rs / record_bytes
  same_count =
      sym (length-records sheet)
      ∙ (ap length (read_back.0 ∙ lines_mapped w lines calm) ∙ (length-map lines (line_after w) ∙ length-records rs))

  same_length : length sheet ≡ length rs
  same_length = whole_lines_lem sheet read_back.1 ∙ (ap (λ (n : ℕ). n * record_bytes) same_count ∙ sym (whole_lines_lem rs accepted))

  -- a line whose record stays has the same bytes
  line_stays : (i : ℕ) → line_after w (record_in (line_at rs (Some i))) ≡ record_in (line_at rs (Some i)) → line_at sheet (Some i) ≡ line_at rs (Some i)
  unfolding line_at
  line_stays i stays = go (ltb i (length rs / record_bytes)) refl
    where
      go : (x : Bool) → ltb i (length rs / record_bytes) ≡ x → line_at sheet (Some i) ≡ line_at rs (Some i)
      go true e =
          let l : i < length rs / record_bytes = ltb-true i (length rs / record_bytes) e in
          let n : i < length sheet / record_bytes = omega (arith, same_count) in
          let m : i < length (map (line_after w) lines) = omega (arith, length-map lines (line_after w), length-records rs) in
          let r : get_or lines i no_record ≡ record_in (take record_bytes (drop (i * record_bytes) rs)) = record_at rs i l in
          line_text_lem sheet i read_back.1 n
          ∙ (ap (λ (rs : List Record). record_text (get_or rs i no_record)) (read_back.0 ∙ lines_mapped w lines calm)
          ∙ (ap record_text
          (get_or_any (map (line_after w) lines) i no_record (line_after w no_record) m
          ∙ (get_or-map (line_after w) lines i no_record ∙ (ap (line_after w) r ∙ (stays ∙ sym r))))
          ∙ sym (line_text_lem rs i accepted l)))
      go false e =
          let l : length rs / record_bytes ≤ i = ltb-false i (length rs / record_bytes) e in
          let n : length sheet / record_bytes ≤ i = omega (arith, same_count) in
          no_line sheet i read_back.1 n ∙ sym (no_line rs i accepted l)

-- Lines before the same tail.

line_before : (x tail : List ℕ) (i : ℕ) → length x ≡ length x / record_bytes * record_bytes → i < length x / record_bytes → line_at (x ++ tail) (Some i) ≡ line_at x (Some i)
unfolding line_at
line_before x tail i n l =
    let k : length (drop (i * record_bytes) x) ≡ length x - i * record_bytes = length-drop (i * record_bytes) x in
    ap (take record_bytes) (drop-append-le (i * record_bytes) x tail (omega arith)) ∙ take-append-le record_bytes (drop (i * record_bytes) x) tail (omega arith)

line-behind : (x y tail : List ℕ) (i : ℕ) → length x ≡ length y → length x ≡ length x / record_bytes * record_bytes → length x / record_bytes ≤ i → line_at (x ++ tail) (Some i) ≡ line_at (y ++ tail) (Some i)
unfolding line_at
line-behind x y tail i e n l =
    let m : i * record_bytes ≡ length x + (i * record_bytes - length x) = omega arith in
    let k : i * record_bytes ≡ length y + (i * record_bytes - length x) = omega arith in
    ap (take record_bytes)
    (ap (λ (j : ℕ). drop j (x ++ tail)) m ∙ (behind x (i * record_bytes - length x) ∙ sym (ap (λ (j : ℕ). drop j (y ++ tail)) k ∙ behind y (i * record_bytes - length x))))
  where
    behind : (z : List ℕ) (j : ℕ) → drop (length z + j) (z ++ tail) ≡ drop j tail
    behind z j = sym (drop-drop j (length z) (z ++ tail)) ∙ ap (drop j) (drop_at z tail (length z) refl)

-- Both sheets, spares included.
module _ (b : Bytes) (readable : Readable b) (w : Write) (calm : shifts w ≡ false) (good : sheets_good (apply w (saying b)) ≡ true) where
  abbrev front : List ℕ
  front = record_lines b.records

  abbrev lines_of_write : List ℕ
  lines_of_write = records_text (lines_after w (records front))

  passes : sheet_accepted b.records ≡ true
  passes = (readable_both b readable).0

  fits : records_accepted front ≡ true
  fits = accepted_lines b.records passes

  stay_good : records_good (lines_after w (records front)) ≡ true
  unfolding apply
  stay_good = good_records (apply w (saying b)) good

  tail : List ℕ
  tail = spares_text record_bytes (length b.records / record_bytes - length (records front))

  before_is : front ++ tail ≡ b.records
  unfolding tail sheet_for
  before_is = ap (λ (t : List ℕ). t ++ tail) (sym (sheet_written_read front fits)) ∙ sheet-said b.records passes

  written_is : lines_of_write ++ tail ≡ sheet_text (apply w (saying b))
  unfolding tail sheet_for apply
  written_is =
      ap (λ (n : ℕ). lines_of_write ++ spares_text record_bytes (length b.records / record_bytes - n))
      (sym (ap length (lines_mapped w (records front) calm) ∙ length-map (records front) (line_after w)))

  same_size : length (sheet_text (apply w (saying b))) ≡ length b.records
  same_size =
      ap length (sym written_is)
      ∙ (length-append lines_of_write tail ∙ (ap (λ (n : ℕ). n + length tail) (same_length front fits w calm stay_good) ∙ (sym (length-append front tail) ∙ ap length before_is)))

  -- a line whose record stays has the same bytes
  stays_at : (i : ℕ) → (line_after w (record_in (line_at b.records (Some i))) ≡ record_in (line_at b.records (Some i))) → line_at (sheet_text (apply w (saying b))) (Some i) ≡ line_at b.records (Some i)
  stays_at i stays =
      ap (λ (x : List ℕ). line_at x (Some i)) (sym written_is) ∙ (go (ltb i (length front / record_bytes)) refl ∙ ap (λ (x : List ℕ). line_at x (Some i)) before_is)
    where
      whole : length front ≡ length front / record_bytes * record_bytes
      whole = whole_lines_lem front fits

      go : (x : Bool) → ltb i (length front / record_bytes) ≡ x → line_at (lines_of_write ++ tail) (Some i) ≡ line_at (front ++ tail) (Some i)
      go true e =
          let l : i < length front / record_bytes = ltb-true i (length front / record_bytes) e in
          let n = same_length front fits w calm stay_good in
          let q : line_at (front ++ tail) (Some i) ≡ line_at front (Some i) = line_before front tail i whole l in
          let r : line_at b.records (Some i) ≡ line_at front (Some i) = ap (λ (x : List ℕ). line_at x (Some i)) (sym before_is) ∙ q in
          line_before lines_of_write tail i (ap (λ (k : ℕ). k) n ∙ (whole ∙ ap (λ (k : ℕ). k / record_bytes * record_bytes) (sym n))) (omega (arith, n))
          ∙ (line_stays front fits w calm stay_good i (ap (λ (x : List ℕ). line_after w (record_in x)) (sym r) ∙ (stays ∙ ap record_in r)) ∙ sym q)
      go false e =
          let n = same_length front fits w calm stay_good in
          sym (line-behind front lines_of_write tail i (sym n) whole (ltb-false i (length front / record_bytes) e))

  pub write_unit : SingleUnit (saying b).coordinator.units w → WithinUnit b (encoded (apply w (saying b)))
  unfolding apply
  write_unit (Units.one_unit h g others stays) =
      lines_of_one_unit g (ap coordinator_text (stays (saying b).coordinator) ∙ coordinator_written_read b.coordinator (readable_both b readable).1.0)
      same_size (λ i d. stays_at i (others _ d))
  write_unit (Units.coordinator_only h stays) =
      coordinator_only
      (ap (λ (ls : List Record). sheet_for ls (length b.records / record_bytes)) (lines_unmoved w calm stays (records front)) ∙ sheet-said b.records passes)

-- A line put in or taken out.
module _ (b : Bytes) (readable : Readable b) where
  abbrev rows : List Record
  rows = (saying b).lines

  abbrev size : ℕ
  size = length b.records / record_bytes

  parts : GoodSheets (saying b)
  parts = good_parts (saying b) (readable_good b readable)

  all-ranged : all ranged rows ≡ true
  unfolding records_good
  all-ranged =
      let g = good_records (saying b) (readable_good b readable) in
      let h : all good_alone rows ≡ true = search (tests, g) in
      all_weaken good_alone ranged good_ranged rows h

  decisions_stay : coordinator_text (saying b).coordinator ≡ b.coordinator
  decisions_stay = coordinator_written_read b.coordinator (readable_both b readable).1.0

  sheet_is : sheet_for rows size ≡ b.records
  sheet_is = sheet-said b.records (readable_both b readable).0

  added_unit : (k : Key) → MayAdd k (saying b) → OneUnit b (encoded (apply (add_line k) (saying b))) (add k)
  unfolding apply decisions_after sheet_for records_text
  added_unit k m =
      Atomic.line_added k (rank k rows) decisions_stay
      (subst (λ (t : List ℕ). LinePutIn record_bytes (line_for k) (rank k rows) t (sheet_for (lines_after (add_line k) rows) size)) sheet_is
      (subst (λ (ls : List Record). LinePutIn record_bytes (line_for k) (rank k rows) (sheet_for rows size) (sheet_for ls size)) (sym (lines_added k rows))
      (added_in record_bytes (omega arith) record_text ranged length-record_text k rows size parts.order m.unlisted all-ranged (absent_ranged k m.is_in_range) m.room)))

  removed_unit : (k : Key) → MayRemove k (saying b) → OneUnit b (encoded (apply (remove_line k) (saying b))) (remove k)
  unfolding apply decisions_after sheet_for records_text
  removed_unit k m =
      Atomic.line_removed k (rank k (without k rows)) decisions_stay
      (subst (λ (t : List ℕ). LinePutIn record_bytes (line_for k) (rank k (without k rows)) (sheet_for (lines_after (remove_line k) rows) size) t) sheet_is
      (subst (λ (ls : List Record). LinePutIn record_bytes (line_for k) (rank k (without k rows)) (sheet_for ls size) (sheet_for rows size)) (sym (lines_removed k rows))
      (removed_in record_bytes (omega arith) record_text ranged length-record_text k rows size parts.order m.listed (removed_line (saying b) parts k m) all-ranged
      (absent_ranged k (listed_range (saying b) parts k m.listed)) parts.few_lines)))

  pub any_unit : (c : Call) (w : Write) → sheets_good (apply w (saying b)) ≡ true → Single (saying b) c w → OneUnit b (encoded (apply w (saying b))) c
  any_unit c w good (in_unit u) = within_unit (write_unit b readable w (unit_shifts u) good u)
  any_unit c w good (line_added k m) = added_unit k m
  any_unit c w good (line_removed k m) = removed_unit k m

-- what a call on what readable bytes say writes, encoded: within one unit, unless it adds or removes a line
pub readable_within : (c : Call) (b : Bytes) → shifts_lines c ≡ false → ClockFits c → Readable b → WithinUnit b (encoded (after c (saying b)))
unfolding after
readable_within c b n l p =
    let u = written_unit c (saying b) n in
    write_unit b p (written c (saying b)) (unit_shifts u) (sheets_stay_good c (saying b) l (readable_good b p)) u

pub readable_unit : (c : Call) (b : Bytes) → ClockFits c → Readable b → OneUnit b (encoded (after c (saying b))) c
unfolding after
readable_unit c b l p = any_unit b p c (written c (saying b)) (sheets_stay_good c (saying b) l (readable_good b p)) (single_unit c (saying b))

-- "writes to at most one unit or the coordinator sheet"
pub call_unit : (c : Call) (b : Bytes) → ClockFits c → Passing b → OneUnit b (after_on c b) c
call_unit c b l p = subst (λ (a : Bytes). OneUnit b a c) (sym (same_bytes c b p)) (readable_unit c b l (passing_readable b p).0)
