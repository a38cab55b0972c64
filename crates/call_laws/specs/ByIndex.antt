-- Writes by index: the line of a key found on a sheet in order, replaced in the bytes, is the line of that key replaced on the decoded sheet; likewise a
-- decision and the count of numbers issued.
use Rattle.std.specs.Prelude.{◌≡◌, ◌*◌, ◌/◌, ◌≤◌, ◌<◌, ◌∷◌}
use Rattle.std.proofs.Common.{◌∙◌}
use Rattle.lists.specs.Basics.{refl, sym, ap, ap₂, ℕ, zero, suc, Bool, true, false, cond, true≢false, List, [], map, length}
use Rattle.lists.specs.Basics.{take, drop, get_or, set, arith, le-leb, any, and_snd, and_both, or_left, or_right, or_fst, or_snd}
use Rattle.lists.specs.Pieces.{over}
use Rattle.decimal.specs.Field.{field_text}
use Rattle.model.specs.Types.{Key, Record, Decision, Some}
use Rattle.model.specs.Layouts.{record_bytes, coordinator_bytes}
use Rattle.model.specs.Records.{no_record, record_text, records_text, records, records_accepted, good_alone, key_less, in_order, rising, same_key, found, line_of}
use Rattle.model.specs.Coordinator.{coordinator_of, coordinator_text, coordinator_readable, with_decision, with_issued}
use Rattle.sheet_laws.specs.Records.{sheet_written_read, good_ranged}
use Rattle.sheet_laws.specs.ByIndex.{whole_lines_lem, length-records, records-over, accepted_over}
use Rattle.sheet_laws.specs.Search.{first_at}
use Rattle.sheet_laws.specs.Coordinator.{decision_text, coordinator_written_read, bounds}
use Rattle.sheet_laws.specs.Decisions.{number_has_line, Readable, readable_parts, readable_length, length-decisions, coordinator-over, readable_decided}
use Rattle.sheet_laws.specs.Decisions.{coordinator_counted, readable_raised}
use Rattle.sheet_laws.specs.KeyOrder.{same_key_lem, same_key_refl, lists_key, key_later, apart}

-- The index of the line of a key.
pub record FoundAt (k : Key) (rs : List Record) (i : ℕ) : Type 0 where
  pub within : i < length rs
  pub line : get_or rs i no_record ≡ line_of k rs
  pub listed : lists_key k rs ≡ true
  pub key : (get_or rs i no_record).key ≡ k

lists_at : (k : Key) (rs : List Record) (i : ℕ) → i < length rs → (get_or rs i no_record).key ≡ k → lists_key k rs ≡ true
unfolding any
lists_at k [] i l e = absurd (omega arith)
lists_at k (r ∷ rs) zero l e = or_left (same_key r.key k) (lists_key k rs) (ap (λ (j : Key). same_key j k) e ∙ same_key_refl k)
lists_at k (r ∷ rs) (suc i) l e = or_right (same_key r.key k) (lists_key k rs) (lists_at k rs i (omega arith) e)

-- the first line with the key is the line of the key
first_line_lem : (k : Key) (rs : List Record) (i : ℕ) → i < length rs → same_key (get_or rs i no_record).key k ≡ true → lists_key k (take i rs) ≡ false → get_or rs i no_record ≡ line_of k rs
unfolding any line_of
first_line_lem k [] i l e n = absurd (omega arith)
first_line_lem k (r ∷ rs) zero l e n = rw e
first_line_lem k (r ∷ rs) (suc i) l e n =
    let h : same_key r.key k ≡ false = or_fst (same_key r.key k) (lists_key k (take i rs)) n in
    rw h (first_line_lem k rs i (omega arith) e (or_snd (same_key r.key k) (lists_key k (take i rs)) n))

-- what a search tells of the index that it found
pub found_at : (k : Key) (rs : List Record) (i : ℕ) → found k rs ≡ Some i → FoundAt k rs i
unfolding found
found_at k rs i e =
    let x = first_at (λ (r : Record). same_key r.key k) rs no_record i e in
    let m : (get_or rs i no_record).key ≡ k = same_key_lem (get_or rs i no_record).key k x.passes in
    record { within = x.within; line = first_line_lem k rs i x.within x.passes x.before; listed = lists_at k rs i x.within m; key = m }

-- on a sheet in order each line is the line of its key
own_line : (rs : List Record) (i : ℕ) → rising rs ≡ true → i < length rs → get_or rs i no_record ≡ line_of (get_or rs i no_record).key rs
unfolding rising line_of
own_line [] i h l = absurd (omega arith)
own_line (r ∷ rs) zero h l = rw (same_key_refl r.key)
own_line (r ∷ rs) (suc i) h l =
    let k = (get_or rs i no_record).key in
    let e : same_key r.key k ≡ false = apart r rs k h (lists_at k rs i (omega arith) refl) in
    rw e (own_line rs i (and_snd (in_order r rs) (rising rs) h) (omega arith))

pub found-own : (rs : List Record) (i : ℕ) → rising rs ≡ true → i < length rs → FoundAt (get_or rs i no_record).key rs i
found-own rs i h l = record { within = l; line = own_line rs i h l; listed = lists_at (get_or rs i no_record).key rs i l refl; key = refl }

-- on a sheet in order a line further down has a higher key
pub rising_at : (rs : List Record) (i j : ℕ) → rising rs ≡ true → i < j → j < length rs
    → key_less (get_or rs i no_record).key (get_or rs j no_record).key ≡ true
unfolding rising
rising_at [] i j h k l = absurd (omega arith)
rising_at (r ∷ rs) i zero h k l = absurd (omega arith)
rising_at (r ∷ rs) zero (suc j) h k l = key_later r rs (get_or rs j no_record).key h (lists_at (get_or rs j no_record).key rs j (omega arith) refl)
rising_at (r ∷ rs) (suc i) (suc j) h k l = rising_at rs i j (and_snd (in_order r rs) (rising rs) h) (omega arith) (omega arith)

-- a map that changes only the line of one key
abbrev pub at_key : Key → (Record → Record) → Record → Record
at_key k f r = cond (same_key r.key k) (f r) r

-- lines of other keys stay
pub map_elsewhere : (k : Key) (f : Record → Record) (rs : List Record) → lists_key k rs ≡ false → map (at_key k f) rs ≡ rs
unfolding any
map_elsewhere k f [] h = refl
map_elsewhere k f (r ∷ rs) h =
    ap₂ ◌∷◌ (ap (λ (b : Bool). cond b (f r) r) (or_fst (same_key r.key k) (lists_key k rs) h))
    (map_elsewhere k f rs (or_snd (same_key r.key k) (lists_key k rs) h))

-- the key of the first line is no later line's
none_later : (k : Key) (r : Record) (rs : List Record) → rising (r ∷ rs) ≡ true → same_key r.key k ≡ true → lists_key k rs ≡ false
none_later k r rs h e = go (lists_key k rs) refl
  where
    go : (b : Bool) → lists_key k rs ≡ b → b ≡ false
    go true m = absurd (true≢false (sym e ∙ apart r rs k h m))
    go false m = refl

-- on a sheet in order, changing the line of a key is setting the record at its index
pub set-at_key : (k : Key) (f : Record → Record) (rs : List Record) (i : ℕ) → rising rs ≡ true → i < length rs → (get_or rs i no_record).key ≡ k → set rs i (f (line_of k rs)) ≡ map (at_key k f) rs
unfolding rising line_of
set-at_key k f [] i h l m = absurd (omega arith)
set-at_key k f (r ∷ rs) zero h l m =
    let e : same_key r.key k ≡ true = ap (λ (j : Key). same_key j k) m ∙ same_key_refl k in
    ap₂ ◌∷◌
    (ap (λ (b : Bool). f (cond b r (line_of k rs))) e ∙ sym (ap (λ (b : Bool). cond b (f r) r) e))
    (sym (map_elsewhere k f rs (none_later k r rs h e)))
set-at_key k f (r ∷ rs) (suc i) h l m =
    let e : same_key r.key k ≡ false = apart r rs k h (lists_at k rs i (omega arith) m) in
    ap₂ ◌∷◌ (sym (ap (λ (b : Bool). cond b (f r) r) e))
    (ap (λ (b : Bool). set rs i (f (cond b r (line_of k rs)))) e
    ∙ set-at_key k f rs i (and_snd (in_order r rs) (rising rs) h) (omega arith) m)

-- The bytes.

-- line i replaced
pub line-replaced : (s : List ℕ) (i : ℕ) (r : Record) → records_accepted s ≡ true → i < length (records s) → good_alone r ≡ true → r.key ≡ (get_or (records s) i no_record).key → (over s (i * record_bytes) (record_text r) ≡ records_text (set (records s) i r)) × (records_accepted (over s (i * record_bytes) (record_text r)) ≡ true)
line-replaced s i r a l g e =
    let n : i < length s / record_bytes = omega (arith, length-records s) in
    let b : records_accepted (over s (i * record_bytes) (record_text r)) ≡ true = accepted_over s i r no_record a n g e in (
      sym (sheet_written_read (over s (i * record_bytes) (record_text r)) b)
          ∙ ap records_text (records-over s i r n (good_ranged r g) (whole_lines_lem s a)),
      b,
    )

-- the decision of an issued number written over its line
pub decision-written : (s : List ℕ) (n : ℕ) (d : Decision) → coordinator_readable s ≡ true → 1 ≤ n → n ≤ (coordinator_of s).issued
    → cond (number_has_line n s) (over s (n * coordinator_bytes) (decision_text n d)) s ≡ coordinator_text (with_decision n d (coordinator_of s))
decision-written s zero d a l m = absurd (omega arith)
decision-written s (suc i) d a l m =
    let p : Readable s = readable_parts s a in
    let b = bounds (coordinator_of s) p.good in
    let few : length (coordinator_of s).decisions ≤ 999 = b.few in
    let most : (coordinator_of s).issued ≤ length (coordinator_of s).decisions = b.issued in
    let count : length (coordinator_of s).decisions ≡ length (drop coordinator_bytes s) / coordinator_bytes = length-decisions s in
    let h : number_has_line (suc i) s ≡ true = and_both (le-leb 1 (suc i) l) (le-leb (suc i) (length (drop coordinator_bytes s) / coordinator_bytes) (omega arith)) in
    rw h
    (sym (coordinator_written_read (over s (suc i * coordinator_bytes) (decision_text (suc i) d)) (readable_decided s i d a (omega arith)))
    ∙ ap coordinator_text (coordinator-over s i d (readable_length s a) (omega arith) (omega arith) p.whole))

-- one more number issued
pub count_raised : (s : List ℕ) → coordinator_readable s ≡ true → (coordinator_of s).issued < length (coordinator_of s).decisions
    → over s 0 (field_text 4 (suc (coordinator_of s).issued)) ≡ coordinator_text (with_issued (suc (coordinator_of s).issued) (coordinator_of s))
count_raised s a l =
    let few : length (coordinator_of s).decisions ≤ 999 = (bounds (coordinator_of s) (readable_parts s a).good).few in
    sym (coordinator_written_read (over s 0 (field_text 4 (suc (coordinator_of s).issued))) (readable_raised s a l))
    ∙ ap coordinator_text (coordinator_counted s (suc (coordinator_of s).issued) (readable_length s a) (omega arith))
