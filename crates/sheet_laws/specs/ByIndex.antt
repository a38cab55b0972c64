-- A line of an accepted record sheet by its index: what it says, and what replacing it does to the records.
-- Bytes go by `pieces`; the order of keys stays since a record is replaced by one of the same key.
use Rattle.std.specs.Prelude.{◌≡◌, ◌*◌, ◌/◌, ◌≤◌, ◌<◌, ◌&&◌, ◌∷◌}
use Rattle.std.proofs.Common.{◌∙◌}
use Rattle.lists.specs.Basics.{refl, sym, ap, ap₂, subst, ℕ, zero, suc, eqb, leb, ltb, Bool, true, cond, List, [], map}
use Rattle.lists.specs.Basics.{length, take, drop, get_or, set, length-map, length-set, get_or-map, get_or-eq_default, arith, eq-eqb, all, pieces, eq_list}
use Rattle.lists.specs.Basics.{bytes, and_fst, and_snd, and_both, tests}
use Rattle.decimal.specs.Field.{number, figure, scanned, within}
use Rattle.lists.specs.All.{all_at, all_set, map-set}
use Rattle.lists.specs.Pieces.{over, length-pieces, pieces-over, get_or-pieces, length_over}
use Rattle.model.specs.Types.{Key, Record}
use Rattle.model.specs.Layouts.{record_layout, words, record_bytes}
use Rattle.model.specs.Lines.{field_value, word_from, row_of, line_set, lines_of, lines_set}
use Rattle.model.specs.Records.{no_record, record_of, key_of, image_from, state_of, before_of, good_alone, key_less, in_order, rising, records_good, record_in, record_text, records}
use Rattle.model.specs.Records.{records_accepted}
use Rattle.sheet_laws.specs.Records.{ranged, good_ranged, record_read_written, record_text-set, length-record_text}

-- an accepted sheet has whole lines only
pub whole_lines_lem : (s : List ℕ) → records_accepted s ≡ true → length s ≡ length s / record_bytes * record_bytes
unfolding records_accepted lines_set
whole_lines_lem s a = search tests

pub length-lines : (w : ℕ) (s : List ℕ) → length (lines_of w s) ≡ length s / w
unfolding lines_of
length-lines w s = length-pieces w (length s / w) s

pub length-records : (s : List ℕ) → length (records s) ≡ length s / record_bytes
unfolding records lines_of
length-records s = length-map (pieces record_bytes (length s / record_bytes) s) record_in ∙ length-pieces record_bytes (length s / record_bytes) s

-- no bytes say nothing
no_record_lem : record_in [] ≡ no_record
unfolding record_in record_of key_of image_from state_of before_of row_of record_layout field_value word_from words bytes figure scanned within
no_record_lem = refl

pub record_past : (s : List ℕ) (i : ℕ) → length s / record_bytes ≤ i → get_or (records s) i no_record ≡ no_record
record_past s i l = let n : length (records s) ≤ i = omega (arith, length-records s) in get_or-eq_default (records s) no_record n

-- the record at an index is what the 108 bytes there say
pub record_at : (s : List ℕ) (i : ℕ) → i < length s / record_bytes → get_or (records s) i no_record ≡ record_in (take record_bytes (drop (i * record_bytes) s))
unfolding records lines_of
record_at s i l =
    ap (get_or (map record_in (pieces record_bytes (length s / record_bytes) s)) i) (sym no_record_lem)
    ∙ get_or-map record_in (pieces record_bytes (length s / record_bytes) s) i [] ∙ ap record_in (get_or-pieces record_bytes i (length s / record_bytes) s l)

-- the sheet with record i changed; past the end nothing changes
abbrev pub changed_at : (Record → Record) → ℕ → List ℕ → List ℕ
changed_at f i s = cond (ltb i (length s / record_bytes)) (over s (i * record_bytes) (record_text (f (get_or (records s) i no_record)))) s

-- each line of an accepted sheet can be read
pub line_set_lem : (s : List ℕ) (i : ℕ) → records_accepted s ≡ true → i < length s / record_bytes → line_set record_layout (take record_bytes (drop (i * record_bytes) s)) ≡ true
unfolding records_accepted lines_set lines_of
line_set_lem s i a l =
    let w : all (line_set record_layout) (pieces record_bytes (length s / record_bytes) s) ≡ true = search tests in
    subst (λ (t : List ℕ). line_set record_layout t ≡ true) (get_or-pieces record_bytes i (length s / record_bytes) s l)
    (all_at (line_set record_layout) (pieces record_bytes (length s / record_bytes) s) [] i w (omega (arith, length-pieces record_bytes (length s / record_bytes) s)))

-- Order goes by keys alone.

order_left : (a b : Record) (rs : List Record) → a.key ≡ b.key → in_order a rs ≡ in_order b rs
unfolding in_order
order_left a b [] e = refl
order_left a b (r ∷ rs) e = ap (λ (k : Key). key_less k r.key) e

order_right : (a r d : Record) (rs : List Record) (i : ℕ) → i < length rs → r.key ≡ (get_or rs i d).key → in_order a (set rs i r) ≡ in_order a rs
unfolding in_order
order_right a r d [] i l e = refl
order_right a r d (x ∷ rs) zero l e = ap (λ (k : Key). key_less a.key k) e
order_right a r d (x ∷ rs) (suc i) l e = refl

pub rising-set : (rs : List Record) (i : ℕ) (r d : Record) → i < length rs → r.key ≡ (get_or rs i d).key → rising (set rs i r) ≡ rising rs
unfolding rising
rising-set [] i r d l e = absurd (omega arith)
rising-set (x ∷ rs) zero r d l e = ap (λ (b : Bool). b && rising rs) (order_left r x rs e)
rising-set (x ∷ rs) (suc i) r d l e = ap₂ ◌&&◌ (order_right x r d rs i (omega arith) e) (rising-set rs i r d (omega arith) e)

module _ (s : List ℕ) (i : ℕ) (r : Record) (inside : i < length s / record_bytes) (fits : ranged r ≡ true) where
  -- the text of a record over the bytes of line i
  over-length : length (over s (i * record_bytes) (record_text r)) ≡ length s
  over-length =
      let n : length (record_text r) ≡ record_bytes = length-record_text r fits in
      length_over s (record_text r) (i * record_bytes) (omega arith)

  -- replacing the line is replacing the record, and nothing else
  pub records-over : length s ≡ length s / record_bytes * record_bytes → records (over s (i * record_bytes) (record_text r)) ≡ set (records s) i r
  unfolding records lines_of
  records-over n =
      let q : length (over s (i * record_bytes) (record_text r)) / record_bytes ≡ length s / record_bytes = ap (λ (k : ℕ). k / record_bytes) over-length in
      rw q
      (ap (map record_in) (pieces-over record_bytes i (length s / record_bytes) s (record_text r) inside n (length-record_text r fits))
      ∙ map-set record_in (pieces record_bytes (length s / record_bytes) s) i (record_text r)
      ∙ ap (set (map record_in (pieces record_bytes (length s / record_bytes) s)) i) (record_read_written r fits))

-- an accepted sheet stays accepted where the new record keeps the rules and the key
pub accepted_over : (s : List ℕ) (i : ℕ) (r d : Record) → records_accepted s ≡ true → i < length s / record_bytes → good_alone r ≡ true → r.key ≡ (get_or (records s) i d).key → records_accepted (over s (i * record_bytes) (record_text r)) ≡ true
unfolding records_accepted lines_set records_good lines_of
accepted_over s i r d a l g e =
    let f : ranged r ≡ true = good_ranged r g in
    let n : length s ≡ length s / record_bytes * record_bytes = search tests in
    let m : length (over s (i * record_bytes) (record_text r)) ≡ length s = over-length s i r l f in
    let c : records (over s (i * record_bytes) (record_text r)) ≡ set (records s) i r = records-over s i r l f n in
    let k : length (set (records s) i r) ≡ length (records s) = length-set (records s) i r in
    let j : i < length (records s) = omega (arith, length-records s) in
    let p = and_fst (eqb (length s) (length s / record_bytes * record_bytes) && all (line_set record_layout) (pieces record_bytes (length s / record_bytes) s)) _ a in
    let w : all (line_set record_layout) (pieces record_bytes (length s / record_bytes) s) ≡ true = search (tests, p) in
    let q = and_snd (eqb (length s) (length s / record_bytes * record_bytes) && all (line_set record_layout) (pieces record_bytes (length s / record_bytes) s)) (leb (length (records s)) 500 && all good_alone (records s) && rising (records s)) a in
    let q2 : leb (length (records s)) 500 ≡ true = search (tests, q) in
    let q3 : all good_alone (records s) ≡ true = search (tests, q) in
    let q4 : rising (records s) ≡ true = search (tests, q) in
    rw (c, k, m)
    (and_both
    (and_both (eq-eqb (length s) (length s / record_bytes * record_bytes) n)
    (rw (pieces-over record_bytes i (length s / record_bytes) s (record_text r) l n (length-record_text r f))
    (all_set (line_set record_layout) (pieces record_bytes (length s / record_bytes) s) i (record_text r) w (record_text-set r f))))
    (and_both
    (and_both q2 (all_set good_alone (records s) i r q3 g))
    (rising-set (records s) i r d j e ∙ q4)))
