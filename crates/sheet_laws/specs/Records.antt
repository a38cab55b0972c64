-- The record sheet: an accepted sheet is the text of its records, and rule-keeping records are those of their text.
-- A line goes by the round trips of `record_layout`, a sheet line by line; replacing a line is replacing a record.
use Rattle.std.specs.Prelude.{◌≡◌, ◌*◌, ◌/◌, ◌≤◌, ◌<◌}
use Rattle.std.proofs.Common.{◌∙◌}
use Rattle.lists.specs.Basics.{refl, sym, ap, ap₂, ℕ, zero, suc, leb, Bool, true, List, map, length, get_or, length-map, arith, leb-true, eq-eqb}
use Rattle.lists.specs.Basics.{all, joined, pieces, listed, eq_list, bytes, and_snd, and_both, tests}
use Rattle.lists.specs.All.{all_map, all_weaken, all_of, map_same, map-map, listed_is}
use Rattle.lists.specs.Pieces.{joined-pieces, pieces-joined, length-joined}
use Rattle.model.specs.Types.{Record, State, Before}
use Rattle.types.specs.declared.State.TheVariants.{Absent, Committed, Prepared}
use Rattle.types.specs.declared.Before.TheVariants as Was
use Rattle.model.specs.Layouts.{record_layout, words, no_column, state_field, before_state_field, record_bytes, record_fields, offset, record_offset, key_bytes}
use Rattle.model.specs.Lines.{field_value, field_bytes, word_from, row_of, line_set, line_text, row_good, in_range, lines_of, lines_set}
use Rattle.model.specs.Records.{state_number, state_of, before_number, before_of, key_numbers, image_numbers, key_of, image_from, record_of, record_numbers, good_alone, records_good, record_in}
use Rattle.model.specs.Records.{record_text, records, records_text, records_accepted}
use Rattle.sheet_laws.specs.Fields.{column_ok, all_below, is_the, word_ok}
use Rattle.sheet_laws.specs.Spans.{layout_wide}
use Rattle.sheet_laws.specs.Lines.{layout_ok, line_bytes, length-row_of, line-length, line_written_read, line_read_written, row_read_written, row-in_range}

state_of-number : (s : State) → state_of (state_number s) ≡ s
unfolding state_of state_number
state_of-number Absent = refl
state_of-number Committed = refl
state_of-number Prepared = refl

number_of_state : (n : ℕ) → n ≤ 2 → state_number (state_of n) ≡ n
unfolding state_of state_number
number_of_state zero l = refl
number_of_state (suc zero) l = refl
number_of_state (suc (suc zero)) l = refl
number_of_state (suc (suc (suc n))) l = absurd (omega arith)

before-of_number : (b : Before) → before_of (before_number b) ≡ b
unfolding before_of before_number
before-of_number Was.Nothing = refl
before-of_number Was.Absent = refl
before-of_number Was.Committed = refl

number_of-before : (n : ℕ) → n ≤ 2 → before_number (before_of n) ≡ n
unfolding before_of before_number
number_of-before zero l = refl
number_of-before (suc zero) l = refl
number_of-before (suc (suc zero)) l = refl
number_of-before (suc (suc (suc n))) l = absurd (omega arith)

-- a record is that of its numbers
pub record_of-numbers : (r : Record) → record_of (record_numbers r) ≡ r
unfolding record_of record_numbers key_of key_numbers image_from image_numbers
record_of-numbers r =
    ap₂
    (λ (s : State) (b : Before). record { key = r.key; state = s; image = r.image; prior = b; before = r.before; clock = r.clock })
    (state_of-number r.state) (before-of_number r.prior)

-- sixteen numbers whose sixth is a state's and whose eleventh a before state's are those of their record
pub numbers_of_record : (v : List ℕ) → length v ≡ record_fields → get_or v state_field 0 ≤ 2 → get_or v before_state_field 0 ≤ 2 → record_numbers (record_of v) ≡ v
unfolding record_of record_numbers key_of key_numbers image_from image_numbers listed
numbers_of_record v n l m =
    let e : listed 0 record_fields v ≡ v = listed_is 0 record_fields v n in
    rw (number_of_state (get_or v state_field 0) l, number_of-before (get_or v before_state_field 0) m) e

-- `record_layout` passes the test of layouts, and its lines have 108 bytes
pub record_layout_ok : layout_ok record_layout ≡ true
unfolding all column_ok record_layout words all_below word_ok is_the field_value field_bytes word_from bytes
record_layout_ok = refl

pub record_wide : layout_wide record_layout ≡ true
unfolding all record_layout
record_wide = refl

pub record_bytes_lem : line_bytes record_layout ≡ record_bytes
unfolding line_bytes record_layout
record_bytes_lem = refl

pub record_fields_lem : length record_layout ≡ record_fields
unfolding record_layout
record_fields_lem = refl

pub key_bytes_lem : record_offset state_field ≡ key_bytes
unfolding offset record_layout
key_bytes_lem = refl

-- a line that can be read is whole
pub line-whole : (line : List ℕ) → line_set record_layout line ≡ true → length line ≡ record_bytes
line-whole line h = line-length record_layout line h ∙ record_bytes_lem

-- what a line that can be read gives to those who change it
pub record Readable (line : List ℕ) : Type 0 where
  pub set : line_set record_layout line ≡ true
  pub whole : length line ≡ record_bytes

pub readable : (line : List ℕ) → line_set record_layout line ≡ true → Readable line
readable line h = record { set = h; whole = line-whole line h }

-- in a row in range the number of a word of three is at most 2: the sixth, a state's, and the eleventh, a before state's
word-ranged : (i : ℕ) (v : List ℕ) → i < length record_layout → (get_or record_layout i no_column).high ≡ 2 → row_good record_layout v ≡ true → get_or v i 0 ≤ 2
unfolding in_range
word-ranged i v l h g =
    let c = get_or record_layout i no_column in
    leb-true (get_or v i 0) 2 (ap (leb (get_or v i 0)) (sym h) ∙ and_snd (leb c.low (get_or v i 0)) (leb (get_or v i 0) c.high) (row-in_range record_layout v no_column i g l))

pub state_ranged : (v : List ℕ) → row_good record_layout v ≡ true → get_or v state_field 0 ≤ 2
unfolding record_layout
state_ranged v g = word-ranged state_field v (omega arith) refl g

pub before-ranged : (v : List ℕ) → row_good record_layout v ≡ true → get_or v before_state_field 0 ≤ 2
unfolding record_layout
before-ranged v g = word-ranged before_state_field v (omega arith) refl g

-- the numbers of a line that can be read are those of its record
pub line_numbers_lem : (line : List ℕ) → line_set record_layout line ≡ true → record_numbers (record_in line) ≡ row_of record_layout line
unfolding record_in
line_numbers_lem line h =
    let v = row_of record_layout line in
    let g : row_good record_layout v ≡ true = (line_written_read record_layout line record_layout_ok h).1 in
    numbers_of_record v (unfold record_layout in length-row_of record_layout line) (state_ranged v g) (before-ranged v g)

-- a line that can be read is the text of its record
pub record_written_read : (line : List ℕ) → line_set record_layout line ≡ true → record_text (record_in line) ≡ line
unfolding record_text
record_written_read line h = ap (line_text record_layout) (line_numbers_lem line h) ∙ (line_written_read record_layout line record_layout_ok h).0

-- numbers in their ranges
abbrev pub ranged : Record → Bool
ranged r = row_good record_layout (record_numbers r)

pub good_ranged : (r : Record) → good_alone r ≡ true → ranged r ≡ true
unfolding good_alone
good_ranged r h = search tests

pub length-numbers : (r : Record) → length (record_numbers r) ≡ record_fields
unfolding record_numbers key_numbers image_numbers
length-numbers r = refl

-- a record in range is that of its text, and its text is a line
pub record_read_written : (r : Record) → ranged r ≡ true → record_in (record_text r) ≡ r
unfolding record_in record_text
record_read_written r g =
    ap record_of (row_read_written record_layout (record_numbers r) record_layout_ok g (unfold record_layout in length-numbers r))
    ∙ record_of-numbers r

pub record_text-set : (r : Record) → ranged r ≡ true → line_set record_layout (record_text r) ≡ true
unfolding record_text
record_text-set r g = line_read_written record_layout (record_numbers r) record_layout_ok g

pub length-record_text : (r : Record) → ranged r ≡ true → length (record_text r) ≡ record_bytes
length-record_text r g = line-whole (record_text r) (record_text-set r g)

-- T3, record sheet: an accepted sheet, read into records and written again, is the same sheet
pub sheet_written_read : (s : List ℕ) → records_accepted s ≡ true → records_text (records s) ≡ s
unfolding records_accepted lines_set records_text records lines_of
sheet_written_read s h =
    let n : length s ≡ length s / record_bytes * record_bytes = search tests in
    let l : all (line_set record_layout) (pieces record_bytes (length s / record_bytes) s) ≡ true = search tests in
    ap joined
    (map-map record_text record_in (pieces record_bytes (length s / record_bytes) s)
    ∙ map_same (line_set record_layout) (λ (x : List ℕ). record_text (record_in x)) record_written_read _ l)
    ∙ joined-pieces record_bytes (length s / record_bytes) s n

-- the lines of the text of records in range are the records' texts
pub lines_of-text : (rs : List Record) → all ranged rs ≡ true → (lines_of record_bytes (records_text rs) ≡ map record_text rs) × (length (records_text rs) ≡ length rs * record_bytes)
unfolding lines_of records_text
lines_of-text rs h =
    let w = all_of record_bytes ranged record_text length-record_text rs h in
    let m : length (map record_text rs) ≡ length rs = length-map rs record_text in
    let n : length (joined (map record_text rs)) ≡ length (map record_text rs) * record_bytes = length-joined record_bytes (map record_text rs) w in
    let k : length (joined (map record_text rs)) / record_bytes ≡ length (map record_text rs) = omega arith in
    (rw k (pieces-joined record_bytes (map record_text rs) w), n ∙ ap (λ (i : ℕ). i * record_bytes) m)

-- T3, record sheet: rule-keeping records, written and read, are the same records, and their sheet is accepted
pub records_read_written : (rs : List Record) → records_good rs ≡ true → (records (records_text rs) ≡ rs) × (records_accepted (records_text rs) ≡ true)
unfolding records_good records_accepted lines_set records
records_read_written rs h =
    let g : all good_alone rs ≡ true = search tests in
    let a : all ranged rs ≡ true = all_weaken good_alone ranged good_ranged rs g in
    let l = lines_of-text rs a in
    let e : map record_in (lines_of record_bytes (records_text rs)) ≡ rs =
    ap (map record_in) l.0
    ∙ map-map record_in record_text rs
    ∙ map_same ranged (λ (r : Record). record_in (record_text r)) record_read_written rs a in
    let n : length (records_text rs) ≡ length rs * record_bytes = l.1 in
    let s : all (line_set record_layout) (lines_of record_bytes (records_text rs)) ≡ true =
    rw l.0 (rw all_map (all_weaken ranged (λ (r : Record). line_set record_layout (record_text r)) record_text-set rs a)) in
    let k : length (records_text rs) ≡ length (records_text rs) / record_bytes * record_bytes = omega arith in
    (e, and_both (and_both (eq-eqb (length (records_text rs)) (length (records_text rs) / record_bytes * record_bytes) k) s) (rw e h))
