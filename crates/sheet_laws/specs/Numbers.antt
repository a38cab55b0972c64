-- Records as numbers, sixteen to a record: both round trips, record by record.
use Rattle.std.specs.Prelude.{◌≡◌, ◌*◌, ◌/◌, ◌&&◌}
use Rattle.std.proofs.Common.{◌∙◌}
use Rattle.lists.specs.Basics.{sym, ap, ℕ, eqb, true, List, map, length, length-map, arith, eqb-true, eq-eqb, all, joined, pieces}
use Rattle.lists.specs.Basics.{and_fst, and_snd, and_both, tests}
use Rattle.lists.specs.All.{all_map, all-and, all_weaken, all_of, pieces_whole, map-map, map_same, map_equal}
use Rattle.lists.specs.Pieces.{length-pieces, joined-pieces, pieces-joined, length-joined}
use Rattle.model.specs.Types.{Record}
use Rattle.model.specs.Layouts.{record_layout, record_bytes, record_fields}
use Rattle.model.specs.Lines.{row_of, line_text, line_set, lines_of, lines_set, row_good}
use Rattle.model.specs.Records.{record_of, record_numbers, record_in, record_text, records_text, records, records_accepted, good_alone, records_good, rows, all_numbers}
use Rattle.model.specs.Records.{rows_accepted}
use Rattle.sheet_laws.specs.Records.{ranged, good_ranged, length-numbers, record_of-numbers, numbers_of_record, state_ranged, before-ranged, line_numbers_lem}

pub length-rows : (v : List ℕ) → length (rows v) ≡ length v / record_fields
unfolding rows
length-rows v = length-pieces record_fields (length v / record_fields) v

-- the rows of the numbers of records are the numbers of each
pub rows_of-numbers : (rs : List Record) → all ranged rs ≡ true → (rows (all_numbers rs) ≡ map record_numbers rs) × (length (all_numbers rs) ≡ length rs * record_fields)
unfolding rows all_numbers
rows_of-numbers rs h =
    let w = all_of record_fields ranged record_numbers (λ r p. length-numbers r) rs h in
    let m : length (map record_numbers rs) ≡ length rs = length-map rs record_numbers in
    let n : length (joined (map record_numbers rs)) ≡ length (map record_numbers rs) * record_fields =
    length-joined record_fields (map record_numbers rs) w in
    let k : length (joined (map record_numbers rs)) / record_fields ≡ length (map record_numbers rs) = omega arith in
    (rw k (pieces-joined record_fields (map record_numbers rs) w), n ∙ ap (λ (i : ℕ). i * record_fields) m)

-- T3, records as numbers: rule-keeping records, as numbers and back, are the same records, and their numbers are accepted
pub numbers_read-written : (rs : List Record) → records_good rs ≡ true → (map record_of (rows (all_numbers rs)) ≡ rs) × (rows_accepted (all_numbers rs) ≡ true)
unfolding records_good rows_accepted
numbers_read-written rs h =
    let g : all good_alone rs ≡ true = search tests in
    let a : all ranged rs ≡ true = all_weaken good_alone ranged good_ranged rs g in
    let l = rows_of-numbers rs a in
    let e : map record_of (rows (all_numbers rs)) ≡ rs =
    ap (map record_of) l.0
    ∙ map-map record_of record_numbers rs
    ∙ map_same ranged (λ (r : Record). record_of (record_numbers r)) (λ r p. record_of-numbers r) rs a in
    let n : length (all_numbers rs) ≡ length rs * record_fields = l.1 in
    let k : length (all_numbers rs) ≡ length (all_numbers rs) / record_fields * record_fields = omega arith in
    let s : all (row_good record_layout) (rows (all_numbers rs)) ≡ true = rw l.0 (rw all_map a) in
    (e, and_both (and_both (eq-eqb (length (all_numbers rs)) (length (all_numbers rs) / record_fields * record_fields) k) s) (rw e h))

pub row_same : (x : List ℕ) → (row_good record_layout x && eqb (length x) record_fields) ≡ true → record_numbers (record_of x) ≡ x
row_same x h =
    numbers_of_record x (eqb-true (length x) record_fields (and_snd (row_good record_layout x) (eqb (length x) record_fields) h))
    (state_ranged x (and_fst (row_good record_layout x) (eqb (length x) record_fields) h)) (before-ranged x (and_fst (row_good record_layout x) (eqb (length x) record_fields) h))

-- accepted numbers are whole rows, each in range
whole-rows : (v : List ℕ) → rows_accepted v ≡ true → length v ≡ length v / record_fields * record_fields
unfolding rows_accepted
whole-rows v h = search tests

full_rows : (v : List ℕ) → rows_accepted v ≡ true → all (λ (x : List ℕ). row_good record_layout x && eqb (length x) record_fields) (pieces record_fields (length v / record_fields) v) ≡ true
unfolding rows_accepted rows
full_rows v h =
    let g : all (row_good record_layout) (pieces record_fields (length v / record_fields) v) ≡ true = search tests in
    all-and (row_good record_layout) (λ (x : List ℕ). eqb (length x) record_fields) (pieces record_fields (length v / record_fields) v) g (pieces_whole record_fields (length v / record_fields) v (whole-rows v h))

-- T3, records as numbers: accepted numbers are those of their records
pub numbers_written_read : (v : List ℕ) → rows_accepted v ≡ true → all_numbers (map record_of (rows v)) ≡ v
unfolding rows_accepted all_numbers rows
numbers_written_read v h =
    let n = whole-rows v h in
    ap joined
    (map-map record_numbers record_of (pieces record_fields (length v / record_fields) v)
    ∙ map_same (λ (x : List ℕ). row_good record_layout x && eqb (length x) record_fields) (λ (x : List ℕ). record_numbers (record_of x)) row_same _ (full_rows v h))
    ∙ joined-pieces record_fields (length v / record_fields) v n

-- the rows of an accepted sheet's lines are the numbers of its records
pub numbers_of-lines : (s : List ℕ) → records_accepted s ≡ true → joined (map (row_of record_layout) (lines_of record_bytes s)) ≡ all_numbers (records s)
unfolding records_accepted lines_set records all_numbers
numbers_of-lines s h =
    let w : all (line_set record_layout) (lines_of record_bytes s) ≡ true = search tests in
    ap joined
    (sym
    (map-map record_numbers record_in (lines_of record_bytes s)
    ∙ map_equal (line_set record_layout) (λ (x : List ℕ). record_numbers (record_in x)) (row_of record_layout) line_numbers_lem (lines_of record_bytes s) w))

-- the lines of accepted rows are those of their records
pub lines_of-numbers : (v : List ℕ) → rows_accepted v ≡ true → joined (map (line_text record_layout) (rows v)) ≡ records_text (map record_of (rows v))
unfolding rows_accepted records_text record_text rows
lines_of-numbers v h =
    ap joined
    (map_equal (λ (x : List ℕ). row_good record_layout x && eqb (length x) record_fields) (line_text record_layout) (λ (x : List ℕ). line_text record_layout (record_numbers (record_of x))) (λ x e. ap (line_text record_layout) (sym (row_same x e))) (pieces record_fields (length v / record_fields) v) (full_rows v h)
    ∙ sym (map-map (λ (r : Record). line_text record_layout (record_numbers r)) record_of (pieces record_fields (length v / record_fields) v)))
