-- T3 over the record sheet's calls, spares among it: a sheet read into numbers and written again is the same sheet, and numbers written and read are the same numbers,
-- into any targets of the right length. Sheet and numbers are each those of records and so many spares, and the calls take one to the other.
use Rattle.std.specs.Prelude.{◌+◌, ◌-◌, ◌*◌, ◌/◌, ◌≤◌, ◌≡◌, ◌&&◌, ◌∷◌, ◌++◌}
use Rattle.std.proofs.Common.{◌∙◌}
use Rattle.lists.specs.Basics.{ℕ, zero, suc, refl, sym, ap, ap₂, eqb, Bool, true, false, not, List, []}
use Rattle.lists.specs.Basics.{map, length, length-map, replicate, arith, eqb-true, eq-eqb, ne_eqb, le-leb, all, joined, eq_list, bytes, and_fst, and_snd}
use Rattle.lists.specs.Basics.{and_both, drop, tests}
use Rattle.std.proofs.lemmas.List.{replicate-append-replicate}
use Rattle.lists.specs.All.{all_map, all_weaken, all_of}
use Rattle.lists.specs.Pieces.{AllOf}
use Rattle.decimal.specs.Field.{number, is_number, figure, scanned, stepped, within}
use Rattle.model.specs.Types.{Record}
use Rattle.model.specs.Layouts.{record_layout, words, record_bytes, record_fields}
use Rattle.model.specs.Lines.{field_value, word_from, line_set, row_good, in_range}
use Rattle.model.specs.Records.{record_of, key_numbers, record_numbers, record_text, good_alone, records_good, records, records_text, records_accepted, rows, all_numbers, rows_accepted}
use Rattle.model.specs.Spares.{spare_line, is_spare, filled_lines, spares_text, sized, record_lines, sheet_accepted}
use Rattle.model.specs.Refusals.{refusal_of}
use Rattle.model.specs.SheetCalls.{read_records_conditions, sheet_numbers, numbers_read, filled_rows, rows_front, all_rows_accepted, rows_text, write_records_conditions, records_written}
use Rattle.sheet_laws.specs.Records.{ranged, good_ranged, length-numbers, length-record_text, record_text-set, sheet_written_read, records_read_written}
use Rattle.sheet_laws.specs.Numbers.{length-rows, numbers_read-written, numbers_written_read}
use Rattle.sheet_laws.specs.ByIndex.{length-records}
use Rattle.sheet_laws.specs.Fronts.{front-count, front-spares, spared-length, spared-filled, spared-front, set_no_spares, sized-whole, sized_some, sized-few, filled_within}
use Rattle.sheet_laws.specs.Ends as ends

-- Rows of numbers: a spare is the row of zeros.

abbrev zeros : List ℕ
zeros = replicate record_fields 0

only_zeros : (x : List ℕ) → all (eqb 0) x ≡ true → x ≡ replicate (length x) 0
unfolding all
only_zeros [] h = refl
only_zeros (n ∷ x) h = ap₂ ◌∷◌ (sym (eqb-true 0 n (and_fst (eqb 0 n) (all (eqb 0) x) h))) (only_zeros x (and_snd (eqb 0 n) (all (eqb 0) x) h))

zeros-pass : all (eqb 0) zeros ≡ true
unfolding all
zeros-pass = refl

only : (x : List ℕ) → length x ≡ record_fields → all (eqb 0) x ≡ true → x ≡ zeros
only x n h = only_zeros x h ∙ ap (λ (m : ℕ). replicate m 0) n

rows_of-zeros : (n : ℕ) → joined (replicate n zeros) ≡ replicate (n * record_fields) 0
unfolding joined
rows_of-zeros zero = refl
rows_of-zeros (suc n) =
    let e : record_fields + n * record_fields ≡ suc n * record_fields = omega arith in
    ap (λ (x : List ℕ). zeros ++ x) (rows_of-zeros n)
    ∙ (replicate-append-replicate record_fields (n * record_fields) 0 ∙ ap (λ (m : ℕ). replicate m 0) e)

-- whole rows
module _ (v : List ℕ) (whole : length v ≡ length v / record_fields * record_fields) where
  pub rows-within : filled_rows v ≤ length v / record_fields
  unfolding filled_rows rows
  rows-within = ends.filled_within record_fields (omega arith) (all (eqb 0)) zeros refl zeros-pass only v whole

  pub rows_front-count : length (rows_front v) / record_fields ≡ filled_rows v
  unfolding rows_front filled_rows rows
  rows_front-count = ends.front-count record_fields (omega arith) (all (eqb 0)) zeros refl zeros-pass only v whole

  pub rows_front-whole : length (rows_front v) ≡ length (rows_front v) / record_fields * record_fields
  unfolding rows_front filled_rows rows
  rows_front-whole = ends.front-whole record_fields (omega arith) (all (eqb 0)) zeros refl zeros-pass only v whole

  rows_front-spares : rows_front v ++ replicate ((length v / record_fields - filled_rows v) * record_fields) 0 ≡ v
  unfolding rows_front filled_rows rows
  rows_front-spares =
      ap (λ (x : List ℕ). rows_front v ++ x) (sym (rows_of-zeros (length v / record_fields - filled_rows v)))
      ∙ ends.front-spares record_fields (omega arith) (all (eqb 0)) zeros refl zeros-pass only v whole

-- a record in range has a storage, and is no spare
record_filled : (r : Record) → ranged r ≡ true → not (all (eqb 0) (record_numbers r)) ≡ true
unfolding all record_numbers key_numbers record_layout row_good in_range
record_filled r g =
    let l : 1 ≤ r.key.storage = search tests in
    ap (λ (b : Bool). not (b && all (eqb 0) (drop 1 (record_numbers r)))) (ne_eqb 0 r.key.storage (λ e. omega arith))

spare_unread : line_set record_layout (spare_line record_bytes) ≡ false
unfolding spare_line line_set record_layout field_value word_from words bytes figure scanned stepped within
spare_unread = refl

-- The sheet and the numbers of records, n spares behind them.

abbrev sheet_of : List Record → ℕ → List ℕ
sheet_of rs n = records_text rs ++ spares_text record_bytes n

abbrev numbers_of : List Record → ℕ → List ℕ
numbers_of rs n = all_numbers rs ++ replicate (n * record_fields) 0

sized_by : (w : ℕ) (s : List ℕ) (n : ℕ) → length s / w ≡ n → length s ≡ n * w → 1 ≤ n → n ≤ 500 → sized w s ≡ true
unfolding sized
sized_by w s n e k l m =
    rw e (and_both (and_both (eq-eqb (length s) (n * w) k) (le-leb 1 n l)) (le-leb n 500 m))

module _ (rs : List Record) (n : ℕ) (good : records_good rs ≡ true) where
  is_in_range : all ranged rs ≡ true
  unfolding records_good
  is_in_range = let g : all good_alone rs ≡ true = search tests in all_weaken good_alone ranged good_ranged rs g

  -- The sheet.

  wide_lines : AllOf record_bytes (map record_text rs)
  wide_lines = all_of record_bytes ranged record_text length-record_text rs is_in_range

  no_spares : all (λ (l : List ℕ). not (is_spare record_bytes l)) (map record_text rs) ≡ true
  no_spares =
      set_no_spares record_bytes (omega arith) record_layout spare_unread (map record_text rs)
      (all_map (line_set record_layout) record_text rs ∙ all_weaken ranged (λ (r : Record). line_set record_layout (record_text r)) record_text-set rs is_in_range)

  lines-count : length (map record_text rs) ≡ length rs
  lines-count = length-map rs record_text

  sheet-length : length (sheet_of rs n) ≡ (length rs + n) * record_bytes
  unfolding records_text
  sheet-length = spared-length record_bytes (omega arith) (map record_text rs) n wide_lines no_spares ∙ ap (λ (m : ℕ). (m + n) * record_bytes) lines-count

  sheet-count : length (sheet_of rs n) / record_bytes ≡ length rs + n
  sheet-count = ap (λ (m : ℕ). m / record_bytes) sheet-length ∙ ends.quotient record_bytes (omega arith) (length rs + n)

  sheet-filled : filled_lines record_bytes (sheet_of rs n) ≡ length rs
  unfolding records_text
  sheet-filled = spared-filled record_bytes (omega arith) (map record_text rs) n wide_lines no_spares ∙ lines-count

  sheet-lines : record_lines (sheet_of rs n) ≡ records_text rs
  unfolding records_text
  sheet-lines = spared-front record_bytes (omega arith) (map record_text rs) n wide_lines no_spares

  sheet_accepted_lem : 1 ≤ length rs + n → length rs + n ≤ 500 → sheet_accepted (sheet_of rs n) ≡ true
  unfolding sheet_accepted
  sheet_accepted_lem l m =
      and_both (sized_by record_bytes (sheet_of rs n) (length rs + n) sheet-count sheet-length l m)
      (ap records_accepted sheet-lines ∙ (records_read_written rs good).1)

  sheet_numbers_lem : sheet_numbers (sheet_of rs n) ≡ numbers_of rs n
  unfolding sheet_numbers
  sheet_numbers_lem =
      let k : length (sheet_of rs n) / record_bytes - filled_lines record_bytes (sheet_of rs n) ≡ n = omega (arith, sheet-count, sheet-filled) in
      ap₂ (λ (s : List ℕ) (m : ℕ). all_numbers (records s) ++ replicate (m * record_fields) 0) sheet-lines k
      ∙ ap (λ (qs : List Record). numbers_of qs n) (records_read_written rs good).0

  -- The numbers.

  wide_rows : AllOf record_fields (map record_numbers rs)
  wide_rows = all_of record_fields ranged record_numbers (λ r p. length-numbers r) rs is_in_range

  no_zeros : all (λ (x : List ℕ). not (all (eqb 0) x)) (map record_numbers rs) ≡ true
  no_zeros =
      all_map (λ (x : List ℕ). not (all (eqb 0) x)) record_numbers rs
      ∙ all_weaken ranged (λ (r : Record). not (all (eqb 0) (record_numbers r))) record_filled rs is_in_range

  rows-count : length (map record_numbers rs) ≡ length rs
  rows-count = length-map rs record_numbers

  numbers-joined : numbers_of rs n ≡ joined (map record_numbers rs) ++ joined (replicate n zeros)
  unfolding all_numbers
  numbers-joined = ap (λ (x : List ℕ). joined (map record_numbers rs) ++ x) (sym (rows_of-zeros n))

  numbers-length : length (numbers_of rs n) ≡ (length rs + n) * record_fields
  numbers-length =
      ap length numbers-joined
      ∙ (ends.spared-length record_fields (omega arith) (all (eqb 0)) zeros refl zeros-pass only (map record_numbers rs) n wide_rows no_zeros
      ∙ ap (λ (m : ℕ). (m + n) * record_fields) rows-count)

  numbers-count : length (numbers_of rs n) / record_fields ≡ length rs + n
  numbers-count = ap (λ (m : ℕ). m / record_fields) numbers-length ∙ ends.quotient record_fields (omega arith) (length rs + n)

  numbers-filled : filled_rows (numbers_of rs n) ≡ length rs
  unfolding filled_rows rows
  numbers-filled =
      ap filled_rows numbers-joined
      ∙ (ends.spared-filled record_fields (omega arith) (all (eqb 0)) zeros refl zeros-pass only (map record_numbers rs) n wide_rows no_zeros ∙ rows-count)

  numbers-rows : rows_front (numbers_of rs n) ≡ all_numbers rs
  unfolding rows_front filled_rows rows all_numbers
  numbers-rows =
      ap rows_front numbers-joined
      ∙ ends.spared-front record_fields (omega arith) (all (eqb 0)) zeros refl zeros-pass only (map record_numbers rs) n wide_rows no_zeros

  numbers_accepted_lem : 1 ≤ length rs + n → length rs + n ≤ 500 → all_rows_accepted (numbers_of rs n) ≡ true
  unfolding all_rows_accepted
  numbers_accepted_lem l m =
      and_both (sized_by record_fields (numbers_of rs n) (length rs + n) numbers-count numbers-length l m)
      (ap rows_accepted numbers-rows ∙ (numbers_read-written rs good).1)

  numbers-text : rows_text (numbers_of rs n) ≡ sheet_of rs n
  unfolding rows_text
  numbers-text =
      let k : length (numbers_of rs n) / record_fields - filled_rows (numbers_of rs n) ≡ n = omega (arith, numbers-count, numbers-filled) in
      ap₂ (λ (v : List ℕ) (m : ℕ). records_text (map record_of (rows v)) ++ spares_text record_bytes m) numbers-rows k
      ∙ ap (λ (qs : List Record). sheet_of qs n) (numbers_read-written rs good).0

-- What the calls leave where nothing is refused.

read_accepted : (s t : List ℕ) → sheet_accepted s ≡ true → length t ≡ length s / record_bytes * record_fields → numbers_read s t ≡ sheet_numbers s
unfolding numbers_read read_records_conditions refusal_of
read_accepted s t a n = rw (a, eq-eqb (length t) (length s / record_bytes * record_fields) n)

write_accepted : (v t : List ℕ) → all_rows_accepted v ≡ true → length t ≡ length v / record_fields * record_bytes → records_written v t ≡ rows_text v
unfolding records_written write_records_conditions refusal_of
write_accepted v t a n = rw (a, eq-eqb (length t) (length v / record_fields * record_bytes) n)

-- Sheets and numbers of records and spares, there and back.

module _ (rs : List Record) (n : ℕ) (good : records_good rs ≡ true) (some : 1 ≤ length rs + n) (few : length rs + n ≤ 500) where
  sheet_there_and_back : (t u : List ℕ) → length t ≡ (length rs + n) * record_fields → length u ≡ (length rs + n) * record_bytes → records_written (numbers_read (sheet_of rs n) t) u ≡ sheet_of rs n
  sheet_there_and_back t u e f =
      let k : length t ≡ length (sheet_of rs n) / record_bytes * record_fields = e ∙ ap (λ (m : ℕ). m * record_fields) (sym (sheet-count rs n good)) in
      let j : length u ≡ length (numbers_of rs n) / record_fields * record_bytes = f ∙ ap (λ (m : ℕ). m * record_bytes) (sym (numbers-count rs n good)) in
      ap (λ (v : List ℕ). records_written v u) (read_accepted (sheet_of rs n) t (sheet_accepted_lem rs n good some few) k ∙ sheet_numbers_lem rs n good)
      ∙ (write_accepted (numbers_of rs n) u (numbers_accepted_lem rs n good some few) j ∙ numbers-text rs n good)

  numbers_there_and_back : (t u : List ℕ) → length t ≡ (length rs + n) * record_bytes → length u ≡ (length rs + n) * record_fields → numbers_read (records_written (numbers_of rs n) t) u ≡ numbers_of rs n
  numbers_there_and_back t u e f =
      let k : length t ≡ length (numbers_of rs n) / record_fields * record_bytes = e ∙ ap (λ (m : ℕ). m * record_bytes) (sym (numbers-count rs n good)) in
      let j : length u ≡ length (sheet_of rs n) / record_bytes * record_fields = f ∙ ap (λ (m : ℕ). m * record_fields) (sym (sheet-count rs n good)) in
      ap (λ (s : List ℕ). numbers_read s u) (write_accepted (numbers_of rs n) t (numbers_accepted_lem rs n good some few) k ∙ numbers-text rs n good)
      ∙ (read_accepted (sheet_of rs n) u (sheet_accepted_lem rs n good some few) j ∙ sheet_numbers_lem rs n good)

-- T3, record sheet: read into numbers and written again
pub records_round_trip : (s t u : List ℕ) → sheet_accepted s ≡ true → length t ≡ length s / record_bytes * record_fields → length u ≡ length s → records_written (numbers_read s t) u ≡ s
unfolding sheet_accepted records_accepted
records_round_trip s t u a e f =
    let z : sized record_bytes s ≡ true = and_fst (sized record_bytes s) (records_accepted (record_lines s)) a in
    let b : records_accepted (record_lines s) ≡ true = and_snd (sized record_bytes s) (records_accepted (record_lines s)) a in
    let g : records_good (records (record_lines s)) ≡ true = search (tests, b) in
    let w : length s ≡ length s / record_bytes * record_bytes = sized-whole record_bytes s z in
    let rs = records (record_lines s) in
    let n = length s / record_bytes - filled_lines record_bytes s in
    let is : sheet_of rs n ≡ s =
    ap (λ (x : List ℕ). x ++ spares_text record_bytes n) (sheet_written_read (record_lines s) b) ∙ front-spares record_bytes (omega arith) s w in
    let c : length rs ≡ filled_lines record_bytes s = length-records (record_lines s) ∙ front-count record_bytes (omega arith) s w in
    let k : length rs + n ≡ length s / record_bytes = omega (arith, filled_within record_bytes (omega arith) s w) in
    ap (λ (x : List ℕ). records_written (numbers_read x t) u) (sym is)
    ∙ (sheet_there_and_back rs n g (omega (arith, sized_some record_bytes s z)) (omega (arith, sized-few record_bytes s z)) t u
    (e ∙ ap (λ (m : ℕ). m * record_fields) (sym k)) (f ∙ (w ∙ ap (λ (m : ℕ). m * record_bytes) (sym k)))
    ∙ is)

-- T3, record sheet: numbers written and read
pub numbers_round_trip : (v t u : List ℕ) → all_rows_accepted v ≡ true → length t ≡ length v / record_fields * record_bytes → length u ≡ length v → numbers_read (records_written v t) u ≡ v
unfolding all_rows_accepted rows_accepted
numbers_round_trip v t u a e f =
    let z : sized record_fields v ≡ true = and_fst (sized record_fields v) (rows_accepted (rows_front v)) a in
    let b : rows_accepted (rows_front v) ≡ true = and_snd (sized record_fields v) (rows_accepted (rows_front v)) a in
    let g : records_good (map record_of (rows (rows_front v))) ≡ true = search (tests, b) in
    let w : length v ≡ length v / record_fields * record_fields = sized-whole record_fields v z in
    let rs = map record_of (rows (rows_front v)) in
    let n = length v / record_fields - filled_rows v in
    let is : numbers_of rs n ≡ v =
    ap (λ (x : List ℕ). x ++ replicate (n * record_fields) 0) (numbers_written_read (rows_front v) b) ∙ rows_front-spares v w in
    let c : length rs ≡ filled_rows v = length-map (rows (rows_front v)) record_of ∙ (length-rows (rows_front v) ∙ rows_front-count v w) in
    let k : length rs + n ≡ length v / record_fields = omega (arith, rows-within v w) in
    ap (λ (x : List ℕ). numbers_read (records_written x t) u) (sym is)
    ∙ (numbers_there_and_back rs n g (omega (arith, sized_some record_fields v z)) (omega (arith, sized-few record_fields v z)) t u
    (e ∙ ap (λ (m : ℕ). m * record_bytes) (sym k)) (f ∙ (w ∙ ap (λ (m : ℕ). m * record_fields) (sym k)))
    ∙ is)
