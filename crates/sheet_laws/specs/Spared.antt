-- Record sheets with spares: the records and the size that a sheet says are those for which it is the text. The text's front is that of the records, since a line that can be
-- read is no spare.
use Rattle.std.specs.Prelude.{◌≡◌, ◌+◌, ◌-◌, ◌*◌, ◌/◌, ◌≤◌, ◌∷◌, ◌++◌}
use Rattle.std.proofs.Common.{◌∙◌}
use Rattle.lists.specs.Basics.{refl, sym, ap, ap₂, ℕ, true, false, not, List, [], map, length, length-map, arith, all, and_fst, and_snd, and_both}
use Rattle.lists.specs.Basics.{eq-eqb, le-leb, tests, bytes, eq_list}
use Rattle.lists.specs.All.{all_weaken, all_of}
use Rattle.lists.specs.Pieces.{AllOf}
use Rattle.decimal.specs.Field.{number, figure, scanned, stepped, within, is_number}
use Rattle.model.specs.Types.{Record}
use Rattle.model.specs.Layouts.{record_layout, record_bytes, words}
use Rattle.model.specs.Lines.{row_of, line_set, row_good, in_range, field_value, word_from}
use Rattle.model.specs.Records.{no_record, record_of, key_of, image_from, state_of, before_of, key_numbers, image_numbers, record_numbers, record_in, good_alone, records_good, records, record_text, records_text, records_accepted}
use Rattle.model.specs.Spares.{spare_line, is_spare, filled_lines, spares_text, sized, record_lines, sheet_for, sheet_accepted}
use Rattle.sheet_laws.specs.Records.{ranged, good_ranged, length-record_text, record_text-set, records_read_written, sheet_written_read}
use Rattle.sheet_laws.specs.ByIndex.{length-records}
use Rattle.sheet_laws.specs.Fronts.{spared-length, spared-count, spared-front, set_no_spares, sized-whole, filled_within, front-count, front-spares}

-- a spare can't be read as a record
spare_unread : line_set record_layout (spare_line record_bytes) ≡ false
unfolding spare_line line_set record_layout field_value figure scanned stepped within
spare_unread = refl

-- nor is one in range
pub storage_some : (r : Record) → ranged r ≡ true → 1 ≤ r.key.storage
unfolding row_good in_range record_layout record_numbers key_numbers image_numbers
storage_some r h = search tests

-- but it reads as zeros
pub spare_record : record_in (spare_line record_bytes) ≡ no_record
unfolding spare_line record_in record_of key_of image_from state_of before_of row_of record_layout field_value word_from words bytes figure scanned stepped within
spare_record = refl

-- The sheet for good records.
module _ (rs : List Record) (n : ℕ) (good : records_good rs ≡ true) (room : length rs ≤ n) where
  fit : all ranged rs ≡ true
  unfolding records_good
  fit = let g : all good_alone rs ≡ true = search tests in all_weaken good_alone ranged good_ranged rs g

  texts_wide : AllOf record_bytes (map record_text rs)
  texts_wide = all_of record_bytes ranged record_text length-record_text rs fit

  texts-set : (xs : List Record) → all ranged xs ≡ true → all (line_set record_layout) (map record_text xs) ≡ true
  unfolding all
  texts-set [] h = refl
  texts-set (r ∷ xs) h = and_both (record_text-set r (and_fst (ranged r) (all ranged xs) h)) (texts-set xs (and_snd (ranged r) (all ranged xs) h))

  none-spare : all (λ (l : List ℕ). not (is_spare record_bytes l)) (map record_text rs) ≡ true
  none-spare = set_no_spares record_bytes (omega arith) record_layout spare_unread (map record_text rs) (texts-set rs fit)

  pub sheet-front : record_lines (sheet_for rs n) ≡ records_text rs
  unfolding sheet_for records_text
  sheet-front = spared-front record_bytes (omega arith) (map record_text rs) (n - length rs) texts_wide none-spare

  count : length (map record_text rs) + (n - length rs) ≡ n
  count = let l = length-map rs record_text in omega arith

  pub sheet-count : length (sheet_for rs n) / record_bytes ≡ n
  unfolding sheet_for records_text
  sheet-count = spared-count record_bytes (omega arith) (map record_text rs) (n - length rs) texts_wide none-spare ∙ count

  pub sheet-length : length (sheet_for rs n) ≡ n * record_bytes
  unfolding sheet_for records_text
  sheet-length = spared-length record_bytes (omega arith) (map record_text rs) (n - length rs) texts_wide none-spare ∙ ap (λ (m : ℕ). m * record_bytes) count

  pub sheet-records : records (record_lines (sheet_for rs n)) ≡ rs
  sheet-records = ap records sheet-front ∙ (records_read_written rs good).0

  pub sheet_accepted_lem : 1 ≤ n → n ≤ 500 → sheet_accepted (sheet_for rs n) ≡ true
  unfolding sheet_accepted sized
  sheet_accepted_lem some few =
      let s = sheet_for rs n in
      let c = sheet-count in
      let w : length s ≡ length s / record_bytes * record_bytes = sheet-length ∙ ap (λ (m : ℕ). m * record_bytes) (sym c) in
      and_both
      (and_both (and_both (eq-eqb (length s) (length s / record_bytes * record_bytes) w) (le-leb 1 (length s / record_bytes) (omega arith)))
      (le-leb (length s / record_bytes) 500 (omega arith)))
      (ap records_accepted sheet-front ∙ (records_read_written rs good).1)

-- A sheet that is accepted.
module _ (s : List ℕ) (accepted : sheet_accepted s ≡ true) where
  pub accepted_sized : sized record_bytes s ≡ true
  unfolding sheet_accepted
  accepted_sized = and_fst (sized record_bytes s) (records_accepted (record_lines s)) accepted

  pub accepted_lines : records_accepted (record_lines s) ≡ true
  unfolding sheet_accepted
  accepted_lines = and_snd (sized record_bytes s) (records_accepted (record_lines s)) accepted

  pub accepted_whole : length s ≡ length s / record_bytes * record_bytes
  accepted_whole = sized-whole record_bytes s accepted_sized

  pub count-front : length (records (record_lines s)) ≡ filled_lines record_bytes s
  count-front = length-records (record_lines s) ∙ front-count record_bytes (omega arith) s accepted_whole

  pub lines-within : length (records (record_lines s)) ≤ length s / record_bytes
  lines-within = let l = filled_within record_bytes (omega arith) s accepted_whole in omega (arith, count-front)

  -- it is the text of what it says
  pub sheet-said : sheet_for (records (record_lines s)) (length s / record_bytes) ≡ s
  unfolding sheet_for
  sheet-said =
      ap₂ (λ (t : List ℕ) (n : ℕ). t ++ spares_text record_bytes (length s / record_bytes - n)) (sheet_written_read (record_lines s) accepted_lines) count-front
      ∙ front-spares record_bytes (omega arith) s accepted_whole
