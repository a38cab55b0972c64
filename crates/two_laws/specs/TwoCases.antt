-- Cases by computation, so that the hypotheses of the laws are met: two lines a sheet.
use Rattle.std.specs.Prelude.{◌≡◌, ◌&&◌, ◌∷◌, ◌++◌}
use Rattle.lists.specs.Basics.{ℕ, refl, true, false, List, [], bytes, eq_list, all, joined, pieces, less}
use Rattle.decimal.specs.Field.{figure, within, scanned, stepped, number, is_number}
use Rattle.model.specs.Layouts.{record_layout, key_layout, image_layout, columns_layout, words}
use Rattle.model.specs.Lines.{field_value, word_from, row_of, line_set, lines_of, lines_set, row_good, in_range}
use Rattle.model.specs.Records.{state_of, state_number, before_of, before_number, key_of, image_from, record_of, record_numbers, key_numbers, image_numbers, records_good, record_in, records}
use Rattle.model.specs.Records.{records_accepted, good_alone, is_zero, absence, no_before, before_rule, absent_rule, committed_rule, prepared_rule, key_less, in_order, rising, same_key}
use Rattle.model.specs.TwoSheets.{plain_layout, bookkeeping_layout, plain_bytes, bookkeeping_bytes, join_line, join_lines, joined_sheet, plain_said, bookkeeping_said}
use Rattle.model.specs.TwoSheets.{plain_record, bookkeeping_record, plain_alone, bookkeeping_alone, same_keys_in, same_keys}
use Rattle.two_laws.specs.Deciding.{whole, keys_agree, lines_agree}

abbrev plain : List ℕ
plain =
    (bytes " 1  1  1     1     1        5        7" ++ (10 ∷ [])) ++ (bytes " 1  1  1     1     2        0        0" ++ (10 ∷ []))

-- the second line with columns, which an ABSENT line may not have
abbrev plain_filled : List ℕ
plain_filled =
    (bytes " 1  1  1     1     1        5        7" ++ (10 ∷ [])) ++ (bytes " 1  1  1     1     2        3        0" ++ (10 ∷ []))

-- another key in the second line
abbrev plain_other : List ℕ
plain_other =
    (bytes " 1  1  1     1     1        5        7" ++ (10 ∷ [])) ++ (bytes " 1  1  1     1     3        0        0" ++ (10 ∷ []))

abbrev bookkeeping : List ℕ
bookkeeping =
    (bytes " 1  1  1     1     1  PREPARED     2   1 COMMITTED     1   0        4        4         90" ++ (10 ∷ []))
    ++ (bytes " 1  1  1     1     2    ABSENT     0   0         -     0   0        0        0          0" ++ (10 ∷ []))

-- the first line PREPARED without a before state
abbrev bookkeeping_unstated : List ℕ
bookkeeping_unstated =
    (bytes " 1  1  1     1     1  PREPARED     2   1         -     1   0        4        4         90" ++ (10 ∷ []))
    ++ (bytes " 1  1  1     1     2    ABSENT     0   0         -     0   0        0        0          0" ++ (10 ∷ []))

-- whole lines whose keys agree, and an accepted sheet joined of them
meets : (whole plain_bytes plain && whole bookkeeping_bytes bookkeeping && lines_agree (lines_of plain_bytes plain) (lines_of bookkeeping_bytes bookkeeping) && records_accepted (joined_sheet plain bookkeeping)) ≡ true
unfolding bytes all joined pieces less figure within scanned stepped record_layout key_layout image_layout columns_layout words field_value word_from row_of line_set lines_of lines_set row_good in_range state_of state_number before_of before_number key_of image_from record_of record_numbers key_numbers image_numbers records_good record_in records records_accepted good_alone is_zero absence no_before before_rule absent_rule committed_rule prepared_rule key_less in_order rising join_line join_lines joined_sheet keys_agree lines_agree
meets = refl

-- both good alone with the same keys, and the joined sheet not accepted
not-joined : (plain_alone plain_filled && bookkeeping_alone bookkeeping && same_keys plain_filled bookkeeping) ≡ true
unfolding bytes all joined pieces less figure within scanned stepped record_layout key_layout image_layout columns_layout words field_value word_from row_of line_set lines_of lines_set row_good in_range state_of state_number before_of before_number key_of image_from record_numbers key_numbers image_numbers records_good good_alone is_zero absence no_before before_rule absent_rule committed_rule prepared_rule key_less in_order rising same_key plain_layout bookkeeping_layout plain_record plain_said bookkeeping_record bookkeeping_said plain_alone bookkeeping_alone same_keys_in same_keys
not-joined = refl

not_joined_refused : records_accepted (joined_sheet plain_filled bookkeeping) ≡ false
unfolding bytes all joined pieces less figure within scanned stepped record_layout key_layout image_layout columns_layout words field_value word_from row_of line_set lines_of lines_set row_good in_range state_of state_number before_of before_number key_of image_from record_of record_numbers key_numbers image_numbers records_good record_in records records_accepted good_alone is_zero absence no_before before_rule absent_rule committed_rule prepared_rule key_less in_order rising join_line join_lines joined_sheet
not_joined_refused = refl

-- both good alone, and their keys differ
other_keys : (plain_alone plain_other && bookkeeping_alone bookkeeping) ≡ true
unfolding bytes all joined pieces less figure within scanned stepped record_layout key_layout image_layout columns_layout words field_value word_from row_of line_set lines_of lines_set row_good in_range state_of state_number before_of before_number key_of image_from record_numbers key_numbers image_numbers records_good good_alone is_zero absence no_before before_rule absent_rule committed_rule prepared_rule key_less in_order rising plain_layout bookkeeping_layout plain_record plain_said bookkeeping_record bookkeeping_said plain_alone bookkeeping_alone
other_keys = refl

other_keys_agree : lines_agree (lines_of plain_bytes plain_other) (lines_of bookkeeping_bytes bookkeeping) ≡ false
unfolding bytes pieces lines_of keys_agree lines_agree
other_keys_agree = refl

-- the before state belongs to the bookkeeping sheet: without it this one isn't good alone
unstated : bookkeeping_alone bookkeeping_unstated ≡ false
unfolding bytes all joined pieces less figure within scanned stepped record_layout key_layout image_layout columns_layout words field_value word_from row_of line_set lines_of lines_set row_good in_range state_of state_number before_of before_number key_of image_from record_numbers key_numbers image_numbers records_good good_alone is_zero absence no_before before_rule absent_rule committed_rule prepared_rule key_less in_order rising bookkeeping_layout bookkeeping_record bookkeeping_said bookkeeping_alone
unstated = refl
