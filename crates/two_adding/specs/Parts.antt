-- Either sheet with a line put in or taken out is that sheet's part of the records after it: each line is the part of a record's text.
use Rattle.std.specs.Prelude.{◌≡◌, ◌-◌, ◌*◌, ◌/◌, ◌≤◌, ◌<◌, ◌∷◌, ◌++◌}
use Rattle.std.proofs.Common.{◌∙◌}
use Rattle.lists.specs.Basics.{sym, ap, ℕ, true, false, List, [], append-nil, map, length, arith, all, joined}
use Rattle.lists.specs.All.{all_of, map-map}
use Rattle.model.specs.Types.{Key, Record}
use Rattle.model.specs.Layouts.{record_bytes}
use Rattle.model.specs.Lines.{lines_of}
use Rattle.model.specs.Records.{record_text, records_text, rising, rank, absent_at}
use Rattle.model.specs.Spares.{spare_line, spares_text}
use Rattle.model.specs.Writes.{inserted, without}
use Rattle.model.specs.TwoSheets.{plain_bytes, bookkeeping_bytes, plain_line, bookkeeping_line, plain_part, bookkeeping_part}
use Rattle.sheet_laws.specs.KeyOrder.{lists_key}
use Rattle.sheet_laws.specs.Records.{ranged, length-record_text}
use Rattle.sheet_laws.specs.Fronts.{lines-joined}
use Rattle.sheet_laws.specs.AddedLines.{all_inserted, all_without}
use Rattle.call_laws.specs.PutIn.{lines_for}
use Rattle.shifting.specs.Shifted.{insert_at, remove_at}
use Rattle.two_laws.specs.TwoLines.{length-plain_line, length-bookkeeping_line}
use Rattle.adding.specs.Shifts.{inserted-sheet, removed_sheet}

-- whole lines on both sheets, and an index of both
pub record Shiftable (ps bs : List ℕ) (i : ℕ) : Type 0 where
  pub plain : length ps ≡ length ps / plain_bytes * plain_bytes
  pub bookkeeping : length bs ≡ length bs / bookkeeping_bytes * bookkeeping_bytes
  pub in_plain : i < length ps / plain_bytes
  pub in_bookkeeping : i < length bs / bookkeeping_bytes

module _ (w : ℕ) (some : 0 < w) (part : List ℕ → List ℕ) (wide : (l : List ℕ) → length l ≡ record_bytes → length (part l) ≡ w) where
  abbrev parts : List ℕ → List ℕ
  parts s = joined (map part (lines_of record_bytes s))

  -- of one line alone
  one-part : (l : List ℕ) → length l ≡ record_bytes → parts l ≡ part l
  unfolding joined
  one-part l e =
      let one : l ++ [] ≡ l = append-nil l in
      ap (λ (t : List ℕ). joined (map part (lines_of record_bytes t))) (sym one)
      ∙ (ap (λ (ls : List (List ℕ)). joined (map part ls)) (lines-joined record_bytes (omega arith) (l ∷ []) (e, tt)) ∙ append-nil (part l))

  abbrev text : Record → List ℕ
  text r = part (record_text r)

  text_wide : (r : Record) → ranged r ≡ true → length (text r) ≡ w
  text_wide r g = wide (record_text r) (length-record_text r g)

  -- the sheet of so many lines
  abbrev pub part_sheet : List Record → ℕ → List ℕ
  part_sheet rs n = parts (records_text rs) ++ spares_text w (n - length rs)

  part_is : (rs : List Record) (n : ℕ) → all ranged rs ≡ true → part_sheet rs n ≡ lines_for w some text ranged text_wide rs n
  unfolding records_text
  part_is rs n g =
      ap (λ (ls : List (List ℕ)). joined ls ++ spares_text w (n - length rs))
      (ap (map part) (lines-joined record_bytes (omega arith) (map record_text rs) (all_of record_bytes ranged record_text length-record_text rs g)) ∙ map-map part record_text rs)

  module _ (k : Key) (rs : List Record) (n : ℕ) (s : List ℕ) (is : s ≡ part_sheet rs n) (order : rising rs ≡ true) (fits : all ranged rs ≡ true) where
    pub part_added : lists_key k rs ≡ false → ranged (absent_at k) ≡ true → length rs < n → joined (insert_at (rank k rs) (text (absent_at k)) (lines_of w s)) ≡ part_sheet (inserted k rs) n
    part_added none new room =
        ap (λ (t : List ℕ). joined (insert_at (rank k rs) (text (absent_at k)) (lines_of w t))) (is ∙ part_is rs n fits)
        ∙ (inserted-sheet w some text ranged text_wide k rs n order none fits room ∙ sym (part_is (inserted k rs) n (all_inserted k ranged rs new fits)))

    pub part_removed : lists_key k rs ≡ true → length rs ≤ n → joined (remove_at (rank k rs) (spare_line w) (lines_of w s)) ≡ part_sheet (without k rs) n
    part_removed has room =
        ap (λ (t : List ℕ). joined (remove_at (rank k rs) (spare_line w) (lines_of w t))) (is ∙ part_is rs n fits)
        ∙ (removed_sheet w some text ranged text_wide k rs n order has fits room ∙ sym (part_is (without k rs) n (all_without k ranged rs fits)))

-- the parts of one line
pub plain_alone_lem : (l : List ℕ) → length l ≡ record_bytes → plain_part l ≡ plain_line l
unfolding plain_part
plain_alone_lem l e = one-part plain_bytes (omega arith) plain_line length-plain_line l e

pub bookkeeping_alone_lem : (l : List ℕ) → length l ≡ record_bytes → bookkeeping_part l ≡ bookkeeping_line l
unfolding bookkeeping_part
bookkeeping_alone_lem l e = one-part bookkeeping_bytes (omega arith) bookkeeping_line length-bookkeeping_line l e
