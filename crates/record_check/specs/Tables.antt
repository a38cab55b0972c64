-- The tables of the kinds of line as the code holds them, three rows for each kind one after another. The law of the pass over tables applies to the
-- three rows of a kind: that they stand where the code reads them, and that the kind's parts are such that it does, is computed for every kind. The code goes
-- over a line in two parts.
use Rattle.std.specs.Prelude.{◌≡◌, ◌+◌, ◌-◌, ◌*◌, ◌<◌, ◌&&◌, ◌∷◌, ◌++◌, ◌≤◌}
use Rattle.std.proofs.Common.{◌∙◌}
use Rattle.lists.specs.Basics.{refl, sym, ap, ap₂, ℕ, eqb, ltb, Bool, true, List, [], map, length, take, drop, get_or}
use Rattle.lists.specs.Basics.{get_or-map, length-take, length-drop, drop-drop, arith, all, joined, eq_list, bytes, eq_list-true, tests}
use Rattle.lists.specs.Pieces.{take-drop-take}
use Rattle.model.specs.Layouts.{record_layout, words, record_bytes, offset, record_offset, state_field, before_state_field, word_bytes}
use Rattle.model.specs.Lines.{field_bytes}
use Rattle.model.specs.Records.{state_number, before_number}
use Rattle.sheet_laws.specs.Fields.{all_below, below}
use Rattle.decimal.specs.Field.{field_text, ahead}
use Rattle.line_bytes.specs.Parts.{parts_ok}
use Rattle.line_bytes.specs.Tables.{Room, ColumnBytes, line_ok, fixed, columns, part_columns, layout_columns, lows, highs, alsos, part_set_well, set_well}
use Rattle.line_bytes.specs.Laws.{framed_is, room_is}
use Rattle.line_bytes.specs.Order.{bytes_at}
use Rattle.record_check.specs.Ranges.{opened}
use Rattle.record_check.specs.LayoutParts.{column_part, layout_parts}
use Rattle.record_check.specs.Limits.{narrowed, limited}
use Rattle.record_check.specs.Overlap.{part_room, two-parts}
use Rattle.record_check.specs.States.{LineKind, kinds, zeros, nothing_before, no_kind, kind_at, kind_limits, open_layout, kind_parts, kind_word, prior_word}

-- bytes of a row, one for each column but LF, and of the three rows of a kind
abbrev pub row_bytes : ℕ
row_bytes = record_bytes - 1

abbrev pub table_bytes : ℕ
table_bytes = 3 * row_bytes

-- the columns of a kind between the first, a space, and the last, LF
unfoldable pub middle : LineKind → List ColumnBytes
middle r = take (row_bytes - 1) (drop 1 (layout_columns (kind_parts r)))

-- the columns of a kind that the tables say
abbrev pub body : LineKind → List ColumnBytes
body r = fixed 32 ∷ middle r

-- the tables, as they are lent
unfoldable pub tables : List ℕ
tables = joined (map (λ (r : LineKind). lows (body r) ++ (highs (body r) ++ alsos (body r))) kinds)

-- a row of the tables, from a byte on
abbrev pub row : ℕ → List ℕ
row at = take row_bytes (drop at tables)

-- and a word there
abbrev pub word : ℕ → List ℕ
word at = take word_bytes (drop at tables)

-- the n columns of a line from a on, as the code judges them by the rows of kind k
unfoldable pub part_stands : (k a n : ℕ) (line : List ℕ) → Bool
part_stands k a n line =
    line_ok
    (bytes_at line n a)
    (bytes_at tables n (k * table_bytes + a))
    (bytes_at tables n (k * table_bytes + row_bytes + a))
    (bytes_at tables n (k * table_bytes + row_bytes + row_bytes + a))

-- the bytes of the first part of a line, and the column where the second begins
abbrev pub front_bytes : ℕ
front_bytes = 97

abbrev pub back_at : ℕ
back_at = row_bytes - 17

-- what is computed of kind k: its parts can be said by tables, which have room and stand where the code reads them, as do its words
fits : ℕ → Bool
fits k =
    set_well (kind_parts (kind_at k))
    && eqb (length (middle (kind_at k))) (row_bytes - 1)
    && all (λ (x : ℕ). ltb x 255) (lows (body (kind_at k)))
    && (eq_list (row (k * table_bytes)) (lows (body (kind_at k)))
    && eq_list (row (k * table_bytes + row_bytes)) (highs (body (kind_at k)))
    && eq_list (row (k * table_bytes + row_bytes + row_bytes)) (alsos (body (kind_at k)))
    && eq_list (word (k * table_bytes + record_offset state_field)) (kind_word k)
    && eq_list (word (k * table_bytes + record_offset before_state_field)) (prior_word k))

fit : (k : ℕ) → k < length kinds → fits k ≡ true
unfolding offset all all_below joined fits tables set_well part_set_well middle lows highs alsos kind_parts kind_limits kinds zeros nothing_before state_number before_number layout_parts column_part limited narrowed open_layout opened record_layout field_bytes field_text ahead words bytes layout_columns part_columns columns
fit k l = below (length kinds) fits refl k l

-- the columns of every kind are its body and LF
frames : map (λ (r : LineKind). layout_columns (kind_parts r)) (no_kind ∷ kinds) ≡ map (λ (r : LineKind). body r ++ (fixed 10 ∷ [])) (no_kind ∷ kinds)
unfolding middle kind_parts kind_limits kinds zeros nothing_before state_number before_number layout_parts column_part limited narrowed open_layout opened record_layout field_bytes field_text ahead words bytes layout_columns part_columns columns
frames = refl

pub tables-length : length tables ≡ length kinds * table_bytes
unfolding joined tables middle lows highs alsos kind_parts kind_limits kinds zeros nothing_before state_number before_number layout_parts column_part limited narrowed open_layout opened record_layout field_bytes field_text ahead words bytes layout_columns part_columns columns
tables-length = refl

module _ (k : ℕ) (l : k < length kinds) where
  low : row (k * table_bytes) ≡ lows (body (kind_at k))
  unfolding fits
  low = let h = fit k l in eq_list-true (row (k * table_bytes)) (lows (body (kind_at k))) (search tests)

  room : Room (row (k * table_bytes))
  unfolding fits
  room i = let h = fit k l in rw low (room_is (lows (body (kind_at k))) (search tests) i)

  -- the words of a kind stand in its first row
  pub table_state : word (k * table_bytes + record_offset state_field) ≡ kind_word k
  unfolding fits
  table_state = let h = fit k l in eq_list-true _ (kind_word k) (search tests)

  pub table_prior : word (k * table_bytes + record_offset before_state_field) ≡ prior_word k
  unfolding fits
  table_prior = let h = fit k l in eq_list-true _ (prior_word k) (search tests)

  -- a part of a row
  row-part : (at a n : ℕ) → a + n ≤ row_bytes → bytes_at tables n (at + a) ≡ bytes_at (row at) n a
  row-part at a n f = sym (take-drop-take n a row_bytes (drop at tables) f ∙ ap (take n) (drop-drop a at tables))

  pub tables_room : (a n : ℕ) → a + n ≤ row_bytes → Room (bytes_at tables n (k * table_bytes + a))
  tables_room a n f = rw (row-part (k * table_bytes) a n f) (part_room (row (k * table_bytes)) n a room)

  -- a part of a line is judged by parts of the rows
  part_is : (line : List ℕ) (a n : ℕ) → a + n ≤ row_bytes
      → part_stands k a n line
      ≡ line_ok
      (bytes_at (take row_bytes line) n a)
      (bytes_at (row (k * table_bytes)) n a)
      (bytes_at (row (k * table_bytes + row_bytes)) n a)
      (bytes_at (row (k * table_bytes + row_bytes + row_bytes)) n a)
  unfolding part_stands
  part_is line a n f =
      rw (
        take-drop-take n a row_bytes line f,
        row-part (k * table_bytes) a n f,
        row-part (k * table_bytes + row_bytes) a n f,
        row-part (k * table_bytes + row_bytes + row_bytes) a n f,
      )

  -- and both parts are the whole
  both-parts : (line : List ℕ) → length line ≡ record_bytes
      → (part_stands k 0 front_bytes line && part_stands k back_at (row_bytes - back_at) line)
      ≡ line_ok (take row_bytes line) (row (k * table_bytes)) (row (k * table_bytes + row_bytes)) (row (k * table_bytes + row_bytes + row_bytes))
  unfolding kinds
  both-parts line n =
      let at = k * table_bytes in
      let long : length (take row_bytes line) ≡ row_bytes = simp length-take (omega arith) in
      let low : length (row at) ≡ length (take row_bytes line) = simp (length-take, length-drop) (omega (arith, tables-length)) in
      let high : length (row (at + row_bytes)) ≡ length (take row_bytes line) = simp (length-take, length-drop) (omega (arith, tables-length)) in
      let also : length (row (at + row_bytes + row_bytes)) ≡ length (take row_bytes line) = simp (length-take, length-drop) (omega (arith, tables-length)) in
      ap₂ ◌&&◌ (part_is line 0 front_bytes (omega arith)) (part_is line back_at (row_bytes - back_at) (omega arith))
      ∙ two-parts (take row_bytes line) (row at) (row (at + row_bytes)) (row (at + row_bytes + row_bytes)) low high also back_at 6 10 long

  -- the line stands in the parts of a kind as the code judges it
  pub tables_are : (line : List ℕ) → length line ≡ record_bytes
      → (part_stands k 0 front_bytes line && part_stands k back_at (row_bytes - back_at) line && (eqb (get_or line 0 0) 32 && eqb (get_or line row_bytes 0) 10))
      ≡ parts_ok (kind_parts (kind_at k)) line
  unfolding fits
  tables_are line n =
      let h = fit k l in
      let r = kind_at k in
      let well : set_well (kind_parts r) ≡ true = search tests in
      let long : length (middle r) ≡ row_bytes - 1 = search tests in
      let high = eq_list-true (row (k * table_bytes + row_bytes)) (highs (body r)) (search tests) in
      let also = eq_list-true (row (k * table_bytes + row_bytes + row_bytes)) (alsos (body r)) (search tests) in
      let frame : layout_columns (kind_parts r) ≡ body r ++ (fixed 10 ∷ []) =
      sym (get_or-map (λ (q : LineKind). layout_columns (kind_parts q)) kinds k no_kind)
      ∙ (ap (λ (ps : List (List ColumnBytes)). get_or (drop 1 ps) k (get_or ps 0 [])) frames
      ∙ get_or-map (λ (q : LineKind). body q ++ (fixed 10 ∷ [])) kinds k no_kind) in
      rw (both-parts line n, low, high, also) (rw long at (framed_is (kind_parts r) (middle r) 32 10 line well frame (rw long n)))
