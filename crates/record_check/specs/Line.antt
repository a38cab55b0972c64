-- A line of the record sheet, as the code judges it: the parts of its kind, the relations that it asks for, and the clock. Both this and the plain
-- rule are the line read by the widest ranges, with limits on its numbers. In a line that can be read, the bytes that tell its kind are those of its
-- state and its before state.
use Rattle.std.specs.Prelude.{◌≡◌, ◌+◌, ◌≤◌, ◌<◌, ◌&&◌}
use Rattle.std.proofs.Common.{◌∙◌}
use Rattle.lists.specs.Basics.{refl, sym, ap, ap₂, ℕ, Bool, true, false, true≢false, and_assoc, List}
use Rattle.lists.specs.Basics.{map, length, take, drop, get_or, length-take, length-drop, take-take, get_or-take, get_or-drop, arith, all, eq_list, bytes}
use Rattle.lists.specs.Basics.{eq_list_refl, and_fst, and_snd, and_both, same_test, tests}
use Rattle.lists.specs.All.{all_at}
use Rattle.lists.specs.Tests.{and_same, and_move}
use Rattle.model.specs.Types.{StateWord, BeforeWord}
use Rattle.model.specs.Layouts.{record_layout, words, word_at, no_column, word_bytes, offset, record_offset, state_field, before_state_field}
use Rattle.model.specs.Lines.{field_value, field_bytes, word_from, in_range, row_of, line_set, row_good}
use Rattle.model.specs.Records.{state_number, before_number, record_of, good_alone, record_in}
use Rattle.sheet_laws.specs.Fields.{column_ok, all_below, word_ok, is_the, field_written_read}
use Rattle.sheet_laws.specs.Lines.{line-length, line_written_read, field_at, field_at_lem, field_within}
use Rattle.sheet_laws.specs.Records.{record_layout_ok, line_numbers_lem}
use Rattle.line_bytes.specs.Parts.{parts_ok}
use Rattle.line_bytes.specs.Loads.{loaded}
use Rattle.record_check.specs.Ranges.{opened, line_held, set_is_held, same_row}
use Rattle.record_check.specs.Limits.{keeps, limited-line, limited-parts}
use Rattle.record_check.specs.States.{kinds, kind_at, kind_limits, open_layout, clock_limit, kind_parts, kind_says, record_opens, clock_narrow, clock_limited}
use Rattle.record_check.specs.States.{kind_word, prior_word, asked, kind_told, told-few, kind_for, rule, kind_rule}
use Rattle.record_check.specs.Asked.{asked_is}
use Rattle.record_check.specs.Relations.{clock_at, clock_fits, widest, clock_fits_lem, clock_low}

-- the line can be read, and its record is good alone
unfoldable pub line_good : List ℕ → Bool
line_good line = line_set record_layout line && good_alone (record_in line)

-- the bytes that tell the kind of a line: the front of its state word, and one byte of its before state
abbrev front_of : List ℕ → ℕ
front_of line = loaded (take 8 (drop (record_offset state_field) line))

abbrev mark_of : List ℕ → ℕ
mark_of line = get_or line (record_offset before_state_field + 3) 0

-- the kind that the line is of, if it is good
unfoldable pub kind_of : List ℕ → ℕ
kind_of line = kind_told (front_of line) (mark_of line)

-- it is in the table of kinds
pub kind_known : (line : List ℕ) → kind_of line < length kinds
unfolding kind_of
kind_known line = told-few (front_of line) (mark_of line)

-- the line has the words of kind k
unfoldable pub words_held : ℕ → List ℕ → Bool
words_held k line = eq_list (field_at state_field record_layout line) (kind_word k) && eq_list (field_at before_state_field record_layout line) (prior_word k)

module _ (line : List ℕ) (of-bytes : (i : ℕ) → get_or line i 0 < 256) where
  row : List ℕ
  row = row_of widest line

  good_held : line_good line ≡ (line_held record_layout line && rule row)
  unfolding line_good row
  good_held =
      and_same (line_set record_layout line) (good_alone (record_in line)) (rule row) alone
      ∙ ap (λ (x : Bool). x && rule row) (set_is_held record_layout line record_opens)
    where
      alone : line_set record_layout line ≡ true → good_alone (record_in line) ≡ rule row
      alone h =
          unfold good_alone in
          rw (line_numbers_lem line h, (line_written_read record_layout line record_layout_ok h).1)
          (unfold record_in record_of in ap rule (sym (same_row record_layout line record_opens h)))

  -- a field of a line that can be read has the bytes of its number
  field_read : (i : ℕ) → i < length widest → line_set widest line ≡ true
      → (field_at i widest line ≡ field_bytes (get_or widest i no_column) (get_or row i 0)) × (in_range (get_or widest i no_column) (get_or row i 0) ≡ true)
  unfolding row field_at all opened record_layout column_ok words all_below word_ok is_the field_value field_bytes word_from bytes
  field_read i l h =
      let whole = line-length widest line h in
      let within = field_within i widest l in
      let long : length (field_at i widest line) ≡ (get_or widest i no_column).width = simp (length-take, length-drop) (omega arith) in
      field_written_read (get_or widest i no_column) (field_at i widest line) (get_or row i 0) (all_at column_ok widest no_column i refl l) long (field_at_lem i widest line l h)

  -- and its words are those of two numbers
  state_word : line_set widest line ≡ true → (field_at state_field record_layout line ≡ word_at StateWord (get_or row state_field 0)) × (get_or row state_field 0 < length (words StateWord))
  unfolding field_at offset field_bytes in_range opened record_layout words
  state_word h =
      let r = field_read state_field (omega arith) h in
      let few : get_or row state_field 0 ≤ 2 = search (tests, r.1) in
      (r.0, omega arith)

  prior_word_lem : line_set widest line ≡ true
      → (field_at before_state_field record_layout line ≡ word_at BeforeWord (get_or row before_state_field 0)) × (get_or row before_state_field 0 < length (words BeforeWord))
  unfolding field_at offset field_bytes in_range opened record_layout words
  prior_word_lem h =
      let r = field_read before_state_field (omega arith) h in
      let few : get_or row before_state_field 0 ≤ 2 = search (tests, r.1) in
      (r.0, omega arith)

  kind_is : line_set widest line ≡ true → kind_of line ≡ kind_for (get_or row state_field 0) (get_or row before_state_field 0)
  unfolding kind_of kind_for field_at record_layout
  kind_is h =
      ap₂ (λ (t : List ℕ) (m : ℕ). kind_told (loaded t) m)
      (sym (take-take 8 word_bytes (drop (record_offset state_field) line) (omega arith)) ∙ ap (take 8) (state_word h).0)
      (sym (get_or-take word_bytes (drop (record_offset before_state_field) line) 3 0 (omega arith) ∙ get_or-drop (record_offset before_state_field) line 3 0)
      ∙ ap (λ (t : List ℕ). get_or t 3 0) (prior_word_lem h).0)

  -- the line with the clock up to the widest figure
  held : Bool
  held = line_set widest line && row_good open_layout row

  same-widest : map opened open_layout ≡ widest
  same-widest = unfold open_layout opened record_layout in refl

  -- what the parts of a kind say of it
  said : (k : ℕ) → k < length kinds → parts_ok (kind_parts (kind_at k)) line ≡ (held && all (keeps row) (kind_limits (kind_at k)))
  unfolding kind_parts row held
  said k l = rw same-widest at (limited-parts (kind_limits (kind_at k)) open_layout line (kind_says k l))

  -- a line that stands in them has its words
  words-said : (k : ℕ) → k < length kinds → parts_ok (kind_parts (kind_at k)) line ≡ true → words_held k line ≡ true
  unfolding words_held held all keeps kind_limits
  words-said k l g =
      let r = kind_at k in
      let f = sym (said k l) ∙ g in
      let h = and_fst (line_set widest line) (row_good open_layout row) (and_fst held (all (keeps row) (kind_limits r)) f) in
      let limits : all (keeps row) (kind_limits r) ≡ true = and_snd held (all (keeps row) (kind_limits r)) f in
      let a : state_number r.state ≤ get_or row state_field 0 = search (tests, limits) in
      let b : get_or row state_field 0 ≤ state_number r.state = search (tests, limits) in
      let c : before_number r.prior ≤ get_or row before_state_field 0 = search (tests, limits) in
      let d : get_or row before_state_field 0 ≤ before_number r.prior = search (tests, limits) in
      let s : get_or row state_field 0 ≡ state_number r.state = omega arith in
      let p : get_or row before_state_field 0 ≡ before_number r.prior = omega arith in
      rw ((state_word h).0, s, (prior_word_lem h).0, p) (and_both (eq_list_refl (kind_word k)) (eq_list_refl (prior_word k)))

  -- by its tables, and with a clock that begins below the highest one
  pub low_clock : (k : ℕ) → k < length kinds → parts_ok (kind_parts (kind_at k)) line ≡ true → get_or line (clock_at + 1) 0 < 52 → clock_fits line ≡ true
  unfolding held
  low_clock k n g l =
      clock_low line (and_fst (line_set widest line) (row_good open_layout row) (and_fst held (all (keeps row) (kind_limits (kind_at k))) (sym (said k n) ∙ g))) l

  -- the law: a line is good where it stands in the parts of its kind, and the relations hold
  pub line_is : line_good line
      ≡ (parts_ok (kind_parts (kind_at (kind_of line))) line && (asked (kind_of line) line && clock_fits line))
  unfolding row held asked
  line_is =
      good_held
      ∙ (ap (λ (x : Bool). x && rule row) bounded
      ∙ (and_move held (all (keeps row) clock_limit) (rule row)
      ∙ (and_assoc held (rule row) (all (keeps row) clock_limit)
      ∙ (and_same held (rule row && all (keeps row) clock_limit) (all (keeps row) (kind_limits (kind_at (kind_of line))) && fits)
      (λ g. let h = and_fst (line_set widest line) (row_good open_layout row) g in
      rw (kind_is h, asked_is line h of-bytes (kind_at (kind_for (get_or row state_field 0) (get_or row before_state_field 0))).relations, clock_fits_lem line h) (kind_rule row (state_word h).1 (prior_word_lem h).1))
      ∙ (sym (and_assoc held (all (keeps row) (kind_limits (kind_at (kind_of line)))) fits)
      ∙ ap (λ (x : Bool). x && fits) (sym (said (kind_of line) (kind_known line))))))))
    where
      fits : Bool
      fits = asked (kind_of line) line && clock_fits line

      bounded : line_held record_layout line ≡ (held && all (keeps row) clock_limit)
      bounded = rw (clock_limited, same-widest) at (limited-line clock_limit open_layout line clock_narrow)

  -- so that a line without the words of its kind is not good
  pub wordless : words_held (kind_of line) line ≡ false → line_good line ≡ false
  wordless e =
      let k = kind_of line in
      same_test (line_good line) false
      (λ g. sym e ∙ words-said k (kind_known line) (and_fst (parts_ok (kind_parts (kind_at k)) line) (asked k line && clock_fits line) (sym line_is ∙ g)))
      (λ g. absurd (true≢false (sym g)))

  -- the law by the number of its kind, and where its tests but the clock's have passed
  module _ (k : ℕ) (is : k ≡ kind_of line) where
    pub line_for : line_good line ≡ (parts_ok (kind_parts (kind_at k)) line && (asked k line && clock_fits line))
    line_for = rw is line_is

    pub by_clock : parts_ok (kind_parts (kind_at k)) line ≡ true → asked k line ≡ true → line_good line ≡ clock_fits line
    by_clock stood related = line_for ∙ rw (stood, related)
