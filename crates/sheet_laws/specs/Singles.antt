-- Single fields of a line by its index, each read without the others: a figure of an accepted record sheet by its digits, and a word of any sheet by
-- its bytes. The bytes at a field's offset are those of the field, and past the last line every number is 0.
use Rattle.std.specs.Prelude.{◌≡◌, ◌+◌, ◌*◌, ◌/◌, ◌^◌, ◌≤◌, ◌<◌, ◌&&◌, Option, Some, None}
use Rattle.std.proofs.Common.{◌∙◌}
use Rattle.lists.specs.Basics.{refl, sym, ap, ap₂, subst, ℕ, zero, suc, eqb, leb, ltb, Bool, true, false, cond, List}
use Rattle.lists.specs.Basics.{length, take, drop, get_or, length-take, length-drop, take_all, arith, eqb-true, ne_eqb, leb-true, ltb-true, ltb-false, all, eq_list, and_snd}
use Rattle.lists.specs.Basics.{choose_by}
use Rattle.lists.specs.All.{all_at}
use Rattle.decimal.specs.Field.{number}
use Rattle.decimal.specs.Digits.{digits, figure_at}
use Rattle.model.specs.Types.{Record, Undecided, Committed, Aborted, Column, StateWord, BeforeWord, DecisionWord}
use Rattle.types.specs.declared.State.TheVariants.{Prepared}
use Rattle.types.specs.declared.State.TheVariants as InState
use Rattle.types.specs.declared.Before.TheVariants as Was
use Rattle.model.specs.Layouts.{record_layout, line_layout, decision_column, no_column, word_at, word, state_field, before_state_field, decision_field, offset, record_offset, record_width}
use Rattle.model.specs.Layouts.{record_bytes, record_fields, coordinator_bytes, word_bytes}
use Rattle.model.specs.Lines.{in_range, field_value, field_bytes, line_set}
use Rattle.model.specs.Records.{no_record, by_state, state_number, before_number, state_of, before_of, key_numbers, image_numbers, record_numbers, record_of, record_in, records, records_accepted}
use Rattle.model.specs.Images.{is_prepared, state_kept, state_back}
use Rattle.model.specs.Coordinator.{decision_number, decision_of, decision, decision_in, coordinator_of}
use Rattle.sheet_laws.specs.Fields.{all_below, below, column_ok, field_written_read, field_is, is_the, is_figure}
use Rattle.sheet_laws.specs.Lines.{layout_ok, row-in_range, field_at, row_at, field_there, field_within, digits_at}
use Rattle.sheet_laws.specs.Records.{record_layout_ok, record_bytes_lem, record_fields_lem, line_numbers_lem}
use Rattle.sheet_laws.specs.ByIndex.{record_at, record_past, line_set_lem}
use Rattle.sheet_laws.specs.Keys.{line-ranged}
use Rattle.sheet_laws.specs.Coordinator.{line-layout_ok}
use Rattle.sheet_laws.specs.Decisions.{decision_at}

-- every number past the last line is 0
no_number : (k : ℕ) → k < record_fields → get_or (record_numbers no_record) k 0 ≡ 0
unfolding all_below record_numbers key_numbers image_numbers state_number before_number
no_number k l = eqb-true (get_or (record_numbers no_record) k 0) 0 (below record_fields (λ (j : ℕ). eqb (get_or (record_numbers no_record) j 0) 0) refl k l)

-- no column holds more
columns-low : all (λ (c : Column). leb c.high 4294967295) record_layout ≡ true
unfolding all record_layout
columns-low = refl

-- A field of a line that can be read: its number is in its column's range, and a figure is what its digits make.
module _ (line : List ℕ) (set : line_set record_layout line ≡ true) (k : ℕ) (field : k < record_fields) where
  pub line_number_lem : get_or (record_numbers (record_in line)) k 0 ≤ (get_or record_layout k no_column).high
  unfolding in_range
  line_number_lem =
      let c = get_or record_layout k no_column in
      let v = get_or (record_numbers (record_in line)) k 0 in
      let l : k < length record_layout = omega (arith, record_fields_lem) in
      leb-true v c.high (and_snd (leb c.low v) (leb v c.high) (row-in_range record_layout (record_numbers (record_in line)) no_column k (line-ranged line set) l))

  pub line-figure : is_figure (get_or record_layout k no_column) ≡ true → digits (field_at k record_layout line) ≡ get_or (record_numbers (record_in line)) k 0
  line-figure f =
      let l : k < length record_layout = omega (arith, record_fields_lem) in
      digits_at k record_layout line l f set ∙ ap (λ (v : List ℕ). get_or v k 0) (sym (line_numbers_lem line set))

-- a number that was read in line i as that of field k: the record's, and it fits
pub record Told (s : List ℕ) (i k v : ℕ) : Type 0 where
  pub is : v ≡ get_or (record_numbers (get_or (records s) i no_record)) k 0
  pub fits : v < 2 ^ 32

-- The figure of field k in line i of an accepted sheet.
module _ (s : List ℕ) (i k : ℕ) (accepted : records_accepted s ≡ true) (field : k < record_fields) where
  figure-there : is_figure (get_or record_layout k no_column) ≡ true → i < length s / record_bytes → Told s i k (figure_at (i * record_bytes + record_offset k) (record_width k) s)
  figure-there f inside =
      let line = take record_bytes (drop (i * record_bytes) s) in
      let set = line_set_lem s i accepted inside in
      let l : k < length record_layout = omega (arith, record_fields_lem) in
      let w : record_offset k + record_width k ≤ record_bytes = omega (arith, field_within k record_layout l, record_bytes_lem) in
      let v : figure_at (i * record_bytes + record_offset k) (record_width k) s ≡ get_or (record_numbers (record_in line)) k 0 =
      ap digits (field_there k record_bytes (i * record_bytes) record_layout s w) ∙ line-figure line set k field f in
      let m = line_number_lem line set k field in
      let h : (get_or record_layout k no_column).high ≤ 4294967295 =
      leb-true (get_or record_layout k no_column).high 4294967295 (all_at (λ (d : Column). leb d.high 4294967295) record_layout no_column k columns-low l) in
      record { is = v ∙ ap (λ (r : Record). get_or (record_numbers r) k 0) (sym (record_at s i inside)); fits = omega arith }

  pub figure-told : (v : ℕ) → is_figure (get_or record_layout k no_column) ≡ true
      → v ≡ cond (ltb i (length s / record_bytes)) (figure_at (i * record_bytes + record_offset k) (record_width k) s) 0 → Told s i k v
  figure-told v f e =
      subst (Told s i k) (sym e)
      (choose_by (Told s i k) (ltb i (length s / record_bytes))
      (λ h. figure-there f (ltb-true i (length s / record_bytes) h))
      (λ h.
      let q = ap (λ (r : Record). get_or (record_numbers r) k 0) (record_past s i (ltb-false i (length s / record_bytes) h)) ∙ no_number k field in
      record { is = sym q; fits = omega arith }))

-- A word in a line of w bytes of any sheet: its bytes are those of word n exactly if the field holds n, which is then in range.
module _ (k w at : ℕ) (cs : List Column) (s : List ℕ) (ok : layout_ok cs ≡ true) (field : k < length cs)
    (within : offset k cs + (get_or cs k no_column).width ≤ w) (room : at + w ≤ length s) where
  sized : length (field_at k cs (take w (drop at s))) ≡ (get_or cs k no_column).width
  unfolding field_at
  sized = simp (length-take, length-drop) (omega arith)

  column_ok_lem : column_ok (get_or cs k no_column) ≡ true
  column_ok_lem = all_at column_ok cs no_column k ok field

  word-there : (n : ℕ) → in_range (get_or cs k no_column) n ≡ true
      → eq_list (take (get_or cs k no_column).width (drop (at + offset k cs) s)) (field_bytes (get_or cs k no_column) n)
      ≡ is_the n (field_value (get_or cs k no_column) (field_at k cs (take w (drop at s))))
  word-there n r =
      ap (λ (t : List ℕ). eq_list t (field_bytes (get_or cs k no_column) n)) (field_there k w at cs s within)
      ∙ field_is (get_or cs k no_column) (field_at k cs (take w (drop at s))) n column_ok_lem r sized

  number-ranged : (v : ℕ) → field_value (get_or cs k no_column) (field_at k cs (take w (drop at s))) ≡ Some v → in_range (get_or cs k no_column) v ≡ true
  number-ranged v e = (field_written_read (get_or cs k no_column) (field_at k cs (take w (drop at s))) v column_ok_lem sized e).1

-- no number above 2 is that of one of three words
past_words : (v : ℕ) → (leb 0 (suc (suc (suc v))) && leb (suc (suc (suc v))) 2) ≡ true → ⊥
past_words v h = let l : suc (suc (suc v)) ≤ 2 = leb-true (suc (suc (suc v))) 2 (and_snd (leb 0 (suc (suc (suc v)))) _ h) in omega arith

-- pending is told by the word PREPARED
state_told : (x : Option ℕ) → ((v : ℕ) → x ≡ Some v → in_range (word word_bytes StateWord 2) v ≡ true) → is_the 2 x ≡ by_state (state_of (number x)) false false true
unfolding is_the state_of in_range
state_told None b = refl
state_told (Some zero) b = refl
state_told (Some (suc zero)) b = refl
state_told (Some (suc (suc zero))) b = refl
state_told (Some (suc (suc (suc v)))) b =
    absurd (past_words v (b (suc (suc (suc v))) refl))

pub prepared-told : (s : List ℕ) (i : ℕ) → i < length s / record_bytes
    → eq_list (take (record_width state_field) (drop (i * record_bytes + record_offset state_field) s)) (word_at StateWord (state_number Prepared)) ≡ is_prepared (get_or (records s) i no_record)
unfolding record_in record_of record_layout offset field_bytes state_number in_range
prepared-told s i inside =
    let line = take record_bytes (drop (i * record_bytes) s) in
    let x = field_value (get_or record_layout state_field no_column) (field_at state_field record_layout line) in
    let room : i * record_bytes + record_bytes ≤ length s = omega arith in
    word-there state_field record_bytes (i * record_bytes) record_layout s record_layout_ok (omega arith) (omega arith) room 2 refl
    ∙ (state_told x (number-ranged state_field record_bytes (i * record_bytes) record_layout s record_layout_ok (omega arith) (omega arith) room)
    ∙ (ap (λ (n : ℕ). by_state (state_of n) false false true) (sym (row_at state_field record_layout line (omega arith)))
    ∙ ap is_prepared (sym (record_at s i inside))))

-- what a line leaves as its before state, and the state that one gives back, are told by the word COMMITTED
kept_from : (x : Option ℕ) → cond (is_the 1 x) Was.Committed Was.Absent ≡ state_kept (state_of (number x))
unfolding is_the state_of
kept_from None = refl
kept_from (Some zero) = refl
kept_from (Some (suc zero)) = refl
kept_from (Some (suc (suc v))) = ap (λ (b : Bool). cond b Was.Committed Was.Absent) (ne_eqb (suc (suc v)) 1 (λ e. omega (arith, e)))

pub kept_told : (line : List ℕ) → length line ≡ record_bytes
    → cond (eq_list (take word_bytes (drop (record_offset state_field) line)) (word_at StateWord (state_number InState.Committed))) Was.Committed Was.Absent ≡ state_kept (record_in line).state
unfolding record_in record_of record_layout offset field_bytes state_number in_range
kept_told line n =
    let all-of-it : take record_bytes line ≡ line = take_all record_bytes line (omega arith) in
    let x = field_value (get_or record_layout state_field no_column) (field_at state_field record_layout line) in
    let told = word-there state_field record_bytes 0 record_layout line record_layout_ok (omega arith) (omega arith) (omega arith) 1 refl in
    ap (λ (b : Bool). cond b Was.Committed Was.Absent) (told ∙ ap (λ (l : List ℕ). is_the 1 (field_value (get_or record_layout state_field no_column) (field_at state_field record_layout l))) all-of-it)
    ∙ (kept_from x ∙ ap (λ (v : ℕ). state_kept (state_of v)) (sym (row_at state_field record_layout line (omega arith))))

back_from : (x : Option ℕ) → ((v : ℕ) → x ≡ Some v → in_range (word word_bytes BeforeWord 2) v ≡ true) → cond (is_the 2 x) InState.Committed InState.Absent ≡ state_back (before_of (number x))
unfolding is_the before_of in_range
back_from None b = refl
back_from (Some zero) b = refl
back_from (Some (suc zero)) b = refl
back_from (Some (suc (suc zero))) b = refl
back_from (Some (suc (suc (suc v)))) b =
    absurd (past_words v (b (suc (suc (suc v))) refl))

pub back_told : (s : List ℕ) (i : ℕ) → i < length s / record_bytes
    → cond (eq_list (take (record_width before_state_field) (drop (i * record_bytes + record_offset before_state_field) s)) (word_at BeforeWord (before_number Was.Committed))) InState.Committed InState.Absent ≡ state_back (get_or (records s) i no_record).prior
unfolding record_in record_of record_layout offset field_bytes before_number in_range
back_told s i inside =
    let line = take record_bytes (drop (i * record_bytes) s) in
    let x = field_value (get_or record_layout before_state_field no_column) (field_at before_state_field record_layout line) in
    let room : i * record_bytes + record_bytes ≤ length s = omega arith in
    ap (λ (b : Bool). cond b InState.Committed InState.Absent) (word-there before_state_field record_bytes (i * record_bytes) record_layout s record_layout_ok (omega arith) (omega arith) room 2 refl)
    ∙ (back_from x (number-ranged before_state_field record_bytes (i * record_bytes) record_layout s record_layout_ok (omega arith) (omega arith) room)
    ∙ (ap (λ (n : ℕ). state_back (before_of n)) (sym (row_at before_state_field record_layout line (omega arith)))
    ∙ ap (λ (r : Record). state_back r.prior) (sym (record_at s i inside))))

-- a decision is told by the words COMMITTED and ABORTED
decision-from : (x : Option ℕ) → ((v : ℕ) → x ≡ Some v → in_range decision_column v ≡ true) → decision_of (number x) ≡ cond (is_the 1 x) Committed (cond (is_the 2 x) Aborted Undecided)
unfolding is_the decision_of in_range
decision-from None b = refl
decision-from (Some zero) b = refl
decision-from (Some (suc zero)) b = refl
decision-from (Some (suc (suc zero))) b = refl
decision-from (Some (suc (suc (suc v)))) b =
    absurd (past_words v (b (suc (suc (suc v))) refl))

-- the word in the line of number n
abbrev pub decision_word : ℕ → List ℕ → List ℕ
decision_word n s = take decision_column.width (drop (n * coordinator_bytes + offset decision_field line_layout) s)

pub decision-told : (s : List ℕ) (i : ℕ) → i < length (drop coordinator_bytes s) / coordinator_bytes
    → decision (suc i) (coordinator_of s)
    ≡ cond (eq_list (decision_word (suc i) s) (word_at DecisionWord (decision_number Committed))) Committed
    (cond (eq_list (decision_word (suc i) s) (word_at DecisionWord (decision_number Aborted))) Aborted Undecided)
unfolding decision_in line_layout offset field_bytes decision_number in_range
decision-told s i inside =
    let at = suc i * coordinator_bytes in
    let line = take coordinator_bytes (drop at s) in
    let x = field_value (get_or line_layout decision_field no_column) (field_at decision_field line_layout line) in
    let room : at + coordinator_bytes ≤ length s = omega (arith, length-drop coordinator_bytes s) in
    let is = word-there decision_field coordinator_bytes at line_layout s line-layout_ok (omega arith) (omega arith) room in
    decision_at s i inside
    ∙ (ap decision_of (row_at decision_field line_layout line (omega arith))
    ∙ (decision-from x (number-ranged decision_field coordinator_bytes at line_layout s line-layout_ok (omega arith) (omega arith) room)
    ∙ ap₂ (λ (p q : Bool). cond p Committed (cond q Aborted Undecided)) (sym (is 1 refl)) (sym (is 2 refl))))
