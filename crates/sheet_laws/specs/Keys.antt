-- A key as text: the first twenty bytes of its line. Two keys in range are the same where their texts are, since a key line
-- reads as its key.
use Rattle.std.specs.Prelude.{◌≡◌, ◌&&◌, ◌∷◌, ◌++◌}
use Rattle.std.proofs.Common.{◌∙◌}
use Rattle.lists.specs.Basics.{refl, sym, ap, ℕ, Bool, true, and_assoc, and-true, List, [], append-nil, length, take, drop, get_or, take_at, arith, all, eq_list}
use Rattle.lists.specs.Basics.{eq_list-true, eq_list_refl, and_fst, and_snd, and_both, same_test}
use Rattle.model.specs.Types.{Key, Record, Column}
use Rattle.model.specs.Layouts.{record_layout, key_layout, no_column, state_field, offset, key_bytes}
use Rattle.model.specs.Lines.{in_range, line_text, line_set, row_of, row_good}
use Rattle.model.specs.Records.{key_numbers, image_numbers, record_numbers, record_in, record_text, key_in_range, same_key}
use Rattle.sheet_laws.specs.Fields.{column_ok}
use Rattle.sheet_laws.specs.Spans.{fields_text, line_split, length-fields_text, front-there}
use Rattle.sheet_laws.specs.Lines.{layout_ok, line_written_read, row_read_written}
use Rattle.sheet_laws.specs.Records.{ranged, record_layout_ok, record_wide, line_numbers_lem, record_written_read}

-- the line of a key alone
abbrev pub key_line : Key → List ℕ
key_line k = line_text key_layout (key_numbers k)

-- a row in range is in range in its first fields
row_split : (cs ds : List Column) (vs : List ℕ) → row_good (cs ++ ds) vs ≡ true → row_good cs vs ≡ true
unfolding row_good
row_split [] ds vs h = refl
row_split (c ∷ cs) ds vs h =
    and_both (and_fst (in_range c (get_or vs 0 0)) (row_good (cs ++ ds) (drop 1 vs)) h)
    (row_split cs ds (drop 1 vs) (and_snd (in_range c (get_or vs 0 0)) (row_good (cs ++ ds) (drop 1 vs)) h))

-- a key's twenty bytes
abbrev pub key_text : Key → List ℕ
key_text k = fields_text key_layout (key_numbers k)

key_layout_ok : layout_ok key_layout ≡ true
unfolding all column_ok key_layout record_layout
key_layout_ok = refl

key_line_lem : (k : Key) → key_line k ≡ key_text k ++ (10 ∷ [])
unfolding line_text
key_line_lem k = ap (λ (ds : List Column). line_text ds (key_numbers k)) (sym (append-nil key_layout)) ∙ line_split key_layout [] (key_numbers k)

length-key_text : (k : Key) → length (key_text k) ≡ key_bytes
unfolding key_layout record_layout offset
length-key_text k = length-fields_text state_field record_layout (key_numbers k) record_wide

pub key_line-text : (k : Key) → take key_bytes (key_line k) ≡ key_text k
key_line-text k = ap (take key_bytes) (key_line_lem k) ∙ take_at (key_text k) (10 ∷ []) key_bytes (length-key_text k)

key_count : (k : Key) → length (key_numbers k) ≡ length key_layout
unfolding key_numbers key_layout record_layout
key_count k = refl

-- keys in range that have the same text are the same
pub key_of-text : (a b : Key) → key_in_range a ≡ true → key_in_range b ≡ true → key_text a ≡ key_text b → key_numbers a ≡ key_numbers b
unfolding key_in_range
key_of-text a b g h e =
    let l : key_line a ≡ key_line b = key_line_lem a ∙ (ap (λ (t : List ℕ). t ++ (10 ∷ [])) e ∙ sym (key_line_lem b)) in
    sym (row_read_written key_layout (key_numbers a) key_layout_ok g (key_count a))
    ∙ (ap (row_of key_layout) l ∙ row_read_written key_layout (key_numbers b) key_layout_ok h (key_count b))

-- a key is in range if each of its numbers is in its column's
pub key_tests : (k : Key) (a b c d e : Bool)
    → a ≡ in_range (get_or key_layout 0 no_column) k.storage
    → b ≡ in_range (get_or key_layout 1 no_column) k.namespace
    → c ≡ in_range (get_or key_layout 2 no_column) k.table
    → d ≡ in_range (get_or key_layout 3 no_column) k.partition
    → e ≡ in_range (get_or key_layout 4 no_column) k.clustering
    → (a && b && c && d && e) ≡ key_in_range k
unfolding key_in_range row_good key_layout record_layout key_numbers
key_tests k a b c d e p q r s t =
    let n : (a && b && c && d && e) ≡ (a && (b && (c && (d && (e && true))))) = simp (and_assoc, and-true) in
    n ∙ rw (p, q, r, s, t)

-- the key of a record in range is in range
pub key_ranged : (r : Record) → ranged r ≡ true → key_in_range r.key ≡ true
unfolding key_in_range record_numbers key_numbers image_numbers key_layout record_layout row_good
key_ranged r g = row_split (take 5 record_layout) (drop 5 record_layout) (record_numbers r) g

-- The key of a line that can be read.
module _ (line : List ℕ) (set : line_set record_layout line ≡ true) where
  pub line-ranged : ranged (record_in line) ≡ true
  line-ranged = rw (line_numbers_lem line set) (line_written_read record_layout line record_layout_ok set).1

  pub line-key_text : take key_bytes line ≡ key_text (record_in line).key
  unfolding record_text record_numbers key_numbers record_layout key_layout fields_text offset
  line-key_text =
      ap (take key_bytes) (sym (record_written_read line set))
      ∙ front-there state_field record_layout (record_numbers (record_in line)) record_wide (omega arith)

  -- the line has the key k exactly if it begins with the text of k
  pub key_same : (k : Key) → key_in_range k ≡ true → eq_list (take key_bytes line) (key_text k) ≡ same_key (record_in line).key k
  unfolding same_key
  key_same k h =
      same_test (eq_list (take key_bytes line) (key_text k)) (eq_list (key_numbers (record_in line).key) (key_numbers k))
      (λ e.
      let n : key_numbers (record_in line).key ≡ key_numbers k =
      key_of-text (record_in line).key k (key_ranged (record_in line) line-ranged) h (sym line-key_text ∙ eq_list-true (take key_bytes line) (key_text k) e) in
      ap (λ (t : List ℕ). eq_list t (key_numbers k)) n ∙ eq_list_refl (key_numbers k))
      (λ e.
      let n : take key_bytes line ≡ key_text k = line-key_text ∙ ap (fields_text key_layout) (eq_list-true (key_numbers (record_in line).key) (key_numbers k) e) in
      ap (λ (t : List ℕ). eq_list t (key_text k)) n ∙ eq_list_refl (key_text k))
