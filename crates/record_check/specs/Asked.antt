-- What a kind of line asks for besides its limits: relations between two fields, by the bytes of a line and by its numbers. A figure is 0 where its last two
-- columns are ` 0`, since no other figure ends so.
use Rattle.std.specs.Prelude.{◌≡◌, ◌+◌, ◌-◌, ◌/◌, ◌%◌, ◌<◌, ◌&&◌, ◌∷◌}
use Rattle.std.proofs.Common.{◌∙◌}
use Rattle.lists.specs.Basics.{refl, sym, ap, ap₂, ℕ, eqb, leb, Bool, true, false, cond, List, [], length, take}
use Rattle.lists.specs.Basics.{drop, get_or, length-take, length-drop, drop-drop, arith, eqb-true, eqb-false, eq-eqb, le-leb, all, eq_list, bytes, same_test, choose_by}
use Rattle.lists.specs.Basics.{tests}
use Rattle.std.specs.Bool.{beq}
use Rattle.lists.specs.Pieces.{take-drop-take}
use Rattle.decimal.specs.Scan.Scan.{Blank, Number}
use Rattle.decimal.specs.Field.{scanned, column_byte, ahead, field_text}
use Rattle.decimal.specs.Laws.{scan_written}
use Rattle.model.specs.Layouts.{record_layout, no_column, record_bytes, offset, record_offset, record_width, image_field, txid_field, before_field}
use Rattle.model.specs.Lines.{row_of, line_set}
use Rattle.sheet_laws.specs.Fields.{is_figure, scan_of}
use Rattle.sheet_laws.specs.Lines.{line_bytes, line-length, field_at, field_at_lem}
use Rattle.line_bytes.specs.Order.{part_bytes}
use Rattle.line_bytes.specs.Loads.{loaded, loaded_equal}
use Rattle.record_check.specs.Ranges.{opened}
use Rattle.record_check.specs.Relations.{version_at, before_at, version_bytes, follows, widest, follows_is}

-- "version = before version + 1", and "version and TxID, each 0 or each at least 1", of the line's own image and of the one before it
pub data Relation : Type 0 where
  follow : Relation
  agree : Relation
  agree_before : Relation

-- the columns of a TxID
abbrev txid_bytes : ℕ
txid_bytes = record_width txid_field

-- By the numbers of a line.

abbrev pub version_follows : List ℕ → Bool
version_follows v = eqb (get_or v image_field 0) (get_or v before_field 0 + 1)

-- the zeros of the image whose numbers start at number i
abbrev pub numbers_agree : ℕ → List ℕ → Bool
numbers_agree i v = cond (eqb (get_or v i 0) 0) (eqb (get_or v (i + 1) 0) 0) (leb 1 (get_or v (i + 1) 0))

unfoldable pub holds_in : List ℕ → Relation → Bool
holds_in v follow = version_follows v
holds_in v agree = numbers_agree image_field v
holds_in v agree_before = numbers_agree before_field v

-- By the bytes of a line.

-- the last two columns of a figure that is 0
unfoldable pub zero_end : List ℕ
zero_end = bytes " 0"

-- the figure whose columns end before byte `end` is 0
unfoldable pub zero_up_to : ℕ → List ℕ → Bool
zero_up_to end line = eq_list (take 2 (drop (end - 2) line)) zero_end

-- version and TxID of the image at `at` are both 0, or neither is
unfoldable pub zeros_agree : ℕ → List ℕ → Bool
zeros_agree at line = beq (zero_up_to (at + version_bytes) line) (zero_up_to (at + version_bytes + txid_bytes) line)

unfoldable pub holds_on : List ℕ → Relation → Bool
holds_on line follow = follows line
holds_on line agree = zeros_agree version_at line
holds_on line agree_before = zeros_agree before_at line

-- The two say the same of a line that can be read.

-- the two columns as one number
pub zero_loaded : (line : List ℕ) (at : ℕ) → ((i : ℕ) → get_or line i 0 < 256) → length (take 2 (drop at line)) ≡ 2
    → eqb (loaded (take 2 (drop at line))) (loaded zero_end) ≡ eq_list (take 2 (drop at line)) zero_end
unfolding zero_end bytes
zero_loaded line at h n = loaded_equal (take 2 (drop at line)) zero_end (part_bytes line 2 at h) refl n

-- the last two columns of a figure are these where it is 0
ends_zero : (v : ℕ) → eq_list (column_byte (v / 10) ∷ (48 + v % 10) ∷ []) zero_end ≡ eqb v 0
unfolding zero_end bytes
ends_zero v =
    same_test (eq_list (column_byte (v / 10) ∷ (48 + v % 10) ∷ []) (bytes " 0")) (eqb v 0)
    (choose_by (λ (x : ℕ). (eqb x 32 && (eqb (48 + v % 10) 48 && true)) ≡ true → eqb v 0 ≡ true) (eqb (v / 10) 0)
    (λ e h. let z : 48 + v % 10 ≡ 48 = search tests in let q : v / 10 ≡ 0 = eqb-true (v / 10) 0 e in eq-eqb v 0 (omega arith))
    (λ e h. let y : 48 + v / 10 % 10 ≡ 32 = search tests in absurd (omega arith)))
    (λ e. let z : v ≡ 0 = eqb-true v 0 e in rw z)

-- two numbers are both 0 or neither is: "each 0 or each at least 1"
pub both_zero : (x y : ℕ) → beq (eqb x 0) (eqb y 0) ≡ cond (eqb x 0) (eqb y 0) (leb 1 y)
both_zero x y = go (eqb x 0) (eqb y 0) refl
  where
    go : (a b : Bool) → eqb y 0 ≡ b → beq a b ≡ cond a b (leb 1 y)
    go true true e = refl
    go true false e = refl
    go false true e = let z : y ≡ 0 = eqb-true y 0 e in rw z
    go false false e = let z = eqb-false y 0 e in sym (le-leb 1 y (omega arith))

module _ (line : List ℕ) (h : line_set widest line ≡ true) where
  row : List ℕ
  row = row_of widest line

  -- a figure of n + 2 columns, which end so
  zero_is : (at n v : ℕ) → at + (2 + n) < record_bytes → take 2 (drop n (field_text (2 + n) v)) ≡ column_byte (v / 10) ∷ (48 + v % 10) ∷ []
      → scanned Blank (take (2 + n) (drop at line)) ≡ Number v → zero_up_to (at + (2 + n)) line ≡ eqb v 0
  unfolding zero_up_to line_bytes opened record_layout
  zero_is at n v l ends reads =
      let whole : length line ≡ record_bytes = line-length widest line h in
      let t = take (2 + n) (drop at line) in
      let long : length t ≡ 2 + n = simp (length-take, length-drop) (omega arith) in
      let text : t ≡ field_text (2 + n) v = rw long at (scan_written t v reads).0 in
      let from : at + (2 + n) - 2 ≡ at + n = omega arith in
      let last : take 2 (drop (at + n) line) ≡ take 2 (drop n t) =
      sym (take-drop-take 2 n (2 + n) (drop at line) (omega arith) ∙ ap (take 2) (drop-drop n at line)) in
      rw from (ap (λ (u : List ℕ). eq_list u zero_end) (last ∙ (ap (λ (u : List ℕ). take 2 (drop n u)) text ∙ ends)) ∙ ends_zero v)

  reads : (i : ℕ) → i < length widest → is_figure (get_or widest i no_column) ≡ true → scanned Blank (field_at i widest line) ≡ Number (get_or row i 0)
  unfolding row
  reads i l f = scan_of (get_or widest i no_column) (field_at i widest line) (get_or row i 0) f (field_at_lem i widest line l h)

  agree_is : zeros_agree version_at line ≡ numbers_agree image_field row
  unfolding zeros_agree offset field_at opened record_layout field_text ahead row
  agree_is =
      rw (
        zero_is version_at 4 (get_or row image_field 0) (omega arith) refl (reads image_field (omega arith) refl),
        zero_is (record_offset txid_field) 2 (get_or row txid_field 0) (omega arith) refl (reads txid_field (omega arith) refl),
      )
      (both_zero (get_or row image_field 0) (get_or row txid_field 0))

  agree-before : zeros_agree before_at line ≡ numbers_agree before_field row
  unfolding zeros_agree offset field_at opened record_layout field_text ahead row
  agree-before =
      rw (
        zero_is before_at 4 (get_or row before_field 0) (omega arith) refl (reads before_field (omega arith) refl),
        zero_is (record_offset (before_field + 1)) 2 (get_or row (before_field + 1) 0) (omega arith) refl (reads (before_field + 1) (omega arith) refl),
      )
      (both_zero (get_or row before_field 0) (get_or row (before_field + 1) 0))

  holds_is : ((i : ℕ) → get_or line i 0 < 256) → (q : Relation) → holds_on line q ≡ holds_in row q
  unfolding holds_on holds_in row
  holds_is b follow = follows_is line b h
  holds_is b agree = agree_is
  holds_is b agree_before = agree-before

  pub asked_is : ((i : ℕ) → get_or line i 0 < 256) → (qs : List Relation) → all (holds_on line) qs ≡ all (holds_in (row_of widest line)) qs
  unfolding all row
  asked_is b [] = refl
  asked_is b (q ∷ qs) = ap₂ ◌&&◌ (holds_is b q) (asked_is b qs)
