-- How the versions of a PREPARED line stand to each other, by their bytes, and the clock's bound, which no width says. Where the last digit of a
-- figure is no 9, the next figure has the same bytes but the last, which is one more; else the digits of a field make its number. The end of
-- the line orders as the clock does.
use Rattle.std.specs.Prelude.{◌≡◌, ◌+◌, ◌-◌, ◌/◌, ◌%◌, ◌^◌, ◌≤◌, ◌<◌, ◌∷◌, ◌++◌}
use Rattle.lists.specs.Basics.{refl, sym, ap, ℕ, suc, eqb, leb, ltb, Bool, true, false, not, cond, and-false}
use Rattle.lists.specs.Basics.{or-false, List, [], map, length, take, drop, get_or, length-append, length-take, length-drop, drop-drop, drop-cons}
use Rattle.lists.specs.Basics.{take-add, get_or-take, get_or-drop, arith, eqb-false, ltb-true, ltb-false, eq-eqb, ne_eqb, le-leb, lt-leb, le-ltb, less, eq_list}
use Rattle.lists.specs.Basics.{bytes, choose_by}
use Rattle.std.proofs.Common.{pow-suc, ◌∙◌}
use Rattle.std.proofs.Math.Seq.{take-length, get_or-append_seam}
use Rattle.std.proofs.Math.Pow.{are_bytes}
use Rattle.lists.specs.Order.{less-append}
use Rattle.decimal.specs.Scan.Scan.{Blank, Number}
use Rattle.decimal.specs.Field.{scanned, stepped, ahead, field_text}
use Rattle.decimal.specs.Laws.{figure_scan, scan_written, scan_text, length-field_text, field_text-bytes}
use Rattle.decimal.specs.Order.{order_bytes}
use Rattle.decimal.specs.Digits.{figure_at}
use Rattle.model.specs.Types.{Column}
use Rattle.model.specs.Layouts.{record_layout, no_column, record_bytes, offset, record_offset, record_width, image_field, before_field, clock_field}
use Rattle.model.specs.Lines.{field_value, row_of, line_set}
use Rattle.sheet_laws.specs.Fields.{scan_of}
use Rattle.sheet_laws.specs.Lines.{line_bytes, line-length, field_at, field_at_lem, digits_at, line_end_lem}
use Rattle.line_bytes.specs.Order.{part_bytes}
use Rattle.line_bytes.specs.Loads.{loaded, loaded-append, loaded_equal}
use Rattle.record_check.specs.Ranges.{opened}
use Rattle.record_check.specs.Keys.{equal_bytes}

-- where version, before version and clock begin
abbrev pub version_at : ℕ
version_at = record_offset image_field

abbrev pub before_at : ℕ
before_at = record_offset before_field

abbrev pub clock_at : ℕ
clock_at = record_offset clock_field

-- the columns of a version, and the last of before version
abbrev pub version_bytes : ℕ
version_bytes = record_width image_field

abbrev before_last : ℕ
before_last = before_at + (version_bytes - 1)

-- the highest clock as it ends a line
unfoldable pub highest_clock : List ℕ
highest_clock = bytes " 4294967295\n"

-- the end of the line, from the clock on, comes no later
unfoldable pub clock_fits : List ℕ → Bool
clock_fits line = not (less highest_clock (take 12 (drop clock_at line)))

-- "version = before version + 1": the bytes of before version with one more in the last, or, behind a 9, by their digits
unfoldable pub follows : List ℕ → Bool
follows line =
    cond
    (eqb (get_or line before_last 0) 57)
    (eqb (figure_at version_at version_bytes line) (figure_at before_at version_bytes line + 1))
    (eqb (loaded (take version_bytes (drop version_at line))) (loaded (take version_bytes (drop before_at line)) + 2 ^ 40))

-- the columns of a record line with the widest ranges
abbrev pub widest : List Column
widest = map opened record_layout

-- figures of one width, each with LF behind it
ended_order : (s t : List ℕ) (x y : ℕ)
    → scanned Blank s ≡ Number x → scanned Blank t ≡ Number y → length s ≡ length t
    → not (less (s ++ (10 ∷ [])) (t ++ (10 ∷ []))) ≡ leb y x
unfolding less
ended_order s t x y p q n =
    rw (less-append s t (10 ∷ []) (10 ∷ []) n, and-false (eq_list s t), or-false, order_bytes s t x y p q n) (go (ltb x y) refl)
  where
    go : (r : Bool) → ltb x y ≡ r → not r ≡ leb y x
    go true e = sym (lt-leb y x (ltb-true x y e))
    go false e = sym (le-leb y x (ltb-false x y e))

pub clock_fits_lem : (line : List ℕ) → line_set widest line ≡ true → clock_fits line ≡ leb (get_or (row_of widest line) clock_field 0) 4294967295
unfolding clock_fits highest_clock bytes scanned stepped offset field_at opened record_layout line_bytes
clock_fits_lem line h =
    let clock : List ℕ = take 11 (drop clock_at line) in
    let reads : scanned Blank clock ≡ Number (get_or (row_of widest line) clock_field 0) =
    scan_of (get_or widest clock_field no_column) clock (get_or (row_of widest line) clock_field 0) refl (field_at_lem clock_field widest line (omega arith) h) in
    let whole : length line ≡ record_bytes = line-length widest line h in
    let long : length clock ≡ 11 = simp (length-take, length-drop) (omega arith) in
    let lf : drop (record_bytes - 1) line ≡ 10 ∷ [] = line_end_lem widest line h in
    let ends : take 12 (drop clock_at line) ≡ clock ++ (10 ∷ []) = take-add 11 1 (drop clock_at line) ∙ rw (drop-drop 11 clock_at line, lf) in
    rw ends (ended_order (bytes " 4294967295") clock 4294967295 (get_or (row_of widest line) clock_field 0) refl reads (sym long))

-- a figure that leaves the first of eleven columns blank
blank-first : (v : ℕ) → v ≤ 9999999999 → get_or (field_text 11 v) 0 0 ≡ 32
unfolding field_text ahead
blank-first v l = rw (eq-eqb (v / 10 / 10 / 10 / 10 / 10 / 10 / 10 / 10 / 10 / 10) 0 (omega arith))

-- a clock whose second column is below `4`
pub clock_low : (line : List ℕ) → line_set widest line ≡ true → get_or line (clock_at + 1) 0 < 52 → clock_fits line ≡ true
unfolding clock_fits highest_clock bytes less field_value offset field_at opened record_layout line_bytes
clock_low line h l =
    let clock : List ℕ = take 11 (drop clock_at line) in
    let v = get_or (row_of widest line) clock_field 0 in
    let read = figure_scan 0 9999999999 clock v (field_at_lem clock_field widest line (omega arith) h) in
    let whole : length line ≡ record_bytes = line-length widest line h in
    let long : length clock ≡ 11 = simp (length-take, length-drop) (omega arith) in
    let text : clock ≡ field_text 11 v = rw long at (scan_written clock v read.0).0 in
    let first : get_or line clock_at 0 ≡ 32 =
    sym (get_or-take 11 (drop clock_at line) 0 0 (omega arith) ∙ get_or-drop clock_at line 0 0)
    ∙ (ap (λ (t : List ℕ). get_or t 0 0) text ∙ blank-first v read.1.1) in
    let b = get_or line (clock_at + 1) 0 in
    rw (drop-cons line clock_at 0 (omega arith), drop-cons line (clock_at + 1) 0 (omega arith), first, le-ltb 52 b (omega arith), ne_eqb 52 b (λ e. omega arith))

-- a figure that does not end in 9, and one that is to be the next
next_is : (w : ℕ) (s t : List ℕ) (x y : ℕ)
    → scanned Blank s ≡ Number x → scanned Blank t ≡ Number y → length s ≡ suc w → length t ≡ suc w
    → are_bytes s ≡ true → eqb (get_or t w 0) 57 ≡ false
    → eqb (loaded s) (loaded t + 256 ^ w) ≡ eqb x (y + 1)
unfolding field_text loaded
next_is w s t x y p q n m g h =
    let u = field_text (suc w) (y + 1) in
    let a = ahead w (y / 10) in
    let written = scan_written t y q in
    let text : t ≡ a ++ ((48 + y % 10) ∷ []) = rw m at written.0 in
    let room : y < 10 ^ suc w = rw m at written.1 in
    let long : length a ≡ w = omega (arith, length-field_text (suc w) y, length-append a ((48 + y % 10) ∷ [])) in
    let end : get_or t w 0 ≡ 48 + y % 10 = ap (λ (r : List ℕ). get_or r w 0) text ∙ rw long at (get_or-append_seam a (48 + y % 10) [] 0) in
    let nine : (get_or t w 0 ≡ 57 → ⊥) = eqb-false (get_or t w 0) 57 h in
    let tens : (y + 1) / 10 ≡ y / 10 = omega arith in
    let ones : (y + 1) % 10 ≡ y % 10 + 1 = omega arith in
    let next : u ≡ a ++ ((48 + (y % 10 + 1)) ∷ []) = rw (tens, ones) in
    let sum : loaded t + 256 ^ w ≡ loaded u =
    rw (text, next, loaded-append a ((48 + y % 10) ∷ []), loaded-append a ((48 + (y % 10 + 1)) ∷ []), long) (omega arith) in
    let fits : y + 1 < 10 ^ suc w = rw (pow-suc 10 w) (omega (arith, rw (pow-suc 10 w) at room)) in
    let same : length s ≡ length u = n ∙ sym (length-field_text (suc w) (y + 1)) in
    let all : are_bytes u ≡ true = rw take-length at (part_bytes u (length u) 0 (field_text-bytes (suc w) (y + 1))) in
    rw sum
    (loaded_equal s u g all same ∙ equal_bytes s u x (y + 1) p (scan_text (suc w) (y + 1) (omega arith) fits) same)

pub follows_is : (line : List ℕ) → ((i : ℕ) → get_or line i 0 < 256) → line_set widest line ≡ true
    → follows line ≡ eqb (get_or (row_of widest line) image_field 0) (get_or (row_of widest line) before_field 0 + 1)
unfolding follows offset field_at opened record_layout line_bytes
follows_is line h g =
    let x = get_or (row_of widest line) image_field 0 in
    let y = get_or (row_of widest line) before_field 0 in
    let s = take version_bytes (drop version_at line) in
    let t = take version_bytes (drop before_at line) in
    let same-x : figure_at version_at version_bytes line ≡ x = digits_at image_field widest line (omega arith) refl g in
    let same-y : figure_at before_at version_bytes line ≡ y = digits_at before_field widest line (omega arith) refl g in
    let p : scanned Blank s ≡ Number x = scan_of (get_or widest image_field no_column) s x refl (field_at_lem image_field widest line (omega arith) g) in
    let q : scanned Blank t ≡ Number y = scan_of (get_or widest before_field no_column) t y refl (field_at_lem before_field widest line (omega arith) g) in
    let whole : length line ≡ record_bytes = line-length widest line g in
    let m : length s ≡ version_bytes = simp (length-take, length-drop) (omega arith) in
    let n : length t ≡ version_bytes = simp (length-take, length-drop) (omega arith) in
    let end : get_or t 5 0 ≡ get_or line before_last 0 = get_or-take version_bytes (drop before_at line) 5 0 (omega arith) ∙ get_or-drop before_at line 5 0 in
    choose_by (λ (r : Bool). r ≡ eqb x (y + 1)) (eqb (get_or line before_last 0) 57)
    (λ e. rw (same-x, same-y))
    (λ e. next_is 5 s t x y p q m n (part_bytes line version_bytes version_at h) (rw end e))
