-- Keys compared as bytes. The first fields of two lines order as their bytes do, field by field: a field decides as its figure does, and equal
-- figures have equal bytes.
use Rattle.std.specs.Prelude.{◌≡◌, ◌+◌, ◌&&◌, ◌||◌, ◌∷◌}
use Rattle.std.proofs.Common.{◌∙◌}
use Rattle.lists.specs.Basics.{refl, ap₂, subst, ℕ, zero, suc, eqb, true, List, [], length, take, drop, length-take, take-add}
use Rattle.lists.specs.Basics.{arith, eqb-true, eq-eqb, all, less, eq_list, eq_list-true, eq_list_refl, and_fst, and_snd, same_test}
use Rattle.lists.specs.Order.{less-append}
use Rattle.decimal.specs.Scan.Scan.{Blank, Number}
use Rattle.decimal.specs.Field.{scanned, number, is_number}
use Rattle.decimal.specs.Laws.{is_number-number}
use Rattle.decimal.specs.Order.{order_bytes, same_bytes}
use Rattle.model.specs.Types.{Column}
use Rattle.model.specs.Layouts.{record_layout, state_field, offset, key_bytes}
use Rattle.model.specs.Lines.{field_value, row_of, line_set}
use Rattle.model.specs.Records.{key_less, key_numbers, key_of, record_of, record_in}
use Rattle.sheet_laws.specs.Lines.{line_bytes, line-length}
use Rattle.sheet_laws.specs.Fields.{is_figure, scan_of}

-- two fields of one width that hold figures are equal as the figures are
pub equal_bytes : (s t : List ℕ) (x y : ℕ) → scanned Blank s ≡ Number x → scanned Blank t ≡ Number y → length s ≡ length t → eq_list s t ≡ eqb x y
equal_bytes s t x y p q n =
    same_test (eq_list s t) (eqb x y)
    (λ e. let z : s ≡ t = eq_list-true s t e in let w : x ≡ y = cc in eq-eqb x y w)
    (λ e. subst (λ (u : List ℕ). eq_list s u ≡ true) (same_bytes s t x y p q n (eqb-true x y e)) (eq_list_refl s))

-- of two lines that can be read, the bytes of the first n fields order as their numbers
order_fields : (n : ℕ) (cs : List Column) (a b : List ℕ)
    → all is_figure (take n cs) ≡ true → line_set cs a ≡ true → line_set cs b ≡ true
    → less (take (offset n cs) a) (take (offset n cs) b) ≡ less (take n (row_of cs a)) (take n (row_of cs b))
unfolding all less line_set row_of offset
order_fields zero cs a b o h g = refl
order_fields (suc n) [] a b o h g = refl
order_fields (suc n) (c ∷ cs) a b o h g =
    let w = c.width in
    let k = offset n cs in
    let ga = is_number (field_value c (take w a)) in
    let gb = is_number (field_value c (take w b)) in
    let x = number (field_value c (take w a)) in
    let y = number (field_value c (take w b)) in
    let i : length a ≡ w + line_bytes cs = unfold line_bytes in line-length (c ∷ cs) a h in
    let j : length b ≡ w + line_bytes cs = unfold line_bytes in line-length (c ∷ cs) b g in
    let l : length (take w a) ≡ length (take w b) = simp length-take (omega arith) in
    let f = and_fst (is_figure c) (all is_figure (take n cs)) o in
    let p = scan_of c (take w a) x f (is_number-number (field_value c (take w a)) (and_fst ga (line_set cs (drop w a)) h)) in
    let q = scan_of c (take w b) y f (is_number-number (field_value c (take w b)) (and_fst gb (line_set cs (drop w b)) g)) in
    let r = order_fields n cs (drop w a) (drop w b) (and_snd (is_figure c) (all is_figure (take n cs)) o) (and_snd ga (line_set cs (drop w a)) h) (and_snd gb (line_set cs (drop w b)) g) in
    ap₂ less (take-add w k a) (take-add w k b)
    ∙ (less-append (take w a) (take w b) (take k (drop w a)) (take k (drop w b)) l
    ∙ ap₂ ◌||◌ (order_bytes (take w a) (take w b) x y p q l) (ap₂ ◌&&◌ (equal_bytes (take w a) (take w b) x y p q l) r))

-- the keys of two record lines
pub key_order : (a b : List ℕ)
    → line_set record_layout a ≡ true → line_set record_layout b ≡ true → less (take key_bytes a) (take key_bytes b) ≡ key_less (record_in a).key (record_in b).key
unfolding all row_of offset record_layout key_less key_numbers record_in record_of key_of
key_order a b h g = order_fields state_field record_layout a b refl h g
