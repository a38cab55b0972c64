-- The parts of a layout, and what they say of a line: it is read by the widest ranges, and its numbers are held to the layout's. A part is a text or
-- a figure. A text is the bytes of one number, by the round trip of its column; a figure is read by the widest range in either case.
use Rattle.std.specs.Prelude.{◌≡◌, ◌-◌, ◌≤◌, ◌&&◌, ◌∷◌, Some}
use Rattle.std.proofs.Common.{◌∙◌}
use Rattle.lists.specs.Basics.{refl, sym, ap, subst, ℕ, eqb, leb, Bool, true, false, cond, true≢false, and-true, List, []}
use Rattle.lists.specs.Basics.{length, take, drop, arith, eqb-true, eq-eqb, le-leb, all, eq_list, eq_list-true, eq_list_refl, and_fst, and_snd, and_both}
use Rattle.lists.specs.Basics.{same_test, choose_by, tests}
use Rattle.decimal.specs.Field.{number, is_number}
use Rattle.decimal.specs.Laws.{is_number-number}
use Rattle.model.specs.Types.{Column, Kind, Figure, StateWord, BeforeWord, DecisionWord, UnitLetter}
use Rattle.model.specs.Layouts.{words}
use Rattle.model.specs.Lines.{by_kind, field_value, field_bytes, in_range}
use Rattle.sheet_laws.specs.Fields.{column_ok, field_read_written, field_written_read}
use Rattle.line_bytes.specs.Parts.{Part, text, number as numbers, width, most, part_ok, parts_ok}
use Rattle.sheet_laws.specs.Lines.{each_field}
use Rattle.record_check.specs.Ranges.{fields_same, opened, held, line_held, held_fields, figure-held, column}

-- a range of one number is its text
unfoldable pub column_part : Column → Part
column_part c = cond (eqb c.low c.high) (text (field_bytes c c.low)) (numbers c.width c.low)

-- the parts of a line, LF last
unfoldable pub layout_parts : List Column → List Part
layout_parts [] = text (10 ∷ []) ∷ []
layout_parts (c ∷ cs) = column_part c ∷ layout_parts cs

-- a range that a part can say: one number, or a figure's up to the widest
unfoldable pub sayable : Column → Bool
sayable c =
    column_ok (opened c)
    && cond (eqb c.low c.high) (in_range (opened c) c.low) (by_kind c.kind (eqb c.high (opened c).high) false)

-- what is sayable is the one or the other
sayable_by : (P : Part → Type 0) (c : Column) → sayable c ≡ true
    → (column_ok (opened c) ≡ true → c.low ≡ c.high → in_range (opened c) c.low ≡ true → P (text (field_bytes c c.low)))
    → (by_kind c.kind (eqb c.high (opened c).high) false ≡ true → P (numbers c.width c.low))
    → P (column_part c)
unfolding sayable column_part
sayable_by P c o f g =
    choose_by P (eqb c.low c.high)
    (λ e. let h = rw e at o in
    let a : column_ok (opened c) ≡ true = search tests in
    let b : in_range (opened c) c.low ≡ true = search tests in
    f a (eqb-true c.low c.high e) b)
    (λ e. let h = rw e at o in
    let b : by_kind c.kind (eqb c.high (opened c).high) false ≡ true = search tests in
    g b)

part-width : (c : Column) → sayable c ≡ true → width (column_part c) ≡ c.width
part-width c o =
    sayable_by (λ (q : Part). width q ≡ c.width) c o
    (λ a e b. unfold width opened field_bytes in (field_read_written (opened c) c.low a b).1)
    (λ b. unfold width in refl)

text-held : (c : Column) (t : List ℕ)
    → column_ok (opened c) ≡ true → c.low ≡ c.high → in_range (opened c) c.low ≡ true → length t ≡ c.width
    → eq_list t (field_bytes c c.low) ≡ held c t
unfolding held in_range opened
text-held c t a e b l = same_test (eq_list t (field_bytes c c.low)) (held c t) there back
  where
    -- the bytes of a number do not go by the range
    same_bytes : (v : ℕ) → field_bytes (opened c) v ≡ field_bytes c v
    same_bytes v = unfold field_bytes in refl

    there : eq_list t (field_bytes c c.low) ≡ true → held c t ≡ true
    there h =
        let q : t ≡ field_bytes (opened c) c.low = eq_list-true t (field_bytes c c.low) h ∙ sym (same_bytes c.low) in
        let f : field_value (opened c) t ≡ Some c.low = ap (field_value (opened c)) q ∙ (field_read_written (opened c) c.low a b).0 in
        rw f (and_both (le-leb c.low c.low (omega arith)) (le-leb c.low c.high (omega arith)))

    back : held c t ≡ true → eq_list t (field_bytes c c.low) ≡ true
    back h =
        let v = number (field_value (opened c) t) in
        let g : is_number (field_value (opened c) t) ≡ true = search tests in
        let i : (leb c.low v && leb v c.high) ≡ true = and_snd (is_number (field_value (opened c) t)) _ h in
        let m : c.low ≤ v = search tests in
        let n : v ≤ c.high = search tests in
        let z : v ≡ c.low = omega arith in
        let r = field_written_read (opened c) t v a l (is_number-number (field_value (opened c) t) g) in
        let q : t ≡ field_bytes c c.low = r.0 ∙ (same_bytes v ∙ ap (field_bytes c) z) in
        subst (λ (x : List ℕ). eq_list x (field_bytes c c.low) ≡ true) (sym q) (eq_list_refl (field_bytes c c.low))

numbers-held : (c : Column) (t : List ℕ)
    → by_kind c.kind (eqb c.high (opened c).high) false ≡ true → length t ≡ c.width
    → part_ok (numbers c.width c.low) t ≡ held c t
unfolding opened part_ok held field_value in_range
numbers-held c t = go c.kind c.width c.low c.high
  where
    go : (k : Kind) (w low high : ℕ)
        → by_kind k (eqb high (by_kind k (most w) (length (words k) - 1))) false ≡ true → length t ≡ w
        → part_ok (numbers w low) t ≡ held (column k w low high) t
    go Figure w low high b l =
        let h : high ≡ most w = eqb-true high (most w) b in
        rw (eq-eqb (length t) w l, h) (figure-held low (most w) (most w) t (omega arith))
    go StateWord w low high b l = absurd (true≢false (sym b))
    go BeforeWord w low high b l = absurd (true≢false (sym b))
    go DecisionWord w low high b l = absurd (true≢false (sym b))
    go UnitLetter w low high b l = absurd (true≢false (sym b))

part_held : (c : Column) (t : List ℕ) → sayable c ≡ true → length t ≡ c.width → part_ok (column_part c) t ≡ held c t
part_held c t o l =
    sayable_by (λ (q : Part). part_ok q t ≡ held c t) c o
    (λ a e b. unfold part_ok in text-held c t a e b l)
    (λ b. numbers-held c t b l)

parts_fields : (cs : List Column) (s : List ℕ)
    → all sayable cs ≡ true → parts_ok (layout_parts cs) s ≡ each_field (λ (c : Column) (t : List ℕ). part_ok (column_part c) t) cs s
unfolding all parts_ok layout_parts each_field part_ok width
parts_fields [] [] o = refl
parts_fields [] (b ∷ s) o = ap (λ (x : Bool). x && eq_list s []) (and-true (eqb b 10))
parts_fields (c ∷ cs) s o =
    rw (part-width c (and_fst (sayable c) (all sayable cs) o))
    (ap (λ (x : Bool). part_ok (column_part c) (take c.width s) && x) (parts_fields cs (drop c.width s) (and_snd (sayable c) (all sayable cs) o)))

-- what the parts of a layout say of a line
pub parts_are_held : (cs : List Column) (s : List ℕ) → all sayable cs ≡ true → parts_ok (layout_parts cs) s ≡ line_held cs s
parts_are_held cs s o =
    parts_fields cs s o
    ∙ (fields_same (λ (c : Column) (t : List ℕ). part_ok (column_part c) t) held sayable part_held cs s o ∙ sym (held_fields cs s))
