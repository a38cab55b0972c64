-- A line in parts, for any layout. What a line's layout says of parts put together is what it says of each.
use Rattle.std.specs.Prelude.{◌+◌, ◌≤◌, ◌≡◌, ◌&&◌, ◌∷◌, ◌++◌}
use Rattle.std.proofs.Common.{◌∙◌}
use Rattle.lists.specs.Basics.{ℕ, refl, sym, ap, ap₂, Bool, true, and_assoc, List, [], arith, length, take}
use Rattle.lists.specs.Basics.{drop, length-drop}
use Rattle.std.proofs.lemmas.List.{take-append-le, drop-append-le}
use Rattle.decimal.specs.Field.{number, is_number}
use Rattle.model.specs.Types.{Column}
use Rattle.model.specs.Lines.{field_value, in_range, row_of, line_set, row_good}

-- the bytes of fields, without LF
unfoldable pub fields_bytes : List Column → ℕ
fields_bytes [] = 0
fields_bytes (c ∷ cs) = c.width + fields_bytes cs

-- every field can be read, whatever follows
unfoldable pub fields_set : List Column → List ℕ → Bool
fields_set [] s = true
fields_set (c ∷ cs) s = is_number (field_value c (take c.width s)) && fields_set cs (drop c.width s)

pub set-append : (cs ds : List Column) (t s : List ℕ) → length t ≡ fields_bytes cs → line_set (cs ++ ds) (t ++ s) ≡ (fields_set cs t && line_set ds s)
unfolding line_set fields_set fields_bytes
set-append [] ds [] s e = refl
set-append [] ds (x ∷ t) s e = absurd (omega arith)
set-append (c ∷ cs) ds t s e =
    let w = c.width in
    let g = is_number (field_value c (take w t)) in
    let l : w ≤ length t = omega arith in
    let n : length (drop w t) ≡ fields_bytes cs = simp length-drop (omega arith) in
    ap₂ (λ (x y : List ℕ). is_number (field_value c x) && line_set (cs ++ ds) y) (take-append-le w t s l) (drop-append-le w t s l)
    ∙ (ap (λ (x : Bool). g && x) (set-append cs ds (drop w t) s n) ∙ sym (and_assoc g (fields_set cs (drop w t)) (line_set ds s)))

pub row-append : (cs ds : List Column) (t s : List ℕ) → length t ≡ fields_bytes cs → row_of (cs ++ ds) (t ++ s) ≡ row_of cs t ++ row_of ds s
unfolding row_of fields_bytes
row-append [] ds [] s e = refl
row-append [] ds (x ∷ t) s e = absurd (omega arith)
row-append (c ∷ cs) ds t s e =
    let w = c.width in
    let l : w ≤ length t = omega arith in
    let n : length (drop w t) ≡ fields_bytes cs = simp length-drop (omega arith) in
    ap₂ (λ (x y : List ℕ). number (field_value c x) ∷ row_of (cs ++ ds) y) (take-append-le w t s l) (drop-append-le w t s l)
    ∙ ap (λ (r : List ℕ). number (field_value c (take w t)) ∷ r) (row-append cs ds (drop w t) s n)

pub good_append : (cs ds : List Column) (vs ws : List ℕ) → length vs ≡ length cs → row_good (cs ++ ds) (vs ++ ws) ≡ (row_good cs vs && row_good ds ws)
unfolding row_good
good_append [] ds [] ws e = refl
good_append [] ds (v ∷ vs) ws e = absurd (omega arith)
good_append (c ∷ cs) ds [] ws e = absurd (omega arith)
good_append (c ∷ cs) ds (v ∷ vs) ws e =
    ap (λ (x : Bool). in_range c v && x) (good_append cs ds vs ws (omega arith)) ∙ sym (and_assoc (in_range c v) (row_good cs vs) (row_good ds ws))
