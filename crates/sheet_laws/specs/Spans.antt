-- Fields that stand one behind another in a line: their text, the bytes where it stands, and the line with other numbers in them. A line is the text
-- of its fields one after another, each as wide as its column, so that a span begins at its first field's offset.
use Rattle.std.specs.Prelude.{◌≡◌, ◌+◌, ◌≤◌, ◌<◌, ◌∷◌, ◌++◌}
use Rattle.lists.specs.Basics.{refl, sym, ap, ap₂, ℕ, zero, suc, Bool, true, List, [], append-nil, append_assoc, length}
use Rattle.lists.specs.Basics.{take, drop, get_or, length-append, length-take, drop-drop, drop-cons, drop_at, take_at, arith, all, and_fst, and_snd}
use Rattle.std.proofs.Common.{take-append-drop, ◌∙◌}
use Rattle.lists.specs.Pieces.{over, over_zero, over-after}
use Rattle.model.specs.Types.{Column}
use Rattle.model.specs.Layouts.{no_column, offset}
use Rattle.model.specs.Lines.{field_bytes, line_text}
use Rattle.sheet_laws.specs.Fields.{wide_enough, length-field_bytes}

-- the fields of a row, without LF
unfoldable pub fields_text : List Column → List ℕ → List ℕ
fields_text [] vs = []
fields_text (c ∷ cs) vs = field_bytes c (get_or vs 0 0) ++ fields_text cs (drop 1 vs)

-- a line is its first fields and then the line of the others
pub line_split : (cs ds : List Column) (vs : List ℕ) → line_text (cs ++ ds) vs ≡ fields_text cs vs ++ line_text ds (drop (length cs) vs)
unfolding line_text fields_text
line_split [] ds vs = refl
line_split (c ∷ cs) ds vs =
    let n : 1 + length cs ≡ suc (length cs) = omega arith in
    let e : drop (length cs) (drop 1 vs) ≡ drop (suc (length cs)) vs = drop-drop (length cs) 1 vs ∙ ap (λ (k : ℕ). drop k vs) n in
    ap (λ (t : List ℕ). field_bytes c (get_or vs 0 0) ++ t) (line_split cs ds (drop 1 vs) ∙ ap (λ (x : List ℕ). fields_text cs (drop 1 vs) ++ line_text ds x) e)
    ∙ sym (append_assoc (field_bytes c (get_or vs 0 0)) (fields_text cs (drop 1 vs)) (line_text ds (drop (suc (length cs)) vs)))

-- every word of the layout has room in its field
abbrev pub layout_wide : List Column → Bool
layout_wide cs = all wide_enough cs

-- m fields are as long as their columns
pub length-fields_text : (m : ℕ) (cs : List Column) (vs : List ℕ) → layout_wide cs ≡ true → length (fields_text (take m cs) vs) ≡ offset m cs
unfolding all fields_text offset
length-fields_text zero cs vs w = refl
length-fields_text (suc m) [] vs w = refl
length-fields_text (suc m) (c ∷ cs) vs w =
    let a : length (field_bytes c (get_or vs 0 0)) ≡ c.width = length-field_bytes c (get_or vs 0 0) (and_fst (wide_enough c) (all wide_enough cs) w) in
    let b : length (fields_text (take m cs) (drop 1 vs)) ≡ offset m cs = length-fields_text m cs (drop 1 vs) (and_snd (wide_enough c) (all wide_enough cs) w) in
    simp length-append (omega arith)

-- numbers behind those of the fields are not seen
fields_front : (cs : List Column) (us vs : List ℕ) → length cs ≤ length us → fields_text cs (us ++ vs) ≡ fields_text cs us
unfolding fields_text
fields_front [] us vs l = refl
fields_front (c ∷ cs) [] vs l = absurd (omega arith)
fields_front (c ∷ cs) (u ∷ us) vs l = ap (λ (t : List ℕ). field_bytes c u ++ t) (fields_front cs us vs (omega arith))

-- The line of numbers vs, cut behind its first m fields.
module _ (m : ℕ) (cs : List Column) (vs : List ℕ) (wide : layout_wide cs ≡ true) (few : m ≤ length cs) where
  counted : length (take m cs) ≡ m
  counted = simp length-take (omega arith)

  cut : line_text cs vs ≡ fields_text (take m cs) vs ++ line_text (drop m cs) (drop m vs)
  cut =
      ap (λ (ds : List Column). line_text ds vs) (sym (take-append-drop m cs))
      ∙ (line_split (take m cs) (drop m cs) vs
      ∙ ap (λ (k : ℕ). fields_text (take m cs) vs ++ line_text (drop m cs) (drop k vs)) counted)

  pub front-there : take (offset m cs) (line_text cs vs) ≡ fields_text (take m cs) vs
  front-there =
      ap (take (offset m cs)) cut
      ∙ take_at (fields_text (take m cs) vs) (line_text (drop m cs) (drop m vs)) (offset m cs) (length-fields_text m cs vs wide)

  front-over : (us : List ℕ) → length us ≡ m → over (line_text cs vs) 0 (fields_text (take m cs) us) ≡ line_text cs (us ++ drop m vs)
  front-over us n =
      let a : length (fields_text (take m cs) vs) ≡ length (fields_text (take m cs) us) = length-fields_text m cs vs wide ∙ sym (length-fields_text m cs us wide) in
      over_zero (line_text cs vs) (fields_text (take m cs) us)
      ∙ (ap (λ (t : List ℕ). fields_text (take m cs) us ++ t)
      (ap (drop (length (fields_text (take m cs) us))) cut
      ∙ drop_at (fields_text (take m cs) vs) (line_text (drop m cs) (drop m vs)) (length (fields_text (take m cs) us)) a)
      ∙ sym
      (ap (λ (ds : List Column). line_text ds (us ++ drop m vs)) (sym (take-append-drop m cs))
      ∙ (line_split (take m cs) (drop m cs) (us ++ drop m vs)
      ∙ ap₂ (λ (t xs : List ℕ). t ++ line_text (drop m cs) xs)
      (fields_front (take m cs) us (drop m vs) (omega (arith, counted)))
      (drop_at us (drop m vs) (length (take m cs)) (n ∙ sym counted)))))

-- the bytes of the first field are passed
past_first : (c : Column) (o : ℕ) (t u : List ℕ) → length t ≡ c.width → drop (c.width + o) (t ++ u) ≡ drop o u
past_first c o t u n = sym (drop-drop o c.width (t ++ u)) ∙ ap (drop o) (drop_at t u c.width n)

-- The span of m fields from field k on: its bytes, and the line with the numbers us in it.
pub span_there : (k m : ℕ) (cs : List Column) (vs : List ℕ) → layout_wide cs ≡ true → k + m ≤ length cs
    → take (offset m (drop k cs)) (drop (offset k cs) (line_text cs vs)) ≡ fields_text (take m (drop k cs)) (drop k vs)
unfolding all offset line_text
span_there zero m cs vs w l = front-there m cs vs w (omega arith)
span_there (suc k) m [] vs w l = absurd (omega arith)
span_there (suc k) m (c ∷ cs) vs w l =
    let a = length-field_bytes c (get_or vs 0 0) (and_fst (wide_enough c) (all wide_enough cs) w) in
    let n : 1 + k ≡ suc k = omega arith in
    ap (take (offset m (drop k cs))) (past_first c (offset k cs) (field_bytes c (get_or vs 0 0)) (line_text cs (drop 1 vs)) a)
    ∙ (span_there k m cs (drop 1 vs) (and_snd (wide_enough c) (all wide_enough cs) w) (omega arith)
    ∙ ap (fields_text (take m (drop k cs))) (drop-drop k 1 vs ∙ ap (λ (i : ℕ). drop i vs) n))

pub span_over : (k : ℕ) (cs : List Column) (us vs : List ℕ) → layout_wide cs ≡ true → k + length us ≤ length cs → length vs ≡ length cs
    → over (line_text cs vs) (offset k cs) (fields_text (take (length us) (drop k cs)) us) ≡ line_text cs (over vs k us)
unfolding all offset line_text
span_over zero cs us vs w l n = front-over (length us) cs vs w (omega arith) us refl ∙ ap (line_text cs) (sym (over_zero vs us))
span_over (suc k) [] us vs w l n = absurd (omega arith)
span_over (suc k) (c ∷ cs) us [] w l n = absurd (omega arith)
span_over (suc k) (c ∷ cs) us (x ∷ vs) w l n =
    let a = length-field_bytes c x (and_fst (wide_enough c) (all wide_enough cs) w) in
    let f = field_bytes c x in
    let t = line_text cs vs in
    let u = fields_text (take (length us) (drop k cs)) us in
    let e : 1 + k ≡ suc k = omega arith in
    over-after (f ++ t) u c.width (offset k cs)
    ∙ (ap₂ (λ (p q : List ℕ). p ++ over q (offset k cs) u) (take_at f t c.width a) (drop_at f t c.width a)
    ∙ (ap (λ (q : List ℕ). f ++ q) (span_over k cs us vs (and_snd (wide_enough c) (all wide_enough cs) w) (omega arith) (omega arith))
    ∙ sym (ap (line_text (c ∷ cs)) (ap (λ (i : ℕ). over (x ∷ vs) i us) (sym e) ∙ over-after (x ∷ vs) us 1 k))))

-- one field of the line with another number
pub field_over : (k v : ℕ) (cs : List Column) (vs : List ℕ) → layout_wide cs ≡ true → k < length cs → length vs ≡ length cs
    → over (line_text cs vs) (offset k cs) (field_bytes (get_or cs k no_column) v) ≡ line_text cs (over vs k (v ∷ []))
unfolding fields_text
field_over k v cs vs w l n =
    let d : take 1 (drop k cs) ≡ get_or cs k no_column ∷ [] = ap (take 1) (drop-cons cs k no_column l) in
    ap (over (line_text cs vs) (offset k cs))
    (sym (append-nil (field_bytes (get_or cs k no_column) v)) ∙ ap (λ (ds : List Column). fields_text ds (v ∷ [])) (sym d))
    ∙ span_over k cs (v ∷ []) vs w (omega arith) n
