-- The head: a count, a space, nine unit letters and LF. A column of one letter is a test of one byte, so that nine of them are one test of
-- nine bytes.
use Rattle.std.specs.Prelude.{◌≡◌, ◌≤◌, ◌&&◌, ◌||◌, ◌∷◌, Some, None}
use Rattle.std.specs.List.{list_all}
use Rattle.std.proofs.Common.{◌∙◌}
use Rattle.model.specs.Coordinator.{all_capitals}
use Rattle.sheet_laws.specs.Letters.{units_in, letter_in}
use Rattle.lists.specs.Basics.{ltb, leb, not, ap₂, le-ltb, lt-ltb, leb-true, leb-false, refl, sym, ap, ℕ, zero, suc, eqb, Bool, true, false, cond, and_assoc, and-true, List}
use Rattle.lists.specs.Basics.{[], length, take, drop, get_or, replicate, drop_of_length-le, drop-drop, drop-cons, arith, all, eq_list, bytes}
use Rattle.decimal.specs.Field.{figure, is_number}
use Rattle.model.specs.Types.{Column, UnitLetter}
use Rattle.model.specs.Layouts.{head_layout, words, word, coordinator_bytes, line_end}
use Rattle.model.specs.Lines.{field_value, word_from, line_set}

-- one of R, P, T, N and S, or of their small letters
abbrev pub is_unit : ℕ → Bool
is_unit b = eqb b 82 || eqb b 80 || eqb b 84 || eqb b 78 || eqb b 83 || eqb b 114 || eqb b 112 || eqb b 116 || eqb b 110 || eqb b 115

-- what follows the count
unfoldable pub letters_set : List ℕ → Bool
letters_set head = eqb (get_or head 4 0) 32 && all is_unit (take 9 (drop 5 head)) && eqb (get_or head line_end 0) 10

-- one of ten words, after a space where one is wanted
letters : (z a b c d e f g h i j : Bool)
    → is_number
    (cond (z && (a && true)) (Some 0)
    (cond (z && (b && true)) (Some 1)
    (cond (z && (c && true)) (Some 2)
    (cond (z && (d && true)) (Some 3)
    (cond (z && (e && true)) (Some 4)
    (cond (z && (f && true)) (Some 5)
    (cond (z && (g && true)) (Some 6)
    (cond (z && (h && true)) (Some 7)
    (cond (z && (i && true)) (Some 8)
    (cond (z && (j && true)) (Some 9) None))))))))))
    ≡ (z && (a || b || c || d || e || f || g || h || i || j))
letters false a b c d e f g h i j = refl
letters true true b c d e f g h i j = refl
letters true false true c d e f g h i j = refl
letters true false false true d e f g h i j = refl
letters true false false false true e f g h i j = refl
letters true false false false false true f g h i j = refl
letters true false false false false false true g h i j = refl
letters true false false false false false false true h i j = refl
letters true false false false false false false false true i j = refl
letters true false false false false false false false false true j = refl
letters true false false false false false false false false false true = refl
letters true false false false false false false false false false false = refl

-- the column of a letter, and that of the first with the space before it
abbrev letter : ℕ → Column
letter w = word w UnitLetter 9

letter-set : (b : ℕ) → is_number (field_value (letter 1) (b ∷ [])) ≡ is_unit b
unfolding field_value word_from words bytes
letter-set b = letters true (eqb b 82) (eqb b 80) (eqb b 84) (eqb b 78) (eqb b 83) (eqb b 114) (eqb b 112) (eqb b 116) (eqb b 110) (eqb b 115)

first-set : (a b : ℕ) → is_number (field_value (letter 2) (a ∷ b ∷ [])) ≡ (eqb a 32 && is_unit b)
unfolding field_value word_from words bytes
first-set a b = letters (eqb a 32) (eqb b 82) (eqb b 80) (eqb b 84) (eqb b 78) (eqb b 83) (eqb b 114) (eqb b 112) (eqb b 116) (eqb b 110) (eqb b 115)

-- n letters and LF
letters_set_lem : (n : ℕ) (s : List ℕ) → line_set (replicate n (letter 1)) s ≡ (all is_unit (take n s) && eq_list (drop n s) (10 ∷ []))
unfolding line_set all
letters_set_lem zero s = refl
letters_set_lem (suc n) [] = unfold field_value word_from words bytes in refl
letters_set_lem (suc n) (b ∷ s) = rw (letter-set b, letters_set_lem n s) (sym (and_assoc (is_unit b) (all is_unit (take n s)) (eq_list (drop n s) (10 ∷ []))))

head_fields_lem : (h : List ℕ)
    → line_set head_layout h
    ≡ (is_number (figure 0 999 (take 4 h))
    && (is_number (field_value (letter 2) (take 2 (drop 4 h))) && line_set (replicate 8 (letter 1)) (drop 2 (drop 4 h))))
unfolding line_set head_layout field_value
head_fields_lem h = refl

-- the same tests in another grouping
grouped : (z u us l : Bool) → ((z && u) && (us && (l && true))) ≡ (z && (u && us) && l)
grouped z u us l = simp (and_assoc, and-true)

-- fifteen bytes are a head if a count is read and the letters are set
pub head_set : (h : List ℕ) → length h ≡ coordinator_bytes → line_set head_layout h ≡ (is_number (figure 0 999 (take 4 h)) && letters_set h)
unfolding letters_set all
head_set h n =
    let x = get_or h 4 0 in
    let y = get_or h 5 0 in
    let z = get_or h line_end 0 in
    let five : drop 5 h ≡ y ∷ drop 6 h = drop-cons h 5 0 (omega arith) in
    let four : drop 4 h ≡ x ∷ y ∷ drop 6 h = drop-cons h 4 0 (omega arith) ∙ ap (λ (t : List ℕ). x ∷ t) five in
    let long : length h ≤ coordinator_bytes = omega arith in
    let last : drop line_end h ≡ z ∷ [] = drop-cons h line_end 0 (omega arith) ∙ ap (λ (t : List ℕ). z ∷ t) (drop_of_length-le h long) in
    head_fields_lem h
    ∙ ap (λ (t : Bool). is_number (figure 0 999 (take 4 h)) && t)
    (rw (four, five, first-set x y, letters_set_lem 8 (drop 6 h), drop-drop 8 6 h, last) (grouped (eqb x 32) (is_unit y) (all is_unit (take 8 (drop 6 h))) (eqb z 10)))

-- the code's tests of every letter
pub all_units : (s : List ℕ) → list_all is_unit s ≡ all is_unit s
unfolding all
all_units [] = refl
all_units (b ∷ s) = ap (λ (rest : Bool). is_unit b && rest) (all_units s)

pub units_here : (head : List ℕ) (units : Bool) → units ≡ all is_unit (take 9 (drop 5 head))
    → (eqb (get_or head 4 0) 32 && units && eqb (get_or head line_end 0) 10) ≡ letters_set head
unfolding letters_set
units_here head units e = rw e

pub none_small : (s : List ℕ) → list_all (λ (b : ℕ). ltb b 97) s ≡ all_capitals (units_in s)
unfolding all all_capitals units_in letter_in
none_small [] = refl
none_small (b ∷ s) = ap₂ ◌&&◌ (go (leb 97 b) refl) (none_small s)
  where
    go : (t : Bool) → leb 97 b ≡ t → ltb b 97 ≡ not t
    go true e = le-ltb b 97 (leb-true 97 b e)
    go false e = lt-ltb b 97 (leb-false 97 b e)
