-- The letters as nine bytes, the part of the coordinator's head that says them: letter by letter from the left, each by the word that it is.
use Rattle.std.specs.Prelude.{◌≡◌, ◌<◌, ◌&&◌, ◌||◌, ◌∷◌, Option, Some, None}
use Rattle.std.proofs.Common.{◌∙◌}
use Rattle.lists.specs.Basics.{refl, sym, ap, ap₂, ℕ, zero, suc, eqb, leb, Bool, true, false, cond, true≢false, and-false, List, []}
use Rattle.lists.specs.Basics.{map, length, take, drop, replicate, drop-drop, arith, eqb-true, bytes, and_fst, and_snd}
use Rattle.lists.specs.Pieces.{take-drop-take}
use Rattle.decimal.specs.Field.{number, is_number}
use Rattle.model.specs.Types.{AtomicityUnit, Column, UnitLetter}
use Rattle.types.specs.declared.AtomicityUnit.TheVariants.{Record as RecordUnit, Partition, Table, Namespace, Storage}
use Rattle.model.specs.Layouts.{head_layout, word, words, figures}
use Rattle.model.specs.Lines.{field_value, word_from, row_of, line_set}
use Rattle.model.specs.Coordinator.{Letter, unit_of, letter_of, coordinator_of, coordinator_readable}
use Rattle.sheet_laws.specs.Decisions.{readable_parts}

-- the unit of a letter R, P, T or N of either case; any other counts as S
unfoldable pub unit_in : ℕ → AtomicityUnit
unit_in b =
    cond (eqb b 82 || eqb b 114) RecordUnit
    (cond (eqb b 80 || eqb b 112) Partition
    (cond (eqb b 84 || eqb b 116) Table (cond (eqb b 78 || eqb b 110) Namespace Storage)))

-- small letters come after all the capitals
unfoldable pub letter_in : ℕ → Letter
letter_in b = record { unit = unit_in b; lower = leb 97 b }

unfoldable pub units_in : List ℕ → List Letter
units_in letters = map letter_in letters

-- The letters of a head.

abbrev letter_column : Column
letter_column = word 1 UnitLetter 9

abbrev first_column : Column
first_column = word 2 UnitLetter 9

-- what was read is the letter of the byte
abbrev Says : ℕ → Option ℕ → Type 0
Says b st = is_number st ≡ true → letter_of (number st) ≡ letter_in b

-- which of the letters ks the byte is, counted from n; `spaced` is the space that the first letter of a head has before it
unfoldable amongst : (b : ℕ) (spaced : Bool) (ks : List ℕ) (n : ℕ) → Option ℕ
amongst b spaced [] n = None
amongst b spaced (k ∷ ks) n = cond (spaced && (eqb b k && true)) (Some n) (amongst b spaced ks (suc n))

one_of : (b k n : ℕ) (spaced : Bool) (rest : Option ℕ) → letter_of n ≡ letter_in k → Says b rest → Says b (cond (spaced && (eqb b k && true)) (Some n) rest)
one_of b k n false rest e later = later
one_of b k n true rest e later = go (eqb b k) refl
  where
    go : (t : Bool) → eqb b k ≡ t → Says b (cond (t && true) (Some n) rest)
    go true f h = e ∙ ap letter_in (sym (eqb-true b k f))
    go false f h = later h

ten : (b : ℕ) (spaced : Bool) → Says b (amongst b spaced (bytes "RPTNSrptns") 0)
unfolding amongst bytes letter_of unit_of letter_in unit_in
ten b z =
    one_of b 82 0 z _ refl
    (one_of b 80 1 z _ refl
    (one_of b 84 2 z _ refl
    (one_of b 78 3 z _ refl
    (one_of b 83 4 z _ refl
    (one_of b 114 5 z _ refl
    (one_of b 112 6 z _ refl
    (one_of b 116 7 z _ refl
    (one_of b 110 8 z _ refl (one_of b 115 9 z None refl (λ h. absurd (true≢false (sym h))))))))))))

letter-says : (b : ℕ) → Says b (field_value letter_column (b ∷ []))
unfolding field_value word_from words bytes amongst
letter-says b = ten b true

-- the first has a space before it
first_says : (a b : ℕ) → Says b (field_value first_column (a ∷ b ∷ []))
unfolding field_value word_from words bytes amongst
first_says a b = ten b (eqb a 32)

first_short : (s : List ℕ) → length s < 2 → is_number (field_value first_column s) ≡ true → ⊥
unfolding field_value word_from words bytes
first_short [] l h = true≢false (sym h)
first_short (a ∷ []) l h = let f : false ≡ true = rw (and-false (eqb a 32)) at h in true≢false (sym f)
first_short (a ∷ b ∷ s) l h = omega arith

letters_read : (n : ℕ) (s : List ℕ) → line_set (replicate n letter_column) s ≡ true → map letter_of (row_of (replicate n letter_column) s) ≡ units_in (take n s)
unfolding line_set row_of units_in field_value word_from words bytes
letters_read zero s h = refl
letters_read (suc n) [] h = absurd (true≢false (sym h))
letters_read (suc n) (b ∷ s) h =
    ap₂ ◌∷◌ (letter-says b (and_fst (is_number (field_value letter_column (b ∷ []))) (line_set (replicate n letter_column) s) h))
    (letters_read n s (and_snd (is_number (field_value letter_column (b ∷ []))) (line_set (replicate n letter_column) s) h))

head_letters : (s : List ℕ) → line_set (first_column ∷ replicate 8 letter_column) s ≡ true → map letter_of (row_of (first_column ∷ replicate 8 letter_column) s) ≡ units_in (take 9 (drop 1 s))
unfolding line_set row_of units_in
head_letters [] h = absurd (first_short [] (omega arith) (and_fst (is_number (field_value first_column [])) (line_set (replicate 8 letter_column) []) h))
head_letters (a ∷ []) h = absurd (first_short (a ∷ []) (omega arith) (and_fst (is_number (field_value first_column (a ∷ []))) (line_set (replicate 8 letter_column) []) h))
head_letters (a ∷ b ∷ s) h =
    ap₂ ◌∷◌ (first_says a b (and_fst (is_number (field_value first_column (a ∷ b ∷ []))) (line_set (replicate 8 letter_column) s) h))
    (letters_read 8 s (and_snd (is_number (field_value first_column (a ∷ b ∷ []))) (line_set (replicate 8 letter_column) s) h))

-- the letters of a sheet that keeps the rules are what it says of its units
pub units-said : (cs : List ℕ) → coordinator_readable cs ≡ true → units_in (take 9 (drop 5 cs)) ≡ (coordinator_of cs).units
unfolding coordinator_of head_layout line_set row_of
units-said cs h =
    let line = take 15 cs in
    let rest : line_set (first_column ∷ replicate 8 letter_column) (drop 4 line) ≡ true =
    and_snd (is_number (field_value (figures 4 0 999) (take 4 line))) (line_set (first_column ∷ replicate 8 letter_column) (drop 4 line)) (readable_parts cs h).head in
    sym
    (head_letters (drop 4 line) rest
    ∙ ap units_in (ap (take 9) (drop-drop 1 4 line) ∙ take-drop-take 9 5 15 cs (omega arith)))
