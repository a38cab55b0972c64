-- A line after the head, judged as two numbers of eight bytes each: from the LF before it to the third byte of its word, and from there
-- to its own LF. The second number tells which decision the line can say, so the line is right if both numbers are those of the text that
-- says it. Equal numbers are equal bytes.
use Rattle.std.specs.Prelude.{◌≡◌, ◌+◌, ◌*◌, ◌/◌, ◌%◌, ◌^◌, ◌≤◌, ◌<◌, ◌&&◌, ◌∷◌, ◌++◌}
use Rattle.std.proofs.Common.{◌∙◌}
use Rattle.lists.specs.Basics.{refl, sym, ap, ℕ, zero, suc, eqb, ltb, Bool, true, List, []}
use Rattle.lists.specs.Basics.{length, take, drop, get_or, drop-drop, take_all, arith, ltb-true, eq_list, bytes, and_fst, and_snd}
use Rattle.std.proofs.Math.Pow.{are_bytes}
use Rattle.lists.specs.Bytes.{below_append}
use Rattle.decimal.specs.Field.{field_text, ahead}
use Rattle.decimal.specs.Laws.{field_text-bytes}
use Rattle.line_bytes.specs.Loads.{loaded, split_equal}
use Rattle.model.specs.Types.{Decision, Undecided, Committed, Aborted, DecisionWord}
use Rattle.model.specs.Layouts.{line_layout, words, word_at}
use Rattle.model.specs.Lines.{field_bytes, line_text}
use Rattle.model.specs.Coordinator.{decision_number}
use Rattle.sheet_laws.specs.Coordinator.{decision_text}
use Rattle.coordinator_check.specs.Numbers.{columns}

-- every element is a byte
abbrev pub Bytes : List ℕ → Type 0
Bytes s = (i : ℕ) → get_or s i 0 < 256

-- The numbers of a word.

-- LF before the line, zeros where the line has its number, and the first three bytes of the word
abbrev pub front_of : List ℕ → ℕ
front_of w = loaded (take 3 w) * 2 ^ 40 + 10

-- the other seven bytes of the word, and LF
abbrev pub back_of : List ℕ → ℕ
back_of w = loaded (drop 3 w ++ (10 ∷ []))

-- the index that the word's fifth byte tells: ` `, `M` and `B` leave 0, 1 and 2 by 4
abbrev pub told : ℕ → ℕ
told back = back / 256 % 4

abbrev pub word_for : Decision → List ℕ
word_for d = word_at DecisionWord (decision_number d)

-- the fronts for the four decisions, and then their backs
unfoldable pub table : (a b c d : Decision) → List ℕ
table a b c d =
    front_of (word_for a)
    ∷ front_of (word_for b)
    ∷ front_of (word_for c)
    ∷ front_of (word_for d)
    ∷ back_of (word_for a)
    ∷ back_of (word_for b)
    ∷ back_of (word_for c)
    ∷ back_of (word_for d)
    ∷ []

-- what the code needs of a table: eight numbers, and room for a line's number in each front
pub record Table (words : List ℕ) : Type 0 where
  pub eight : length words ≡ 8
  pub room : (i : ℕ) → i < 4 → get_or words i 0 ≤ 80 * 2 ^ 56

-- The judgement.

abbrev pub judged : (number front back : ℕ) (words : List ℕ) → Bool
judged number front back words = eqb front (number * 256 + get_or words (told back) 0) && eqb back (get_or words (told back + 4) 0)

-- r begins with an LF, and the line after it has these columns and a word of the table
unfoldable pub line_made : (number : ℕ) (words r : List ℕ) → Bool
line_made number words r = judged number (loaded (take 8 r)) (loaded (take 8 (drop 8 r))) words

-- The code's numbers are these.

pub line_is : (number front back start : ℕ) (words s : List ℕ) → front ≡ loaded (take 8 (drop start s))
    → back ≡ loaded (take 8 (drop (start + 8) s)) → judged number front back words ≡ line_made number words (drop start s)
unfolding line_made
line_is number front back start words s p q = rw (p, q, drop-drop 8 start s)

-- The text of a line with the LF before it.

abbrev pub lf_text : ℕ → Decision → List ℕ
lf_text k d = 10 ∷ decision_text k d

byte_at : (s : List ℕ) → are_bytes s ≡ true → Bytes s
byte_at [] h i = omega arith
byte_at (b ∷ s) h zero = ltb-true b 256 (and_fst (ltb b 256) (are_bytes s) h)
byte_at (b ∷ s) h (suc i) = byte_at s (and_snd (ltb b 256) (are_bytes s) h) i

word_bytes : (d : Decision) → are_bytes (word_for d ++ (10 ∷ [])) ≡ true
unfolding words bytes decision_number
word_bytes Undecided = refl
word_bytes Committed = refl
word_bytes Aborted = refl

lf_text-bytes : (k : ℕ) (d : Decision) → Bytes (lf_text k d)
unfolding line_text line_layout field_bytes
lf_text-bytes k d zero = omega arith
lf_text-bytes k d (suc i) =
    below_append 256 (field_text 4 k) (word_for d ++ (10 ∷ [])) (field_text-bytes 4 k) (byte_at (word_for d ++ (10 ∷ [])) (word_bytes d)) i

pub lf_text-length : (k : ℕ) (d : Decision) → length (lf_text k d) ≡ 16
unfolding line_text line_layout field_bytes field_text ahead words bytes decision_number
lf_text-length k Undecided = refl
lf_text-length k Committed = refl
lf_text-length k Aborted = refl

pub lf_text_ends : (k : ℕ) (d : Decision) → get_or (lf_text k d) 15 0 ≡ 10
unfolding line_text line_layout field_bytes field_text ahead words bytes decision_number
lf_text_ends k Undecided = refl
lf_text_ends k Committed = refl
lf_text_ends k Aborted = refl

-- its two numbers
lf_text-front : (k : ℕ) (d : Decision) → loaded (take 8 (lf_text k d)) ≡ columns k * 256 + front_of (word_for d)
unfolding line_text line_layout field_bytes field_text ahead words bytes decision_number loaded
lf_text-front k Undecided = omega arith
lf_text-front k Committed = omega arith
lf_text-front k Aborted = omega arith

pub lf_text_back : (k : ℕ) (d : Decision) → loaded (take 8 (drop 8 (lf_text k d))) ≡ back_of (word_for d)
unfolding line_text line_layout field_bytes field_text ahead words bytes decision_number
lf_text_back k Undecided = refl
lf_text_back k Committed = refl
lf_text_back k Aborted = refl

-- sixteen bytes are equal if the first eight and the last eight are equal as numbers
sixteen : (r t : List ℕ) → Bytes r → Bytes t → 16 ≤ length r → 16 ≤ length t
    → eq_list (take 16 r) (take 16 t) ≡ (eqb (loaded (take 8 r)) (loaded (take 8 t)) && eqb (loaded (take 8 (drop 8 r))) (loaded (take 8 (drop 8 t))))
sixteen r t f g n m = sym (split_equal r t f g 8 8 0 0 n m)

front_room : (d : Decision) → front_of (word_for d) ≤ 80 * 2 ^ 56
unfolding words bytes decision_number loaded
front_room Undecided = omega arith
front_room Committed = omega arith
front_room Aborted = omega arith

module _ (a b c d : Decision) where
  -- the decision for an index
  abbrev pub decision_for : ℕ → Decision
  decision_for i = get_or (a ∷ b ∷ c ∷ d ∷ []) i Undecided

  entries : (i : ℕ) → i < 4
      → (get_or (table a b c d) i 0 ≡ front_of (word_for (decision_for i))) × (get_or (table a b c d) (i + 4) 0 ≡ back_of (word_for (decision_for i)))
  unfolding table
  entries zero l = (refl, refl)
  entries (suc zero) l = (refl, refl)
  entries (suc (suc zero)) l = (refl, refl)
  entries (suc (suc (suc zero))) l = (refl, refl)
  entries (suc (suc (suc (suc i)))) l = absurd (omega arith)

  fits : Table (table a b c d)
  fits =
      record { eight = unfold table in refl; room = λ i l. rw (entries i l).0 (front_room (decision_for i)) }

  pub table_fits : {words : List ℕ} → words ≡ table a b c d → (words ≡ table a b c d) × Table words
  table_fits e = (e, rw e fits)

  -- the decision that the line after the LF can say
  abbrev pub chosen : List ℕ → Decision
  chosen r = decision_for (told (loaded (take 8 (drop 8 r))))

  -- the judgement is that LF and the line have the bytes of its text
  pub line_made_lem : (k : ℕ) (r : List ℕ) → Bytes r → 16 ≤ length r → line_made (columns k) (table a b c d) r ≡ eq_list (take 16 r) (lf_text k (chosen r))
  unfolding line_made
  line_made_lem k r f n =
      let t = lf_text k (chosen r) in
      let e = entries (told (loaded (take 8 (drop 8 r)))) (omega arith) in
      let l : length t ≡ 16 = lf_text-length k (chosen r) in
      let w : take 16 t ≡ t = take_all 16 t (omega arith) in
      rw (e.0, e.1, ← lf_text-front k (chosen r), ← lf_text_back k (chosen r))
      (sym (sixteen r t f (lf_text-bytes k (chosen r)) n (omega arith)) ∙ ap (eq_list (take 16 r)) w)
