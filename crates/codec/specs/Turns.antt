-- Fields by the kind of their column: what is read and written, and which word a field holds.
use Rattle.std.specs.List.{position, position_from}
use Rattle.std.proofs.lemmas.Iterator.Adapters.{position_from-zero}
use Rattle.std.proofs.lemmas.List.Quantifiers.{position-Some}
use Rattle.std.specs.Prelude.{◌≡◌, ◌≤◌, ◌<◌, ◌∷◌, Some}
use Rattle.std.proofs.Common.{◌∙◌}
use Rattle.lists.specs.Basics.{refl, sym, ap, ℕ, suc, cond, List, [], length}
use Rattle.lists.specs.Basics.{arith, add-one, eq_list}
use Rattle.decimal.specs.Field.{figure, field_text}
use Rattle.model.specs.Types.{Column, Kind, Figure, StateWord, BeforeWord, DecisionWord, UnitLetter}
use Rattle.model.specs.Layouts.{words, word_at}
use Rattle.model.specs.Lines.{last_bytes, word_from, by_kind, field_value, field_bytes}

-- A field by its kind: a figure, or a word of any other kind.

worded {ℓ} : {A : Type ℓ} (k : Kind) (a b : A) → (k ≡ Figure → ⊥) → by_kind k a b ≡ b
worded Figure a b w = absurd (w refl)
worded StateWord a b w = refl
worded BeforeWord a b w = refl
worded DecisionWord a b w = refl
worded UnitLetter a b w = refl

pub read_figure : (c : Column) (s : List ℕ) → c.kind ≡ Figure → figure c.low c.high s ≡ field_value c s
unfolding field_value
read_figure c s e = sym (ap (λ (k : Kind). by_kind k (figure c.low c.high s) (word_from c.width (words c.kind) 0 s)) e)

pub read_a_word : (c : Column) (s : List ℕ) → (c.kind ≡ Figure → ⊥) → word_from c.width (words c.kind) 0 s ≡ field_value c s
unfolding field_value
read_a_word c s w = sym (worded c.kind (figure c.low c.high s) (word_from c.width (words c.kind) 0 s) w)

pub write_figure : (c : Column) (v n : ℕ) → n ≡ c.width → c.kind ≡ Figure → field_text n v ≡ field_bytes c v
unfolding field_bytes
write_figure c v n l e =
    ap (λ (w : ℕ). field_text w v) l
    ∙ sym (ap (λ (k : Kind). by_kind k (field_text c.width v) (last_bytes c.width (word_at c.kind v))) e)

pub write_a_word : (c : Column) (v : ℕ) → (c.kind ≡ Figure → ⊥) → last_bytes c.width (word_at c.kind v) ≡ field_bytes c v
unfolding field_bytes
write_a_word c v w = sym (worded c.kind (field_text c.width v) (last_bytes c.width (word_at c.kind v)) w)

-- the word that is read is the first one that the field holds
pub word_found : (w : ℕ) (s : List ℕ) (ts : List (List ℕ)) (n : ℕ) → position_from (λ (t : List ℕ). eq_list s (last_bytes w t)) n ts ≡ word_from w ts n s
unfolding word_from
word_found w s [] n = refl
word_found w s (t ∷ ts) n =
    ap (cond (eq_list s (last_bytes w t)) (Some n))
    (ap (λ (k : ℕ). position_from (λ (u : List ℕ). eq_list s (last_bytes w u)) k ts) (add-one n) ∙ word_found w s ts (suc n))

pub word-index : (kind : Kind) (w : ℕ) (s : List ℕ) → position (λ (t : List ℕ). eq_list s (last_bytes w t)) (words kind) ≡ word_from w (words kind) 0 s
word-index kind w s = position_from-zero (λ (t : List ℕ). eq_list s (last_bytes w t)) (words kind) ∙ word_found w s (words kind) 0

few_words : (kind : Kind) → length (words kind) ≤ 10
unfolding words
few_words Figure = omega arith
few_words StateWord = omega arith
few_words BeforeWord = omega arith
few_words DecisionWord = omega arith
few_words UnitLetter = omega arith

-- a word's index is small
pub index-small : (kind : Kind) (w n : ℕ) (s : List ℕ) → position (λ (t : List ℕ). eq_list s (last_bytes w t)) (words kind) ≡ Some n → n < 10
index-small kind w n s e = omega (arith, few_words kind, (position-Some (λ (t : List ℕ). eq_list s (last_bytes w t)) (words kind) n [] e).0)
