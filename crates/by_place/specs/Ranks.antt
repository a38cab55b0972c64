-- What the look-up and its companion tell C, as numbers (document 02, note 5).
use Rattle.std.specs.Prelude.{◌+◌, ◌≤◌, ◌∷◌}
use Rattle.lists.specs.Basics.{refl, ℕ, eqb, Bool, cond, List, [], length, arith}
use Rattle.lists.specs.Basics.{all, choose_by}
use Rattle.model.specs.Types.{Key, Rank, Ranked}
use Rattle.model.specs.Refusals.{Condition, refusal_of, last_refusal}
use Rattle.model.specs.SheetCalls.{rank_conditions, lookup_conditions, told_rank, rank_on, line_on}
use Rattle.model.specs.TwoSpares.{form_conditions, rank_two_conditions, rank_two, lookup_two_conditions, line_two}
use Rattle.call_laws.specs.Exactness.{small}

abbrev pub one_if : Bool → ℕ
one_if b = cond b 1 0

-- the index of the key's line, or 1000 and the refusal
unfoldable pub line_number : Ranked → ℕ
line_number r = cond (eqb r.refusal 0) r.rank.below (1000 + r.refusal)

-- where the key stands is told in a target of two numbers; of another length it is refused with 1, before the companion is asked
unfoldable pub rank_number : List ℕ → Ranked → ℕ
rank_number target r = cond (eqb (length target) 2) (cond (eqb r.refusal 0) 0 (1000 + r.refusal)) 1001

-- how many lines have smaller keys, and 1 if the key has a line itself, else 0; a refusal leaves the target as it was
unfoldable pub rank_target : List ℕ → Ranked → List ℕ
rank_target target r = cond (eqb (length target) 2) (cond (eqb r.refusal 0) (r.rank.below ∷ one_if r.rank.present ∷ []) target) target

-- What is told has a refusal of the table.

told_small : (cs : List Condition) (r : Rank) → refusal_of cs ≤ last_refusal → (told_rank cs r).refusal ≤ last_refusal
told_small cs r l = choose_by (λ (x : Ranked). x.refusal ≤ last_refusal) (eqb (refusal_of cs) 0) (λ e. omega arith) (λ e. l)

pub rank_small : (s : List ℕ) (k : Key) → (rank_on s k).refusal ≤ last_refusal
unfolding rank_on rank_conditions all
rank_small s k = told_small (rank_conditions s k) _ (small (rank_conditions s k) refl)

pub line_small : (s : List ℕ) (k : Key) → (line_on s k).refusal ≤ last_refusal
unfolding line_on lookup_conditions rank_conditions all
line_small s k = told_small (lookup_conditions s k) _ (small (lookup_conditions s k) refl)

pub rank_two_small : (ps bs : List ℕ) (k : Key) → (rank_two ps bs k).refusal ≤ last_refusal
unfolding rank_two rank_two_conditions form_conditions all
rank_two_small ps bs k = told_small (rank_two_conditions ps bs k) _ (small (rank_two_conditions ps bs k) refl)

pub line_two_small : (ps bs : List ℕ) (k : Key) → (line_two ps bs k).refusal ≤ last_refusal
unfolding line_two lookup_two_conditions rank_two_conditions form_conditions all
line_two_small ps bs k = told_small (lookup_two_conditions ps bs k) _ (small (lookup_two_conditions ps bs k) refl)
