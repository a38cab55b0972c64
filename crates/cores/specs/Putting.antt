-- Put, case by case in the order of its conditions; it writes nothing.
use Rattle.std.specs.Prelude.{◌≡◌, ◌≤◌, ◌<◌, ◌∷◌}
use Rattle.std.proofs.Common.{◌∙◌}
use Rattle.lists.specs.Basics.{refl, ℕ, leb, Bool, true, false, not, cond, List, [], le-leb, lt-leb, all}
use Rattle.model.specs.Types.{Key, Some, None, Columns, Transaction}
use Rattle.model.specs.Records.{found, is_missing, has_line}
use Rattle.model.specs.Refusals.{Condition, refuse, refusal_of}
use Rattle.model.specs.Transactions.{held_at, with_put, with_entry}
use Rattle.model.specs.Writes.{Sheets, nothing}
use Rattle.model.specs.WellFormed.{columns_in_range}
use Rattle.model.specs.Results.{put, Answer, returned, Result, refused, made, unless}
use Rattle.model.specs.Conditions.{is_new, held_entry, conditions}
use Rattle.model.specs.Calls.{after_put, outcome, result_of}
use Rattle.transactions.specs.Held.{entry_at}
use Rattle.call_laws.specs.Accepted.{unless-front, unless_past}
use Rattle.admission.specs.Admission.{admitting_open}

-- what is asked of a put of a key that has a line
abbrev held_conditions : Transaction → Key → Columns → List Condition
held_conditions t k c = refuse 7 (not (columns_in_range c)) ∷ refuse 10 (is_new k t) ∷ refuse 11 (leb 99999 (held_entry k t).seen.version) ∷ []

-- a put of a key that has a line
unfoldable pub put_held : Transaction → Key → Columns → Result Answer
put_held t k c = unless (held_conditions t k c) (made (returned (after_put t k c)) nothing)

-- a put over the entry at an index
unfoldable pub put_at : Transaction → ℕ → Columns → Result Answer
put_at t i c =
    cond (leb 99999 (entry_at t i).seen.version) (refused 11)
    (made (returned (with_entry t.count i (with_put c (entry_at t i)) t)) nothing)

pub put_late : (t : Transaction) (i : ℕ) (c : Columns) → 99999 ≤ (entry_at t i).seen.version → put_at t i c ≡ refused 11
unfolding put_at
put_late t i c l = rw (le-leb 99999 (entry_at t i).seen.version l)

pub put_made : (t : Transaction) (i : ℕ) (c : Columns) → (entry_at t i).seen.version < 99999 → put_at t i c ≡ made (returned (with_entry t.count i (with_put c (entry_at t i)) t)) nothing
unfolding put_at
put_made t i c l = rw (lt-leb 99999 (entry_at t i).seen.version l)

module _ (t : Transaction) (k : Key) (c : Columns) where
  pub put_large : columns_in_range c ≡ false → put_held t k c ≡ refused 7
  unfolding put_held refusal_of
  put_large e = rw e

  pub put_new : columns_in_range c ≡ true → held_at k t ≡ None → put_held t k c ≡ refused 10
  unfolding put_held refusal_of is_missing
  put_new e f = rw (e, f)

  late_version : (b : Bool) (r : Result Answer) → unless (refuse 11 b ∷ []) r ≡ cond b (refused 11) r
  unfolding refusal_of
  late_version true r = refl
  late_version false r = refl

  pub put_over_lem : (i : ℕ) → columns_in_range c ≡ true → held_at k t ≡ Some i → put_held t k c ≡ put_at t i c
  unfolding put_held put_at after_put refusal_of is_missing
  put_over_lem i e f = rw (e, f) (late_version (leb 99999 (entry_at t i).seen.version) _)

  module _ (s : Sheets) where
    pub put_away : (n : ℕ) → n ≡ refusal_of (admitting_open t k s) → (n ≡ 0 → ⊥) → result_of (put t k c) s ≡ refused n
    unfolding result_of conditions admitting_open
    put_away n e z = unless-front (admitting_open t k s) (refuse 6 (not (has_line k s.lines)) ∷ held_conditions t k c) (outcome (put t k c) s) n e z

    module _ (free : refusal_of (admitting_open t k s) ≡ 0) where
      put_rest : result_of (put t k c) s ≡ unless (refuse 6 (not (has_line k s.lines)) ∷ held_conditions t k c) (outcome (put t k c) s)
      unfolding result_of conditions admitting_open all
      put_rest = unless_past (admitting_open t k s) (refuse 6 (not (has_line k s.lines)) ∷ held_conditions t k c) (outcome (put t k c) s) refl free

      pub put_none : found k s.lines ≡ None → result_of (put t k c) s ≡ refused 6
      unfolding refusal_of is_missing
      put_none e = put_rest ∙ rw e

      pub put_found : (i : ℕ) → found k s.lines ≡ Some i → result_of (put t k c) s ≡ put_held t k c
      unfolding put_held outcome refusal_of is_missing
      put_found i e = put_rest ∙ rw e
