-- What is asked by place takes of its client and what it leaves with it: nothing is taken and the transaction stays, or one of a new number is given, or the
-- transaction is taken and comes back under its number. One case for each kind of request; the number of a transaction is what no step changes.
use Rattle.std.specs.Prelude.{◌≡◌, ◌≤◌, ◌<◌, ◌∷◌}
use Rattle.std.proofs.Common.{◌∙◌}
use Rattle.lists.specs.Basics.{refl, sym, subst, ℕ, Bool, true, false, not, List, length, get_or, none, some, arith, choose_by}
use Rattle.model.specs.Types.{Key, Image, Record, Found, Some, None, Columns, Transaction, Request}
use Rattle.types.specs.declared.Request.TheVariants as asked
use Rattle.model.specs.Records.{by_found}
use Rattle.model.specs.Coordinator.{with_issued}
use Rattle.model.specs.Transactions.{no_entry, held_at, with_put, with_entry}
use Rattle.model.specs.Writes.{Sheets, decisions_after, apply}
use Rattle.model.specs.WellFormed.{well_formed}
use Rattle.model.specs.Refusals.{Condition, refuse, refusal_of}
use Rattle.model.specs.Results.{Call, begin, read, second, put, advance, abort, visit, Answer, Response, Result, answer_of, returns}
use Rattle.model.specs.Conditions.{takes_two, conditions}
use Rattle.model.specs.Steps.{units_of}
use Rattle.model.specs.Calls.{whole_read, after_put, outcome, result_of}
use Rattle.model.specs.Closing.{Run, starting, most_steps, close_conditions}
use Rattle.model.specs.Operations.{stands_for, settled, close_run, response, sheets_left}
use Rattle.model.specs.Requests.{operation_of}
use Rattle.model.specs.CallByPlace.{listed, named, call_at, response_at, list_after}
use Rattle.model.specs.Histories.{given, taken_by}
use Rattle.call_laws.specs.Choices.{unless_by, by_whole}
use Rattle.call_laws.specs.Keeping.{taken-parts}
use Rattle.call_laws.specs.ByPlace.{left_with, listed-within, unlisted_response, by_place_lem, named-replaced}
use Rattle.closing_laws.specs.Steps.{closing_every, step-number}

pub data Handed (c : Call) (t : Transaction) (s : Sheets) (r : Response Answer Sheets) : Type 0 where
  -- nothing is taken, and the transaction stays as it is
  stays : taken_by c (answer_of r) ≡ none → left_with t r ≡ t → Handed c t s r
  -- nothing is taken, and one of a new number takes its place
  begun : taken_by c (answer_of r) ≡ none → returns (answer_of r) ≡ some (left_with t r)
      → s.coordinator.issued < (left_with t r).number → (left_with t r).number ≤ (sheets_left s r).coordinator.issued → Handed c t s r
  -- it is taken, and comes back under its number
  moves : taken_by c (answer_of r) ≡ some t → 1 ≤ t.number → returns (answer_of r) ≡ some (left_with t r) → (left_with t r).number ≡ t.number → Handed c t s r

-- a put keeps the number
put_number : (t : Transaction) (k : Key) (c : Columns) → (after_put t k c).number ≡ t.number
unfolding after_put
put_number t k c = go (held_at k t)
  where
    go : (f : Found) → (by_found f t (λ (i : ℕ). with_entry t.count i (with_put c (get_or t.entries i no_entry)) t)).number ≡ t.number
    go None = refl
    go (Some i) = refl

-- Every request.
module _ (t : Transaction) (s : Sheets) where
  -- a call, refused or not
  call_hands : (c : Call) → (refusal_of (conditions c s) ≡ 0 → Handed c t s (settled s (outcome c s))) → Handed c t s (settled s (result_of c s))
  unfolding result_of
  call_hands c f = unless_by (λ (r : Result Answer). Handed c t s (settled s r)) (conditions c s) (stays refl refl) f

  -- a call that takes the transaction and returns it
  abbrev Moving : Call → Result Answer → Type 0
  Moving c r = Handed c t s (settled s r)

  -- one that isn't refused has a number
  positive : (cs : List Condition) → refusal_of (refuse 3 (not (well_formed s t)) ∷ cs) ≡ 0 → 1 ≤ t.number
  positive cs z = (taken-parts s t cs z).0.number

  whole_hands : (c : Call) → given c ≡ some t → 1 ≤ t.number → (sees : Record → Image) (k : Key) (now : ℕ) → Moving c (whole_read sees t k now s)
  unfolding returns
  whole_hands c e l sees k now = by_whole sees t k now s (Moving c) (λ n a. moves e l refl refl) (λ n a. moves e l refl refl) (λ n. moves e l refl refl)

  read_hands : (k : Key) (now : ℕ) → refusal_of (conditions (read t k now) s) ≡ 0 → Moving (read t k now) (outcome (read t k now) s)
  unfolding conditions outcome given returns
  read_hands k now z =
      let l : 1 ≤ t.number = positive _ z in
      choose_by (Moving (read t k now)) (takes_two (units_of s) k t) (λ n. moves refl l refl refl) (λ n. whole_hands (read t k now) refl l _ k now)

  closed_number : (now limit : ℕ) → (close_run t now limit s).transaction.number ≡ t.number
  closed_number now limit =
      closing_every (λ (x : Run). x.transaction.number ≡ t.number) now (λ y e. step-number y.transaction now y.sheets ∙ e) most_steps (starting t limit s) refl

  response_hands : (q : Request) → Handed (stands_for (operation_of q t)) t s (response (operation_of q t) s)
  unfolding operation_of stands_for response conditions close_conditions outcome given returns apply decisions_after with_issued
  response_hands (asked.Begin b) = call_hands (begin b) (λ z. begun refl refl (omega arith) (omega arith))
  response_hands (asked.Read k now) = call_hands (read t k now) (read_hands k now)
  response_hands (asked.Second k now c) = call_hands (second t k now c) (λ z. whole_hands (second t k now c) refl (positive _ z) _ k now)
  response_hands (asked.Put k c) = call_hands (put t k c) (λ z. moves refl (positive _ z) refl (put_number t k c))
  response_hands (asked.Advance now) = call_hands (advance t now) (λ z. moves refl (positive _ z) refl (step-number t now s))
  response_hands asked.Abort = call_hands (abort t) (λ z. moves refl (positive _ z) refl refl)
  response_hands (asked.Visit k now) = call_hands (visit k now) (λ z. stays refl refl)
  response_hands (asked.Close now limit) =
      unless_by (Handed (advance t now) t s) (close_conditions t s) (stays refl refl) (λ z. moves refl (positive _ z) refl (closed_number now limit))

module _ (list : List Transaction) (place : ℕ) (q : Request) (s : Sheets) where
  pub place_hands : Handed (call_at list place q) (named list place) s (response_at list place q s)
  place_hands =
      by_place_lem list place q s (Handed (call_at list place q) (named list place) s) (response_hands (named list place) s q) (stays refl refl)

  -- what is left with the client stands at the place; a place outside the list leaves the list as it is
  pub left_at_place : named (list_after list place (response_at list place q s)) place ≡ left_with (named list place) (response_at list place q s)
  unfolding list_after
  left_at_place = go (listed (length list) place) refl
    where
      Left : Response Answer Sheets → Type 0
      Left r = named (list_after list place r) place ≡ left_with (named list place) r

      go : (b : Bool) → listed (length list) place ≡ b → Left (response_at list place q s)
      go true e = named-replaced list place (listed-within (length list) place e) (response_at list place q s)
      go false e = subst Left (sym (unlisted_response list place q s e)) refl
