-- The call by place, from what the two functions that it calls ensure: where place and call are named, and where they aren't.
use Rattle.std.specs.Prelude.{◌≡◌, ◌<◌, Result as Either, Ok, Err}
use Rattle.std.proofs.Common.{◌∙◌}
use Rattle.lists.specs.Basics.{refl, sym, ap, ℕ, Bool, true, false, cond, and-true, List, [], length, get_or, set, and_fst, and_snd}
use Rattle.lists.specs.All.{get_or_any}
use Rattle.model.specs.Types.{Transaction, Request}
use Rattle.model.specs.Refusals.{Condition}
use Rattle.model.specs.Writes.{Sheets}
use Rattle.model.specs.Results.{Answer, Response, refused, made, unless}
use Rattle.model.specs.SheetCalls.{check_conditions}
use Rattle.model.specs.Operations.{response_on, sheet_left, coordinator_left}
use Rattle.model.specs.Requests.{operation_of}
use Rattle.model.specs.Calls.{new_transaction}
use Rattle.model.specs.CallByPlace.{listed, named, operation_at, list_after}
use Rattle.call_laws.specs.ByPlace.{listed-within, named-response_on, unlisted_refused, refusal_leaves}
use Rattle.answers.specs.declared.Performed.{Performed}
use Rattle.answers.specs.Answers.{to_performed, number_in}
use Rattle.by_place.specs.Numbers.{call_number, unlisted_number, one_number, call_numbered}
use Rattle.by_place.specs.Asked.{calls, is_call, asks, naming, or_no_call, called_at_on}

-- the list after an answer: what an accepted call returns is put back at its place
abbrev pub list_with : List Transaction → ℕ → Either Performed ℕ → List Transaction
list_with list place (Ok p) = set list place p.transaction
list_with list place (Err n) = list

module _ (most n place call : ℕ) where
  pub naming-within : naming most n place call ≡ true → place < n
  naming-within e = listed-within n place (and_fst (listed n place) (is_call most call) e)

  -- a call by place is the one named, where place and call are; else it is refused, after what is asked of the sheets
  pub called-named : {r x : Response Answer Sheets} (ps : List Condition) → naming most n place call ≡ true → (listed n place ≡ true → r ≡ x) → or_no_call most call ps r ≡ x
  called-named ps e same = rw (and_snd (listed n place) (is_call most call) e) (same (and_fst (listed n place) (is_call most call) e))

  pub called_unnamed : {r : Response Answer Sheets} (ps : List Condition) → naming most n place call ≡ false → (listed n place ≡ false → r ≡ unless ps (refused 3)) → or_no_call most call ps r ≡ unless ps (refused 3)
  called_unnamed {r} ps e same = go (is_call most call) refl
    where
      go : (b : Bool) → is_call most call ≡ b → cond b r (unless ps (refused 3)) ≡ unless ps (refused 3)
      go false g = refl
      go true g = same (sym (and-true (listed n place)) ∙ rw g at e)

-- what a read past the list would find
abbrev nobody : Transaction
nobody = record { number = 0; serializable = 0; phase = 0; place = 0; verdict = 0; count = 0; entries = [] }

-- a place of the list holds the transaction that it names
pub named_here : (list : List Transaction) (place : ℕ) → place < length list → get_or list place nobody ≡ named list place
named_here list place l = get_or_any list place nobody (new_transaction 0 false) l

pub put_back : (list : List Transaction) (place : ℕ) (r : Response Answer Sheets) → list_with list place (to_performed (named list place) r) ≡ list_after list place r
unfolding list_after
put_back list place (refused n) = refl
put_back list place (made a s) = refl

module _ (list : List Transaction) (place call storage namespace table partition clustering column1 column2 clock limit : ℕ) (rs cs : List ℕ) where
  abbrev asking : Request
  asking = asks call storage namespace table partition clustering column1 column2 clock limit

  abbrev result : Response Answer Sheets
  result = called_at_on list place call asking rs cs

  -- what the call by place ensures: its answer, the list, and both sheets
  abbrev pub CallsAt : ℕ → List Transaction → List ℕ → List ℕ → Type 0
  CallsAt r list' rs' cs' =
      (r ≡ call_number result) × ((list' ≡ list_after list place result) × ((rs' ≡ sheet_left rs result) × (cs' ≡ coordinator_left cs result)))

  -- place and call are named, and what the call returns is put back there
  pub calls-named : (out : Either Performed ℕ) (rs' cs' : List ℕ) → naming calls (length list) place call ≡ true
      → out ≡ to_performed (named list place) (response_on (operation_of asking (named list place)) rs cs)
      → rs' ≡ sheet_left rs (response_on (operation_of asking (named list place)) rs cs)
      → cs' ≡ coordinator_left cs (response_on (operation_of asking (named list place)) rs cs)
      → CallsAt (one_number (λ (p : Performed). number_in p.reply) out) (list_with list place out) rs' cs'
  calls-named out rs' cs' e o l d =
      let r = response_on (operation_at list place asking) rs cs in
      let same : result ≡ r = called-named calls (length list) place call (check_conditions rs cs) e (named-response_on list place asking rs cs) in
      rw same (
        ap (one_number (λ (p : Performed). number_in p.reply)) o ∙ call_numbered (named list place) r,
        (ap (list_with list place) o ∙ put_back list place r, (l, d)),
      )

  -- one of them isn't, and nothing is written
  pub calls_unnamed : (r : ℕ) (rs' cs' : List ℕ) → naming calls (length list) place call ≡ false → r ≡ unlisted_number rs cs → rs' ≡ rs → cs' ≡ cs → CallsAt r list rs' cs'
  calls_unnamed r rs' cs' e f l d =
      let left = refusal_leaves list place rs cs (check_conditions rs cs) 3 in
      let same : result ≡ unless (check_conditions rs cs) (refused 3) = called_unnamed calls (length list) place call (check_conditions rs cs) e (unlisted_refused list place asking rs cs) in
      rw same (f, (sym left.0, (l ∙ sym left.1.0, d ∙ sym left.1.1)))
