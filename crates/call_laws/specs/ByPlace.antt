-- An operation by place is that of the one named, wherever the list is not over 16 and has the place; elsewhere it is refused. The test of the place decides
-- its first condition, and the others are those of the operation.
use Rattle.std.specs.Prelude.{◌≡◌, ◌≤◌, ◌<◌, ◌++◌}
use Rattle.std.proofs.Common.{◌∙◌}
use Rattle.lists.specs.Basics.{refl, sym, ap, subst, ℕ, eqb, leb, ltb, Bool, true, false, List, length, length-set, ltb-true}
use Rattle.lists.specs.Basics.{all, and_snd, choose_by}
use Rattle.std.proofs.Math.Seq.{get_or-set_same, get_or-set_other}
use Rattle.model.specs.Types.{Transaction, Request}
use Rattle.types.specs.declared.Request.TheVariants as asked
use Rattle.model.specs.Refusals.{Condition, refusal_of, count_before, first_asked}
use Rattle.model.specs.SheetCalls.{check_conditions}
use Rattle.model.specs.Writes.{Sheets}
use Rattle.model.specs.Results.{Answer, refusal_in, Response, refused, made, unless, answer_of, held_after}
use Rattle.model.specs.Conditions.{conditions}
use Rattle.model.specs.Closing.{close_conditions}
use Rattle.model.specs.ByteCalls.{sheets_said}
use Rattle.model.specs.ByteHistories.{Bytes}
use Rattle.model.specs.Operations.{operation_shifts, operation_conditions, response, response_on, sheet_left, coordinator_left, bytes_left}
use Rattle.model.specs.Requests.{operation_of}
use Rattle.model.specs.CallByPlace.{listed, named, operation_at, place_conditions, all_conditions_at, response_at, response_at_on, list_after}
use Rattle.call_laws.specs.Exactness.{Sound, sound_unless, sound_on, when_refused, refusal_then, rising_from, row_first}
use Rattle.call_laws.specs.Operations.{response_refusal, response_sound}

-- what is asked by place neither adds nor removes a line
pub request_calm : (q : Request) (t : Transaction) → operation_shifts (operation_of q t) ≡ false
unfolding operation_of
request_calm (asked.Begin b) t = refl
request_calm (asked.Read k now) t = refl
request_calm (asked.Second k now c) t = refl
request_calm (asked.Put k c) t = refl
request_calm (asked.Advance now) t = refl
request_calm asked.Abort t = refl
request_calm (asked.Visit k now) t = refl
request_calm (asked.Close now limit) t = refl

-- the transaction that is left with the client: as it came where the operation is refused
abbrev pub left_with : {E : Type 0} → Transaction → Response Answer E → Transaction
left_with t (refused n) = t
left_with t (made a e) = held_after t a

pub listed-within : (n place : ℕ) → listed n place ≡ true → place < n
unfolding listed
listed-within n place e = ltb-true place n (and_snd (leb n 16) (ltb place n) e)

-- over decoded sheets
module _ (list : List Transaction) (place : ℕ) (q : Request) (s : Sheets) where
  pub named-response : listed (length list) place ≡ true → response_at list place q s ≡ response (operation_at list place q) s
  unfolding response_at refusal_of
  named-response e = rw e refl

  pub unlisted_response : listed (length list) place ≡ false → response_at list place q s ≡ refused 3
  unfolding response_at refusal_of
  unlisted_response e = rw e refl

  -- what holds of the operation on the one named, and of refusal 3, holds of the one by place
  pub by_place_lem : (P : Response Answer Sheets → Type 0) → P (response (operation_at list place q) s) → P (refused 3) → P (response_at list place q s)
  by_place_lem P a r = go (listed (length list) place) refl
    where
      go : (b : Bool) → listed (length list) place ≡ b → P (response_at list place q s)
      go true e = subst P (sym (named-response e)) a
      go false e = subst P (sym (unlisted_response e)) r

module _ (list : List Transaction) (place : ℕ) (q : Request) (rs cs : List ℕ) where
  pub named-response_on : listed (length list) place ≡ true → response_at_on list place q rs cs ≡ response_on (operation_at list place q) rs cs
  unfolding response_at_on response_on
  named-response_on e = ap (unless (check_conditions rs cs)) (named-response list place q (sheets_said rs cs) e)

  -- 1 and 2 come first
  pub unlisted_refused : listed (length list) place ≡ false → response_at_on list place q rs cs ≡ unless (check_conditions rs cs) (refused 3)
  unfolding response_at_on
  unlisted_refused e = ap (unless (check_conditions rs cs)) (unlisted_response list place q (sheets_said rs cs) e)

  pub place_sound : Sound (response_at_on list place q rs cs)
  unfolding response_at_on response_at all
  place_sound =
      sound_on rs cs (response_at list place q (sheets_said rs cs))
      (sound_unless (place_conditions list place) _ refl (response_sound (operation_at list place q) (sheets_said rs cs)))

  -- an answer's refusal is that of its conditions
  pub place_refusal_given : refusal_in (answer_of (response_at_on list place q rs cs)) ≡ refusal_of (all_conditions_at list place q rs cs)
  unfolding response_at_on response_at all_conditions_at check_conditions all
  place_refusal_given =
      let rest = operation_conditions (operation_at list place q) (sheets_said rs cs) in
      refusal_then (check_conditions rs cs) (place_conditions list place ++ rest) _ refl
      (refusal_then (place_conditions list place) rest _ refl (response_refusal (operation_at list place q) (sheets_said rs cs)))

  -- "The lowest number that applies is given": the first that is asked
  pub place_refusal_is_first : first_asked (refusal_of (all_conditions_at list place q rs cs)) (all_conditions_at list place q rs cs) ≡ true
  unfolding all_conditions_at check_conditions operation_of operation_conditions conditions close_conditions rising_from all count_before
  place_refusal_is_first = go q
    where
      go : (q : Request) → first_asked (refusal_of (all_conditions_at list place q rs cs)) (all_conditions_at list place q rs cs) ≡ true
      go (asked.Begin b) = row_first (all_conditions_at list place (asked.Begin b) rs cs) refl
      go (asked.Read k now) = row_first (all_conditions_at list place (asked.Read k now) rs cs) refl
      go (asked.Second k now c) = row_first (all_conditions_at list place (asked.Second k now c) rs cs) refl
      go (asked.Put k c) = row_first (all_conditions_at list place (asked.Put k c) rs cs) refl
      go (asked.Advance now) = row_first (all_conditions_at list place (asked.Advance now) rs cs) refl
      go asked.Abort = row_first (all_conditions_at list place asked.Abort rs cs) refl
      go (asked.Visit k now) = row_first (all_conditions_at list place (asked.Visit k now) rs cs) refl
      go (asked.Close now limit) = row_first (all_conditions_at list place (asked.Close now limit) rs cs) refl

module _ (list : List Transaction) (place : ℕ) where
  pub list-keeps-length : (r : Response Answer Sheets) → length (list_after list place r) ≡ length list
  unfolding list_after
  list-keeps-length (refused n) = refl
  list-keeps-length (made a s) = length-set list place (held_after (named list place) a)

  pub others_stay : (j : ℕ) → (j ≡ place → ⊥) → (r : Response Answer Sheets) → named (list_after list place r) j ≡ named list j
  unfolding list_after
  others_stay j d (refused n) = refl
  others_stay j d (made a s) = get_or-set_other list place j (held_after (named list place) a) _ d

  pub named-replaced : place < length list → (r : Response Answer Sheets) → named (list_after list place r) place ≡ left_with (named list place) r
  unfolding list_after
  named-replaced l (refused n) = refl
  named-replaced l (made a s) = get_or-set_same list place (held_after (named list place) a) _ l

-- a refusal leaves the list and both sheets as they were
abbrev pub Leaves : List Transaction → ℕ → List ℕ → List ℕ → Response Answer Sheets → Type 0
Leaves list place rs cs r = (list_after list place r ≡ list) × ((sheet_left rs r ≡ rs) × (coordinator_left cs r ≡ cs))

pub refusal_leaves : (list : List Transaction) (place : ℕ) (rs cs : List ℕ) (ps : List Condition) (n : ℕ) → Leaves list place rs cs (unless ps (refused n))
unfolding list_after sheet_left coordinator_left
refusal_leaves list place rs cs ps n =
    choose_by (Leaves list place rs cs) (eqb (refusal_of ps) 0) (λ e. (refl, (refl, refl))) (λ e. (refl, (refl, refl)))

-- "after a refusal": the list and both sheets are as they were
pub refused_leaves : (list : List Transaction) (place : ℕ) (q : Request) (b : Bytes) → 1 ≤ refusal_in (answer_of (response_at_on list place q b.records b.coordinator)) → (list_after list place (response_at_on list place q b.records b.coordinator) ≡ list) × (bytes_left b (response_at_on list place q b.records b.coordinator) ≡ b)
unfolding list_after sheet_left coordinator_left
refused_leaves list place q b =
    when_refused (λ (x : Response Answer Sheets). (list_after list place x ≡ list) × (bytes_left b x ≡ b)) (λ n. (refl, refl))
    (response_at_on list place q b.records b.coordinator) (place_sound list place q b.records b.coordinator)

-- What is done by place, beside what is done with the one named.
pub record AsNamed (list : List Transaction) (place : ℕ) (rs cs : List ℕ) (by_place byName : Response Answer Sheets) : Type 0 where
  pub answer : by_place ≡ byName
  pub lines : sheet_left rs by_place ≡ sheet_left rs byName
  pub decisions : coordinator_left cs by_place ≡ coordinator_left cs byName
  pub one : named (list_after list place by_place) place ≡ left_with (named list place) byName
  pub others : (j : ℕ) → (j ≡ place → ⊥) → named (list_after list place by_place) j ≡ named list j
  pub size : length (list_after list place by_place) ≡ length list

-- "advance (by place too, taking and returning the one named)"
pub by_place_is_named : (list : List Transaction) (place : ℕ) (q : Request) (rs cs : List ℕ) → listed (length list) place ≡ true → AsNamed list place rs cs (response_at_on list place q rs cs) (response_on (operation_at list place q) rs cs)
by_place_is_named list place q rs cs e =
    record {
      answer = same;
      lines = ap (sheet_left rs) same;
      decisions = ap (coordinator_left cs) same;
      one = named-replaced list place (listed-within (length list) place e) (response_at_on list place q rs cs) ∙ ap (left_with (named list place)) same;
      others = λ j d. others_stay list place j d (response_at_on list place q rs cs);
      size = list-keeps-length list place (response_at_on list place q rs cs);
    }
  where
    same : response_at_on list place q rs cs ≡ response_on (operation_at list place q) rs cs
    same = named-response_on list place q rs cs e
