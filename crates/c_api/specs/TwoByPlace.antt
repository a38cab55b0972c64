-- The call by place on two sheets, from what the two functions that it calls ensure: where place and call are named, and where they aren't.
use Rattle.std.specs.Prelude.{◌≡◌, Result as Either}
use Rattle.std.proofs.Common.{◌∙◌}
use Rattle.lists.specs.Basics.{refl, sym, ap, ℕ, eqb, true, false, List, length, choose_by}
use Rattle.model.specs.Types.{Transaction, Request}
use Rattle.model.specs.Refusals.{refusal_of}
use Rattle.model.specs.Writes.{Sheets}
use Rattle.model.specs.Results.{Answer, Response, refused, unless}
use Rattle.model.specs.Operations.{coordinator_left}
use Rattle.model.specs.Requests.{operation_of}
use Rattle.model.specs.CallByPlace.{listed, named, operation_at, list_after}
use Rattle.model.specs.TwoCalls.{TwoBytes, saying_two, conditions_of, response_two, response_at_two, plain_left, bookkeeping_left}
use Rattle.call_laws.specs.ByPlace.{named-response, unlisted_response}
use Rattle.answers.specs.declared.Performed.{Performed}
use Rattle.answers.specs.Answers.{to_performed}
use Rattle.by_place.specs.Numbers.{one_number}
use Rattle.two_check.specs.Areas.{two}
use Rattle.by_place.specs.TwoNumbers.{call_number_two, unlisted_number_two, number_in_two, call_numbered_two}
use Rattle.by_place.specs.Asked.{calls_two, asks, naming, called_at_two}
use Rattle.c_api.specs.ByPlace.{called-named, called_unnamed, list_with, put_back}

module _ (list : List Transaction) (place : ℕ) (q : Request) (b : TwoBytes) where
  named-two : listed (length list) place ≡ true → response_at_two list place q b ≡ response_two (operation_at list place q) b
  unfolding response_at_two response_two
  named-two e = ap (unless (conditions_of b)) (named-response list place q (saying_two b) e)

  unlisted_two : listed (length list) place ≡ false → response_at_two list place q b ≡ unless (conditions_of b) (refused 3)
  unfolding response_at_two
  unlisted_two e = ap (unless (conditions_of b)) (unlisted_response list place q (saying_two b) e)

-- a refusal leaves the list and all sheets
abbrev Leaves : List Transaction → ℕ → TwoBytes → Response Answer Sheets → Type 0
Leaves list place b r =
    (list_after list place r ≡ list) × ((plain_left b.plain r ≡ b.plain) × ((bookkeeping_left b.bookkeeping r ≡ b.bookkeeping) × (coordinator_left b.coordinator r ≡ b.coordinator)))

leaves : (list : List Transaction) (place : ℕ) (b : TwoBytes) → Leaves list place b (unless (conditions_of b) (refused 3))
unfolding list_after plain_left bookkeeping_left coordinator_left
leaves list place b =
    choose_by (Leaves list place b) (eqb (refusal_of (conditions_of b)) 0) (λ e. (refl, (refl, (refl, refl)))) (λ e. (refl, (refl, (refl, refl))))

module _ (list : List Transaction) (place call storage namespace table partition clustering column1 column2 clock limit : ℕ) (ps bs cs : List ℕ) where
  abbrev asking : Request
  asking = asks call storage namespace table partition clustering column1 column2 clock limit

  abbrev result : Response Answer Sheets
  result = called_at_two list place call asking (two ps bs cs)

  -- the response of the one named
  abbrev pub of_named : Response Answer Sheets
  of_named = response_two (operation_of asking (named list place)) (two ps bs cs)

  -- what the call by place ensures: its answer, the list, and the sheets
  abbrev pub CallsAtTwo : ℕ → List Transaction → List ℕ → List ℕ → List ℕ → Type 0
  CallsAtTwo r list' ps' bs' cs' =
      (r ≡ call_number_two result)
      × ((list' ≡ list_after list place result) × ((ps' ≡ plain_left ps result) × ((bs' ≡ bookkeeping_left bs result) × (cs' ≡ coordinator_left cs result))))

  -- place and call are named, and what the call returns is put back there
  pub calls-named-two : (out : Either Performed ℕ) (ps' bs' cs' : List ℕ) → naming calls_two (length list) place call ≡ true
      → out ≡ to_performed (named list place) of_named → ps' ≡ plain_left ps of_named → bs' ≡ bookkeeping_left bs of_named → cs' ≡ coordinator_left cs of_named
      → CallsAtTwo (one_number (λ (p : Performed). number_in_two p.reply) out) (list_with list place out) ps' bs' cs'
  calls-named-two out ps' bs' cs' e o p b d =
      let same : result ≡ of_named = called-named calls_two (length list) place call (conditions_of (two ps bs cs)) e (named-two list place asking (two ps bs cs)) in
      rw same (
        ap (one_number (λ (x : Performed). number_in_two x.reply)) o ∙ call_numbered_two (named list place) of_named,
        (ap (list_with list place) o ∙ put_back list place of_named, (p, (b, d))),
      )

  -- one of them isn't, and nothing is written
  pub calls_unnamed_two : (r : ℕ) (ps' bs' cs' : List ℕ) → naming calls_two (length list) place call ≡ false
      → r ≡ unlisted_number_two (two ps bs cs) → ps' ≡ ps → bs' ≡ bs → cs' ≡ cs
      → CallsAtTwo r list ps' bs' cs'
  calls_unnamed_two r ps' bs' cs' e f p b d =
      let left = leaves list place (two ps bs cs) in
      let same : result ≡ unless (conditions_of (two ps bs cs)) (refused 3) = called_unnamed calls_two (length list) place call (conditions_of (two ps bs cs)) e (unlisted_two list place asking (two ps bs cs)) in
      rw same (f, (sym left.0, (p ∙ sym left.1.0, (b ∙ sym left.1.1.0, d ∙ sym left.1.1.1))))
