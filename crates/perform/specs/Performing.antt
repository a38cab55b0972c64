-- What a call answers, put as the one function for every call answers it. A result is refused or what the call comes to, and each call comes to one
-- kind of answer.
use Rattle.std.specs.Prelude.{◌≡◌, Result as Either}
use Rattle.std.proofs.Common.{◌∙◌}
use Rattle.lists.specs.Basics.{refl, sym, ap, subst, ℕ, Bool, List, choose_by}
use Rattle.model.specs.Types.{Key, Image, Record, Columns, Transaction, Recovery, Request}
use Rattle.types.specs.declared.Request.TheVariants as asked
use Rattle.model.specs.Writes.{Sheets, nothing, apply}
use Rattle.model.specs.Results.{Call, begin, read, second, put, advance, abort, visit, Answer, Response, Result, refused, made}
use Rattle.model.specs.Conditions.{is_new, takes_two, conditions}
use Rattle.model.specs.Records.{line_of}
use Rattle.model.specs.Groups.{is_lower}
use Rattle.model.specs.Steps.{units_of}
use Rattle.model.specs.Visits.{meeting, is_again}
use Rattle.model.specs.Calls.{new_transaction, read_new, seen_second, whole_read, outcome, result_of}
use Rattle.model.specs.ByteCalls.{sheets_of, records_after, coordinator_after}
use Rattle.model.specs.Closing.{close_conditions}
use Rattle.model.specs.Operations.{Operation, once, close, settled, response, records_left, coordinator_left}
use Rattle.model.specs.Requests.{operation_of}
use Rattle.call_laws.specs.Choices.{unless_of, unless_by}
use Rattle.call_laws.specs.Accepted.{Outcome, Accepted, written_nothing}
use Rattle.call_laws.specs.Operations.{settled_lines, settled-decisions}
use Rattle.answers.specs.declared.Closed.{Closed}
use Rattle.answers.specs.declared.Read.{Read}
use Rattle.answers.specs.declared.Reply.TheVariants.{Nothing, Read as WasRead, Visited, Writes}
use Rattle.answers.specs.declared.Performed.{Performed}
use Rattle.answers.specs.Answers.{to_issued, to_returned, to_visited, to_read, to_performed, to_closed}
use Rattle.answers.specs.Outcomes.{mapped}
use Rattle.cores.specs.Begins.{Issues}
use Rattle.cores.specs.Closing.{Closes}

-- each as the one function for every call answers it
abbrev pub of_returned : Transaction → Performed
of_returned u = record { reply = Nothing; transaction = u }

abbrev pub of_read : Read → Performed
of_read r = record { reply = WasRead r.value; transaction = r.transaction }

abbrev pub of_visited : Transaction → Recovery → Performed
of_visited t v = record { reply = Visited v; transaction = t }

abbrev pub of_closed : Closed → Performed
of_closed r = record { reply = Writes r.writes; transaction = r.transaction }

abbrev pub of_issued : Bool → ℕ → Performed
of_issued b n = of_returned (new_transaction n b)

module _ (s : Sheets) where
  -- what holds of a refusal, and of what the call comes to, holds of its result
  on_result : (P : Result Answer → Type 0) (c : Call) → ((n : ℕ) → (n ≡ 0 → ⊥) → P (refused n)) → P (outcome c s) → P (result_of c s)
  unfolding result_of
  on_result P c r o = unless_of P (conditions c s) (λ z. r _ z) (λ q. o)

  module _ (t : Transaction) where
    begin_performed : (b : Bool) → mapped (of_issued b) (to_issued (result_of (begin b) s)) ≡ to_performed t (result_of (begin b) s)
    unfolding outcome
    begin_performed b = on_result (λ (r : Result Answer). mapped (of_issued b) (to_issued r) ≡ to_performed t r) (begin b) (λ n z. refl) refl

    abbrev Reading : Result Answer → Type 0
    Reading r = mapped of_read (to_read t r) ≡ to_performed t r

    abbrev Returning : Result Answer → Type 0
    Returning r = mapped of_returned (to_returned t r) ≡ to_performed t r

    whole_performed : (sees : Record → Image) (k : Key) (now : ℕ) → Reading (whole_read sees t k now s)
    unfolding whole_read read_new
    whole_performed sees k now =
        choose_by Reading (is_new k t)
        (λ n. choose_by Reading (is_again (meeting now s (line_of k s.lines))) (λ a. refl) (λ a. refl))
        (λ n. refl)

    read_performed : (k : Key) (now : ℕ) → Reading (result_of (read t k now) s)
    unfolding outcome
    read_performed k now =
        on_result Reading (read t k now) (λ n z. refl)
        (choose_by Reading (takes_two (units_of s) k t) (λ a. refl) (λ a. whole_performed (λ (r : Record). r.image) k now))

    second_performed : (k : Key) (now : ℕ) (c : Columns) → Reading (result_of (second t k now c) s)
    unfolding outcome
    second_performed k now c = on_result Reading (second t k now c) (λ n z. refl) (whole_performed (seen_second (is_lower (units_of s) k) c) k now)

    put_performed : (k : Key) (c : Columns) → Returning (result_of (put t k c) s)
    unfolding outcome
    put_performed k c = on_result Returning (put t k c) (λ n z. refl) refl

    advance_performed : (now : ℕ) → Returning (result_of (advance t now) s)
    unfolding outcome
    advance_performed now = on_result Returning (advance t now) (λ n z. refl) refl

    abort_performed : Returning (result_of (abort t) s)
    unfolding outcome
    abort_performed = on_result Returning (abort t) (λ n z. refl) refl

    visit_performed : (k : Key) (now : ℕ) → mapped (of_visited t) (to_visited (result_of (visit k now) s)) ≡ to_performed t (result_of (visit k now) s)
    unfolding outcome
    visit_performed k now = on_result (λ (r : Result Answer). mapped (of_visited t) (to_visited r) ≡ to_performed t r) (visit k now) (λ n z. refl) refl

    close_performed : (now limit : ℕ) → mapped of_closed (to_closed t (response (close t now limit) s)) ≡ to_performed t (response (close t now limit) s)
    unfolding response
    close_performed now limit =
        unless_by (λ (r : Response Answer Sheets). mapped of_closed (to_closed t r) ≡ to_performed t r) (close_conditions t s) refl (λ q. refl)

    -- an answer doesn't tell the sheets that are left
    settled_performed : (r : Result Answer) → to_performed t (settled s r) ≡ to_performed t r
    settled_performed (refused n) = refl
    settled_performed (made a w) = refl

-- What the function for every call ensures, by what is asked: the call's own answer and sheets. A sheet that a call is only lent stays.
module _ (q : Request) (t : Transaction) (rs cs : List ℕ) (accepted : Accepted rs cs) (out : Either Performed ℕ) where
  abbrev s : Sheets
  s = sheets_of rs cs

  abbrev Performs : List ℕ → List ℕ → Type 0
  Performs rs' cs' =
      (out ≡ to_performed t (response (operation_of q t) s))
      × ((rs' ≡ records_left rs (response (operation_of q t) s)) × (cs' ≡ coordinator_left cs (response (operation_of q t) s)))

  -- of what it comes to
  comes_to_lem : (r : Response Answer Sheets) {rs' cs' : List ℕ} → response (operation_of q t) s ≡ r → out ≡ to_performed t r
      → rs' ≡ records_left rs r → cs' ≡ coordinator_left cs r → Performs rs' cs'
  comes_to_lem r e o l d = (o ∙ ap (to_performed t) (sym e), (l ∙ ap (records_left rs) (sym e), d ∙ ap (coordinator_left cs) (sym e)))

  -- of the call that it is
  made_of : (c : Call) {rs' cs' : List ℕ} → operation_of q t ≡ once c → out ≡ to_performed t (result_of c s)
      → rs' ≡ records_after rs cs (result_of c s) → cs' ≡ coordinator_after rs cs (result_of c s) → Performs rs' cs'
  unfolding response
  made_of c e o l d =
      let r = result_of c s in
      comes_to_lem (settled s r) (ap (λ (x : Operation). response x s) e)
      (o ∙ sym (settled_performed s t r)) (l ∙ sym (settled_lines rs cs r)) (d ∙ sym (settled-decisions rs cs r))

  -- a call that writes nothing leaves both sheets
  quiet : (c : Call) (a : Answer) → outcome c s ≡ made a nothing → operation_of q t ≡ once c → out ≡ to_performed t (result_of c s) → Performs rs cs
  unfolding records_after coordinator_after apply result_of
  quiet c a e f o =
      let n = written_nothing rs cs accepted in
      let l = on_result s (λ (r : Result Answer). (rs ≡ records_after rs cs r) × (cs ≡ coordinator_after rs cs r)) c (λ n z. (refl, refl))
      (subst (λ (r : Result Answer). (rs ≡ records_after rs cs r) × (cs ≡ coordinator_after rs cs r)) (sym e) (n.lines, n.decisions)) in
      made_of c f o l.0 l.1

  pub begun : (b : Bool) {i : Either ℕ ℕ} {cs' : List ℕ} → q ≡ asked.Begin b → Issues cs i cs' → out ≡ mapped (of_issued b) i → Performs rs cs'
  unfolding operation_of
  begun b e h o =
      let x = h.beside b rs accepted in
      made_of (begin b) (ap (λ (y : Request). operation_of y t) e)
      (o ∙ (ap (mapped (of_issued b)) x.said ∙ begin_performed s t b)) x.lines x.decisions

  pub was_read : (k : Key) (now : ℕ) {r : Either Read ℕ} {rs' cs' : List ℕ} → q ≡ asked.Read k now → out ≡ mapped of_read r → Outcome (to_read t) (result_of (read t k now) s) rs cs r rs' cs' → Performs rs' cs'
  unfolding operation_of
  was_read k now e o h = made_of (read t k now) (ap (λ (x : Request). operation_of x t) e) (o ∙ (ap (mapped of_read) h.said ∙ read_performed s t k now)) h.lines h.decisions

  pub was_second : (k : Key) (now : ℕ) (c : Columns) {r : Either Read ℕ} {rs' cs' : List ℕ} → q ≡ asked.Second k now c → out ≡ mapped of_read r → Outcome (to_read t) (result_of (second t k now c) s) rs cs r rs' cs' → Performs rs' cs'
  unfolding operation_of
  was_second k now c e o h = made_of (second t k now c) (ap (λ (x : Request). operation_of x t) e) (o ∙ (ap (mapped of_read) h.said ∙ second_performed s t k now c)) h.lines h.decisions

  pub was_put : (k : Key) (c : Columns) {r : Either Transaction ℕ} → q ≡ asked.Put k c → out ≡ mapped of_returned r → r ≡ to_returned t (result_of (put t k c) s) → Performs rs cs
  unfolding operation_of outcome
  was_put k c e o f = quiet (put t k c) _ refl (ap (λ (x : Request). operation_of x t) e) (o ∙ (ap (mapped of_returned) f ∙ put_performed s t k c))

  pub advanced : (now : ℕ) {r : Either Transaction ℕ} {rs' cs' : List ℕ} → q ≡ asked.Advance now → out ≡ mapped of_returned r → Outcome (to_returned t) (result_of (advance t now) s) rs cs r rs' cs' → Performs rs' cs'
  unfolding operation_of
  advanced now e o h = made_of (advance t now) (ap (λ (x : Request). operation_of x t) e) (o ∙ (ap (mapped of_returned) h.said ∙ advance_performed s t now)) h.lines h.decisions

  pub aborted : {r : Either Transaction ℕ} → q ≡ asked.Abort → out ≡ mapped of_returned r → r ≡ to_returned t (result_of (abort t) s) → Performs rs cs
  unfolding operation_of outcome
  aborted e o f = quiet (abort t) _ refl (ap (λ (x : Request). operation_of x t) e) (o ∙ (ap (mapped of_returned) f ∙ abort_performed s t))

  pub was_visited : (k : Key) (now : ℕ) {r : Either Recovery ℕ} {rs' cs' : List ℕ} → q ≡ asked.Visit k now → out ≡ mapped (of_visited t) r → Outcome to_visited (result_of (visit k now) s) rs cs r rs' cs' → Performs rs' cs'
  unfolding operation_of
  was_visited k now e o h = made_of (visit k now) (ap (λ (x : Request). operation_of x t) e) (o ∙ (ap (mapped (of_visited t)) h.said ∙ visit_performed s t k now)) h.lines h.decisions

  pub was_closed : (now limit : ℕ) {r : Either Closed ℕ} {rs' cs' : List ℕ} → q ≡ asked.Close now limit → out ≡ mapped of_closed r → Closes t rs cs (response (close t now limit) s) r rs' cs' → Performs rs' cs'
  unfolding operation_of
  was_closed now limit e o h =
      comes_to_lem (response (close t now limit) s) (ap (λ (x : Request). response (operation_of x t) s) e)
      (o ∙ (ap (mapped of_closed) h.0 ∙ close_performed s t now limit)) h.1.0 h.1.1
