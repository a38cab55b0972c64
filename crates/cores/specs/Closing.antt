-- Close, case by case in the order of its conditions; an accepted one is the run of its steps.
use Rattle.std.specs.Prelude.{◌≡◌, Result as Either, Ok, Err}
use Rattle.std.proofs.Common.{◌∙◌}
use Rattle.lists.specs.Basics.{sym, ap, ℕ, true, false, List}
use Rattle.model.specs.Types.{Transaction}
use Rattle.model.specs.Refusals.{refusal_of}
use Rattle.model.specs.Writes.{Sheets}
use Rattle.model.specs.WellFormed.{well_formed}
use Rattle.model.specs.Results.{Answer, Response, refused}
use Rattle.model.specs.Closing.{Run, cannot_close, close_conditions}
use Rattle.model.specs.ByteCalls.{sheets_of}
use Rattle.model.specs.Operations.{close, close_run, ended, response, records_left, coordinator_left}
use Rattle.call_laws.specs.Accepted.{unless-held, unless-free}
use Rattle.closing.specs.declared.Ran.{Ran}
use Rattle.closing.specs.Running.{Closed as Ended}
use Rattle.answers.specs.declared.Closed.{Closed}
use Rattle.answers.specs.Answers.{to_closed}

-- Its refusal, by what is asked.
module _ (t : Transaction) (s : Sheets) where
  pub close_ill : well_formed s t ≡ false → refusal_of (close_conditions t s) ≡ 3
  unfolding close_conditions refusal_of
  close_ill e = rw e

  pub close_barred_lem : well_formed s t ≡ true → cannot_close t s ≡ true → refusal_of (close_conditions t s) ≡ 4
  unfolding close_conditions refusal_of
  close_barred_lem e f = rw (e, f)

  pub close_free : well_formed s t ≡ true → cannot_close t s ≡ false → refusal_of (close_conditions t s) ≡ 0
  unfolding close_conditions refusal_of
  close_free e f = rw (e, f)

module _ (t : Transaction) (rs cs : List ℕ) where
  -- the answer and the bytes are those of what a close comes to
  abbrev pub Closes : Response Answer Sheets → Either Closed ℕ → List ℕ → List ℕ → Type 0
  Closes r a rs' cs' = (a ≡ to_closed t r) × ((rs' ≡ records_left rs r) × (cs' ≡ coordinator_left cs r))

  -- a refused one leaves both sheets
  pub closes_refused : (n : ℕ) {r : Response Answer Sheets} {a : Either Closed ℕ} → r ≡ refused n → a ≡ Err n → Closes r a rs cs
  unfolding records_left coordinator_left
  closes_refused n e h = (h ∙ ap (to_closed t) (sym e), (ap (records_left rs) (sym e), ap (coordinator_left cs) (sym e)))

  module _ (clock limit : ℕ) where
    pub close_refused : (n : ℕ) {a : Either Closed ℕ} → refusal_of (close_conditions t (sheets_of rs cs)) ≡ n → (n ≡ 0 → ⊥) → a ≡ Err n
        → Closes (response (close t clock limit) (sheets_of rs cs)) a rs cs
    unfolding response
    close_refused n e z h = closes_refused n (unless-held (close_conditions t (sheets_of rs cs)) _ n e z) h

    -- what the run gives
    pub close_ended : {y : Ran} {rs' cs' : List ℕ} → refusal_of (close_conditions t (sheets_of rs cs)) ≡ 0 → Ended clock t limit rs cs y rs' cs'
        → Closes (response (close t clock limit) (sheets_of rs cs)) (Ok (record { writes = y.writes; transaction = y.transaction })) rs' cs'
    unfolding response records_left coordinator_left
    close_ended z h =
        let x : Run = close_run t clock limit (sheets_of rs cs) in
        let e : ended x ≡ response (close t clock limit) (sheets_of rs cs) = sym (unless-free (close_conditions t (sheets_of rs cs)) (ended x) z) in (
          ap (λ (r : Run). to_closed t (ended r)) h.made ∙ ap (to_closed t) e,
          (h.records ∙ ap (records_left rs) e, h.coordinator ∙ ap (coordinator_left cs) e),
        )
