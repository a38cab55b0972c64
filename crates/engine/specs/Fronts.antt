-- A call is lent the lines of records, and the spares stay behind them: what it makes of the lines is what the call on both sheets makes of the record sheet. No call sees how
-- many spares there are (call_laws Sizes), and none changes how many records (StandingKeys), but for adding and removing, which have a crate of their own.
use Rattle.std.specs.Prelude.{◌≡◌, ◌*◌, ◌/◌, ◌≤◌, ◌++◌}
use Rattle.std.proofs.Common.{◌∙◌}
use Rattle.lists.specs.Basics.{refl, sym, ap, subst, ℕ, false, List, length, take, drop, arith}
use Rattle.model.specs.Types.{Transaction}
use Rattle.model.specs.Layouts.{record_bytes}
use Rattle.model.specs.Records.{records}
use Rattle.model.specs.Spares.{filled_lines, front, record_lines}
use Rattle.model.specs.Refusals.{refusal_of}
use Rattle.model.specs.SheetCalls.{check_conditions}
use Rattle.model.specs.Writes.{Sheets}
use Rattle.model.specs.Results.{Call, shifts_lines, Answer, Response, Result, refused, made}
use Rattle.model.specs.Calls.{result_of}
use Rattle.model.specs.ByteCalls.{sheets_said, result_on, sheets_of}
use Rattle.model.specs.Operations.{Operation, operation_shifts, response, sheets_left, response_on, sheet_left, coordinator_left, records_left}
use Rattle.sheet_laws.specs.Fronts.{filled_within}
use Rattle.sheet_laws.specs.Spared.{accepted_whole}
use Rattle.call_laws.specs.StandingKeys.{response-count}
use Rattle.call_laws.specs.Lifting.{passing_parts}
use Rattle.call_laws.specs.Sizes.{resized, response-resized}
use Rattle.answers.specs.Answers.{to_closed, to_performed}
use Rattle.call_laws.specs.Accepted.{Accepted, accepted, Outcome, SheetOutcome, let_pass, passed-answer, unless-free, front_back, front-text}

-- The answer and the bytes are those of a response: of lines of records, and of both sheets.
abbrev pub Gives : {B : Type 0} → (Response Answer Sheets → B) → Response Answer Sheets → List ℕ → List ℕ → B → List ℕ → List ℕ → Type 0
Gives f r rs cs a rs' cs' = (a ≡ f r) × ((rs' ≡ records_left rs r) × (cs' ≡ coordinator_left cs r))

abbrev pub GivesSheet : {B : Type 0} → (Response Answer Sheets → B) → Response Answer Sheets → List ℕ → List ℕ → B → List ℕ → List ℕ → Type 0
GivesSheet f r rs cs a rs' cs' = (a ≡ f r) × ((rs' ≡ sheet_left rs r) × (cs' ≡ coordinator_left cs r))

-- an answer that doesn't tell of sheets
abbrev pub Blind : {B : Type 0} → (Response Answer Sheets → B) → Type 0
Blind f = (n : ℕ) (r : Response Answer Sheets) → f (resized n r) ≡ f r

pub closed_blind : (t : Transaction) → Blind (to_closed t)
closed_blind t n (refused m) = refl
closed_blind t n (made a s) = refl

pub performed_blind : (t : Transaction) → Blind (to_performed t)
performed_blind t n (refused m) = refl
performed_blind t n (made a s) = refl

-- Sheets that the check lets pass, and where their spares begin.
module _ (rs cs : List ℕ) (passed : refusal_of (check_conditions rs cs) ≡ 0) (end : ℕ) (at : end ≡ filled_lines record_bytes rs * record_bytes) where
  lent : record_lines rs ≡ take end rs
  unfolding front
  lent = ap (λ (n : ℕ). take n rs) (sym at)

  pub front-within : end ≤ length rs
  front-within =
      let w = accepted_whole rs (passing_parts (record { records = rs; coordinator = cs }) passed).0 in
      let l = filled_within record_bytes (omega arith) rs w in
      omega (arith, at, w, l)

  pub accepted_front : Accepted (take end rs) cs
  accepted_front = subst (λ (x : List ℕ). Accepted x cs) lent (accepted rs cs passed)

  -- what stands behind them
  behind : drop (filled_lines record_bytes rs * record_bytes) rs ≡ drop end rs
  behind = ap (λ (n : ℕ). drop n rs) (sym at)

  module _ {B : Type 0} (f : Result Answer → B) (c : Call) (calm : shifts_lines c ≡ false) {answer : B} where
    pub call_passed : {ls' cs' : List ℕ} → Outcome f (result_of c (sheets_of (take end rs) cs)) (take end rs) cs answer ls' cs' → SheetOutcome f (result_on c rs cs) rs cs answer (ls' ++ drop end rs) cs'
    call_passed {ls'} {cs'} o =
        subst (λ (x : List ℕ). SheetOutcome f (result_on c rs cs) rs cs answer (ls' ++ x) cs') behind
        (let_pass f c rs cs calm passed (subst (λ (x : List ℕ). Outcome f (result_of c (sheets_of x cs)) x cs answer ls' cs') (sym lent) o))

    pub answer-passed : answer ≡ f (result_of c (sheets_of (take end rs) cs)) → answer ≡ f (result_on c rs cs)
    answer-passed e = passed-answer f c rs cs calm passed (e ∙ ap (λ (x : List ℕ). f (result_of c (sheets_of x cs))) (sym lent))

  module _ {B : Type 0} (f : Response Answer Sheets → B) (blind : Blind f) (o : Operation) (calm : operation_shifts o ≡ false) where
    abbrev inner : Response Answer Sheets
    inner = response o (sheets_of (record_lines rs) cs)

    whole : response_on o rs cs ≡ resized (length rs / record_bytes) inner
    unfolding response_on
    whole =
        unless-free (check_conditions rs cs) (response o (sheets_said rs cs)) passed
        ∙ response-resized (length rs / record_bytes) o (sheets_of (record_lines rs) cs) calm

    sheet_left_lem : (r : Response Answer Sheets) → length (sheets_left (sheets_of (record_lines rs) cs) r).lines ≡ length (records (record_lines rs))
        → records_left (record_lines rs) r ++ drop (filled_lines record_bytes rs * record_bytes) rs ≡ sheet_left rs (resized (length rs / record_bytes) r)
    unfolding records_left sheet_left
    sheet_left_lem (refused n) e = front_back rs cs passed
    sheet_left_lem (made a s) e = front-text rs cs passed s.lines e

    decisions-left : (r : Response Answer Sheets) → coordinator_left cs r ≡ coordinator_left cs (resized (length rs / record_bytes) r)
    unfolding coordinator_left
    decisions-left (refused n) = refl
    decisions-left (made a s) = refl

    pub operation_passed : {answer : B} {ls' cs' : List ℕ} → Gives f (response o (sheets_of (take end rs) cs)) (take end rs) cs answer ls' cs' → GivesSheet f (response_on o rs cs) rs cs answer (ls' ++ drop end rs) cs'
    operation_passed {answer} {ls'} {cs'} g =
        let h : Gives f inner (record_lines rs) cs answer ls' cs' = subst (λ (x : List ℕ). Gives f (response o (sheets_of x cs)) x cs answer ls' cs') (sym lent) g in
        subst (λ (r : Response Answer Sheets). GivesSheet f r rs cs answer (ls' ++ drop end rs) cs') (sym whole) (
          h.0 ∙ sym (blind (length rs / record_bytes) inner),
          (
            ap (λ (x : List ℕ). ls' ++ x) (sym behind)
                ∙ (ap (λ (x : List ℕ). x ++ drop (filled_lines record_bytes rs * record_bytes) rs) h.1.0 ∙ sheet_left_lem inner (response-count o (sheets_of (record_lines rs) cs) calm)),
            h.1.1 ∙ decisions-left inner,
          ),
        )
