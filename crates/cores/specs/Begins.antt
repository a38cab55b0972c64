-- Begin, case by case in the order of its conditions; it leaves the record sheet alone.
use Rattle.std.specs.Prelude.{◌≡◌, ◌+◌, ◌/◌, ◌≤◌, ◌<◌, Result as Either, Ok, Err}
use Rattle.std.proofs.Common.{◌∙◌}
use Rattle.lists.specs.Basics.{refl, sym, ap, ℕ, eqb, leb, Bool, true, false, cond, List, length, drop, arith, add-one, le-leb}
use Rattle.lists.specs.Pieces.{over}
use Rattle.decimal.specs.Field.{field_text}
use Rattle.model.specs.Layouts.{coordinator_bytes}
use Rattle.model.specs.Coordinator.{coordinator_of, coordinator_text, coordinator_readable, with_issued}
use Rattle.model.specs.Refusals.{refusal_of}
use Rattle.model.specs.Writes.{issue, line_after, decisions_after, apply}
use Rattle.model.specs.Results.{begin, returned, made}
use Rattle.model.specs.Conditions.{conditions}
use Rattle.model.specs.Calls.{new_transaction, outcome, result_of}
use Rattle.model.specs.ByteCalls.{sheets_of}
use Rattle.sheet_laws.specs.Coordinator.{bounds}
use Rattle.sheet_laws.specs.Decisions.{length-decisions, readable_length, readable_parts}
use Rattle.call_laws.specs.Keeping.{strictly}
use Rattle.call_laws.specs.ByIndex.{count_raised}
use Rattle.call_laws.specs.Accepted.{Written, Outcome, outcome_refused, outcome_made, Accepted, lines_kept}
use Rattle.answers.specs.Answers.{to_issued}

-- which number begin gives and what it leaves, checked or not and whatever accepted record sheet lies beside the coordinator sheet
pub record Issues (cs : List ℕ) (r : Either ℕ ℕ) (cs' : List ℕ) : Type 0 where
  pub beside : (b : Bool) (rs : List ℕ) → Accepted rs cs → Outcome to_issued (result_of (begin b) (sheets_of rs cs)) rs cs r rs cs'

-- what is told of the number issued last tells whether all are spent
pub spent_by : (cs : List ℕ) {n : ℕ} {b : Bool} → n ≡ (coordinator_of cs).issued → b ≡ eqb n (length (drop coordinator_bytes cs) / coordinator_bytes)
    → eqb (coordinator_of cs).issued (length (drop coordinator_bytes cs) / coordinator_bytes) ≡ b
spent_by cs e f = ap (λ (n : ℕ). eqb n (length (drop coordinator_bytes cs) / coordinator_bytes)) (sym e) ∙ sym f

module _ (cs : List ℕ) (a : coordinator_readable cs ≡ true) where
  pub issue_spent : eqb (coordinator_of cs).issued (length (drop coordinator_bytes cs) / coordinator_bytes) ≡ true → Issues cs (Err 8) cs
  unfolding result_of conditions refusal_of
  issue_spent spent = record { beside = λ b rs h. outcome_refused to_issued rs cs 8 (rw (length-decisions cs, spent)) refl }

  module _ (left : eqb (coordinator_of cs).issued (length (drop coordinator_bytes cs) / coordinator_bytes) ≡ false) where
    issued_below : (coordinator_of cs).issued < length (coordinator_of cs).decisions
    issued_below =
        strictly (coordinator_of cs).issued (length (coordinator_of cs).decisions) (bounds (coordinator_of cs) (readable_parts cs a).good).issued
        (ap (eqb (coordinator_of cs).issued) (length-decisions cs) ∙ left)

    pub number_fits : (coordinator_of cs).issued < 999
    number_fits =
        let l : (coordinator_of cs).issued < length (coordinator_of cs).decisions = issued_below in
        let m : length (coordinator_of cs).decisions ≤ 999 = (bounds (coordinator_of cs) (readable_parts cs a).good).few in
        omega arith

    begin_made : (b : Bool) (rs : List ℕ) → result_of (begin b) (sheets_of rs cs) ≡ made (returned (new_transaction ((coordinator_of cs).issued + 1) b)) issue
    unfolding result_of outcome conditions refusal_of
    begin_made b rs = rw (length-decisions cs, left)

    begin_written : (rs : List ℕ) → Accepted rs cs → {cs' : List ℕ} → cs' ≡ cond (leb 4 (length cs)) (over cs 0 (field_text 4 ((coordinator_of cs).issued + 1))) cs → Written issue rs cs rs cs'
    unfolding line_after decisions_after apply
    begin_written rs h e =
        let n = (coordinator_of cs).issued in
        let l : coordinator_bytes ≤ length cs = readable_length cs a in
        let m : leb 4 (length cs) ≡ true = le-leb 4 (length cs) (omega arith) in
        record {
          lines = lines_kept rs cs h issue refl (λ r. refl);
          decisions =
              e
              ∙ (ap (λ (x : Bool). cond x (over cs 0 (field_text 4 (n + 1))) cs) m
              ∙ (ap (λ (i : ℕ). over cs 0 (field_text 4 i)) (add-one n)
              ∙ (count_raised cs a issued_below
              ∙ ap (λ (i : ℕ). coordinator_text (with_issued i (coordinator_of cs))) (sym (add-one n)))));
        }

    pub issue_made : (n : ℕ) (cs' : List ℕ) → n ≡ (coordinator_of cs).issued + 1
        → cs' ≡ cond (leb 4 (length cs)) (over cs 0 (field_text 4 ((coordinator_of cs).issued + 1))) cs → Issues cs (Ok n) cs'
    issue_made n cs' e w =
        record {
          beside = λ b rs h. outcome_made to_issued rs cs (returned (new_transaction ((coordinator_of cs).issued + 1) b)) issue (begin_made b rs)
              (ap (λ (m : ℕ). Ok m) e) (begin_written rs h w);
        }
