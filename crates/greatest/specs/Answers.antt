-- What the companion of the close answers: a refusal by its number, or the transaction.
use Rattle.std.specs.Prelude.{◌≡◌, ◌*◌, ◌≤◌, ◌&&◌, ◌∷◌, Result, Ok, Err}
use Rattle.std.proofs.Common.{◌∙◌}
use Rattle.lists.specs.Basics.{refl, ap, cond, ℕ, eqb, leb, true, false, not, List, [], length, arith, eqb-true, leb-true, eq-eqb, ne_eqb}
use Rattle.lists.specs.Basics.{not-false, and_snd, bytes, joined}
use Rattle.model.specs.Types.{Transaction}
use Rattle.model.specs.Layouts.{record_bytes, least_coordinator_bytes}
use Rattle.model.specs.Lines.{text}
use Rattle.model.specs.Records.{records_text}
use Rattle.model.specs.Coordinator.{coordinator_text}
use Rattle.model.specs.Refusals.{refusal_of}
use Rattle.model.specs.Greatest.{greatest_lines, greatest_coordinator, greatest_transaction, greatest_conditions, greatest_given, greatest_records_after}
use Rattle.model.specs.Greatest.{greatest_coordinator_after}
use Rattle.call_laws.specs.Choices.{not_first}
use Rattle.decimal.specs.Field as Field
use Rattle.model.specs.Layouts as Layouts
use Rattle.model.specs.Lines as Lines
use Rattle.model.specs.Coordinator as Coordinator

abbrev pub greatest_answer : ℕ → List ℕ → List ℕ → Result Transaction ℕ
greatest_answer n rs cs = cond (eqb (refusal_of (greatest_conditions n rs cs)) 0) (Ok (greatest_given n rs cs)) (Err (refusal_of (greatest_conditions n rs cs)))

-- the coordinator sheet, byte by byte
pub coordinator_bytes_lem : coordinator_text greatest_coordinator ≡ text (bytes "   1 RRRRRRRRR" ∷ bytes "   1         -" ∷ [])
unfolding bytes joined Field.ahead Field.field_text Layouts.words Layouts.head_layout Layouts.line_layout Lines.field_bytes Lines.line_text Coordinator.decision_number Coordinator.unit_number Coordinator.decision_texts Coordinator.letter_number Coordinator.head_numbers coordinator_text greatest_coordinator
coordinator_bytes_lem = refl

module _ (n : ℕ) (rs cs : List ℕ) where
  -- what isn't refused
  pub record Fits : Type 0 where
    pub few : n ≤ 8
    pub records : length rs ≡ n * record_bytes
    pub coordinator : length cs ≡ least_coordinator_bytes

  pub fits : refusal_of (greatest_conditions n rs cs) ≡ 0 → Fits
  unfolding greatest_conditions
  fits z =
      let a = not_first 3 (not (leb 1 n && leb n 8)) _ (omega arith) z in
      let b = not_first 1 (not (eqb (length rs) (n * record_bytes))) _ (omega arith) a.1 in
      let c = not_first 1 (not (eqb (length cs) least_coordinator_bytes)) [] (omega arith) b.1 in
      record {
        few = leb-true n 8 (and_snd (leb 1 n) (leb n 8) (not-false _ a.0));
        records = eqb-true (length rs) (n * record_bytes) (not-false _ b.0);
        coordinator = eqb-true (length cs) least_coordinator_bytes (not-false _ c.0);
      }

  -- the answer r, with the targets left as rs' and cs'
  abbrev pub Answered : Result Transaction ℕ → List ℕ → List ℕ → Type 0
  Answered r rs' cs' = (r ≡ greatest_answer n rs cs) × ((rs' ≡ greatest_records_after n rs cs) × (cs' ≡ greatest_coordinator_after n rs cs))

  pub answer_refused : (r : ℕ) → r ≡ refusal_of (greatest_conditions n rs cs) → (r ≡ 0 → ⊥) → {x : Result Transaction ℕ} → x ≡ Err r → Answered x rs cs
  unfolding greatest_given greatest_records_after greatest_coordinator_after
  answer_refused r e z h =
      let f : eqb (refusal_of (greatest_conditions n rs cs)) 0 ≡ false = ne_eqb (refusal_of (greatest_conditions n rs cs)) 0 (λ q. z (e ∙ q)) in
      rw f (h ∙ ap (λ (m : ℕ). Err m) e, (refl, refl))

  pub answer_made : (rs' cs' : List ℕ) (t : Transaction) → refusal_of (greatest_conditions n rs cs) ≡ 0 → t ≡ greatest_transaction n → rs' ≡ records_text (greatest_lines n) → cs' ≡ coordinator_text greatest_coordinator
      → Answered (Ok t) rs' cs'
  unfolding greatest_given greatest_records_after greatest_coordinator_after
  answer_made rs' cs' t z p x y =
      let f : eqb (refusal_of (greatest_conditions n rs cs)) 0 ≡ true = eq-eqb (refusal_of (greatest_conditions n rs cs)) 0 z in
      rw f (ap (λ (u : Transaction). Ok u) p, (x, y))
