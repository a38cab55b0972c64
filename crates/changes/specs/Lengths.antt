-- What the lengths of what is lent say: a refusal of the table, and what is so where there is none.
use Rattle.std.specs.Prelude.{◌≡◌, ◌/◌, ◌%◌, ◌^◌, ◌≤◌, ◌<◌}
use Rattle.lists.specs.Basics.{refl, ℕ, eqb, leb, not, arith, eqb-true, leb-false, not-false, all}
use Rattle.model.specs.Layouts.{record_bytes}
use Rattle.model.specs.Refusals.{refusal_of, last_refusal}
use Rattle.model.specs.Changes.{length_conditions}
use Rattle.call_laws.specs.Choices.{not_first}
use Rattle.call_laws.specs.Exactness.{small}

module _ (a b c d e : ℕ) where
  pub refusal_small : refusal_of (length_conditions a b c d e) ≤ last_refusal
  unfolding length_conditions all
  refusal_small = small (length_conditions a b c d e) refl

  -- nothing is refused: each sheet has one length before and after, a number counts the lines, and the target has two numbers
  pub record Fits : Type 0 where
    pub same : a ≡ b
    pub counted : a / record_bytes < 2 ^ 32
    pub pair : e ≡ 2
    pub decisions : c ≡ d

  pub fits : refusal_of (length_conditions a b c d e) ≡ 0 → Fits
  unfolding length_conditions
  fits h =
      let p = not_first 1 (not (eqb a b)) _ (omega arith) h in
      let q = not_first 1 (not (eqb (a % record_bytes) 0)) _ (omega arith) p.1 in
      let r = not_first 1 (leb (2 ^ 32) (a / record_bytes)) _ (omega arith) q.1 in
      let s = not_first 1 (not (eqb e 2)) _ (omega arith) r.1 in
      let t = not_first 2 (not (eqb c d)) _ (omega arith) s.1 in
      record {
        same = eqb-true a b (not-false (eqb a b) p.0);
        counted = leb-false (2 ^ 32) (a / record_bytes) r.0;
        pair = eqb-true e 2 (not-false (eqb e 2) s.0);
        decisions = eqb-true c d (not-false (eqb c d) t.0);
      }
