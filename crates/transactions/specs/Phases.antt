-- A choice by a number that is none of the phases that a match names: what the choice has past them.
use Rattle.std.specs.Prelude.{◌≡◌, ◌≤◌}
use Rattle.std.proofs.Common.{◌∙◌}
use Rattle.lists.specs.Basics.{sym, ℕ, zero, suc, eqb, cond, arith, ne_eqb}
use Rattle.lists.specs.Chosen.{Missed, past_arms}
use Rattle.model.specs.Transactions.{by_phase}

pub phase_past {ℓ} : {A : Type ℓ} (p : ℕ) (o r v d w f u e x : A) → Missed 7 p → by_phase p o r v d w f u e x ≡ cond (eqb p 7) e x
phase_past p o r v d w f u e x m =
    let l : 7 ≤ p = past_arms 7 p m in
    rw (ne_eqb p 0 (λ z. omega arith), ne_eqb p 1 (λ z. omega arith), ne_eqb p 2 (λ z. omega arith), ne_eqb p 3 (λ z. omega arith))
    (rw (ne_eqb p 4 (λ z. omega arith), ne_eqb p 5 (λ z. omega arith), ne_eqb p 6 (λ z. omega arith)))

pub phase_none {ℓ} : {A : Type ℓ} (p : ℕ) (o r v d w f u e x : A) → Missed 8 p → x ≡ by_phase p o r v d w f u e x
phase_none p o r v d w f u e x m = sym (phase_past p o r v d w f u e x m.0 ∙ rw (ne_eqb p 7 m.1))

-- a number from n on is none of those below
pub missed_from : (n i : ℕ) → n ≤ i → Missed n i
missed_from zero i l = tt
missed_from (suc n) i l = (missed_from n i (omega arith), λ e. omega (arith, e))
