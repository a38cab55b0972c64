-- What a check tells, as one number: 1000 and its refusal, or 1003 where it has none.
use Rattle.std.specs.Prelude.{◌≡◌, ◌+◌, Result, Ok, Err}
use Rattle.std.proofs.Common.{◌∙◌}
use Rattle.lists.specs.Basics.{sym, ap, ℕ, eqb, cond, eq-eqb, ne_eqb}
use Rattle.types.specs.declared.Refusal.{Refusal}
use Rattle.model.specs.Refusals.{refusal_number, refused_with}
use Rattle.answers.specs.Outcomes.{free_by, refused_by}

module _ {A : Type 0} {r : Result A Refusal} {n : ℕ} (told : refused_with r ≡ n) where
  pub told_free : {a : A} → r ≡ Ok a → 1003 ≡ cond (eqb n 0) 1003 (1000 + n)
  told_free h = rw (eq-eqb n 0 (free_by told h))

  pub told_refused : {x : Refusal} → r ≡ Err x → 1000 + refusal_number x ≡ cond (eqb n 0) 1003 (1000 + n)
  told_refused h = let r = refused_by told h in rw (ne_eqb n 0 r.1) (ap (λ (m : ℕ). 1000 + m) r.0)
