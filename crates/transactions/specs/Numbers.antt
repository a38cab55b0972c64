-- The numbers that a transaction keeps its phase by, and what a choice by that number comes to.
use Rattle.std.specs.Prelude.{ℕ, ◌≡◌, ◌≤◌, Result, MatchResult}
use Rattle.std.proofs.Common.{◌∙◌}
use Rattle.lists.specs.Basics.{sym, ap}
use Rattle.model.specs.Transactions.{by_phase}
use Rattle.transactions.specs.Phases.{phase_none, missed_from}
use Rattle.transactions.specs.declared.phases.Phase.{Phase}
use Rattle.transactions.specs.declared.phases.Phase.TheVariants.{Open, Prepare, Validate, Decide, Withdraw, Finish, Undo, Done}
use Rattle.transactions.specs.declared.phases.NoPhase.{NoPhase}

abbrev pub phase_number : Phase → ℕ
phase_number Open = 0
phase_number Prepare = 1
phase_number Validate = 2
phase_number Decide = 3
phase_number Withdraw = 4
phase_number Finish = 5
phase_number Undo = 6
phase_number Done = 7

-- the phase with this number, or an error with a number that no phase has
abbrev pub Decodes : ℕ → Result Phase NoPhase → Type 0
Decodes n r = MatchResult r (λ phase. phase_number phase ≡ n) (λ e. (e.0 ≡ n) × (8 ≤ n))

-- a number by the name of its phase
pub numbered : {p : Phase} {n : ℕ} (q : Phase) → phase_number p ≡ n → p ≡ q → n ≡ phase_number q
numbered q e f = sym e ∙ ap phase_number f

-- what a choice has for a number that is no phase
pub unnamed {ℓ} : {A : Type ℓ} (p : ℕ) (o r v d w f u e x : A) → 8 ≤ p → x ≡ by_phase p o r v d w f u e x
unnamed p o r v d w f u e x l = phase_none p o r v d w f u e x (missed_from 8 p l)
