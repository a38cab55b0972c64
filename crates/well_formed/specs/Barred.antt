-- What the decision on a transaction's own line forbids in its phase: refusal 4 of an advance, and of a close.
use Rattle.std.specs.Prelude.{◌≡◌}
use Rattle.lists.specs.Basics.{ℕ, Bool, true, false, ne_eqb}
use Rattle.lists.specs.Chosen.{Missed}
use Rattle.model.specs.Types.{Decision}
use Rattle.model.specs.Transactions.{by_phase}
use Rattle.model.specs.Images.{by_decision}
use Rattle.model.specs.Closing.{close_barred}

-- of an advance, by the phase and the decision on the own line
unfoldable pub forbids : ℕ → Decision → Bool
forbids p own =
    by_phase p false false false (by_decision own false true false) (by_decision own false true false)
    (by_decision own true false true) (by_decision own true true false) true true

-- "refused as one advance would be", from decide on
pub barred_later : (p : ℕ) (own : Decision) → Missed 3 p → forbids p own ≡ close_barred p own
unfolding forbids close_barred
barred_later p own m = rw (ne_eqb p 0 m.0.0.1, ne_eqb p 1 m.0.1, ne_eqb p 2 m.1)
