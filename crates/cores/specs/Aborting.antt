-- Abort, case by case in the order of its conditions; it writes nothing.
use Rattle.std.specs.Prelude.{◌≡◌}
use Rattle.lists.specs.Basics.{true, false}
use Rattle.model.specs.Types.{Transaction}
use Rattle.model.specs.Refusals.{refusal_of}
use Rattle.model.specs.Transactions.{withdraw_phase, moved}
use Rattle.model.specs.Writes.{Sheets, nothing}
use Rattle.model.specs.WellFormed.{well_formed}
use Rattle.model.specs.Results.{abort, returned, refused, made}
use Rattle.model.specs.Conditions.{cannot_abort, conditions}
use Rattle.model.specs.Calls.{outcome, result_of}

module _ (t : Transaction) (s : Sheets) where
  pub abort_ill : well_formed s t ≡ false → result_of (abort t) s ≡ refused 3
  unfolding result_of conditions refusal_of
  abort_ill e = rw e

  pub abort_late : well_formed s t ≡ true → cannot_abort t ≡ true → result_of (abort t) s ≡ refused 4
  unfolding result_of conditions refusal_of
  abort_late e f = rw (e, f)

  pub abort_made : well_formed s t ≡ true → cannot_abort t ≡ false → result_of (abort t) s ≡ made (returned (moved withdraw_phase 0 t.verdict t)) nothing
  unfolding result_of outcome conditions refusal_of
  abort_made e f = rw (e, f)
