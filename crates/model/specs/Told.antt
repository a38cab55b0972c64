-- What a call tells of a key's place, as a record of numbers.
use Rattle.std.specs.Prelude.{◌≡◌, Result, Ok, Err, IsErrAnd}
use Rattle.std.proofs.Common.{◌∙◌}
use Rattle.std.proofs.lemmas.Result.{err_from_is_err_and}
use Rattle.lists.specs.Basics.{ap, ℕ, false, arith}
use Rattle.types.specs.declared.Refusal.{Refusal}
use Rattle.types.specs.declared.Refusal.TheVariants.{BadRecords, BadCoordinator, BadTransaction, WrongPhase, BadKey, NoSuchKey, BadColumns, NumbersSpent}
use Rattle.types.specs.declared.Refusal.TheVariants.{EntriesSpent, NotHeld, VersionsSpent, Busy, SheetsDiffer, HasLine, NoSpare, NotBlank}
use Rattle.model.specs.Types.{Rank, Ranked}
use Rattle.model.specs.Refusals.{refusal_number}

-- 0 and the rank, or the number of the refusal, beside which nothing is told
abbrev pub ranked_by : Result Rank Refusal → Ranked
ranked_by (Ok r) = record { refusal = 0; rank = r }
ranked_by (Err e) = record { refusal = refusal_number e; rank = record { below = 0; present = false } }

-- no refusal has number 0
pub numbered : (x : Refusal) → refusal_number x ≡ 0 → ⊥
numbered BadRecords h = omega (arith, h)
numbered BadCoordinator h = omega (arith, h)
numbered BadTransaction h = omega (arith, h)
numbered WrongPhase h = omega (arith, h)
numbered BadKey h = omega (arith, h)
numbered NoSuchKey h = omega (arith, h)
numbered BadColumns h = omega (arith, h)
numbered NumbersSpent h = omega (arith, h)
numbered EntriesSpent h = omega (arith, h)
numbered NotHeld h = omega (arith, h)
numbered VersionsSpent h = omega (arith, h)
numbered Busy h = omega (arith, h)
numbered SheetsDiffer h = omega (arith, h)
numbered HasLine h = omega (arith, h)
numbered NoSpare h = omega (arith, h)
numbered NotBlank h = omega (arith, h)

-- the refusal that a `?` returns is the one that it met
pub passed_up : {A E : Type 0} {r : Result A E} {x : E} → IsErrAnd r (λ (y : E). y ≡ x) → r ≡ Err x
passed_up {r = r} h = let p = err_from_is_err_and r h in p.1 ∙ ap Err p.2
