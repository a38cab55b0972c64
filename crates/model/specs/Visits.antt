-- Meeting a line: what a visit of its key comes to, makes of the line and writes. Document 01, "Visit".
use Rattle.std.specs.Prelude.{◌||◌, ◌∷◌}
use Rattle.lists.specs.Basics.{ℕ, Bool, true, false, not, List, [], all}
use Rattle.model.specs.Types.{Record, Decision, Aborted, Recovery}
use Rattle.model.specs.Coordinator.{Coordinator, decision}
use Rattle.model.specs.Images.{prepared_by, rolled_forward, rolled_back, line_expired, recovery, by_recovery}
use Rattle.model.specs.Writes.{Sheets, Write, nothing, decide, forward, back}

-- the decision of the number that a record names
abbrev pub owner_decision : Record → Coordinator → Decision
owner_decision r c = decision r.image.txid c

-- Document 02, note 2: "A number now counts as expired exactly when every line PREPARED by it has expired, each by document 01's clock rule."
unfoldable pub number_expired : ℕ → List Record → ℕ → Bool
number_expired now rs n = all (λ (r : Record). not (prepared_by n r) || line_expired now r) rs

-- the owner of a prepared line has expired, by all its lines on the sheet
abbrev pub owner_expired : ℕ → List Record → Record → Bool
owner_expired now rs r = number_expired now rs r.image.txid

-- what a visit of a line comes to: "Read and visit follow this"
unfoldable pub meeting : ℕ → Sheets → Record → Recovery
meeting now s r = recovery r (owner_decision r s.coordinator) (owner_expired now s.lines r)

-- undecided, and its owner has not expired (refusal 12)
abbrev pub is_busy : Recovery → Bool
is_busy v = by_recovery v false false false false true

abbrev pub is_again : Recovery → Bool
is_again v = by_recovery v false false false true false

-- the line as the visit leaves it
unfoldable pub recovered : Recovery → Record → Record
recovered v r = by_recovery v r (rolled_forward r) (rolled_back r) r r

-- what the visit writes: that line alone, or "ABORTED to the coordinator only"
unfoldable pub recovery_write : Recovery → Record → Write
recovery_write v r =
    by_recovery v nothing (forward r.image.txid (r.key ∷ [])) (back r.image.txid (r.key ∷ []))
    (decide r.image.txid Aborted) nothing
