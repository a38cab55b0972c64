-- What demand 3 claims, of sheets, a history of turns on them and visits that follow it.
use Rattle.std.specs.Prelude.{◌≡◌, ◌<◌, ◌⊎◌}
use Rattle.lists.specs.Basics.{ℕ, Bool, true, false, List, [], map, some, any}
use Rattle.model.specs.Types.{Key, Decision, Committed}
use Rattle.model.specs.Records.{same_key, absent_at, keys_in}
use Rattle.model.specs.Spares.{sheet_for}
use Rattle.model.specs.Coordinator.{decision}
use Rattle.model.specs.Images.{Change}
use Rattle.model.specs.Writes.{Sheets}
use Rattle.model.specs.Results.{Call, acknowledged}
use Rattle.model.specs.Histories.{Event, left_by}
use Rattle.model.specs.ByteHistories.{Bytes}
use Rattle.model.specs.SequentialModel.{Model, first_model, model_after, is_committed, keys_after}
use Rattle.model.specs.RecoveryPass.{Visit, visit_call, none_prepared}
use Rattle.model.specs.Turns.{Turn, turn_one_phase, turns_left, one_phase_turn, turn_events}
use Rattle.model.specs.TwoCalls.{TwoBytes}
use Rattle.model.specs.Kinds.{Kind, bytes_kind, two_kind}

-- the sequential model after a history, which starts from what the record sheet says
module _ {S : Type 0} (sheets : S → Sheets) (leaves : Turn → S → S) (events : Turn → S → Event) where
  abbrev pub model_after_turns : List Turn → S → Model
  model_after_turns xs s = model_after (turn_events leaves events xs s []) (first_model (sheets s).lines)

-- "A transaction .. is committed exactly when its coordinator line says so or its one-phase write was made."
pub record CommittedExactly (committed : Bool) (line : Decision) (one_phase : Bool) : Type 0 where
  pub only_if : committed ≡ true → (line ≡ Committed) ⊎ (one_phase ≡ true)
  pub decided : line ≡ Committed → committed ≡ true
  pub one_phased : one_phase ≡ true → committed ≡ true

-- On sheets of any kind.
module _ {S : Type 0} (kind : Kind S) where
  abbrev pub history_model : List Turn → S → Model
  history_model xs b = model_after_turns kind.sheets kind.turned kind.events xs b

  -- the keys that have a line after it
  abbrev pub history_keys : List Turn → S → List Key
  history_keys xs b = keys_after (turn_events kind.turned kind.events xs b []) (keys_in (kind.sheets b).lines)

  -- the sheets after a history, and after visits that follow it
  abbrev pub sheets_recovered : List Visit → List Turn → S → S
  sheets_recovered vs xs b = left_by kind.answers kind.leaves (map visit_call vs) (turns_left kind.turned xs b)

  -- the one-phase write of a number was made
  abbrev pub one_phase_made : ℕ → List Turn → S → Bool
  one_phase_made n xs b = one_phase_turn kind.turned (λ (n : ℕ) (x : Turn) (b : S). turn_one_phase n x (kind.sheets b)) n xs b

  pub record RecoveredOn (vs : List Visit) (xs : List Turn) (b : S) : Type 0 where
    -- "no line is PREPARED"
    pub unprepared : none_prepared (kind.sheets (sheets_recovered vs xs b)).lines ≡ true
    -- "and each is, byte for byte, its line in document 01's plain book": the lines of the keys that have one, and spares up to the sheet's size
    pub lines : kind.text (sheets_recovered vs xs b) ≡ sheet_for (map (history_model xs b).line (history_keys xs b)) (kind.sheets b).size
    -- "a key without a line counting, in the plain book too, as an ABSENT line of version 0"
    pub missing : (k : Key) → any (λ (j : Key). same_key j k) (history_keys xs b) ≡ false → (history_model xs b).line k ≡ absent_at k
    -- of the numbers begun in the history those that have put something
    pub committed : (n : ℕ) → (kind.sheets b).coordinator.issued < n → (k : Key) (c : Change) → (history_model xs b).writes n k ≡ some c → CommittedExactly (is_committed n (history_model xs b)) (decision n (kind.sheets (sheets_recovered vs xs b)).coordinator) (one_phase_made n xs b)

  -- Of two calls the second is acknowledged and gives back the sheets as they were before the first.
  abbrev pub Undoes : Call → Call → S → Type 0
  Undoes c d b = (kind.answers d (kind.leaves c b) ≡ acknowledged) × (kind.leaves d (kind.leaves c b) ≡ b)

-- On a record sheet.

abbrev pub model_on : List Turn → Bytes → Model
model_on xs b = history_model bytes_kind xs b

abbrev pub standing_on : List Turn → Bytes → List Key
standing_on xs b = history_keys bytes_kind xs b

abbrev pub bytes_recovered : List Visit → List Turn → Bytes → Bytes
bytes_recovered vs xs b = sheets_recovered bytes_kind vs xs b

abbrev pub Recovered : List Visit → List Turn → Bytes → Type 0
Recovered vs xs b = RecoveredOn bytes_kind vs xs b

-- On a plain sheet and a bookkeeping sheet. Document 02, note 4: "demand 3's lines and the plain book's are the joined sheet's, under lower-case letters as well".

abbrev pub model_two : List Turn → TwoBytes → Model
model_two xs b = history_model two_kind xs b

abbrev pub standing_two : List Turn → TwoBytes → List Key
standing_two xs b = history_keys two_kind xs b

abbrev pub two_recovered : List Visit → List Turn → TwoBytes → TwoBytes
two_recovered vs xs b = sheets_recovered two_kind vs xs b

abbrev pub RecoveredTwo : List Visit → List Turn → TwoBytes → Type 0
RecoveredTwo vs xs b = RecoveredOn two_kind vs xs b
