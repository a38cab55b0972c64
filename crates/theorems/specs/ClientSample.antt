-- Acts of two clients, so that the hypotheses of what is proved of clients are met: one closes an order of two groups, crashes after the third write with both lines still PREPARED, and
-- the other has read one of them and is turned back. That the history is legal follows from the law; what it leaves follows from the definitions by computation.
use Rattle.std.specs.Prelude.{◌≡◌, ◌∷◌}
use Rattle.std.proofs.Common.{◌∙◌}
use Rattle.lists.specs.Basics.{refl, ap, subst, ℕ, true, false, List, [], map, all, bytes}
use Rattle.model.specs.Types.{Key}
use Rattle.types.specs.declared.Request.TheVariants as asked
use Rattle.model.specs.Lines.{text}
use Rattle.model.specs.CallByPlace.{list_after}
use Rattle.model.specs.Results.{refusal_in}
use Rattle.model.specs.Closing.{changes, turn, closing, close_barred, close_conditions}
use Rattle.model.specs.Histories.{Event, left_by}
use Rattle.model.specs.SequentialModel.{first_model, model_begin, model_put, model_commit, model_call, model_step, model_after}
use Rattle.model.specs.RecoveryPass.{Visit, visit_call, none_prepared, Closing, line_undecided, expirable, leaves_readings, reading_in, readings_of}
use Rattle.model.specs.ByteHistories.{Bytes, saying, Passing, answer_on, after_on}
use Rattle.model.specs.Turns.{Turn, turn_event_on, turn_after_on, turns_left, turn_events, LegalTurns}
use Rattle.model.specs.Recovered.{model_on, bytes_recovered}
use Rattle.model.specs.Clients.{Act, asks, loses, visits, begins, World, unused, Unused, turns_in, lists_after, world_after, turns_of, clock_asked, clock_fits}
use Rattle.clients.specs.Clients.{unused-number, clients_legal}
use Rattle.recovery.specs.PassExists.{recovery_pass}
use Rattle.turns.specs.Bytes.{recovery_pass-told}
use Rattle.theorems.specs.Tables.{key_a, key_b, columns, told}

-- The sheets: the head, the lines of numbers 1 and 2, and both record lines. The records lie in two storages, and so in two groups.

abbrev sheets : List ℕ → List ℕ → List ℕ → List ℕ → List ℕ → Bytes
sheets head one two a b =
    record { records = text (a ∷ b ∷ []); coordinator = text (head ∷ one ∷ two ∷ bytes "   3         -" ∷ []) }

abbrev issued0 : List ℕ
issued0 = bytes "   0 SRSSSSSSS"

abbrev issued3 : List ℕ
issued3 = bytes "   3 SRSSSSSSS"

abbrev first : List ℕ
first = bytes "   1         -"

abbrev first_committed : List ℕ
first_committed = bytes "   1 COMMITTED"

abbrev second : List ℕ
second = bytes "   2         -"

abbrev second_aborted : List ℕ
second_aborted = bytes "   2   ABORTED"

abbrev first_a : List ℕ
first_a = bytes " 1  1  1     1     1 COMMITTED     3   0      500      250         -     0   0        0        0          0"

abbrev written_a : List ℕ
written_a = bytes " 1  1  1     1     1 COMMITTED     4   1      600      300         -     0   0        0        0          0"

abbrev first_b : List ℕ
first_b = bytes " 2  1  1     1     1 COMMITTED     1   0       40        7         -     0   0        0        0          0"

abbrev pending_b : List ℕ
pending_b = bytes " 2  1  1     1     1  PREPARED     2   1       41        8 COMMITTED     1   0       40        7        102"

abbrev written_b : List ℕ
written_b = bytes " 2  1  1     1     1 COMMITTED     2   1       41        8         -     0   0        0        0          0"

-- every client has a list of two unused transactions
abbrev pub client_world : World
client_world = record { bytes = sheets issued0 first second first_a first_b; lists = λ client. unused 2 }

-- client 0 has number 1 at place 0, client 1 number 2 at place 1
abbrev pub client_acts : List Act
client_acts =
    asks 0 0 (asked.Begin false)
    ∷ asks 1 1 (asked.Begin false)
    ∷ begins true
    ∷ asks 0 0 (asked.Read key_a 100)
    ∷ asks 1 1 (asked.Read key_a 100)
    ∷ asks 0 0 (asked.Put key_a (columns 600 300))
    ∷ asks 1 1 (asked.Put key_a (columns 1 2))
    ∷ asks 0 0 (asked.Read key_b 100)
    ∷ asks 0 0 (asked.Put key_b (columns 41 8))
    -- a close that is cut off after three writes: both groups and the decision
    ∷ asks 0 0 (asked.Close 102 3)
    -- it has lost the transaction, and is refused where it goes on as if it had not
    ∷ loses 0 2
    ∷ asks 0 0 (asked.Advance 103)
    -- a visit finishes one of the lines
    ∷ visits key_a 103
    -- what client 1 has read is no longer so: to withdraw, and ABORTED
    ∷ asks 1 1 (asked.Advance 104)
    ∷ asks 1 1 (asked.Advance 104)
    ∷ []

abbrev pub client_turns : List Turn
client_turns = turns_of client_acts client_world

-- what each turn is refused with, 0 where it is accepted, the last one first
abbrev pub client_refusals : List ℕ
client_refusals = map (λ (e : Event). refusal_in e.answer) (turn_events turn_after_on turn_event_on client_turns client_world.bytes [])

abbrev visit_at : Key → ℕ → Visit
visit_at k now = record { key = k; clock = now }

abbrev pub client_visits : List Visit
client_visits = visit_at key_a 15102 ∷ visit_at key_b 15102 ∷ visit_at key_a 15102 ∷ visit_at key_b 15102 ∷ []

abbrev last_bytes : Bytes
last_bytes = sheets issued3 first_committed second_aborted written_a pending_b

abbrev pub client_recovered : Bytes
client_recovered = sheets issued3 first_committed second_aborted written_a written_b

-- What follows by computation: the first sheets pass and have no PREPARED line, the readings of the clock fit, the acts leave these bytes, and the visits are a
-- recovery pass and leave those.
record Computed : Type 0 where
  pub passes : Passing client_world.bytes
  pub unprepared : none_prepared (saying client_world.bytes).lines ≡ true
  pub fits : all clock_fits client_acts ≡ true
  pub left : turns_left turn_after_on client_turns client_world.bytes ≡ last_bytes
  pub refusals : client_refusals ≡ 0 ∷ 0 ∷ 0 ∷ 3 ∷ 0 ∷ 0 ∷ 0 ∷ 0 ∷ 0 ∷ 0 ∷ 0 ∷ 0 ∷ 0 ∷ 0 ∷ []
  pub committed : (model_on client_turns client_world.bytes).committed ≡ 1 ∷ []
  pub readable : leaves_readings (saying last_bytes) ≡ true
  pub visits : recovery_pass (readings_of (saying last_bytes)) (saying last_bytes) ≡ client_visits
  pub recovered : left_by answer_on after_on (map visit_call client_visits) last_bytes ≡ client_recovered

computed : Computed
unfolding told line_undecided expirable leaves_readings reading_in recovery_pass left_by turns_left turn_events turns_of turns_in world_after lists_after list_after clock_asked clock_fits changes turn closing close_barred close_conditions model_after model_step model_call model_begin model_put model_commit first_model
computed = record { passes = refl; unprepared = refl; fits = refl; left = refl; refusals = refl; committed = refl; readable = refl; visits = refl; recovered = refl }

-- The hypotheses, met.

pub client_passes : Passing client_world.bytes
client_passes = computed.passes

pub client_unprepared : none_prepared (saying client_world.bytes).lines ≡ true
client_unprepared = computed.unprepared

pub client_unused : Unused client_world.lists
client_unused client place = unused-number 2 place

pub client_clocks : all clock_fits client_acts ≡ true
client_clocks = computed.fits

client_legal : LegalTurns turn_after_on turn_event_on client_turns client_world.bytes []
client_legal = clients_legal client_acts client_world client_passes client_unused client_clocks

pub client_closing : Closing saying after_on client_visits (turns_left turn_after_on client_turns client_world.bytes)
client_closing =
    subst (λ (vs : List Visit). Closing saying after_on vs (turns_left turn_after_on client_turns client_world.bytes))
    (ap (λ (b : Bytes). recovery_pass (readings_of (saying b)) (saying b)) computed.left ∙ computed.visits)
    (recovery_pass-told client_world.bytes client_passes client_turns client_legal
    (ap (λ (b : Bytes). leaves_readings (saying b)) computed.left ∙ computed.readable))

-- The one refusal, the bytes at the end, and the numbers that the sequential model has committed.

pub client_refusals_lem : client_refusals ≡ 0 ∷ 0 ∷ 0 ∷ 3 ∷ 0 ∷ 0 ∷ 0 ∷ 0 ∷ 0 ∷ 0 ∷ 0 ∷ 0 ∷ 0 ∷ 0 ∷ []
client_refusals_lem = computed.refusals

pub client_recovered_lem : bytes_recovered client_visits client_turns client_world.bytes ≡ client_recovered
client_recovered_lem = ap (left_by answer_on after_on (map visit_call client_visits)) computed.left ∙ computed.recovered

pub client_committed : (model_on client_turns client_world.bytes).committed ≡ 1 ∷ []
client_committed = computed.committed
