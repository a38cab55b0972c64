-- What a step leaves: the transaction, and both sheets as its write leaves them. A sheet that the write does not change is the text of what it says.
use Rattle.std.specs.Prelude.{◌≡◌, ◌*◌}
use Rattle.std.proofs.Common.{◌∙◌}
use Rattle.lists.specs.Basics.{refl, sym, ap, ℕ, true, false, cond, List}
use Rattle.lists.specs.Pieces.{over}
use Rattle.model.specs.Types.{Record, Decision, Transaction}
use Rattle.model.specs.Layouts.{coordinator_bytes}
use Rattle.model.specs.Records.{records, records_text, records_accepted}
use Rattle.model.specs.Coordinator.{coordinator_of, coordinator_text, coordinator_readable}
use Rattle.model.specs.Writes.{Sheets, Write, nothing, decide, line_after, lines_after, decisions_after, apply}
use Rattle.model.specs.Steps.{Step}
use Rattle.model.specs.ByteCalls.{sheets_of}
use Rattle.sheet_laws.specs.Records.{sheet_written_read}
use Rattle.sheet_laws.specs.Coordinator.{decision_text, coordinator_written_read}
use Rattle.sheet_laws.specs.Decisions.{number_has_line}
use Rattle.call_laws.specs.Lines.{shifts, lines_unmoved}
use Rattle.call_laws.specs.ByIndex.{decision-written}
use Rattle.steps.specs.Ready.{Known}

pub record Stepped (s : Sheets) (x : Step) (t : Transaction) (rs cs : List ℕ) : Type 0 where
  pub transaction : t ≡ x.transaction
  pub records : rs ≡ records_text (apply x.write s).lines
  pub coordinator : cs ≡ coordinator_text (apply x.write s).coordinator

-- a step that looks at the coordinator sheet only, whatever accepted record sheet lies beside it
pub record ByCoordinator (f : Sheets → Step) (cs : List ℕ) (t : Transaction) (cs' : List ℕ) : Type 0 where
  pub beside : (rs : List ℕ) → records_accepted rs ≡ true → Stepped (sheets_of rs cs) (f (sheets_of rs cs)) t rs cs'

-- a write that changes no line
lines_stay : (w : Write) (rs : List ℕ) → shifts w ≡ false → ((r : Record) → line_after w r ≡ r) → records_accepted rs ≡ true → rs ≡ records_text (lines_after w (records rs))
lines_stay w rs calm h a = sym (ap records_text (lines_unmoved w calm h (records rs)) ∙ sheet_written_read rs a)

module _ (rs cs : List ℕ) where
  -- nothing is written
  pub wrote_nothing : records_accepted rs ≡ true → coordinator_readable cs ≡ true → (t u : Transaction) → u ≡ t → Stepped (sheets_of rs cs) (record { transaction = t; write = nothing }) u rs cs
  unfolding apply line_after decisions_after
  wrote_nothing a b t u e =
      record { transaction = e; records = lines_stay nothing rs refl (λ r. refl) a; coordinator = sym (coordinator_written_read cs b) }

  -- the lines of a group, by a write that leaves the coordinator alone
  pub wrote-lines : (w : Write) → decisions_after w (coordinator_of cs) ≡ coordinator_of cs → coordinator_readable cs ≡ true → (t u : Transaction) (rs' : List ℕ) → u ≡ t → rs' ≡ records_text (lines_after w (records rs)) → Stepped (sheets_of rs cs) (record { transaction = t; write = w }) u rs' cs
  unfolding apply
  wrote-lines w h a t u rs' e r =
      record { transaction = e; records = r; coordinator = sym (ap coordinator_text h ∙ coordinator_written_read cs a) }

  pub wrote-decision : (t u v : Transaction) (d : Decision) (cs' : List ℕ) → records_accepted rs ≡ true → Known cs v → u ≡ t → cs' ≡ cond (number_has_line v.number cs) (over cs (v.number * coordinator_bytes) (decision_text v.number d)) cs → Stepped (sheets_of rs cs) (record { transaction = t; write = decide v.number d }) u rs cs'
  unfolding apply line_after decisions_after
  wrote-decision t u v d cs' a k e w =
      record {
        transaction = e;
        records = lines_stay (decide v.number d) rs refl (λ r. refl) a;
        coordinator = w ∙ decision-written cs v.number d k.accepted k.number k.issued;
      }
