-- Checked transactions are serializable, on sheets of any kind: a legal history of turns on accepted sheets is one on what they say (turns), and so are the calls
-- that its turns come to, answer by answer.
use Rattle.std.specs.Prelude.{◌≡◌, ◌∷◌}
use Rattle.std.proofs.Common.{◌∙◌}
use Rattle.lists.specs.Basics.{refl, sym, ap, subst, true, List, [], map, all}
use Rattle.lists.specs.All.{all_always, map_equal}
use Rattle.model.specs.Types.{Key, Record}
use Rattle.model.specs.Spares.{sheet_for}
use Rattle.model.specs.Writes.{Sheets}
use Rattle.model.specs.Results.{Call, Answer}
use Rattle.model.specs.Histories.{Event, answer, after, event, events_after, Legal}
use Rattle.model.specs.SequentialModel.{first_model, model_after}
use Rattle.model.specs.RecoveryPass.{Visit, none_prepared, Closing}
use Rattle.model.specs.Turns.{Turn, turns_left, expanded, LegalTurns}
use Rattle.model.specs.Kinds.{Kind}
use Rattle.model.specs.Recovered.{history_model, history_keys, sheets_recovered}
use Rattle.model.specs.SerialOrder.{calls_made, begun_checked, serial_order, serial_line, Serializable}
use Rattle.turns.specs.Reduction.{Reduced}
use Rattle.turns.specs.Lift.{Faithful, Lifted, lift, demand_3_of}
use Rattle.serial.specs.Theorem.{turns_reduced, turns_serializable}

module _ {S : Type 0} (kind : Kind S) (laws : Faithful kind) where
  abbrev sheets : S → Sheets
  sheets = kind.sheets

  -- legal calls on what the sheets say, made on the sheets
  same-calls : (cs : List Call) (b : S) (es : List Event) → kind.passes b → Legal answer after cs (sheets b) es
      → events_after kind.answers kind.leaves cs b es ≡ events_after answer after cs (sheets b) es
  unfolding events_after
  same-calls [] b es p l = refl
  same-calls (c ∷ cs) b es p l =
      let q = laws.call_stays c b l.0.clock p in
      let e : event kind.answers kind.leaves c b ≡ event answer after c (sheets b) = ap (λ (a : Answer). record { call = c; answer = a }) (laws.same_answer c b p) in
      ap (λ (x : Event). events_after kind.answers kind.leaves cs (kind.leaves c b) (x ∷ es)) e
      ∙ (same-calls cs (kind.leaves c b) (event answer after c (sheets b) ∷ es) q.1
      (subst (λ (s : Sheets). Legal answer after cs s (event answer after c (sheets b) ∷ es)) (sym q.0) l.1)
      ∙ ap (λ (s : Sheets). events_after answer after cs s (event answer after c (sheets b) ∷ es)) q.0)

  -- For all accepted sheets without a PREPARED line; for every legal history of turns on them in which every transaction is begun as checked.
  pub checked_serializable_of : (b : S) → kind.passes b → none_prepared (sheets b).lines ≡ true → (xs : List Turn)
      → LegalTurns kind.turned kind.events xs b [] → all begun_checked (calls_made kind xs b) ≡ true
      → Serializable (sheets b).lines (history_model kind xs b) (calls_made kind xs b)
  checked_serializable_of b p z xs legal checked =
      let h : Lifted kind laws xs b [] = lift kind laws xs b [] p legal in
      let r : Reduced xs (sheets b) [] [] (first_model (sheets b).lines) = turns_reduced (sheets b) (laws.good b p) z xs h.legal in
      let e : calls_made kind xs b ≡ events_after answer after (expanded xs (sheets b)) (sheets b) [] = same-calls (expanded xs (sheets b)) b [] p r.legal in
      subst (λ (es : List Event). Serializable (sheets b).lines (model_after es (first_model (sheets b).lines)) (calls_made kind xs b)) (sym h.told)
      (subst (Serializable (sheets b).lines _) (sym e)
      (turns_serializable (sheets b) (laws.good b p) z xs h.legal (ap (all begun_checked) (sym e) ∙ checked)))

  -- so that after every recovery pass the record lines are, byte for byte, what the serial run leaves
  pub serial_bytes_of : (b : S) → kind.passes b → none_prepared (sheets b).lines ≡ true → (xs : List Turn) → LegalTurns kind.turned kind.events xs b []
      → all begun_checked (calls_made kind xs b) ≡ true → (vs : List Visit) → Closing sheets kind.leaves vs (turns_left kind.turned xs b)
      → kind.text (sheets_recovered kind vs xs b)
      ≡ sheet_for (map (serial_line (sheets b).lines (history_model kind xs b) (serial_order (calls_made kind xs b))) (history_keys kind xs b)) (sheets b).size
  serial_bytes_of b p z xs legal checked vs c =
      (demand_3_of kind laws b p z xs legal vs c).lines
      ∙ ap (λ (ls : List Record). sheet_for ls (sheets b).size)
      (map_equal (λ (k : Key). true) (history_model kind xs b).line _
      (λ k t. sym ((checked_serializable_of b p z xs legal checked).writes k)) (history_keys kind xs b) (all_always (history_keys kind xs b)))
