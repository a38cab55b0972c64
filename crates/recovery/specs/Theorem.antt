-- Demand 3 over decoded sheets: after any legal history and any recovery pass no line is PREPARED, each is its line in the sequential model, and a key without a line is ABSENT there.
-- The history keeps the invariant, the pass keeps its view and raises every line, and what isn't prepared is settled.
use Rattle.std.specs.Prelude.{◌≡◌, ◌∷◌}
use Rattle.std.proofs.Common.{◌∙◌}
use Rattle.lists.specs.Basics.{refl, sym, ap, ℕ, true, false, not, List, [], map}
use Rattle.lists.specs.All.{map-map}
use Rattle.model.specs.Types.{Key, Record}
use Rattle.model.specs.Records.{keys_in, absent_at}
use Rattle.model.specs.Images.{is_prepared}
use Rattle.model.specs.Writes.{Sheets, sheets_good, apply}
use Rattle.model.specs.Results.{Call}
use Rattle.model.specs.Histories.{answer, written, after, events_after, left_by, Legal}
use Rattle.model.specs.SequentialModel.{Model, first_model, model_after}
use Rattle.model.specs.RecoveryPass.{Visit, visit_call, none_prepared, Closing}
use Rattle.sheet_laws.specs.KeyOrder.{lists_key, unlisted}
use Rattle.call_laws.specs.Lines.{keys_after_lem, all_lines, map-lines}
use Rattle.recovery.specs.Settling.{settle, settled_plain}
use Rattle.recovery.specs.Invariant.{Inv}
use Rattle.recovery.specs.History.{first_inv, ones_after, history_kept}
use Rattle.recovery.specs.Pass.{visit_visiting, visiting_shifts, Passed, pass_kept, closed}

-- visits keep the keys
pub keys_visited : (vs : List Visit) (s : Sheets) → keys_in (left_by answer after (map visit_call vs) s).lines ≡ keys_in s.lines
unfolding left_by after apply
keys_visited [] s = refl
keys_visited (v ∷ vs) s = keys_visited vs (after (visit_call v) s) ∙ keys_after_lem (written (visit_call v) s) s.lines (visiting_shifts (visit_visiting v.key v.clock s))

-- the model after a history
abbrev pub model_of : List Call → Sheets → Model
model_of cs s = model_after (events_after answer after cs s []) (first_model s.lines)

-- the sheets after a history, and after visits that follow it
abbrev pub recovered_by : List Visit → List Call → Sheets → Sheets
recovered_by vs cs s = left_by answer after (map visit_call vs) (left_by answer after cs s)

-- what a pass after a history leaves of the lines
pub record RecoveredLines (vs : List Visit) (cs : List Call) (s : Sheets) : Type 0 where
  pub unprepared : none_prepared (recovered_by vs cs s).lines ≡ true
  pub lines : (recovered_by vs cs s).lines ≡ map (model_of cs s).line (keys_in (left_by answer after cs s).lines)
  -- a key without a line
  pub missing : (k : Key) → lists_key k (left_by answer after cs s).lines ≡ false → (model_of cs s).line k ≡ absent_at k

pub recovery_theorem : (s : Sheets) → sheets_good s ≡ true → none_prepared s.lines ≡ true → (cs : List Call) → Legal answer after cs s [] → (vs : List Visit) → Closing (λ (x : Sheets). x) after vs (left_by answer after cs s) → RecoveredLines vs cs s
unfolding model_after
recovery_theorem s g n cs legal vs c =
    let left = left_by answer after cs s in
    let inv : Inv s.coordinator.issued (ones_after cs s (λ (n : ℕ). false)) left (events_after answer after cs s []) (model_of cs s) =
    history_kept cs s [] (first_model s.lines) (first_inv s g n) legal in
    let p : Passed (model_of cs s) vs left (recovered_by vs cs s) = pass_kept (model_of cs s) vs left inv.good inv.view c.expiring in
    record {
      unprepared =
          all_lines (λ (r : Record). not (is_prepared r)) (recovered_by vs cs s).lines p.good.order
          (λ r l e. ap not (closed (model_of cs s) vs left inv.good inv.view c r l e).0);
      lines =
          sym (map-lines (λ (r : Record). (model_of cs s).line r.key) (recovered_by vs cs s).lines p.good.order
          (λ r l e. sym (closed (model_of cs s) vs left inv.good inv.view c r l e).1))
          ∙ (sym (map-map (model_of cs s).line (λ (r : Record). r.key) (recovered_by vs cs s).lines)
          ∙ ap (map (model_of cs s).line) (keys_visited vs left));
      missing = λ k h.
          sym (inv.view k)
          ∙ (ap (settle left.coordinator) (unlisted k left.lines h) ∙ settled_plain left.coordinator (absent_at k) refl);
    }
