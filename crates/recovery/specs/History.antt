-- A legal history keeps the invariant from its first sheets on.
use Rattle.std.specs.Prelude.{◌≡◌, ◌∷◌}
use Rattle.std.proofs.Common.{◌∙◌}
use Rattle.lists.specs.Basics.{refl, sym, ℕ, Bool, true, false, not, true≢false, List, [], some, not-true, any}
use Rattle.model.specs.Types.{Key, Record, Transaction}
use Rattle.model.specs.Records.{line_of}
use Rattle.model.specs.Images.{is_prepared}
use Rattle.model.specs.Writes.{Sheets, sheets_good}
use Rattle.model.specs.WellFormed.{well_formed}
use Rattle.model.specs.Results.{Call, returns}
use Rattle.model.specs.Histories.{Event, answer, written, after, Permitted, event, events_after, left_by, Legal}
use Rattle.model.specs.SequentialModel.{Model, first_model, model_step, model_after}
use Rattle.model.specs.RecoveryPass.{none_prepared}
use Rattle.call_laws.specs.Lines.{line_passes}
use Rattle.call_laws.specs.Sheets.{GoodSheets, good_parts, parts_good}
use Rattle.call_laws.specs.Closure.{sheets_stay_good, returned_well_formed}
use Rattle.recovery.specs.Settling.{settled_plain, undecided-committed}
use Rattle.recovery.specs.View.{by_line}
use Rattle.recovery.specs.Counted.{one_after}
use Rattle.recovery.specs.Invariant.{Inv}
use Rattle.recovery.specs.Calls.{above_undecided, result_kept}

none-pending : (k : Key) (rs : List Record) → none_prepared rs ≡ true → is_prepared (line_of k rs) ≡ false
none-pending k rs n =
    by_line (λ (r : Record). is_prepared r ≡ false) k rs (λ h. not-true _ (line_passes (λ (r : Record). not (is_prepared r)) k rs n h)) refl

pub first_inv : (s : Sheets) → sheets_good s ≡ true → none_prepared s.lines ≡ true → Inv s.coordinator.issued (λ (n : ℕ). false) s [] (first_model s.lines)
unfolding first_model any
first_inv s g n =
    record {
      good = good_parts s g;
      view = λ k. settled_plain s.coordinator (line_of k s.lines) (none-pending k s.lines n);
      known = λ t a. absurd a;
      unique = λ t u a b e. absurd a;
      counted =
          record {
            bound = λ n h. absurd (true≢false (sym h));
            late = λ t a h. absurd a;
            why = λ n h. absurd (true≢false (sym h));
            decided = λ n b d. absurd (undecided-committed (sym (above_undecided s.coordinator (good_parts s g).decisions n b) ∙ d));
            one_phased = λ n h. absurd (true≢false (sym h));
          };
      finished = λ n h. absurd (true≢false (sym h));
    }

good_after : {base : ℕ} {one : ℕ → Bool} {es : List Event} {m : Model} (c : Call) (s : Sheets) → Inv base one s es m → Permitted c (answer c s) es → GoodSheets (after c s)
good_after c s inv p = good_parts (after c s) (sheets_stay_good c s p.clock (parts_good s inv.good))

formed_after_call : {base : ℕ} {one : ℕ → Bool} {es : List Event} {m : Model} (c : Call) (s : Sheets) → Inv base one s es m → Permitted c (answer c s) es → (u : Transaction) → returns (answer c s) ≡ some u → well_formed (after c s) u ≡ true
formed_after_call c s inv p u e = returned_well_formed c s u p.clock (parts_good s inv.good) e

pub call_kept : {base : ℕ} {one : ℕ → Bool} (c : Call) (s : Sheets) (es : List Event) (m : Model) → Inv base one s es m → Permitted c (answer c s) es → Inv base (one_after (written c s) one) (after c s) (event answer after c s ∷ es) (model_step (event answer after c s) m)
unfolding answer after written
call_kept c s es m inv p = result_kept s es m inv c (good_after c s inv p) (formed_after_call c s inv p) p.state

-- the numbers whose one-phase write is made in a history
unfoldable pub ones_after : List Call → Sheets → (ℕ → Bool) → ℕ → Bool
ones_after [] s one = one
ones_after (c ∷ cs) s one = ones_after cs (after c s) (one_after (written c s) one)

pub history_kept : {base : ℕ} {one : ℕ → Bool} (cs : List Call) (s : Sheets) (es : List Event) (m : Model) → Inv base one s es (model_after es m) → Legal answer after cs s es → Inv base (ones_after cs s one) (left_by answer after cs s) (events_after answer after cs s es) (model_after (events_after answer after cs s es) m)
unfolding left_by events_after model_after ones_after
history_kept [] s es m inv l = inv
history_kept {base = base} {one = one} (c ∷ cs) s es m inv l =
    history_kept {base = base} {one = one_after (written c s) one} cs (after c s) (event answer after c s ∷ es) m (call_kept c s es (model_after es m) inv l.0) l.1
