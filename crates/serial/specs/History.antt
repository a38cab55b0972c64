-- A legal history in which every transaction is begun as checked keeps what is known of the order and of the answers, from its first sheets on.
use Rattle.std.specs.Prelude.{◌≡◌, ◌∷◌}
use Rattle.lists.specs.Basics.{refl, sym, ℕ, Bool, true, true≢false, List, [], all, any, and_fst, and_snd}
use Rattle.lists.specs.Members.{mem_none}
use Rattle.model.specs.Types.{Key, Record}
use Rattle.model.specs.Records.{line_of}
use Rattle.model.specs.Writes.{Sheets}
use Rattle.model.specs.Results.{Call, returns}
use Rattle.model.specs.Histories.{Event, answer, taken, written, after, Permitted, event, events_after, left_by, Legal}
use Rattle.recovery.specs.Counted.{one_after}
use Rattle.model.specs.SequentialModel.{Model, first_model, model_step, model_after}
use Rattle.model.specs.SerialOrder.{begun_checked}
use Rattle.recovery.specs.Invariant.{Inv}
use Rattle.recovery.specs.History.{call_kept}
use Rattle.serial.specs.Runs.{Placing, run_line}
use Rattle.serial.specs.Order.{none_placed}
use Rattle.serial.specs.InDoubt.{facts}
use Rattle.serial.specs.Invariant.{placed_as, placings}
use Rattle.serial.specs.Calls.{SoFar, result-keeps}

call_keeps : {base : ℕ} {one : ℕ → Bool} {first : Key → Record} {ps : List Placing} (c : Call) (s : Sheets) (es : List Event) (m : Model)
    → Inv base one s es m → Permitted c (answer c s) es → begun_checked (event answer after c s) ≡ true → SoFar first s es m ps
    → SoFar first (after c s) (event answer after c s ∷ es) (model_step (event answer after c s) m)
    (placed_as (taken (event answer after c s)) (returns (answer c s)) ps)
unfolding answer after written
call_keeps c s es m inv p q k = result-keeps (facts inv) k c q (facts (call_kept c s es m inv p)) p.state

-- what holds of all events at the end held of the earlier ones
earlier : (p : Event → Bool) (cs : List Call) (s : Sheets) (es : List Event) → all p (events_after answer after cs s es) ≡ true → all p es ≡ true
unfolding all events_after
earlier p [] s es h = h
earlier p (c ∷ cs) s es h = and_snd (p (event answer after c s)) (all p es) (earlier p cs (after c s) (event answer after c s ∷ es) h)

pub history_keeps : {base : ℕ} {one : ℕ → Bool} {first : Key → Record} (cs : List Call) (s : Sheets) (es : List Event) (m : Model)
    → Inv base one s es (model_after es m) → Legal answer after cs s es → all begun_checked (events_after answer after cs s es) ≡ true
    → SoFar first s es (model_after es m) (placings es)
    → SoFar first (left_by answer after cs s) (events_after answer after cs s es) (model_after (events_after answer after cs s es) m)
    (placings (events_after answer after cs s es))
unfolding left_by events_after model_after placings all
history_keeps [] s es m inv l q k = k
history_keeps {base = base} {one = one} {first = first} (c ∷ cs) s es m inv l q k =
    history_keeps {base = base} {one = one_after (written c s) one} {first = first} cs (after c s) (event answer after c s ∷ es) m (call_kept c s es (model_after es m) inv l.0) l.1 q
    (call_keeps c s es (model_after es m) inv l.0
    (and_fst (begun_checked (event answer after c s)) (all begun_checked es) (earlier begun_checked cs (after c s) (event answer after c s ∷ es) q)) k)

-- at first nobody has a position
pub nothing_so_far : (s : Sheets) → SoFar (λ (k : Key). line_of k s.lines) s [] (first_model s.lines) []
unfolding first_model run_line any
nothing_so_far s =
    record {
      ordered =
          record {
            consistent = record { each = none_placed; lines = λ k. refl };
            aged = λ t a. absurd a;
            prepared_fresh = λ t a. absurd a;
            member = λ t a. absurd a;
            holder = λ p n. absurd (mem_none n);
            calm = λ t a. absurd a;
            checked = λ t a. absurd a;
            room = λ t a. absurd a;
            placed = λ n c. absurd (true≢false (sym c));
          };
      told = tt;
    }
