-- What is remembered as a transaction goes from phase to phase without a write, or after preparing a group.
use Rattle.std.specs.Prelude.{◌≡◌}
use Rattle.std.proofs.Common.{◌∙◌}
use Rattle.lists.specs.Basics.{sym, ap, ℕ, Bool, cond, List, none, arith, le-ltb}
use Rattle.model.specs.Types.{Key, Transaction}
use Rattle.model.specs.Records.{line_of}
use Rattle.model.specs.Coordinator.{Letter, decision}
use Rattle.model.specs.Transactions.{held, puts, moved}
use Rattle.model.specs.Groups.{group_count, group_place}
use Rattle.model.specs.Writes.{Sheets}
use Rattle.model.specs.Steps.{units_of}
use Rattle.recovery.specs.Memory.{put_in, prepared_change, groups_done, done_at, Memory}
use Rattle.recovery.specs.OwnWrites.{done_to, all_done}

-- a state of the same number with the same columns done
pub memory_as : (s : Sheets) (t t' : Transaction) → t'.number ≡ t.number → ((k : Key) → done_at (units_of s) t' k ≡ done_at (units_of s) t k) → Memory s t → Memory s t'
memory_as s t t' n d m =
    record {
      undone = λ e. m.undone (ap (λ (x : ℕ). decision x s.coordinator) (sym n) ∙ e);
      changes = λ e k. ap (λ (x : ℕ). prepared_change x (line_of k s.lines)) n
          ∙ (m.changes (ap (λ (x : ℕ). decision x s.coordinator) (sym n) ∙ e) k ∙ sym (d k));
    }

module _ (us : List Letter) (t : Transaction) where
  done_to_lem : (p : ℕ) → groups_done us t ≡ p → (k : Key) → done_at us t k ≡ done_to us t p k
  unfolding done_at
  done_to_lem p e k = ap (λ (n : ℕ). done_to us t n k) e

  -- in open nothing is done
  pub done_in_open : t.phase ≡ 0 → (k : Key) → done_at us t k ≡ none
  unfolding groups_done
  done_in_open e k =
      done_to_lem 0 (ap (λ (p : ℕ). groups_done us (moved p t.place t.verdict t)) e) k
      ∙ ap (λ (b : Bool). cond b (put_in k (held t)) none) (le-ltb (group_place us (puts t) k) 0 (omega arith))

  -- in prepare the groups before the place
  pub done_in_prepare : t.phase ≡ 1 → (k : Key) → done_at us t k ≡ done_to us t t.place k
  unfolding groups_done
  done_in_prepare e k = done_to_lem t.place (ap (λ (p : ℕ). groups_done us (moved p t.place t.verdict t)) e) k

  -- in validate and decide all
  pub done_in_validate : t.phase ≡ 2 → (k : Key) → done_at us t k ≡ put_in k (held t)
  unfolding groups_done puts held
  done_in_validate e k = done_to_lem (group_count us (puts t)) (ap (λ (p : ℕ). groups_done us (moved p t.place t.verdict t)) e) k ∙ all_done us t k

  pub done_in_decide : t.phase ≡ 3 → (k : Key) → done_at us t k ≡ put_in k (held t)
  unfolding groups_done puts held
  done_in_decide e k = done_to_lem (group_count us (puts t)) (ap (λ (p : ℕ). groups_done us (moved p t.place t.verdict t)) e) k ∙ all_done us t k
