-- Where learners go astray, as theorems. Document 01, "Where learners go astray"; the first, on grouping, is in the table of Cases.
-- Each follows by the case of the definition that it is about.
use Rattle.std.specs.Prelude.{◌≡◌}
use Rattle.lists.specs.Basics.{refl, ℕ, false, List, all}
use Rattle.lists.specs.All.{map_unmoved}
use Rattle.model.specs.Types.{Key, Record, Transaction, Back, Again}
use Rattle.model.specs.Images.{prepared_by}
use Rattle.model.specs.Writes.{Sheets, nothing, forward, back, is_of, line_after, shifted, lines_after, decisions_after, apply}
use Rattle.model.specs.Visits.{recovery_write}
use Rattle.model.specs.Steps.{holds, group_at, prepare_step}

-- Rolling back and writing ABORTED in one call: a visit that writes ABORTED leaves every line as it is ..
pub again_leaves_lines : (s : Sheets) (r : Record) → (apply (recovery_write Again r) s).lines ≡ s.lines
unfolding apply lines_after shifted recovery_write line_after
again_leaves_lines s r = map_unmoved _ (λ (x : Record). refl) s.lines

-- .. and one that rolls back writes nothing to the coordinator.
pub back_leaves_coordinator : (s : Sheets) (r : Record) → (apply (recovery_write Back r) s).coordinator ≡ s.coordinator
unfolding apply recovery_write decisions_after
back_leaves_coordinator s r = refl

-- Finishing a line that another TxID has since prepared: it is skipped ..
pub finish_skips_others : (n : ℕ) (ks : List Key) (r : Record) → prepared_by n r ≡ false → line_after (forward n ks) r ≡ r
unfolding line_after is_of
finish_skips_others n ks r e = rw e

-- .. and so it is by undoing.
pub undo_skips_others : (n : ℕ) (ks : List Key) (r : Record) → prepared_by n r ≡ false → line_after (back n ks) r ≡ r
unfolding line_after is_of
undo_skips_others n ks r e = rw e

-- Preparing part of a group when one condition fails: nothing is written.
pub failing_group_writes_nothing : (t : Transaction) (now : ℕ) (s : Sheets) → all (holds s) (group_at t s) ≡ false → (prepare_step t now s).write ≡ nothing
unfolding prepare_step
failing_group_writes_nothing t now s e = rw e
