-- Removing what was added gives the sheets back, and adding what was removed: the second call is accepted, and its write undoes the first. Over decoded sheets; turns has it of the
-- sheets themselves.
use Rattle.std.specs.Prelude.{◌≡◌, ◌≤◌, ◌||◌}
use Rattle.std.proofs.Common.{◌∙◌}
use Rattle.lists.specs.Basics.{refl, ap, ℕ, suc, eqb, Bool, true, false, cond, List, length, arith, eqb-true, lt-leb}
use Rattle.model.specs.Types.{Key, Record}
use Rattle.model.specs.Records.{key_in_range, absent_at, line_of}
use Rattle.model.specs.Refusals.{refusal_of}
use Rattle.model.specs.Writes.{Sheets, Write, add_line, remove_line, inserted, without, decisions_after, apply}
use Rattle.model.specs.Results.{Call, add, remove, acknowledged, refusal_in, made, refused, unless, write_of, answer_of}
use Rattle.model.specs.Conditions.{is_blank, conditions}
use Rattle.model.specs.Calls.{outcome, result_of}
use Rattle.model.specs.Histories.{answer, written, after}
use Rattle.sheet_laws.specs.KeyOrder.{lists_key, has_line_lem, same_key_refl}
use Rattle.sheet_laws.specs.AddedLines.{line-inserted, lists_inserted, without-inserted, length_without, lists_without, inserted-without}
use Rattle.call_laws.specs.Lines.{lines_added, lines_removed}
use Rattle.call_laws.specs.Adding.{MayAdd, may_add, MayRemove, may_remove}
use Rattle.call_laws.specs.Sheets.{GoodSheets, removed_line, listed_range}

-- A call that is acknowledged was accepted.
module _ (c : Call) (s : Sheets) (w : Write) (Made-so : outcome c s ≡ made acknowledged w) where
  accepted_call : answer c s ≡ acknowledged → refusal_of (conditions c s) ≡ 0
  unfolding answer result_of
  accepted_call e = go (eqb (refusal_of (conditions c s)) 0) refl e
    where
      go : (b : Bool) → eqb (refusal_of (conditions c s)) 0 ≡ b → answer_of (cond b (outcome c s) (refused (refusal_of (conditions c s)))) ≡ acknowledged → refusal_of (conditions c s) ≡ 0
      go true q h = eqb-true (refusal_of (conditions c s)) 0 q
      go false q h = ap refusal_in h

  -- what it writes and answers
  accepted_result : refusal_of (conditions c s) ≡ 0 → (answer c s ≡ acknowledged) × (written c s ≡ w)
  unfolding answer written result_of
  accepted_result z =
      let r : unless (conditions c s) (outcome c s) ≡ made acknowledged w = ap (λ (n : ℕ). cond (eqb n 0) (outcome c s) (refused n)) z ∙ Made-so in
      (ap answer_of r, ap write_of r)

add_made : (k : Key) (s : Sheets) → outcome (add k) s ≡ made acknowledged (add_line k)
unfolding outcome
add_made k s = refl

remove_made : (k : Key) (s : Sheets) → outcome (remove k) s ≡ made acknowledged (remove_line k)
unfolding outcome
remove_made k s = refl

-- None of their conditions holds.

all_free_add : (k : Key) (s : Sheets) → MayAdd k s → refusal_of (conditions (add k) s) ≡ 0
unfolding conditions refusal_of
all_free_add k s m = rw (m.is_in_range, has_line_lem k s.lines ∙ m.unlisted, lt-leb s.size (length s.lines) m.room)

all_free_remove : (k : Key) (s : Sheets) → key_in_range k ≡ true → MayRemove k s → refusal_of (conditions (remove k) s) ≡ 0
unfolding conditions refusal_of
all_free_remove k s r m = rw (r, has_line_lem k s.lines ∙ m.listed, m.blank)

-- both sheets with other lines
with_lines : List Record → Sheets → Sheets
with_lines ls s = record { lines = ls; size = s.size; coordinator = s.coordinator }

added_sheets : (k : Key) (s : Sheets) → apply (add_line k) s ≡ with_lines (inserted k s.lines) s
unfolding apply decisions_after with_lines
added_sheets k s = ap (λ (ls : List Record). record { lines = ls; size = s.size; coordinator = s.coordinator }) (lines_added k s.lines)

removed_sheets : (k : Key) (s : Sheets) → apply (remove_line k) s ≡ with_lines (without k s.lines) s
unfolding apply decisions_after with_lines
removed_sheets k s = ap (λ (ls : List Record). record { lines = ls; size = s.size; coordinator = s.coordinator }) (lines_removed k s.lines)

-- Two calls, of which the second undoes the first.
pub record Undone (c d : Call) (s : Sheets) : Type 0 where
  pub answered : answer d (after c s) ≡ acknowledged
  pub left : after d (after c s) ≡ s

undone_by : (c d : Call) (s s' : Sheets) (v w : Write) → written c s ≡ v → apply v s ≡ s' → outcome d s' ≡ made acknowledged w → refusal_of (conditions d s') ≡ 0 → apply w s' ≡ s → Undone c d s
unfolding after
undone_by c d s s' v w e f g z back =
    let a : after c s ≡ s' = ap (λ (x : Write). apply x s) e ∙ f in
    let r = accepted_result d s' w g z in
    record {
      answered = ap (answer d) a ∙ r.0;
      left = ap (after d) a ∙ (ap (λ (x : Write). apply x s') r.1 ∙ back);
    }

pub add_undone : (k : Key) (s : Sheets) → answer (add k) s ≡ acknowledged → Undone (add k) (remove k) s
unfolding with_lines is_blank
add_undone k s e =
    let z = accepted_call (add k) s (add_line k) (add_made k s) e in
    let m : MayAdd k s = may_add k s z in
    let s' = with_lines (inserted k s.lines) s in
    let here : line_of k (inserted k s.lines) ≡ absent_at k = line-inserted k s.lines m.unlisted in
    let listed : lists_key k (inserted k s.lines) ≡ true = lists_inserted k k s.lines ∙ ap (λ (b : Bool). b || lists_key k s.lines) (same_key_refl k) in
    let may : MayRemove k s' = record { listed = listed; blank = ap is_blank here } in
    undone_by (add k) (remove k) s s' (add_line k) (remove_line k) (accepted_result (add k) s (add_line k) (add_made k s) z).1 (added_sheets k s) (remove_made k s')
    (all_free_remove k s' m.is_in_range may)
    (removed_sheets k s' ∙ ap (λ (ls : List Record). with_lines ls s) (without-inserted k s.lines m.unlisted))

pub remove_undone : (k : Key) (s : Sheets) → GoodSheets s → answer (remove k) s ≡ acknowledged → Undone (remove k) (add k) s
unfolding with_lines
remove_undone k s g e =
    let z = accepted_call (remove k) s (remove_line k) (remove_made k s) e in
    let m : MayRemove k s = may_remove k s z in
    let s' = with_lines (without k s.lines) s in
    let n : suc (length (without k s.lines)) ≡ length s.lines = length_without k s.lines m.listed in
    let few : length s.lines ≤ s.size = g.few_lines in
    let may : MayAdd k s' = record { is_in_range = listed_range s g k m.listed; unlisted = lists_without k s.lines g.order; room = omega arith } in
    undone_by (remove k) (add k) s s' (remove_line k) (add_line k) (accepted_result (remove k) s (remove_line k) (remove_made k s) z).1 (removed_sheets k s) (add_made k s')
    (all_free_add k s' may)
    (added_sheets k s' ∙ ap (λ (ls : List Record). with_lines ls s) (inserted-without k s.lines g.order m.listed (removed_line s g k m)))
