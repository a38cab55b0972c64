-- Which keys have lines after a call and after an operation: those that had, with the key added and without the key removed, as the answer tells. Writes that shift no line keep
-- keys, and a close makes no other.
use Rattle.std.specs.Prelude.{◌≡◌, ◌∷◌}
use Rattle.std.proofs.Common.{◌∙◌}
use Rattle.lists.specs.Basics.{refl, sym, ap, ℕ, zero, suc, eqb, Bool, true, false, cond, true≢false, List, [], length, length-map}
use Rattle.model.specs.Types.{Key, Record}
use Rattle.model.specs.Records.{key_less, same_key, keys_in, absent_at}
use Rattle.model.specs.Refusals.{refusal_of}
use Rattle.model.specs.Writes.{Sheets, nothing, inserted, without, lines_after, apply}
use Rattle.model.specs.Results.{Call, begin, read, second, put, advance, abort, visit, add, remove, shifts_lines, Answer, turned_away, returned, answered, visited, reported}
use Rattle.model.specs.Results.{acknowledged, Response, Result, refused, made, write_of, answer_of}
use Rattle.model.specs.Conditions.{conditions}
use Rattle.model.specs.Calls.{outcome, result_of}
use Rattle.model.specs.Closing.{Run, stops, goes_on, turn, closing, starting, most_steps, close_conditions}
use Rattle.model.specs.Operations.{Operation, once, close, operation_shifts, stands_for, settled, close_run, ended, response, sheets_left}
use Rattle.model.specs.SequentialModel.{key_added, key_removed, keys_call, keys_step}
use Rattle.call_laws.specs.Choices.{unless_by}
use Rattle.call_laws.specs.Lines.{lines_added, lines_removed, keys_after_lem}
use Rattle.call_laws.specs.SingleUnit.{unit_shifts, step_single, made_shifts}

keys_inserted : (k : Key) (rs : List Record) → keys_in (inserted k rs) ≡ key_added k (keys_in rs)
unfolding inserted key_added
keys_inserted k [] = refl
keys_inserted k (r ∷ rs) = go (key_less k r.key) (keys_inserted k rs)
  where
    go : (b : Bool) → keys_in (inserted k rs) ≡ key_added k (keys_in rs) → keys_in (cond b (absent_at k ∷ r ∷ rs) (r ∷ inserted k rs)) ≡ cond b (k ∷ r.key ∷ keys_in rs) (r.key ∷ key_added k (keys_in rs))
    go true e = refl
    go false e = ap (λ (ks : List Key). r.key ∷ ks) e

keys_without : (k : Key) (rs : List Record) → keys_in (without k rs) ≡ key_removed k (keys_in rs)
unfolding without key_removed
keys_without k [] = refl
keys_without k (r ∷ rs) = go (same_key r.key k) (keys_without k rs)
  where
    go : (b : Bool) → keys_in (without k rs) ≡ key_removed k (keys_in rs) → keys_in (cond b rs (r ∷ without k rs)) ≡ cond b (keys_in rs) (r.key ∷ key_removed k (keys_in rs))
    go true e = refl
    go false e = ap (λ (ks : List Key). r.key ∷ ks) e

-- A call.

calm_call : (c : Call) (ks : List Key) → shifts_lines c ≡ false → keys_call c ks ≡ ks
unfolding keys_call
calm_call (begin b) ks h = refl
calm_call (read t k now) ks h = refl
calm_call (second t k now c) ks h = refl
calm_call (put t k c) ks h = refl
calm_call (advance t now) ks h = refl
calm_call (abort t) ks h = refl
calm_call (visit k now) ks h = refl
calm_call (add k) ks h = absurd (true≢false h)
calm_call (remove k) ks h = absurd (true≢false h)

pub calm_step : (c : Call) (a : Answer) (ks : List Key) → shifts_lines c ≡ false → keys_step c a ks ≡ ks
unfolding keys_step
calm_step c (turned_away n) ks h = refl
calm_step c (returned t) ks h = refl
calm_step c (answered v t) ks h = refl
calm_step c (visited v) ks h = refl
calm_step c (reported n t) ks h = refl
calm_step c acknowledged ks h = calm_call c ks h

-- what a result does to the keys
abbrev Tells : Call → List Record → Result Answer → Type 0
Tells c rs r = keys_in (lines_after (write_of r) rs) ≡ keys_step c (answer_of r) (keys_in rs)

refused_tells : (c : Call) (rs : List Record) (n : ℕ) → Tells c rs (refused n)
unfolding keys_step
refused_tells c rs n = keys_after_lem nothing rs refl

calm_result : (c : Call) (s : Sheets) → shifts_lines c ≡ false → Tells c s.lines (result_of c s)
calm_result c s h = keys_after_lem (write_of (result_of c s)) s.lines (made_shifts c s h) ∙ sym (calm_step c (answer_of (result_of c s)) (keys_in s.lines) h)

result_keys : (c : Call) (s : Sheets) → Tells c s.lines (result_of c s)
unfolding result_of outcome keys_step keys_call
result_keys (begin b) s = calm_result (begin b) s refl
result_keys (read t k now) s = calm_result (read t k now) s refl
result_keys (second t k now c) s = calm_result (second t k now c) s refl
result_keys (put t k c) s = calm_result (put t k c) s refl
result_keys (advance t now) s = calm_result (advance t now) s refl
result_keys (abort t) s = calm_result (abort t) s refl
result_keys (visit k now) s = calm_result (visit k now) s refl
result_keys (add k) s =
    unless_by (Tells (add k) s.lines) (conditions (add k) s) (refused_tells (add k) s.lines (refusal_of (conditions (add k) s)))
    (λ z. ap keys_in (lines_added k s.lines) ∙ keys_inserted k s.lines)
result_keys (remove k) s =
    unless_by (Tells (remove k) s.lines) (conditions (remove k) s) (refused_tells (remove k) s.lines (refusal_of (conditions (remove k) s)))
    (λ z. ap keys_in (lines_removed k s.lines) ∙ keys_without k s.lines)

-- An operation.

turn_keys : (now : ℕ) (x : Run) → keys_in (turn now x).sheets.lines ≡ keys_in x.sheets.lines
unfolding turn apply
turn_keys now x = go (stops now x)
  where
    go : (b : Bool) → keys_in (cond b x (goes_on now x)).sheets.lines ≡ keys_in x.sheets.lines
    go true = refl
    go false = keys_after_lem _ x.sheets.lines (unit_shifts (step_single x.transaction now x.sheets))

closing_keys : (n now : ℕ) (x : Run) → keys_in (closing n now x).sheets.lines ≡ keys_in x.sheets.lines
unfolding closing
closing_keys zero now x = refl
closing_keys (suc n) now x = closing_keys n now (turn now x) ∙ turn_keys now x

settled_keys : (c : Call) (s : Sheets) (r : Result Answer) → Tells c s.lines r → keys_in (sheets_left s (settled s r)).lines ≡ keys_step c (answer_of (settled s r)) (keys_in s.lines)
unfolding apply keys_step
settled_keys c s (refused n) h = refl
settled_keys c s (made a w) h = h

pub response_keys : (o : Operation) (s : Sheets) → keys_in (sheets_left s (response o s)).lines ≡ keys_step (stands_for o) (answer_of (response o s)) (keys_in s.lines)
unfolding response stands_for keys_step
response_keys (once c) s = settled_keys c s (result_of c s) (result_keys c s)
response_keys (close t now limit) s = go (eqb (refusal_of (close_conditions t s)) 0)
  where
    by : Bool → Response Answer Sheets
    by b = cond b (ended (close_run t now limit s)) (refused (refusal_of (close_conditions t s)))

    go : (b : Bool) → keys_in (sheets_left s (by b)).lines ≡ keys_step (advance t now) (answer_of (by b)) (keys_in s.lines)
    go true = closing_keys most_steps now (starting t limit s)
    go false = refl

-- an operation that neither adds nor removes leaves as many lines as there were
calm_stands : (o : Operation) → operation_shifts o ≡ false → shifts_lines (stands_for o) ≡ false
unfolding stands_for
calm_stands (once c) h = h
calm_stands (close t now limit) h = refl

pub response-count : (o : Operation) (s : Sheets) → operation_shifts o ≡ false → length (sheets_left s (response o s)).lines ≡ length s.lines
response-count o s h =
    sym (length-map (sheets_left s (response o s)).lines (λ (r : Record). r.key))
    ∙ (ap length (response_keys o s ∙ calm_step (stands_for o) (answer_of (response o s)) (keys_in s.lines) (calm_stands o h))
    ∙ length-map s.lines (λ (r : Record). r.key))
