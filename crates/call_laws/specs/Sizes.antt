-- What a call comes to doesn't depend on how many lines the record sheet has, unless it adds a line: no other condition, answer or write looks at it. So an operation on sheets of
-- any size is that on the same sheets of another.
use Rattle.std.specs.Prelude.{◌≡◌, ◌+◌, ◌-◌, ◌&&◌, ◌||◌}
use Rattle.std.proofs.Common.{◌∙◌}
use Rattle.lists.specs.Basics.{refl, ap, ℕ, zero, suc, eqb, Bool, true, false, cond, true≢false}
use Rattle.model.specs.Types.{Transaction}
use Rattle.model.specs.Writes.{Sheets, Write, nothing, issue, decide, commit, prepare, forward, back, add_line, remove_line, apply}
use Rattle.model.specs.Results.{Call, begin, read, second, put, advance, abort, visit, add, remove, shifts_lines, Answer, returned, Response, Result, refused, made, unless}
use Rattle.model.specs.Refusals.{refusal_of}
use Rattle.model.specs.Transactions.{done_phase}
use Rattle.model.specs.WellFormed.{well_formed}
use Rattle.model.specs.Visits.{meeting}
use Rattle.model.specs.Conditions.{cannot_advance, conditions}
use Rattle.model.specs.Steps.{Step, holds, one_phase_allowed, one_phase, open_step, next_group, prepare_step, validate_step, decide_step, withdraw_step, finish_step, undo_step, step}
use Rattle.model.specs.Calls.{whole_read, outcome, result_of}
use Rattle.model.specs.Closing.{changes, Run, turn, closing, starting, most_steps, close_conditions}
use Rattle.model.specs.Operations.{Operation, once, close, operation_shifts, settled, close_run, ended, response}
use Rattle.call_laws.specs.Lifting.{with_size}

pub step-resized : (n : ℕ) (t : Transaction) (now : ℕ) (s : Sheets) → step t now (with_size n s) ≡ step t now s
unfolding step open_step one_phase one_phase_allowed holds next_group prepare_step validate_step decide_step withdraw_step finish_step undo_step
step-resized n t now s = refl

pub result-resized : (n : ℕ) (c : Call) (s : Sheets) → shifts_lines c ≡ false → result_of c (with_size n s) ≡ result_of c s
unfolding result_of conditions outcome whole_read well_formed meeting cannot_advance
result-resized n (begin b) s h = refl
result-resized n (read t k now) s h = refl
result-resized n (second t k now c) s h = refl
result-resized n (put t k c) s h = refl
result-resized n (advance t now) s h = ap (λ (x : Step). unless (conditions (advance t now) s) (made (returned x.transaction) x.write)) (step-resized n t now s)
result-resized n (abort t) s h = refl
result-resized n (visit k now) s h = refl
result-resized n (add k) s h = absurd (true≢false h)
result-resized n (remove k) s h = absurd (true≢false h)

-- Operations.

-- a response with the sheets of another size
abbrev pub resized : {A : Type 0} → ℕ → Response A Sheets → Response A Sheets
resized n (refused m) = refused m
resized n (made a s) = made a (with_size n s)

-- a close under way
abbrev resized_run : ℕ → Run → Run
resized_run n x = record { transaction = x.transaction; sheets = with_size n x.sheets; left = x.left; writes = x.writes }

changes-resized : (n : ℕ) (w : Write) (s : Sheets) → changes w (with_size n s) ≡ changes w s
unfolding changes
changes-resized n nothing s = refl
changes-resized n issue s = refl
changes-resized n (decide i d) s = refl
changes-resized n (commit i es) s = refl
changes-resized n (prepare i now es) s = refl
changes-resized n (forward i ks) s = refl
changes-resized n (back i ks) s = refl
changes-resized n (add_line k) s = refl
changes-resized n (remove_line k) s = refl

-- a turn of it, by the step and whether that writes
turn_by : Run → Step → Bool → Run
turn_by x p writes =
    cond (eqb x.transaction.phase done_phase || writes && eqb x.left 0) x
    (record {
      transaction = p.transaction;
      sheets = apply p.write x.sheets;
      left = cond writes (x.left - 1) x.left;
      writes = cond writes (x.writes + 1) x.writes;
    })

turn-resized : (n now : ℕ) (x : Run) → turn now (resized_run n x) ≡ resized_run n (turn now x)
unfolding turn turn_by apply
turn-resized n now x =
    let p : step x.transaction now (with_size n x.sheets) ≡ step x.transaction now x.sheets = step-resized n x.transaction now x.sheets in
    let q = step x.transaction now x.sheets in
    ap (λ (y : Step). turn_by (resized_run n x) y (changes y.write (with_size n x.sheets))) p
    ∙ (ap (turn_by (resized_run n x) q) (changes-resized n q.write x.sheets)
    ∙ go (eqb x.transaction.phase done_phase || changes q.write x.sheets && eqb x.left 0) q (changes q.write x.sheets))
  where
    go : (b : Bool) (p : Step) (w : Bool)
        → cond b (resized_run n x) (record { transaction = p.transaction; sheets = apply p.write (with_size n x.sheets); left = cond w (x.left - 1) x.left; writes = cond w (x.writes + 1) x.writes })
        ≡ resized_run n (cond b x (record { transaction = p.transaction; sheets = apply p.write x.sheets; left = cond w (x.left - 1) x.left; writes = cond w (x.writes + 1) x.writes }))
    go true p w = refl
    go false p w = refl

closing-resized : (n k now : ℕ) (x : Run) → closing k now (resized_run n x) ≡ resized_run n (closing k now x)
unfolding closing
closing-resized n zero now x = refl
closing-resized n (suc k) now x = ap (closing k now) (turn-resized n now x) ∙ closing-resized n k now (turn now x)

settled-resized : (n : ℕ) (s : Sheets) (r : Result Answer) → settled (with_size n s) r ≡ resized n (settled s r)
unfolding apply
settled-resized n s (refused m) = refl
settled-resized n s (made a w) = refl

pub response-resized : (n : ℕ) (o : Operation) (s : Sheets) → operation_shifts o ≡ false → response o (with_size n s) ≡ resized n (response o s)
unfolding response close_conditions well_formed
response-resized n (once c) s h = ap (settled (with_size n s)) (result-resized n c s h) ∙ settled-resized n s (result_of c s)
response-resized n (close t now limit) s h =
    ap (λ (x : Run). unless (close_conditions t s) (ended x)) (closing-resized n most_steps now (starting t limit s))
    ∙ go (eqb (refusal_of (close_conditions t s)) 0)
  where
    r : Run
    r = close_run t now limit s

    go : (b : Bool) → cond b (ended (resized_run n r)) (refused (refusal_of (close_conditions t s))) ≡ resized n (cond b (ended r) (refused (refusal_of (close_conditions t s))))
    go true = refl
    go false = refl
