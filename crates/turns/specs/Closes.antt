-- What a close does over bytes. One that isn't refused is a run of the model's steps on what the bytes say; each step is an advance that is accepted, and
-- changes a byte exactly where it counts.
use Rattle.std.specs.Prelude.{◌≡◌, ◌+◌, ◌*◌, ◌^◌, ◌≤◌, ◌<◌}
use Rattle.std.proofs.Common.{◌∙◌}
use Rattle.lists.specs.Basics.{refl, sym, ap, subst, ℕ, zero, suc, Bool, true, false, eqb, cond, List, length, inl, inr, arith, eqb-true}
use Rattle.model.specs.Types.{Transaction}
use Rattle.model.specs.Refusals.{Condition, refusal_of}
use Rattle.model.specs.SheetCalls.{check_conditions}
use Rattle.model.specs.Transactions.{done_phase, committed_verdict, puts, moved}
use Rattle.model.specs.Greatest.{greatest_bytes, greatest_transaction}
use Rattle.model.specs.Writes.{Sheets, Write, sheets_good, apply}
use Rattle.model.specs.WellFormed.{well_formed}
use Rattle.model.specs.Results.{advance, Answer, returned, reported, report_in, refusal_in, held_after, Response, refused, unless, write_of, answer_of}
use Rattle.model.specs.Conditions.{cannot_advance}
use Rattle.model.specs.Steps.{step}
use Rattle.model.specs.Histories.{answer, written, after, ClockFits}
use Rattle.model.specs.Closing.{Run, step_writes, stops, goes_on, turn, closing, starting, most_steps, cannot_close, close_conditions}
use Rattle.model.specs.ByteHistories.{Bytes, saying, Readable, Passing, answer_on, after_on}
use Rattle.model.specs.AtomicWrites.{WithinUnit, coordinator_only}
use Rattle.model.specs.Operations.{close, stands_for, close_run, ended, response, response_on, sheet_left, coordinator_left, bytes_left}
use Rattle.model.specs.Closes.{close_answer, close_leaves, Advances, no_advance, unwritten, written as wrote, NextWrite, nothing_more, one_write_more, NextLimit, EndsAt}
use Rattle.model.specs.Changes.{ToldAtomic, told_of}
use Rattle.model.specs.Turns.{Turn, single, turn_call, turn_event_on, turn_after_on, turn_response_on}
use Rattle.call_laws.specs.Choices.{unless_of}
use Rattle.call_laws.specs.Accepted.{unless-free}
use Rattle.call_laws.specs.Transactions.{well_formed-parts}
use Rattle.call_laws.specs.Lifting.{Capitals, passing_readable, readable_good, passing_good, encoded, encoded_readable, encoded-says, capitals_kept, passing_encoded, same_answer, same_bytes}
use Rattle.call_laws.specs.SingleUnit.{SingleUnit, unit_shifts}
use Rattle.call_laws.specs.ByteUnits.{write_unit}
use Rattle.closing_laws.specs.Steps.{Going, Sound, starts_sound, close_advance, may_go, sound_next, closing_every}
use Rattle.closing_laws.specs.Advances.{advance_made}
use Rattle.closing_laws.specs.Limits.{OneMore, no_more, one_more, limit_by_limit}
use Rattle.closing_laws.specs.Writes.{written-bytes, unwritten_bytes}
use Rattle.closing_laws.specs.Report.{limit_kept, most-17}
use Rattle.closing_laws.specs.Ends.{Ended, ends_there, seventeen_closes, steps_18}
use Rattle.closing_laws.specs.Greatest.{Reached, greatest_reached, nothing_greater}
use Rattle.turns.specs.Operations.{close_sound}
use Rattle.turns.specs.Turns.{turn_stays_passing}
use Rattle.turns.specs.Told.{turn-decisions, told_between}

-- One advance on the bytes of good sheets of capitals.
module _ (t : Transaction) (now : ℕ) (s : Sheets) (good : sheets_good s ≡ true) (capitals : Capitals s) (formed : well_formed s t ≡ true) (free : cannot_advance t s ≡ false) where
  advance_answers : answer_on (advance t now) (encoded s) ≡ returned (step t now s).transaction
  unfolding answer
  advance_answers =
      let e = encoded-says s good capitals in
      same_answer (advance t now) (encoded s) e.1 ∙ (ap (answer (advance t now)) e.0 ∙ ap answer_of (advance_made t now s formed free))

  advance_leaves : after_on (advance t now) (encoded s) ≡ encoded (apply (step t now s).write s)
  unfolding after written
  advance_leaves =
      let e = encoded-says s good capitals in
      same_bytes (advance t now) (encoded s) e.1
      ∙ (ap (λ (z : Sheets). encoded (after (advance t now) z)) e.0 ∙ ap (λ (r : Response Answer Write). encoded (apply (write_of r) s)) (advance_made t now s formed free))

-- "advances made one after another up to there"
record RunAsByteAdvances (now : ℕ) (x y : Run) : Type 0 where
  count : ℕ
  counted : y.writes ≡ x.writes + count
  made : Advances now x.transaction (encoded x.sheets) count y.transaction (encoded y.sheets)

run_advances : (n now : ℕ) → now < 2 ^ 32 → (x : Run) → Sound x → Capitals x.sheets → RunAsByteAdvances now x (closing n now x)
unfolding closing turn
run_advances zero now fits x k a = record { count = 0; counted = omega arith; made = no_advance x.transaction (encoded x.sheets) }
run_advances (suc n) now fits x k a = go (stops now x) refl (λ y k' a'. run_advances n now fits y k' a')
  where
    t : Transaction
    t = x.transaction

    s : Sheets
    s = x.sheets

    next : Run
    next = goes_on now x

    go : (b : Bool) → stops now x ≡ b → ((y : Run) → Sound y → Capitals y.sheets → RunAsByteAdvances now y (closing n now y)) → RunAsByteAdvances now x (closing n now (cond b x next))
    go true q rec = rec x k a
    go false q rec = by_write (step_writes now x) refl (rec next (sound_next now fits x k c) (capitals_kept (step t now s).write s a))
      where
        c : cannot_close t s ≡ false
        c = may_go now x k.going q

        free : cannot_advance t s ≡ false
        free = close_advance t s c

        end : Run
        end = closing n now next

        leaves : after_on (advance t now) (encoded s) ≡ encoded next.sheets
        leaves = advance_leaves t now s k.good a k.formed free

        says : answer_on (advance t now) (encoded s) ≡ returned next.transaction
        says = advance_answers t now s k.good a k.formed free

        by_write : (w : Bool) → step_writes now x ≡ w → RunAsByteAdvances now next end → RunAsByteAdvances now x end
        by_write true e r =
            record {
              count = suc r.count;
              counted = r.counted ∙ (ap (λ (w : Bool). cond w (x.writes + 1) x.writes + r.count) e ∙ omega arith);
              made =
                  wrote t next.transaction end.transaction (encoded s) (encoded end.sheets) r.count says
                  (λ h. written-bytes s k.good t k.formed now fits e (sym leaves ∙ h))
                  (subst (λ (b : Bytes). Advances now next.transaction b r.count end.transaction (encoded end.sheets)) (sym leaves) r.made);
            }
        by_write false e r =
            record {
              count = r.count;
              counted = r.counted ∙ ap (λ (w : Bool). cond w (x.writes + 1) x.writes + r.count) e;
              made =
                  unwritten t next.transaction end.transaction (encoded s) (encoded end.sheets) r.count says
                  (leaves ∙ unwritten_bytes s t now e)
                  (subst (λ (b : Bytes). Advances now next.transaction b r.count end.transaction (encoded end.sheets)) (sym leaves) r.made);
            }

-- A close that isn't refused.
module _ (t : Transaction) (now limit : ℕ) (b : Bytes) where
  abbrev run : Run
  run = close_run t now limit (saying b)

  record Accepted (n : ℕ) (u : Transaction) (left : Bytes) : Type 0 where
    passing : Passing b
    free : refusal_of (close_conditions t (saying b)) ≡ 0
    writes : run.writes ≡ n
    transaction : run.transaction ≡ u
    leaves : left ≡ encoded run.sheets

  accepted : (n : ℕ) (u : Transaction) → close_answer t now limit b ≡ reported n u → Accepted n u (close_leaves t now limit b)
  unfolding response_on response sheet_left coordinator_left
  accepted n u =
      unless_of (λ (r : Response Answer Sheets). answer_of r ≡ reported n u → Accepted n u (bytes_left b r)) (check_conditions b.records b.coordinator)
      (λ z e. absurd (z (ap refusal_in e)))
      (λ p. unless_of (λ (r : Response Answer Sheets). answer_of r ≡ reported n u → Accepted n u (bytes_left b r)) (close_conditions t (saying b))
      (λ z e. absurd (z (ap refusal_in e)))
      (λ q e. record { passing = p; free = q; writes = ap report_in e; transaction = ap (held_after t) e; leaves = refl }))

  module _ (fits : now < 2 ^ 32) (n : ℕ) (u : Transaction) (answers : close_answer t now limit b ≡ reported n u) where
    abbrev known : Accepted n u (close_leaves t now limit b)
    known = accepted n u answers

    abbrev s : Sheets
    s = saying b

    started : Sound (starting t limit s)
    started = starts_sound t limit s (passing_good b known.passing) known.free

    -- "For every limit the report, transaction and sheets are those of advances made one after another up to there."
    pub close_advances : Advances now t b n u (close_leaves t now limit b)
    close_advances =
        let r = run_advances most_steps now fits (starting t limit s) started (passing_readable b known.passing).1 in
        let e : r.count ≡ n = omega (arith, r.counted, known.writes) in
        subst (λ (c : Bytes). Advances now t b n u c) (sym known.leaves)
        (subst (λ (v : Transaction). Advances now t b n v (encoded run.sheets)) known.transaction
        (subst (λ (m : ℕ). Advances now t b m run.transaction (encoded run.sheets)) e
        (subst (λ (c : Bytes). Advances now t c r.count run.transaction (encoded run.sheets)) (passing_encoded b known.passing) r.made)))

    -- "and is at most 17", nor is it above the limit
    pub close_reports : (n ≤ 17) × (n ≤ limit)
    close_reports =
        let a = most-17 most_steps now fits t limit s started in
        let k = limit_kept most_steps now fits (starting t limit s) started in
        (omega (arith, a, known.writes), omega (arith, k, known.writes))

    -- "17 or more closes the order"
    pub close_closes : 17 ≤ limit → u.phase ≡ done_phase
    close_closes l = ap (λ (v : Transaction). v.phase) (sym known.transaction) ∙ seventeen_closes now fits t limit s l started

    pub close_ends : EndsAt now limit n u (close_leaves t now limit b)
    close_ends =
        subst (λ (c : Bytes). EndsAt now limit n u c) (sym known.leaves)
        (subst (λ (v : Transaction). EndsAt now limit n v (encoded run.sheets)) known.transaction (go (ends_there most_steps now fits (starting t limit s) started (steps_18 t s (well_formed-parts s t started.formed).0.few))))
      where
        sound : Sound run
        sound = close_sound t now limit s fits (passing_good b known.passing) known.free

        capitals : Capitals run.sheets
        capitals =
            closing_every (λ (x : Run). Capitals x.sheets) now (λ y a. capitals_kept (step y.transaction now y.sheets).write y.sheets a)
            most_steps (starting t limit s) (passing_readable b known.passing).1

        go : Ended now run → EndsAt now limit n run.transaction (encoded run.sheets)
        go (inl d) = inl d
        go (inr e) =
            let k = limit_kept most_steps now fits (starting t limit s) started in
            let m : n ≡ limit = omega (arith, k, known.writes, e.1) in
            by_going m sound.going
          where
            by_going : n ≡ limit → Going run.transaction run.sheets → EndsAt now limit n run.transaction (encoded run.sheets)
            by_going m (inl d) = inl d
            by_going m (inr c) =
                inr (
                  m,
                  λ h. written-bytes run.sheets sound.good run.transaction sound.formed now fits e.0
                      (sym (advance_leaves run.transaction now run.sheets sound.good capitals sound.formed (close_advance run.transaction run.sheets c)) ∙ h),
                )

-- From one limit to the next.

-- by what is asked of the sheets first, and what they are left as
pub next_by : {S : Type 0} (unit : S → S → Type 0) (left : Response Answer Sheets → S) (asked : List Condition) (t : Transaction) (now limit : ℕ) (s : Sheets)
    → (refusal_of asked ≡ 0 → refusal_of (close_conditions t s) ≡ 0
    → NextWrite unit (answer_of (ended (close_run t now limit s))) (answer_of (ended (close_run t now (limit + 1) s))) (left (ended (close_run t now limit s))) (left (ended (close_run t now (limit + 1) s))))
    → NextWrite unit (answer_of (unless asked (response (close t now limit) s))) (answer_of (unless asked (response (close t now (limit + 1)) s)))
    (left (unless asked (response (close t now limit) s))) (left (unless asked (response (close t now (limit + 1)) s)))
unfolding response
next_by unit left asked t now limit s f = go (eqb first 0) refl (eqb second 0) refl
  where
    first : ℕ
    first = refusal_of asked

    second : ℕ
    second = refusal_of (close_conditions t s)

    by : Bool → Bool → ℕ → Response Answer Sheets
    by x y limit = cond x (cond y (ended (close_run t now limit s)) (refused second)) (refused first)

    go : (x : Bool) → eqb first 0 ≡ x → (y : Bool) → eqb second 0 ≡ y → NextWrite unit (answer_of (by x y limit)) (answer_of (by x y (limit + 1))) (left (by x y limit)) (left (by x y (limit + 1)))
    go true e true g = f (eqb-true first 0 e) (eqb-true second 0 g)
    go true e false g = nothing_more refl refl
    go false e y g = nothing_more refl refl

-- what a close on what readable bytes say leaves, encoded
module _ (t : Transaction) (now limit : ℕ) (b : Bytes) (fits : now < 2 ^ 32) where
  abbrev lower : Run
  lower = close_run t now limit (saying b)

  abbrev higher : Run
  higher = close_run t now (limit + 1) (saying b)

  pub run_next : Readable b → refusal_of (close_conditions t (saying b)) ≡ 0 → NextWrite WithinUnit (answer_of (ended lower)) (answer_of (ended higher)) (encoded lower.sheets) (encoded higher.sheets)
  run_next p z = go (limit_by_limit most_steps now (starting t limit (saying b)))
    where
      good : sheets_good (saying b) ≡ true
      good = readable_good b p

      go : OneMore lower higher → NextWrite WithinUnit (answer_of (ended lower)) (answer_of (ended higher)) (encoded lower.sheets) (encoded higher.sheets)
      go (no_more e f g) = nothing_more (λ i. reported (g i) (e i)) (ap encoded f)
      go (one_more w one f g) =
          let x = encoded_readable lower.sheets (close_sound t now limit (saying b) fits good z).good in
          let kept : sheets_good (apply w (saying (encoded lower.sheets))) ≡ true =
          ap (λ (y : Sheets). sheets_good (apply w y)) x.0 ∙ (ap sheets_good (sym f) ∙ (close_sound t now (limit + 1) (saying b) fits good z).good) in
          let single : SingleUnit (saying (encoded lower.sheets)).coordinator.units w = subst (λ (y : Sheets). SingleUnit y.coordinator.units w) (sym x.0) one in
          one_write_more g
          (subst (WithinUnit (encoded lower.sheets)) (ap (λ (y : Sheets). encoded (apply w y)) x.0 ∙ ap encoded (sym f))
          (write_unit (encoded lower.sheets) x.1 w (unit_shifts single) kept single))

  pub next_limit : NextLimit t now limit b
  unfolding response_on sheet_left coordinator_left
  next_limit =
      next_by WithinUnit (bytes_left b) (check_conditions b.records b.coordinator) t now limit (saying b) (λ p z. run_next (passing_readable b p).0 z)

-- what a client is told that keeps both sheets from before a limit
pub told_of_limit : (t : Transaction) (now limit : ℕ) (b : Bytes) (target : List ℕ) → now < 2 ^ 32 → Passing b → length target ≡ 2
    → ToldAtomic (close_leaves t now limit b) (close_leaves t now (limit + 1) b) (told_of (close_leaves t now limit b) (close_leaves t now (limit + 1) b) target)
unfolding turn_event_on turn_call stands_for turn_after_on turn_response_on
told_of_limit t now limit b target fits p n =
    let x = single (close t now limit) in
    let y = single (close t now (limit + 1)) in
    told_between (close_leaves t now limit b) (close_leaves t now (limit + 1) b) target n (readable x fits) (readable y fits)
    (unit_of_lem (next_limit t now limit b fits))
    (turn-decisions y b fits p ∙ sym (turn-decisions x b fits p))
  where
    readable : (x : Turn) → ClockFits (turn_event_on x b).call → Readable (turn_after_on x b)
    readable x l = (passing_readable (turn_after_on x b) (turn_stays_passing x b l p).1).0

    unit_of_lem : NextLimit t now limit b → WithinUnit (close_leaves t now limit b) (close_leaves t now (limit + 1) b)
    unit_of_lem (nothing_more e f) = coordinator_only (ap (λ (c : Bytes). c.records) f)
    unit_of_lem (one_write_more e u) = u

-- The greatest report, by the number of puts.

-- the close of accepted bytes that isn't refused answers its run
run_answers : (t : Transaction) (now limit : ℕ) (b : Bytes) → Passing b → refusal_of (close_conditions t (saying b)) ≡ 0
    → close_answer t now limit b ≡ reported (close_run t now limit (saying b)).writes (close_run t now limit (saying b)).transaction
unfolding response_on response
run_answers t now limit b p z =
    ap answer_of (unless-free (check_conditions b.records b.coordinator) (unless (close_conditions t (saying b)) (ended (close_run t now limit (saying b)))) p)
    ∙ ap answer_of (unless-free (close_conditions t (saying b)) (ended (close_run t now limit (saying b))) z)

pub greatest_reaches : (n : ℕ) → 1 ≤ n → n ≤ 8 → (now : ℕ) → close_answer (greatest_transaction n) now 17 (greatest_bytes n) ≡ reported (2 * n + 1) (moved done_phase 0 committed_verdict (greatest_transaction n))
greatest_reaches n l m now =
    let r : Reached n = greatest_reached n l m in
    let t = greatest_transaction n in
    let z : refusal_of (close_conditions t (saying (greatest_bytes n))) ≡ 0 = ap (λ (s : Sheets). refusal_of (close_conditions t s)) r.says ∙ r.closes in
    run_answers t now 17 (greatest_bytes n) r.passes z
    ∙ (ap (λ (s : Sheets). reported (close_run t now 17 s).writes (close_run t now 17 s).transaction) r.says ∙ r.report now)

pub none_greater : (t : Transaction) (now limit : ℕ) (b : Bytes) → now < 2 ^ 32 → (n : ℕ) (u : Transaction) → close_answer t now limit b ≡ reported n u → n ≤ 2 * length (puts t) + 1
none_greater t now limit b fits n u e =
    let k = accepted t now limit b n u e in
    let g = nothing_greater b k.passing t k.free limit now fits in
    omega (arith, g, k.writes)
