-- What is known of two sheets once the check has let them pass, and what a call on such sheets answers and leaves, as one statement about its result: refused,
-- or made with a write.
use Rattle.std.specs.Prelude.{◌≡◌, ◌-◌, ◌*◌, ◌/◌, ◌≤◌, ◌∷◌, ◌++◌}
use Rattle.std.proofs.Common.{◌∙◌}
use Rattle.lists.specs.Basics.{refl, sym, ap, subst, ℕ, eqb, Bool, true, false, cond, List, [], length, length-map, drop, arith, leb-true, ne_eqb, all, and_fst}
use Rattle.lists.specs.Basics.{and_snd}
use Rattle.std.proofs.Math.ListN.{take-append-drop}
use Rattle.model.specs.Types.{Record}
use Rattle.model.specs.Layouts.{record_bytes}
use Rattle.model.specs.Spares.{filled_lines, front, spares_text, record_lines, sheet_for, sheet_accepted}
use Rattle.model.specs.Records.{records, records_text, records_accepted}
use Rattle.model.specs.Coordinator.{Coordinator, coordinator_of, coordinator_text, coordinator_readable}
use Rattle.model.specs.Refusals.{Condition, refusal_of}
use Rattle.model.specs.SheetCalls.{check_conditions}
use Rattle.model.specs.Writes.{Write, nothing, line_after, decisions_after, lines_after, apply}
use Rattle.model.specs.Results.{Call, shifts_lines, Answer, Response, Result, refused, made, unless, write_of}
use Rattle.model.specs.Calls.{result_of}
use Rattle.model.specs.ByteCalls.{sheets_said, sheet_text, result_on, sheet_after, coordinator_after, sheets_of, records_after}
use Rattle.model.specs.ByteHistories.{Bytes}
use Rattle.sheet_laws.specs.Records.{sheet_written_read}
use Rattle.sheet_laws.specs.Fronts.{front_tail}
use Rattle.sheet_laws.specs.Spared.{accepted_whole, count-front, sheet-said}
use Rattle.sheet_laws.specs.Coordinator.{coordinator_written_read}
use Rattle.call_laws.specs.Choices.{has_number, not_first}
use Rattle.call_laws.specs.Lines.{shifts, lines_mapped, lines_unmoved}
use Rattle.call_laws.specs.SingleUnit.{made_shifts}
use Rattle.call_laws.specs.Sheets.{GoodSheets, good_parts}
use Rattle.call_laws.specs.Lifting.{passing_parts, passing_readable, LinesFit, lines_good, readable_lines}
use Rattle.call_laws.specs.Sizes.{result-resized}

-- The bytes after a write are those of the decoded sheets after it.
pub record Written (w : Write) (rs cs rs' cs' : List ℕ) : Type 0 where
  pub lines : rs' ≡ records_text (apply w (sheets_of rs cs)).lines
  pub decisions : cs' ≡ coordinator_text (apply w (sheets_of rs cs)).coordinator

-- The answer and the bytes are those of a result.
pub record Outcome {B : Type 0} (f : Result Answer → B) (result : Result Answer) (rs cs : List ℕ) (answer : B) (rs' cs' : List ℕ) : Type 0 where
  pub said : answer ≡ f result
  pub lines : rs' ≡ records_after rs cs result
  pub decisions : cs' ≡ coordinator_after rs cs result

module _ {B : Type 0} (f : Result Answer → B) (rs cs : List ℕ) {result : Result Answer} {answer : B} where
  pub outcome_refused : (n : ℕ) → result ≡ refused n → answer ≡ f (refused n) → Outcome f result rs cs answer rs cs
  unfolding records_after coordinator_after
  outcome_refused n e a =
      record { said = a ∙ ap f (sym e); lines = ap (records_after rs cs) (sym e); decisions = ap (coordinator_after rs cs) (sym e) }

  pub outcome_made : (x : Answer) (w : Write) {rs' cs' : List ℕ} → result ≡ made x w → answer ≡ f (made x w) → Written w rs cs rs' cs' → Outcome f result rs cs answer rs' cs'
  unfolding records_after coordinator_after apply
  outcome_made x w e a h =
      record {
        said = a ∙ ap f (sym e);
        lines = h.lines ∙ ap (records_after rs cs) (sym e);
        decisions = h.decisions ∙ ap (coordinator_after rs cs) (sym e);
      }

-- Results by their conditions.

pub unless-held : {A E : Type 0} (cs : List Condition) (r : Response A E) (n : ℕ) → refusal_of cs ≡ n → (n ≡ 0 → ⊥) → unless cs r ≡ refused n
unless-held cs r n e z = ap (λ (m : ℕ). cond (eqb m 0) r (refused m)) e ∙ ap (λ (b : Bool). cond b r (refused n)) (ne_eqb n 0 z)

pub unless-free : {A E : Type 0} (cs : List Condition) (r : Response A E) → refusal_of cs ≡ 0 → unless cs r ≡ r
unless-free cs r e = ap (λ (m : ℕ). cond (eqb m 0) r (refused m)) e

-- a refusal is not changed by what is asked later
pub refusal_front : (ps qs : List Condition) (n : ℕ) → n ≡ refusal_of ps → (n ≡ 0 → ⊥) → n ≡ refusal_of (ps ++ qs)
unfolding refusal_of
refusal_front [] qs n e z = absurd (z e)
refusal_front (c ∷ ps) qs n e z = go c.holds e (λ h. refusal_front ps qs n h z)
  where
    go : (b : Bool) → n ≡ cond b c.number (refusal_of ps) → (n ≡ refusal_of ps → n ≡ refusal_of (ps ++ qs)) → n ≡ cond b c.number (refusal_of (ps ++ qs))
    go true h f = h
    go false h f = f h

-- nor by what is asked earlier, where that does not apply
pub refusal_past : (ps qs : List Condition) → all has_number ps ≡ true → refusal_of ps ≡ 0 → refusal_of (ps ++ qs) ≡ refusal_of qs
unfolding refusal_of all
refusal_past [] qs l h = refl
refusal_past (c ∷ ps) qs l h =
    let n : 1 ≤ c.number = leb-true 1 c.number (and_fst (has_number c) (all has_number ps) l) in
    let p = not_first c.number c.holds ps n h in
    ap (λ (b : Bool). cond b c.number (refusal_of (ps ++ qs))) p.0 ∙ refusal_past ps qs (and_snd (has_number c) (all has_number ps) l) p.1

-- a call by the conditions that it asks first
module _ {A E : Type 0} (ps qs : List Condition) (r : Response A E) where
  pub unless-front : (n : ℕ) → n ≡ refusal_of ps → (n ≡ 0 → ⊥) → unless (ps ++ qs) r ≡ refused n
  unless-front n e z = unless-held (ps ++ qs) r n (sym (refusal_front ps qs n e z)) z

  pub unless_past : all has_number ps ≡ true → refusal_of ps ≡ 0 → unless (ps ++ qs) r ≡ unless qs r
  unless_past l h = ap (λ (n : ℕ). cond (eqb n 0) r (refused n)) (refusal_past ps qs l h)

-- What is known of lines of records and a coordinator sheet that break no rule, letters of either case.
pub record Accepted (rs cs : List ℕ) : Type 0 where
  pub fit : LinesFit rs cs
  pub lines : records_accepted rs ≡ true
  pub decisions : coordinator_readable cs ≡ true
  pub good : GoodSheets (sheets_of rs cs)

pub accepted_fit : (rs cs : List ℕ) → LinesFit rs cs → Accepted rs cs
accepted_fit rs cs p =
    record { fit = p; lines = p.0; decisions = p.1.0; good = good_parts (sheets_of rs cs) (lines_good rs cs p) }

-- the check lets both sheets pass, which asks for capitals too: of their lines
pub accepted : (rs cs : List ℕ) → refusal_of (check_conditions rs cs) ≡ 0 → Accepted (record_lines rs) cs
accepted rs cs h =
    let b : Bytes = record { records = rs; coordinator = cs } in
    accepted_fit (record_lines rs) cs (readable_lines b (passing_readable b h).0)

-- Lines lent as the front of a sheet and come back: the spares stay behind them.

module _ (rs cs : List ℕ) (h : refusal_of (check_conditions rs cs) ≡ 0) where
  sheet : sheet_accepted rs ≡ true
  sheet = (passing_parts (record { records = rs; coordinator = cs }) h).0

  abbrev ended : List ℕ → List ℕ
  ended lines = lines ++ drop (filled_lines record_bytes rs * record_bytes) rs

  -- as they went
  pub front_back : ended (record_lines rs) ≡ rs
  unfolding front
  front_back = take-append-drop (filled_lines record_bytes rs * record_bytes) rs

  -- as many records as they were
  pub front-text : (ys : List Record) → length ys ≡ length (records (record_lines rs)) → ended (records_text ys) ≡ sheet_for ys (length rs / record_bytes)
  unfolding sheet_for
  front-text ys e =
      ap (λ (t : List ℕ). records_text ys ++ t)
      (front_tail record_bytes (omega arith) rs (accepted_whole rs sheet) ∙ ap (λ (n : ℕ). spares_text record_bytes (length rs / record_bytes - n)) (sym (e ∙ count-front rs sheet)))

-- The answer and the bytes of both sheets are those of a result.
pub record SheetOutcome {B : Type 0} (f : Result Answer → B) (result : Result Answer) (rs cs : List ℕ) (answer : B) (rs' cs' : List ℕ) : Type 0 where
  pub said : answer ≡ f result
  pub sheet : rs' ≡ sheet_after rs cs result
  pub decisions : cs' ≡ coordinator_after rs cs result

-- a call on both sheets is that on the lines of records
pub on_lines : (c : Call) (rs cs : List ℕ) → shifts_lines c ≡ false → refusal_of (check_conditions rs cs) ≡ 0 → result_on c rs cs ≡ result_of c (sheets_of (record_lines rs) cs)
unfolding result_on
on_lines c rs cs h e = unless-free (check_conditions rs cs) (result_of c (sheets_said rs cs)) e ∙ result-resized (length rs / record_bytes) c (sheets_of (record_lines rs) cs) h

-- Every call: refused by the check, or what it comes to on the lines of records, unless it adds or removes one.
module _ {B : Type 0} (f : Result Answer → B) (c : Call) (rs cs : List ℕ) {answer : B} where
  pub turned_away_lem : (n : ℕ) → n ≡ refusal_of (check_conditions rs cs) → (n ≡ 0 → ⊥) → answer ≡ f (refused n) → SheetOutcome f (result_on c rs cs) rs cs answer rs cs
  unfolding result_on sheet_after coordinator_after
  turned_away_lem n e z a =
      let r : result_on c rs cs ≡ refused n = unless-held (check_conditions rs cs) (result_of c (sheets_said rs cs)) n (sym e) z in
      record { said = a ∙ ap f (sym r); sheet = ap (sheet_after rs cs) (sym r); decisions = ap (coordinator_after rs cs) (sym r) }

  pub let_pass : {ls' cs' : List ℕ} → shifts_lines c ≡ false → refusal_of (check_conditions rs cs) ≡ 0 → Outcome f (result_of c (sheets_of (record_lines rs) cs)) (record_lines rs) cs answer ls' cs'
      → SheetOutcome f (result_on c rs cs) rs cs answer (ls' ++ drop (filled_lines record_bytes rs * record_bytes) rs) cs'
  let_pass {ls'} {cs'} n e h =
      subst (λ (r : Result Answer). SheetOutcome f r rs cs answer (ended rs cs e ls') cs') (sym (on_lines c rs cs n e))
      (record {
        said = h.said;
        sheet = ap (ended rs cs e) h.lines ∙ left (result_of c (sheets_of (record_lines rs) cs)) (made_shifts c (sheets_of (record_lines rs) cs) n);
        decisions = h.decisions ∙ same (result_of c (sheets_of (record_lines rs) cs));
      })
    where
      left : (r : Result Answer) → shifts (write_of r) ≡ false → ended rs cs e (records_after (record_lines rs) cs r) ≡ sheet_after rs cs r
      left (refused n) q = unfold records_after sheet_after in front_back rs cs e
      left (made a w) q =
          unfold records_after sheet_after apply in
          front-text rs cs e (lines_after w (records (record_lines rs)))
          (ap length (lines_mapped w (records (record_lines rs)) q) ∙ length-map (records (record_lines rs)) (line_after w))

      same : (r : Result Answer) → coordinator_after (record_lines rs) cs r ≡ coordinator_after rs cs r
      same (refused n) = unfold coordinator_after in refl
      same (made a w) = unfold coordinator_after apply in refl

  pub passed-answer : shifts_lines c ≡ false → refusal_of (check_conditions rs cs) ≡ 0 → answer ≡ f (result_of c (sheets_of (record_lines rs) cs)) → answer ≡ f (result_on c rs cs)
  passed-answer n e h = h ∙ ap f (sym (on_lines c rs cs n e))

-- Writes that leave a sheet alone.

module _ (rs cs : List ℕ) (a : Accepted rs cs) (w : Write) where
  pub lines_kept : shifts w ≡ false → ((r : Record) → line_after w r ≡ r) → rs ≡ records_text (apply w (sheets_of rs cs)).lines
  unfolding apply
  lines_kept q h = sym (ap records_text (lines_unmoved w q h (records rs)) ∙ sheet_written_read rs a.lines)

  pub decisions_kept : ((c : Coordinator) → decisions_after w c ≡ c) → cs ≡ coordinator_text (apply w (sheets_of rs cs)).coordinator
  unfolding apply
  decisions_kept h = sym (ap coordinator_text (h (coordinator_of cs)) ∙ coordinator_written_read cs a.decisions)

module _ (rs cs : List ℕ) (a : Accepted rs cs) where
  pub written_nothing : Written nothing rs cs rs cs
  unfolding line_after decisions_after
  written_nothing =
      record { lines = lines_kept rs cs a nothing refl (λ r. refl); decisions = decisions_kept rs cs a nothing (λ c. refl) }

-- and of both sheets
module _ (rs cs : List ℕ) (h : refusal_of (check_conditions rs cs) ≡ 0) (w : Write) where
  pub sheet_kept : shifts w ≡ false → ((r : Record) → line_after w r ≡ r) → sheet_text (apply w (sheets_said rs cs)) ≡ rs
  unfolding apply
  sheet_kept q k =
      ap (λ (ls : List Record). sheet_for ls (length rs / record_bytes)) (lines_unmoved w q k (records (record_lines rs)))
      ∙ sheet-said rs (passing_parts (record { records = rs; coordinator = cs }) h).0

  pub coordinator_kept : ((c : Coordinator) → decisions_after w c ≡ c) → coordinator_text (apply w (sheets_said rs cs)).coordinator ≡ cs
  unfolding apply
  coordinator_kept k = ap coordinator_text (k (coordinator_of cs)) ∙ coordinator_written_read cs (accepted rs cs h).decisions
