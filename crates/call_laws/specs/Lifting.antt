-- The calls on bytes are the calls on decoded sheets: on accepted bytes the answer is the same, and what is written, encoded, says the sheets after the call.
use Rattle.std.specs.Prelude.{◌≡◌, ◌/◌, ◌≤◌, ◌&&◌, ◌∷◌}
use Rattle.std.proofs.Common.{◌∙◌}
use Rattle.lists.specs.Basics.{refl, sym, ap, subst, ℕ, zero, suc, eqb, leb, Bool, true, false, not, cond, List, [], length, get_or, arith, le-leb, tests, not-true, not-false, all, and_fst, and_snd, and_both}
use Rattle.model.specs.Types.{Key}
use Rattle.model.specs.Records.{records, records_text, records_good, records_accepted}
use Rattle.model.specs.Lines.{lines_set}
use Rattle.model.specs.Layouts.{record_layout, record_bytes}
use Rattle.model.specs.Spares.{record_lines, sheet_accepted}
use Rattle.model.specs.Coordinator.{Letter, coordinator_of, coordinator_text, coordinator_good, coordinator_readable, all_capitals, coordinator_accepted, names_issued}
use Rattle.model.specs.Groups.{no_letter, letter_for, is_lower}
use Rattle.model.specs.Refusals.{refuse, refusal_of}
use Rattle.model.specs.SheetCalls.{all_issued, readable_conditions, check_conditions}
use Rattle.model.specs.Writes.{Sheets, size_good, sheets_good, Write, nothing, line_after, decisions_after, apply}
use Rattle.model.specs.Results.{Call, Response, Result, refused, made, write_of, answer_of}
use Rattle.model.specs.Steps.{units_of}
use Rattle.model.specs.Calls.{result_of}
use Rattle.model.specs.ByteCalls.{sheet_text, sheets_of, on_sheets, result_on, sheet_after, coordinator_after}
use Rattle.model.specs.Histories.{answer, written, after, ClockFits}
use Rattle.model.specs.ByteHistories.{Bytes, saying, Readable, Passing, bytes_after, answer_on, after_on}
use Rattle.sheet_laws.specs.Records.{records_read_written}
use Rattle.sheet_laws.specs.Fronts.{sized_some, sized-few}
use Rattle.sheet_laws.specs.Spared.{sheet-count, sheet-records, sheet_accepted_lem, accepted_sized, accepted_lines, lines-within, sheet-said}
use Rattle.sheet_laws.specs.Coordinator.{coordinator_read_written, coordinator_written_read}
use Rattle.sheet_laws.specs.Decisions.{accepted_parts, parts_accepted, readable_parts}
use Rattle.call_laws.specs.Choices.{not_first}
use Rattle.call_laws.specs.Lines.{lines_unmoved}
use Rattle.call_laws.specs.Keeping.{units_kept}
use Rattle.call_laws.specs.Sheets.{good_parts}
use Rattle.call_laws.specs.Closure.{sheets_stay_good}

-- two conditions, of which the second is that one of two tests fails
two-free : (x c n : Bool) → refusal_of (refuse 1 (not x) ∷ refuse 2 (not (c && n)) ∷ []) ≡ 0 → (x ≡ true) × ((c ≡ true) × (n ≡ true))
two-free x c n h =
    let p = not_first 1 (not x) _ (omega arith) h in
    let q = not_first 2 (not (c && n)) [] (omega arith) p.1 in
    let e : (c && n) ≡ true = not-false (c && n) q.0 in
    (not-false x p.0, (and_fst c n e, and_snd c n e))

pub readable_both : (b : Bytes) → Readable b → (sheet_accepted b.records ≡ true) × ((coordinator_readable b.coordinator ≡ true) × (all_issued (record_lines b.records) b.coordinator ≡ true))
unfolding readable_conditions
readable_both b h = two-free (sheet_accepted b.records) (coordinator_readable b.coordinator) (all_issued (record_lines b.records) b.coordinator) h

pub passing_parts : (b : Bytes) → Passing b → (sheet_accepted b.records ≡ true) × ((coordinator_accepted b.coordinator ≡ true) × (all_issued (record_lines b.records) b.coordinator ≡ true))
unfolding check_conditions
passing_parts b h = two-free (sheet_accepted b.records) (coordinator_accepted b.coordinator) (all_issued (record_lines b.records) b.coordinator) h

-- accepted bytes are readable ones of capitals
abbrev pub Capitals : Sheets → Type 0
Capitals s = all_capitals (units_of s) ≡ true

-- then no storage is marked
capital_at : (us : List Letter) (i : ℕ) → all_capitals us ≡ true → (get_or us i no_letter).lower ≡ false
unfolding all_capitals all
capital_at [] i h = refl
capital_at (l ∷ us) zero h = not-true l.lower (and_fst (not l.lower) (all_capitals us) h)
capital_at (l ∷ us) (suc i) h = capital_at us i (and_snd (not l.lower) (all_capitals us) h)

pub capitals_lower : (s : Sheets) → Capitals s → (k : Key) → is_lower (units_of s) k ≡ false
unfolding letter_for
capitals_lower s a k = go k.storage
  where
    go : (n : ℕ) → (letter_for n (units_of s)).lower ≡ false
    go zero = refl
    go (suc i) = capital_at (units_of s) i a

pub passing_readable : (b : Bytes) → Passing b → Readable b × Capitals (saying b)
unfolding readable_conditions refusal_of
passing_readable b h =
    let p = passing_parts b h in
    let q = accepted_parts b.coordinator p.1.0 in
    (rw (p.0, q.0, p.1.1), q.1)

pub readable_passing : (b : Bytes) → Readable b → Capitals (saying b) → Passing b
unfolding check_conditions refusal_of
readable_passing b h a =
    let p = readable_both b h in
    let q = parts_accepted b.coordinator p.1.0 a in
    rw (p.0, q, p.1.1)

-- Lines of records alone, without spares, beside a coordinator sheet: they break no rule, letters of either case.
abbrev pub LinesFit : List ℕ → List ℕ → Type 0
LinesFit rs cs = (records_accepted rs ≡ true) × ((coordinator_readable cs ≡ true) × (all_issued rs cs ≡ true))

-- they say good sheets
pub lines_good : (rs cs : List ℕ) → LinesFit rs cs → sheets_good (sheets_of rs cs) ≡ true
unfolding sheets_good size_good records_accepted records_good all_issued
lines_good rs cs p =
    let g : records_good (records rs) ≡ true = and_snd (lines_set record_layout record_bytes rs) (records_good (records rs)) p.0 in
    let n : leb (length (records rs)) 500 ≡ true = search (tests, g) in
    and_both (and_both (and_both (and_both refl n) g) (readable_parts cs p.1.0).good) p.1.1

-- the lines of readable bytes are such lines
pub readable_lines : (b : Bytes) → Readable b → LinesFit (record_lines b.records) b.coordinator
readable_lines b h = let p = readable_both b h in (accepted_lines b.records p.0, p.1)

-- the same sheets with another number of lines
abbrev pub with_size : ℕ → Sheets → Sheets
with_size n s = record { lines = s.lines; size = n; coordinator = s.coordinator }

resized_good : (n : ℕ) (s : Sheets) → 1 ≤ n → n ≤ 500 → length s.lines ≤ n → sheets_good s ≡ true → sheets_good (with_size n s) ≡ true
unfolding sheets_good size_good
resized_good n s some few room h =
    let names = all (names_issued s.coordinator.issued) s.lines in
    let g : records_good s.lines ≡ true = search tests in
    let c : coordinator_good s.coordinator ≡ true = search tests in
    let i : names ≡ true = search tests in
    and_both
    (and_both (and_both (and_both (and_both (le-leb 1 n some) (le-leb n 500 few)) (le-leb (length s.lines) n room)) g) c) i

-- readable bytes say good sheets
pub readable_good : (b : Bytes) → Readable b → sheets_good (saying b) ≡ true
readable_good b h =
    let a = (readable_both b h).0 in
    resized_good (length b.records / record_bytes) (sheets_of (record_lines b.records) b.coordinator) (sized_some record_bytes b.records (accepted_sized b.records a))
    (sized-few record_bytes b.records (accepted_sized b.records a)) (lines-within b.records a)
    (lines_good (record_lines b.records) b.coordinator (readable_lines b h))

pub passing_good : (b : Bytes) → Passing b → sheets_good (saying b) ≡ true
passing_good b h = readable_good b (passing_readable b h).0

-- the bytes for two sheets
abbrev pub encoded : Sheets → Bytes
encoded s = record { records = sheet_text s; coordinator = coordinator_text s.coordinator }

pub good_records : (s : Sheets) → sheets_good s ≡ true → records_good s.lines ≡ true
unfolding sheets_good
good_records s h = search tests

-- good sheets encoded say the same sheets, and are readable
pub encoded_readable : (s : Sheets) → sheets_good s ≡ true → (saying (encoded s) ≡ s) × Readable (encoded s)
unfolding sheets_good readable_conditions all_issued refusal_of
encoded_readable s h =
    let p = good_parts s h in
    let r = good_records s h in
    let c : coordinator_good s.coordinator ≡ true = search tests in
    let n : all (names_issued s.coordinator.issued) s.lines ≡ true = search tests in
    let l : records (record_lines (sheet_text s)) ≡ s.lines = sheet-records s.lines s.size r p.few_lines in
    let q = coordinator_read_written s.coordinator c in (
      λ i. record { lines = l i; size = sheet-count s.lines s.size r p.few_lines i; coordinator = q.0 i },
      rw (sheet_accepted_lem s.lines s.size r p.few_lines p.some_size p.few_size, q.1, l, q.0, n),
    )

-- their lines alone say the same, and break no rule
pub record LinesSaid (s : Sheets) : Type 0 where
  pub lines : records (records_text s.lines) ≡ s.lines
  pub decisions : coordinator_of (coordinator_text s.coordinator) ≡ s.coordinator
  pub fit : LinesFit (records_text s.lines) (coordinator_text s.coordinator)

pub lines-encoded : (s : Sheets) → sheets_good s ≡ true → LinesSaid s
unfolding sheets_good all_issued
lines-encoded s h =
    let c : coordinator_good s.coordinator ≡ true = search tests in
    let n : all (names_issued s.coordinator.issued) s.lines ≡ true = search tests in
    let p = records_read_written s.lines (good_records s h) in
    let q = coordinator_read_written s.coordinator c in
    record { lines = p.0; decisions = q.0; fit = (p.1, (q.1, rw (p.0, q.0) n)) }

-- and pass, if their letters are capitals
pub encoded-says : (s : Sheets) → sheets_good s ≡ true → Capitals s → (saying (encoded s) ≡ s) × Passing (encoded s)
encoded-says s h a =
    let e = encoded_readable s h in
    (e.0, readable_passing (encoded s) e.1 (ap (λ (x : Sheets). all_capitals (units_of x)) e.0 ∙ a))

-- Calls on accepted bytes.

pub on_passing : {A E : Type 0} (b : Bytes) (call : Sheets → Response A E) → Passing b → on_sheets b.records b.coordinator call ≡ call (saying b)
on_passing b call h = ap (λ (n : ℕ). cond (eqb n 0) (call (saying b)) (refused n)) h

pub same-result : (c : Call) (b : Bytes) → Passing b → result_on c b.records b.coordinator ≡ result_of c (saying b)
unfolding result_on
same-result c b h = on_passing b (result_of c) h

pub same_answer : (c : Call) (b : Bytes) → Passing b → answer_on c b ≡ answer c (saying b)
unfolding answer_on answer
same_answer c b h = ap answer_of (same-result c b h)

pub apply_nothing : (s : Sheets) → apply nothing s ≡ s
unfolding apply line_after decisions_after
apply_nothing s = λ i. record { lines = lines_unmoved nothing refl (λ x. refl) s.lines i; size = s.size; coordinator = s.coordinator }

-- readable bytes are those of the sheets that they say
pub readable_encoded : (b : Bytes) → Readable b → encoded (saying b) ≡ b
readable_encoded b h =
    let p = readable_both b h in
    λ i. record { records = sheet-said b.records p.0 i; coordinator = coordinator_written_read b.coordinator p.1.0 i }

pub passing_encoded : (b : Bytes) → Passing b → encoded (saying b) ≡ b
passing_encoded b h = readable_encoded b (passing_readable b h).0

-- the bytes after a result on accepted bytes are the sheets after it, encoded
pub bytes_of_result : {A : Type 0} (b : Bytes) (r : Result A) → Passing b → bytes_after b r ≡ encoded (apply (write_of r) (saying b))
unfolding sheet_after coordinator_after
bytes_of_result b (made a w) h = refl
bytes_of_result b (refused n) h = sym (ap encoded (apply_nothing (saying b)) ∙ passing_encoded b h)

pub same_bytes : (c : Call) (b : Bytes) → Passing b → after_on c b ≡ encoded (after c (saying b))
unfolding after_on after written
same_bytes c b h = ap (bytes_after b) (same-result c b h) ∙ bytes_of_result b (result_of c (saying b)) h

-- no write changes a letter
pub capitals_kept : (w : Write) (s : Sheets) → Capitals s → Capitals (apply w s)
unfolding apply
capitals_kept w s a = ap all_capitals (units_kept w s.coordinator) ∙ a

-- T4 on bytes: the sheets after any call pass, and say what the call leaves
pub bytes_stay_passing : (c : Call) (b : Bytes) → ClockFits c → Passing b → (saying (after_on c b) ≡ after c (saying b)) × Passing (after_on c b)
unfolding after
bytes_stay_passing c b l h =
    let g : sheets_good (after c (saying b)) ≡ true = sheets_stay_good c (saying b) l (passing_good b h) in
    let e = encoded-says (after c (saying b)) g (capitals_kept (written c (saying b)) (saying b) (passing_readable b h).1) in
    (ap saying (same_bytes c b h) ∙ e.0, subst Passing (sym (same_bytes c b h)) e.1)
