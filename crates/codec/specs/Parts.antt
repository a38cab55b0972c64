-- A line lent as a part of a sheet: what is read there, and what stands in the sheet once it has come back.
use Rattle.std.specs.Prelude.{◌≡◌, ◌+◌, ◌-◌, ◌*◌, ◌/◌, ◌≤◌, ◌<◌, ◌&&◌, ◌++◌, Option, Some, None}
use Rattle.std.specs.Option.{is_some, unwrap_or}
use Rattle.std.specs.declared.ops.Range.{Range}
use Rattle.std.proofs.Common.{◌∙◌}
use Rattle.lists.specs.Basics.{refl, sym, ap, ap₂, ℕ, zero, suc, leb, ltb, Bool, true, false, cond, true≢false, List}
use Rattle.lists.specs.Basics.{length, take, drop, get_or, length-take, length-drop, get_or-eq_default, take_all, arith, leb-true, leb-false, ltb-true, ltb-false, le-leb}
use Rattle.lists.specs.Basics.{lt-ltb, eq_list, and_snd, tests}
use Rattle.lists.specs.Pieces.{over, over-part, over_zero}
use Rattle.model.specs.Types.{Record, Undecided, Committed, Aborted, StateWord, BeforeWord, DecisionWord}
use Rattle.types.specs.declared.State.TheVariants as Now
use Rattle.types.specs.declared.Before.TheVariants as Was
use Rattle.decimal.specs.Field.{number, figure, field_text}
use Rattle.decimal.specs.Laws.{length-field_text}
use Rattle.model.specs.Layouts.{record_layout, word_at, word_bytes, state_field, before_state_field, record_offset, record_bytes, coordinator_bytes}
use Rattle.model.specs.Lines.{row_of, line_set}
use Rattle.model.specs.Records.{state_number, before_number, record_of, record_in, record_text, records, records_accepted, no_record}
use Rattle.model.specs.Images.{is_prepared, state_back}
use Rattle.model.specs.Coordinator.{decision_number, decision, coordinator_of}
use Rattle.sheet_laws.specs.Records.{Readable, readable}
use Rattle.sheet_laws.specs.ByIndex.{changed_at, record_at, record_past, line_set_lem}
use Rattle.sheet_laws.specs.Decisions.{number_has_line, issued_at, length-decisions}
use Rattle.sheet_laws.specs.Singles.{decision_word, decision-told, prepared-told, back_told}

-- What `line_at` answers of line i: where it lies, if it is there.
module _ {A : Type 0} (x y : A) where
  pub found : (b : Bool) → Some y ≡ cond b (Some x) None → (b ≡ true) × (y ≡ x)
  found true h = (refl, ap (λ (o : Option A). unwrap_or o y) h)
  found false h = absurd (true≢false (ap is_some h))

  pub missing : (b : Bool) → None ≡ cond b (Some x) None → b ≡ false
  missing true h = absurd (true≢false (sym (ap is_some h)))
  missing false h = refl

-- a part from a on, where there is room for it
pub room_part : (b : Bool) (w a : ℕ) (s t u : List ℕ) → b ≡ true → length t ≡ a + w - a → t ≡ u → take a s ++ (t ++ drop (a + w - a) (drop a s)) ≡ cond b (over s a u) s
room_part b w a s t u h e q = rw h (over-part s t a (a + w) e ∙ ap (over s a) q)

-- Line i of a record sheet, lent as the part where it was found: it can be read in an accepted sheet, and comes back as the text of its record changed.
module _ (s : List ℕ) (i : ℕ) (l : Range ℕ) (at : Some l ≡ cond (ltb i (length s / record_bytes)) (Some (record { start = i * record_bytes; end = i * record_bytes + record_bytes })) None) where
  pub found-inside : i < length s / record_bytes
  found-inside = ltb-true i (length s / record_bytes) (found _ l (ltb i (length s / record_bytes)) at).0

  pub found-start : l.start ≡ i * record_bytes
  found-start = ap (λ (r : Range ℕ). r.start) (found _ l (ltb i (length s / record_bytes)) at).1

  found-width : l.end - l.start ≡ record_bytes
  found-width = ap (λ (r : Range ℕ). r.end - r.start) (found _ l (ltb i (length s / record_bytes)) at).1 ∙ omega arith

  pub found-line : take (l.end - l.start) (drop l.start s) ≡ take record_bytes (drop (i * record_bytes) s)
  found-line = ap₂ (λ (n a : ℕ). take n (drop a s)) found-width found-start

  pub found-length : length (take (l.end - l.start) (drop l.start s)) ≡ record_bytes
  found-length = ap length found-line ∙ (let inside = found-inside in simp (length-take, length-drop) (omega arith))

  pub found-said : get_or (records s) i no_record ≡ record_in (take (l.end - l.start) (drop l.start s))
  found-said = record_at s i found-inside ∙ ap record_in (sym found-line)

  pub found-record : (row : List ℕ) → row ≡ row_of record_layout (take (l.end - l.start) (drop l.start s)) → record_of row ≡ get_or (records s) i no_record
  unfolding record_in
  found-record row e = ap record_of e ∙ sym found-said

  pub found-readable : records_accepted s ≡ true → Readable (take (l.end - l.start) (drop l.start s))
  found-readable a = readable _ (ap (line_set record_layout) found-line ∙ line_set_lem s i a found-inside)

  pub found-changed : (f : Record → Record) (t : List ℕ)
      → length t ≡ length (take (l.end - l.start) (drop l.start s))
      → t ≡ record_text (f (record_in (take (l.end - l.start) (drop l.start s))))
      → take l.start s ++ (t ++ drop (l.end - l.start) (drop l.start s)) ≡ changed_at f i s
  found-changed f t n e =
      over-part s t l.start l.end (n ∙ (found-length ∙ sym found-width))
      ∙ (ap₂ (over s) found-start (e ∙ ap (λ (r : Record). record_text (f r)) (sym found-said))
      ∙ sym (rw (lt-ltb i (length s / record_bytes) found-inside)))

-- Line i where none was found.
pub line-past : {A : Type 0} (s : List ℕ) (i : ℕ) (x : A) → None ≡ cond (ltb i (length s / record_bytes)) (Some x) None → length s / record_bytes ≤ i
line-past s i x h = ltb-false i (length s / record_bytes) (missing x x (ltb i (length s / record_bytes)) h)

-- The words compared in line i tell its state, and the state that its before state gives back.
module _ (s : List ℕ) (i : ℕ) where
  abbrev word_in : ℕ → List ℕ → Bool
  word_in from word = eq_list (take word_bytes (drop (i * record_bytes + from) s)) word

  pub prepared-said : cond (ltb i (length s / record_bytes)) (word_in (record_offset state_field) (word_at StateWord (state_number Now.Prepared))) false ≡ is_prepared (get_or (records s) i no_record)
  unfolding record_layout
  prepared-said = go (ltb i (length s / record_bytes)) refl
    where
      go : (b : Bool) → ltb i (length s / record_bytes) ≡ b → cond b (word_in (record_offset state_field) (word_at StateWord (state_number Now.Prepared))) false ≡ is_prepared (get_or (records s) i no_record)
      go true e = prepared-told s i (ltb-true i (length s / record_bytes) e)
      go false e = sym (ap is_prepared (record_past s i (ltb-false i (length s / record_bytes) e)))

  pub back-said : cond (cond (ltb i (length s / record_bytes)) (word_in (record_offset before_state_field) (word_at BeforeWord (before_number Was.Committed))) false) Now.Committed Now.Absent ≡ state_back (get_or (records s) i no_record).prior
  unfolding record_layout
  back-said = go (ltb i (length s / record_bytes)) refl
    where
      go : (b : Bool) → ltb i (length s / record_bytes) ≡ b → cond (cond b (word_in (record_offset before_state_field) (word_at BeforeWord (before_number Was.Committed))) false) Now.Committed Now.Absent ≡ state_back (get_or (records s) i no_record).prior
      go true e = back_told s i (ltb-true i (length s / record_bytes) e)
      go false e = sym (ap (λ (r : Record). state_back r.prior) (record_past s i (ltb-false i (length s / record_bytes) e)))

-- a text that came back over a part of its length
pub text-over : (s t u : List ℕ) (a : ℕ) → u ≡ t → take a s ++ (u ++ drop (a + length t - a) (drop a s)) ≡ over s a t
text-over s t u a h = ap (λ (x : List ℕ). take a s ++ (x ++ drop (a + length t - a) (drop a s))) h ∙ over-part s t a (a + length t) (omega arith)

-- the line of a number is within the sheet
pub line_ends : (n : ℕ) (s : List ℕ) → number_has_line n s ≡ true → n * coordinator_bytes + coordinator_bytes ≤ length s
line_ends n s h =
    let l : 1 ≤ n = search tests in
    let m : n ≤ length (drop coordinator_bytes s) / coordinator_bytes = search tests in
    omega (arith, length-drop coordinator_bytes s)

-- fewer than four bytes are all that the count has
pub issued_short : (s : List ℕ) → length s < 4 → number (figure 0 999 s) ≡ (coordinator_of s).issued
issued_short s l = ap (λ (t : List ℕ). number (figure 0 999 t)) (sym (take_all 4 s (omega arith))) ∙ issued_at s

-- the decision of a number that has a line, by the words that may stand there
pub decision-part : (s : List ℕ) (n : ℕ) → number_has_line n s ≡ true
    → decision n (coordinator_of s)
    ≡ cond (eq_list (decision_word n s) (word_at DecisionWord (decision_number Committed))) Committed
    (cond (eq_list (decision_word n s) (word_at DecisionWord (decision_number Aborted))) Aborted Undecided)
decision-part s zero h = absurd (true≢false (sym h))
decision-part s (suc i) h =
    let l : suc i ≤ length (drop coordinator_bytes s) / coordinator_bytes =
    leb-true (suc i) (length (drop coordinator_bytes s) / coordinator_bytes) (and_snd (leb 1 (suc i)) (leb (suc i) (length (drop coordinator_bytes s) / coordinator_bytes)) h) in
    decision-told s i l

-- a number without a line is undecided
pub decision_past : (s : List ℕ) (n : ℕ) → number_has_line n s ≡ false → Undecided ≡ decision n (coordinator_of s)
unfolding decision
decision_past s zero h = refl
decision_past s (suc i) h =
    let f : leb (suc i) (length (drop coordinator_bytes s) / coordinator_bytes) ≡ false = sym (ap (λ (b : Bool). b && leb (suc i) (length (drop coordinator_bytes s) / coordinator_bytes)) (le-leb 1 (suc i) (omega arith))) ∙ h in
    let l : length (coordinator_of s).decisions ≤ i = omega (arith, leb-false (suc i) (length (drop coordinator_bytes s) / coordinator_bytes) f, length-decisions s) in
    sym (get_or-eq_default (coordinator_of s).decisions Undecided l)

-- the first four bytes, come back as the figure n
pub count-part : (s t : List ℕ) (n : ℕ) → 4 ≤ length s → t ≡ field_text (length (take 4 s)) n → t ++ drop 4 s ≡ cond (leb 4 (length s)) (over s 0 (field_text 4 n)) s
count-part s t n l e =
    let w : length (take 4 s) ≡ 4 = simp length-take (omega arith) in
    let f : t ≡ field_text 4 n = rw w at e in
    let o : over s 0 (field_text 4 n) ≡ field_text 4 n ++ drop 4 s = rw (over_zero s (field_text 4 n), length-field_text 4 n) in
    rw (le-leb 4 (length s) l, o, f)

-- a figure over the w bytes from a on
pub figure_over_lem : (s u : List ℕ) (a w v : ℕ) → a + w ≤ length s → u ≡ field_text (length (take (a + w - a) (drop a s))) v → take a s ++ (u ++ drop (a + w - a) (drop a s)) ≡ over s a (field_text w v)
figure_over_lem s u a w v l h =
    let n : length (take (a + w - a) (drop a s)) ≡ w = simp (length-take, length-drop) (omega arith) in
    let e : u ≡ field_text w v = rw n at h in
    let k : length (field_text w v) ≡ a + w - a = length-field_text w v ∙ omega arith in
    ap (λ (x : List ℕ). take a s ++ (x ++ drop (a + w - a) (drop a s))) e ∙ over-part s (field_text w v) a (a + w) k
