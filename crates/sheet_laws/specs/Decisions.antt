-- A line of the coordinator sheet by its number, and its head's count: what they say, and what replacing one does.
-- A line goes by `pieces` of what follows the head; the count by the first column of the head.
use Rattle.std.specs.Prelude.{◌≡◌, ◌+◌, ◌*◌, ◌/◌, ◌≤◌, ◌<◌, ◌&&◌, ◌∷◌, ◌++◌, Some}
use Rattle.lists.specs.Basics.{refl, sym, ap, ℕ, zero, suc, eqb, leb, Bool, true, List, [], map, length}
use Rattle.lists.specs.Basics.{take, drop, get_or, set, length-map, length-take, length-set, get_or-map, drop-drop, drop_at, take_at, take-add, take-take}
use Rattle.lists.specs.Basics.{arith, add-one, eq-eqb, le-leb, all, pieces, eq_list, bytes, and_fst, and_snd, and_both, tests}
use Rattle.std.proofs.Common.{drop-set-lt, ◌∙◌}
use Rattle.std.proofs.Math.Seq.{take-append-add, drop-append-add}
use Rattle.lists.specs.All.{all_drop, all_set, map-set}
use Rattle.lists.specs.Pieces.{over, over-after, over_zero, length_over, length-pieces, pieces-over, get_or-pieces}
use Rattle.decimal.specs.Field.{figure, field_text, number}
use Rattle.decimal.specs.Laws.{read_written, length-field_text}
use Rattle.model.specs.Types.{Decision, Undecided}
use Rattle.model.specs.Layouts.{head_layout, line_layout, words, figures, coordinator_bytes}
use Rattle.model.specs.Lines.{field_value, word_from, row_of, line_set, lines_of, lines_set}
use Rattle.model.specs.Coordinator.{Coordinator, is_undecided, decision_of, decision, with_decision, with_issued, coordinator_good, decision_in, decision_lines}
use Rattle.model.specs.Coordinator.{coordinator_of, numbered, coordinator_readable, all_capitals, coordinator_accepted, coordinator_text}
use Rattle.sheet_laws.specs.Lines.{line-length, first_field_row, first_field_set}
use Rattle.sheet_laws.specs.Coordinator.{bounds, decision_text, head_bytes, coordinator_read_written, decision_read_written, decision_text-set, length-decision_text}

-- the lines after the head
pub length-decisions : (s : List ℕ) → length (coordinator_of s).decisions ≡ length (drop coordinator_bytes s) / coordinator_bytes
unfolding coordinator_of lines_of
length-decisions s = length-map (decision_lines s) decision_in ∙ length-pieces coordinator_bytes (length (drop coordinator_bytes s) / coordinator_bytes) (drop coordinator_bytes s)

-- a number has a line
abbrev pub number_has_line : ℕ → List ℕ → Bool
number_has_line n s = leb 1 n && leb n (length (drop coordinator_bytes s) / coordinator_bytes)

-- the count is the figure of the first four bytes
pub issued_at : (s : List ℕ) → number (figure 0 999 (take 4 s)) ≡ (coordinator_of s).issued
unfolding coordinator_of row_of head_layout field_value
issued_at s = ap (λ (t : List ℕ). number (figure 0 999 t)) (sym (take-take 4 coordinator_bytes s (omega arith)))

-- no bytes say nothing
no_decision_lem : decision_in [] ≡ Undecided
unfolding decision_in decision_of row_of line_layout field_value word_from words bytes
no_decision_lem = refl

-- the decision of number i + 1 is what the line after the head and i lines says
pub decision_at : (s : List ℕ) (i : ℕ) → i < length (drop coordinator_bytes s) / coordinator_bytes → decision (suc i) (coordinator_of s) ≡ decision_in (take coordinator_bytes (drop (suc i * coordinator_bytes) s))
unfolding decision coordinator_of lines_of
decision_at s i l =
    let e : suc i * coordinator_bytes ≡ coordinator_bytes + i * coordinator_bytes = omega arith in
    let d : get_or (map decision_in (decision_lines s)) i Undecided ≡ decision_in (get_or (decision_lines s) i []) =
    ap (get_or (map decision_in (decision_lines s)) i) (sym no_decision_lem) ∙ get_or-map decision_in (decision_lines s) i [] in
    rw e
    (d ∙ ap decision_in (get_or-pieces coordinator_bytes i (length (drop coordinator_bytes s) / coordinator_bytes) (drop coordinator_bytes s) l ∙ ap (take coordinator_bytes) (drop-drop (i * coordinator_bytes) coordinator_bytes s)))

-- replacing a line of numbers k on by another of the same number
numbered-set : (k i : ℕ) (ls : List (List ℕ)) (t : List ℕ) → numbered k ls ≡ true → get_or (row_of line_layout t) 0 0 ≡ k + i → numbered k (set ls i t) ≡ true
unfolding numbered
numbered-set k i [] t h e = refl
numbered-set k zero (l ∷ ls) t h e =
    and_both (eq-eqb (get_or (row_of line_layout t) 0 0) k (omega arith)) (and_snd (eqb (get_or (row_of line_layout l) 0 0) k) (numbered (suc k) ls) h)
numbered-set k (suc i) (l ∷ ls) t h e =
    and_both (and_fst (eqb (get_or (row_of line_layout l) 0 0) k) (numbered (suc k) ls) h)
    (numbered-set (suc k) i ls t (and_snd (eqb (get_or (row_of line_layout l) 0 0) k) (numbered (suc k) ls) h) (omega arith))

-- what the rules say of a sheet, in parts
pub record Readable (s : List ℕ) : Type 0 where
  pub head : line_set head_layout (take coordinator_bytes s) ≡ true
  pub whole : length (drop coordinator_bytes s) ≡ length (drop coordinator_bytes s) / coordinator_bytes * coordinator_bytes
  pub readable : all (line_set line_layout) (pieces coordinator_bytes (length (drop coordinator_bytes s) / coordinator_bytes) (drop coordinator_bytes s)) ≡ true
  pub in_turn : numbered 1 (pieces coordinator_bytes (length (drop coordinator_bytes s) / coordinator_bytes) (drop coordinator_bytes s)) ≡ true
  pub good : coordinator_good (coordinator_of s) ≡ true

pub readable_parts : (s : List ℕ) → coordinator_readable s ≡ true → Readable s
unfolding coordinator_readable lines_set lines_of
readable_parts s h = record { head = search tests; whole = search tests; readable = search tests; in_turn = search tests; good = search tests }

pub parts_readable : (s : List ℕ) → Readable s → coordinator_readable s ≡ true
unfolding coordinator_readable lines_set lines_of
parts_readable s a =
    and_both
    (and_both
    (and_both a.head (and_both (eq-eqb (length (drop coordinator_bytes s)) (length (drop coordinator_bytes s) / coordinator_bytes * coordinator_bytes) a.whole) a.readable))
    a.in_turn)
    a.good

-- an accepted sheet is one of capitals that keeps the rules
pub accepted_parts : (s : List ℕ) → coordinator_accepted s ≡ true → (coordinator_readable s ≡ true) × (all_capitals (coordinator_of s).units ≡ true)
unfolding coordinator_accepted
accepted_parts s h =
    (and_fst (coordinator_readable s) (all_capitals (coordinator_of s).units) h, and_snd (coordinator_readable s) (all_capitals (coordinator_of s).units) h)

pub parts_accepted : (s : List ℕ) → coordinator_readable s ≡ true → all_capitals (coordinator_of s).units ≡ true → coordinator_accepted s ≡ true
unfolding coordinator_accepted
parts_accepted s h a = and_both h a

-- and the sheet of a rule-keeping coordinator of capitals is accepted
pub text_accepted : (c : Coordinator) → coordinator_good c ≡ true → all_capitals c.units ≡ true → coordinator_accepted (coordinator_text c) ≡ true
text_accepted c g a =
    let r = coordinator_read_written c g in
    parts_accepted (coordinator_text c) r.1 (ap (λ (x : Coordinator). all_capitals x.units) r.0 ∙ a)

-- a sheet that keeps the rules has its head
pub readable_length : (s : List ℕ) → coordinator_readable s ≡ true → coordinator_bytes ≤ length s
readable_length s h =
    let l : length (take coordinator_bytes s) ≡ coordinator_bytes = line-length head_layout (take coordinator_bytes s) (readable_parts s h).head ∙ head_bytes in
    omega (arith, length-take coordinator_bytes s)

-- Setting the decision of a number.
module _ (s : List ℕ) (i : ℕ) (d : Decision) (head : coordinator_bytes ≤ length s) (inside : i < length (drop coordinator_bytes s) / coordinator_bytes) (few : i < 999) where
  text-length : length (decision_text (suc i) d) ≡ coordinator_bytes
  text-length = length-decision_text (suc i) d (omega arith) (omega arith)

  -- the head stays, and the lines after it have the new one
  over_line_lem : (take coordinator_bytes (over s (suc i * coordinator_bytes) (decision_text (suc i) d)) ≡ take coordinator_bytes s) × (drop coordinator_bytes (over s (suc i * coordinator_bytes) (decision_text (suc i) d)) ≡ over (drop coordinator_bytes s) (i * coordinator_bytes) (decision_text (suc i) d))
  over_line_lem =
      let e : suc i * coordinator_bytes ≡ coordinator_bytes + i * coordinator_bytes = omega arith in
      let n : length (take coordinator_bytes s) ≡ coordinator_bytes = simp length-take (omega arith) in
      let o : over s (suc i * coordinator_bytes) (decision_text (suc i) d) ≡ take coordinator_bytes s ++ over (drop coordinator_bytes s) (i * coordinator_bytes) (decision_text (suc i) d) =
      rw e (over-after s (decision_text (suc i) d) coordinator_bytes (i * coordinator_bytes)) in
      (rw o (take_at (take coordinator_bytes s) (over (drop coordinator_bytes s) (i * coordinator_bytes) (decision_text (suc i) d)) coordinator_bytes n), rw o (drop_at (take coordinator_bytes s) (over (drop coordinator_bytes s) (i * coordinator_bytes) (decision_text (suc i) d)) coordinator_bytes n))

  over-lines-length : length (over (drop coordinator_bytes s) (i * coordinator_bytes) (decision_text (suc i) d)) ≡ length (drop coordinator_bytes s)
  over-lines-length =
      let n = text-length in
      length_over (drop coordinator_bytes s) (decision_text (suc i) d) (i * coordinator_bytes) (omega arith)

  module _ (whole : length (drop coordinator_bytes s) ≡ length (drop coordinator_bytes s) / coordinator_bytes * coordinator_bytes) where
    lines-over : pieces coordinator_bytes (length (over (drop coordinator_bytes s) (i * coordinator_bytes) (decision_text (suc i) d)) / coordinator_bytes) (over (drop coordinator_bytes s) (i * coordinator_bytes) (decision_text (suc i) d)) ≡ set (pieces coordinator_bytes (length (drop coordinator_bytes s) / coordinator_bytes) (drop coordinator_bytes s)) i (decision_text (suc i) d)
    lines-over =
        rw over-lines-length (pieces-over coordinator_bytes i (length (drop coordinator_bytes s) / coordinator_bytes) (drop coordinator_bytes s) (decision_text (suc i) d) inside whole text-length)

    -- the sheet says the new decision, and nothing else changes
    pub coordinator-over : coordinator_of (over s (suc i * coordinator_bytes) (decision_text (suc i) d)) ≡ with_decision (suc i) d (coordinator_of s)
    unfolding coordinator_of with_decision lines_of
    coordinator-over =
        let e : map decision_in (set (pieces coordinator_bytes (length (drop coordinator_bytes s) / coordinator_bytes) (drop coordinator_bytes s)) i (decision_text (suc i) d)) ≡ set (map decision_in (decision_lines s)) i d =
        map-set decision_in (pieces coordinator_bytes (length (drop coordinator_bytes s) / coordinator_bytes) (drop coordinator_bytes s)) i (decision_text (suc i) d)
        ∙ ap (set (map decision_in (decision_lines s)) i) (decision_read_written (suc i) d (omega arith) (omega arith)).1 in
        rw (over_line_lem.0, over_line_lem.1, lines-over, e)

-- the rules after a decision of an issued number
pub good_decided : (i : ℕ) (d : Decision) (c : Coordinator) → coordinator_good c ≡ true → i < c.issued → coordinator_good (with_decision (suc i) d c) ≡ true
unfolding coordinator_good with_decision
good_decided i d c h l =
    let n : length (set c.decisions i d) ≡ length c.decisions = length-set c.decisions i d in
    let e : drop c.issued (set c.decisions i d) ≡ drop c.issued c.decisions = drop-set-lt c.issued c.decisions i d l in
    rw (n, e) h

-- a sheet that keeps the rules keeps them where the number was issued
pub readable_decided : (s : List ℕ) (i : ℕ) (d : Decision) → coordinator_readable s ≡ true → i < (coordinator_of s).issued → coordinator_readable (over s (suc i * coordinator_bytes) (decision_text (suc i) d)) ≡ true
readable_decided s i d h l =
    let a = readable_parts s h in
    let b = bounds (coordinator_of s) a.good in
    let few : length (coordinator_of s).decisions ≤ 999 = b.few in
    let most : (coordinator_of s).issued ≤ length (coordinator_of s).decisions = b.issued in
    let count : length (coordinator_of s).decisions ≡ length (drop coordinator_bytes s) / coordinator_bytes = length-decisions s in
    let head : coordinator_bytes ≤ length s = readable_length s h in
    let inside : i < length (drop coordinator_bytes s) / coordinator_bytes = omega arith in
    let k : i < 999 = omega arith in
    let o = over_line_lem s i d head inside k in
    let m = over-lines-length s i d head inside k in
    let p = lines-over s i d head inside k a.whole in
    let t = decision_read_written (suc i) d (omega arith) (omega arith) in
    parts_readable (over s (suc i * coordinator_bytes) (decision_text (suc i) d))
    (record {
      head = rw o.0 a.head;
      whole = rw (o.1, m) a.whole;
      readable =
          rw (o.1, p)
          (all_set (line_set line_layout) (pieces coordinator_bytes (length (drop coordinator_bytes s) / coordinator_bytes) (drop coordinator_bytes s)) i (decision_text (suc i) d) a.readable
          (decision_text-set (suc i) d (omega arith) (omega arith)));
      in_turn =
          rw (o.1, p)
          (numbered-set 1 i (pieces coordinator_bytes (length (drop coordinator_bytes s) / coordinator_bytes) (drop coordinator_bytes s)) (decision_text (suc i) d) a.in_turn
          (ap (λ (v : List ℕ). get_or v 0 0) t.0 ∙ omega arith));
      good = rw (coordinator-over s i d head inside k a.whole) (good_decided i d (coordinator_of s) a.good l);
    })

-- Setting the count of numbers issued: the first four bytes of the head.
module _ (s : List ℕ) (n : ℕ) (head : coordinator_bytes ≤ length s) (few : n ≤ 999) where
  -- the rest of the head and the lines stay
  over-count : (take coordinator_bytes (over s 0 (field_text 4 n)) ≡ field_text 4 n ++ drop 4 (take coordinator_bytes s)) × (drop coordinator_bytes (over s 0 (field_text 4 n)) ≡ drop coordinator_bytes s)
  over-count =
      let w : length (field_text 4 n) ≡ 4 = length-field_text 4 n in
      let o : over s 0 (field_text 4 n) ≡ field_text 4 n ++ drop 4 s = rw (over_zero s (field_text 4 n), w) in
      let t : take coordinator_bytes (field_text 4 n ++ drop 4 s) ≡ field_text 4 n ++ take 11 (drop 4 s) = rw w at (take-append-add (field_text 4 n) (drop 4 s) 11) in
      let d : drop coordinator_bytes (field_text 4 n ++ drop 4 s) ≡ drop 11 (drop 4 s) = rw w at (drop-append-add (field_text 4 n) (drop 4 s) 11) in
      let f : length (take 4 s) ≡ 4 = simp length-take (omega arith) in
      let e : drop 4 (take coordinator_bytes s) ≡ take 11 (drop 4 s) = rw (take-add 4 11 s) (drop_at (take 4 s) (take 11 (drop 4 s)) 4 f) in
      (rw (o, e) t, rw o (d ∙ drop-drop 11 4 s))

  count_read : field_value (figures 4 0 999) (field_text 4 n) ≡ Some n
  unfolding field_value
  count_read = read_written 4 n 0 999 (omega arith) (omega arith) (omega arith) few

  head_row : row_of head_layout (field_text 4 n ++ drop 4 (take coordinator_bytes s)) ≡ n ∷ drop 1 (row_of head_layout (take coordinator_bytes s))
  unfolding head_layout
  head_row = first_field_row (figures 4 0 999) (drop 1 head_layout) (field_text 4 n) (take coordinator_bytes s) n (length-field_text 4 n) count_read

  head_set : line_set head_layout (take coordinator_bytes s) ≡ true → line_set head_layout (field_text 4 n ++ drop 4 (take coordinator_bytes s)) ≡ true
  unfolding head_layout
  head_set = first_field_set (figures 4 0 999) (drop 1 head_layout) (field_text 4 n) (take coordinator_bytes s) n (length-field_text 4 n) count_read

  -- the sheet says the new count, and nothing else changes
  pub coordinator_counted : coordinator_of (over s 0 (field_text 4 n)) ≡ with_issued n (coordinator_of s)
  unfolding coordinator_of with_issued
  coordinator_counted = rw (over-count.0, over-count.1, head_row)

-- the rules after one number more was issued
pub good_raised : (c : Coordinator) → coordinator_good c ≡ true → c.issued < length c.decisions → coordinator_good (with_issued (suc c.issued) c) ≡ true
unfolding coordinator_good with_issued
good_raised c h l =
    let u : eqb (length c.units) 9 ≡ true = search tests in
    let p : leb 1 (length c.decisions) ≡ true = search tests in
    let q : leb (length c.decisions) 999 ≡ true = search tests in
    let d : all is_undecided (drop c.issued c.decisions) ≡ true = search tests in
    let e : drop 1 (drop c.issued c.decisions) ≡ drop (suc c.issued) c.decisions =
    drop-drop 1 c.issued c.decisions ∙ ap (λ (n : ℕ). drop n c.decisions) (add-one c.issued) in
    let f : all is_undecided (drop (suc c.issued) c.decisions) ≡ true = rw e at (all_drop is_undecided 1 (drop c.issued c.decisions) d) in
    and_both (and_both (and_both (and_both u p) q) (le-leb (suc c.issued) (length c.decisions) l)) f

-- a sheet that keeps the rules keeps them where there is a line for the number
pub readable_raised : (s : List ℕ) → coordinator_readable s ≡ true → (coordinator_of s).issued < length (coordinator_of s).decisions → coordinator_readable (over s 0 (field_text 4 (suc (coordinator_of s).issued))) ≡ true
readable_raised s h l =
    let a = readable_parts s h in
    let few : length (coordinator_of s).decisions ≤ 999 = (bounds (coordinator_of s) a.good).few in
    let n = suc (coordinator_of s).issued in
    let head : coordinator_bytes ≤ length s = readable_length s h in
    let k : n ≤ 999 = omega arith in
    let o = over-count s n head k in
    parts_readable (over s 0 (field_text 4 n))
    (record {
      head = rw o.0 (head_set s n head k a.head);
      whole = rw o.1 a.whole;
      readable = rw o.1 a.readable;
      in_turn = rw o.1 a.in_turn;
      good = rw (coordinator_counted s n head k) (good_raised (coordinator_of s) a.good l);
    })
