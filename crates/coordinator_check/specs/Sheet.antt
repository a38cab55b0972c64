-- The sheet as the check takes it: whole lines, the head, lines up to the issued count with any decision, and lines above it with none.
-- That such a sheet keeps the rules, and one that keeps them is such, is shown from the parts of the rules, the lines cut at the issued count.
use Rattle.std.specs.Prelude.{◌≡◌, ◌+◌, ◌-◌, ◌*◌, ◌/◌, ◌%◌, ◌≤◌, ◌<◌, ◌&&◌, ◌∷◌, ◌++◌, Option, Some, None}
use Rattle.lists.specs.Basics.{refl, sym, ap, ap₂, ℕ, suc, eqb, leb, Bool, true, false, true≢false}
use Rattle.lists.specs.Basics.{and_assoc, List, [], map, length, take, drop, get_or, length-map, length-take, length-drop, drop-drop, take-take}
use Rattle.lists.specs.Basics.{get_or-take, get_or-drop, arith, eqb-true, leb-true, eq-eqb, le-leb, lt-leb, all, pieces, bytes, and_fst, and_snd, and_both}
use Rattle.lists.specs.Basics.{same_test, tests}
use Rattle.std.proofs.Common.{add-zero, ◌∙◌}
use Rattle.lists.specs.All.{all_append, all_always, all_map}
use Rattle.lists.specs.Pieces.{pieces_add, length-pieces}
use Rattle.decimal.specs.Field.{figure, number, is_number, field_text, ahead}
use Rattle.decimal.specs.Laws.{is_number-number, written_read}
use Rattle.line_bytes.specs.Loads.{loaded}
use Rattle.model.specs.Types.{Decision, Undecided, Committed, Aborted}
use Rattle.model.specs.Layouts.{head_layout, line_layout, words, coordinator_bytes, least_coordinator_bytes, line_end, most_coordinator_bytes}
use Rattle.model.specs.Lines.{row_of, line_set, lines_of}
use Rattle.model.specs.Coordinator.{decision_number, letter_of, is_undecided, coordinator_good, decision_in, coordinator_of, numbered, coordinator_readable}
use Rattle.sheet_laws.specs.Lines.{length-row_of}
use Rattle.sheet_laws.specs.Coordinator.{bounds}
use Rattle.sheet_laws.specs.Decisions.{issued_at, readable_parts, parts_readable, readable_length, length-decisions}
use Rattle.coordinator_check.specs.Numbers.{columns}
use Rattle.coordinator_check.specs.Head.{letters_set, head_set}
use Rattle.coordinator_check.specs.Lines.{Bytes, table, word_for, back_of, told, decision_for}
use Rattle.coordinator_check.specs.Passes.{lines_made, Reads, made_read, read_made, Ready}

-- a head and 1 to 999 lines of 15 bytes
unfoldable pub whole_lines : ℕ → Bool
whole_lines n = leb least_coordinator_bytes n && leb n most_coordinator_bytes && eqb (n % coordinator_bytes) 0

pub record Whole (n : ℕ) : Type 0 where
  pub least : least_coordinator_bytes ≤ n
  pub most : n ≤ most_coordinator_bytes
  pub turns : n % coordinator_bytes ≡ 0

pub whole_parts : (n : ℕ) → whole_lines n ≡ true → Whole n
unfolding whole_lines
whole_parts n h = record { least = search tests; most = search tests; turns = search tests }

-- the table for lines with any decision; nothing that is read tells the fourth index
abbrev pub any_decision : List ℕ
any_decision = table Undecided Committed Aborted Undecided

-- the table for lines with none
abbrev pub no_decision : List ℕ
no_decision = table Undecided Undecided Undecided Undecided

-- the lines after the head
abbrev pub count : List ℕ → ℕ
count s = length s / coordinator_bytes - 1

unfoldable pub decisions_made : (issued : ℕ) (s : List ℕ) → Bool
decisions_made issued s =
    leb issued (count s)
    && (lines_made any_decision 0 issued (drop line_end s)
    && lines_made no_decision issued (count s - issued) (drop (issued * coordinator_bytes + line_end) s))

-- a number was read, and passes the test
unfoldable pub of_number : (ℕ → Bool) → Option ℕ → Bool
of_number p (Some v) = p v
of_number p None = false

unfoldable pub sheet_made : List ℕ → Bool
sheet_made s =
    whole_lines (length s)
    && (letters_set (take coordinator_bytes s) && of_number (λ (issued : ℕ). decisions_made issued s) (figure 0 999 (take 4 s)))

is_number_lem : (p : ℕ → Bool) (st : Option ℕ) → of_number p st ≡ true → (st ≡ Some (number st)) × (p (number st) ≡ true)
unfolding of_number
is_number_lem p (Some v) h = (refl, h)
is_number_lem p None h = absurd (true≢false (sym h))

decisions_read_lem : (s : List ℕ) → (coordinator_of s).decisions ≡ map decision_in (pieces coordinator_bytes (length (drop coordinator_bytes s) / coordinator_bytes) (drop coordinator_bytes s))
unfolding coordinator_of lines_of
decisions_read_lem s = refl

nine_units : (s : List ℕ) → length (coordinator_of s).units ≡ 9
unfolding coordinator_of head_layout
nine_units s =
    let n : length (row_of head_layout (take coordinator_bytes s)) ≡ 10 = length-row_of head_layout (take coordinator_bytes s) in
    length-map (drop 1 (row_of head_layout (take coordinator_bytes s))) letter_of ∙ (length-drop 1 (row_of head_layout (take coordinator_bytes s)) ∙ omega arith)

head_parts : (s : List ℕ) → coordinator_bytes ≤ length s → line_set head_layout (take coordinator_bytes s) ≡ (is_number (figure 0 999 (take 4 s)) && letters_set (take coordinator_bytes s))
head_parts s l =
    head_set (take coordinator_bytes s) (simp length-take (omega arith))
    ∙ ap (λ (t : List ℕ). is_number (figure 0 999 t) && letters_set (take coordinator_bytes s)) (take-take 4 coordinator_bytes s (omega arith))

-- the first four bytes of a sheet that keeps the rules hold its count, and the letters after them are set
pub readable_head : (s : List ℕ) → coordinator_readable s ≡ true
    → (figure 0 999 (take 4 s) ≡ Some (coordinator_of s).issued) × (letters_set (take coordinator_bytes s) ≡ true)
readable_head s h =
    let f = figure 0 999 (take 4 s) in
    let p = sym (head_parts s (readable_length s h)) ∙ (readable_parts s h).head in
    (is_number-number f (and_fst (is_number f) (letters_set (take coordinator_bytes s)) p) ∙ ap Some (issued_at s), and_snd (is_number f) (letters_set (take coordinator_bytes s)) p)

-- The lines cut at the issued count.

numbered-append : (k : ℕ) (xs ys : List (List ℕ)) → numbered k (xs ++ ys) ≡ (numbered k xs && numbered (k + length xs) ys)
unfolding numbered
numbered-append k [] ys = ap (λ (j : ℕ). numbered j ys) (sym (add-zero k))
numbered-append k (x ∷ xs) ys =
    let e : suc k + length xs ≡ k + length (x ∷ xs) = omega arith in
    rw (numbered-append (suc k) xs ys, e)
    (sym (and_assoc (eqb (get_or (row_of line_layout x) 0 0) k) (numbered (suc k) xs) (numbered (k + length (x ∷ xs)) ys)))

module _ (s : List ℕ) (issued rest : ℕ) (whole : length (drop coordinator_bytes s) / coordinator_bytes ≡ issued + rest) where
  abbrev lines : List (List ℕ)
  lines = pieces coordinator_bytes (length (drop coordinator_bytes s) / coordinator_bytes) (drop coordinator_bytes s)

  abbrev low : List (List ℕ)
  low = pieces coordinator_bytes issued (drop coordinator_bytes s)

  abbrev high : List (List ℕ)
  high = pieces coordinator_bytes rest (drop (issued * coordinator_bytes) (drop coordinator_bytes s))

  cut : lines ≡ low ++ high
  cut = rw whole (pieces_add coordinator_bytes issued rest (drop coordinator_bytes s))

  low-length : length low ≡ issued
  low-length = length-pieces coordinator_bytes issued (drop coordinator_bytes s)

  readable_cut : all (line_set line_layout) lines ≡ (all (line_set line_layout) low && all (line_set line_layout) high)
  readable_cut = rw cut (all_append (line_set line_layout) low high)

  in_turn_cut : numbered 1 lines ≡ (numbered 1 low && numbered (suc issued) high)
  in_turn_cut =
      let e : 1 + issued ≡ suc issued = omega arith in
      rw cut (numbered-append 1 low high ∙ rw (low-length, e))

  decided-cut : all is_undecided (drop issued (map decision_in lines)) ≡ all (λ (l : List ℕ). is_undecided (decision_in l)) high
  decided-cut =
      let e : drop issued (map decision_in (low ++ high)) ≡ map decision_in high =
      ap (λ (n : ℕ). drop n (map decision_in (low ++ high))) (sym low-length) ∙ drop-map low high in
      rw (cut, e) (all_map is_undecided decision_in high)
    where
      drop-map : (xs ys : List (List ℕ)) → drop (length xs) (map decision_in (xs ++ ys)) ≡ map decision_in ys
      drop-map [] ys = refl
      drop-map (x ∷ xs) ys = drop-map xs ys

-- each decision stands in the tables where its word tells
tells_any : (d : Decision) → ◌≡◌ {A = Bool} true true → decision_for Undecided Committed Aborted Undecided (told (back_of (word_for d))) ≡ d
unfolding words bytes decision_number loaded
tells_any Undecided p = refl
tells_any Committed p = refl
tells_any Aborted p = refl

tells_none : (d : Decision) → is_undecided d ≡ true → decision_for Undecided Undecided Undecided Undecided (told (back_of (word_for d))) ≡ d
unfolding words bytes decision_number loaded is_undecided
tells_none Undecided p = refl
tells_none Committed p = absurd (true≢false (sym p))
tells_none Aborted p = absurd (true≢false (sym p))

module _ (s : List ℕ) (each : Bytes s) where
  each_from : (a : ℕ) → Bytes (drop a s)
  each_from a i = rw get_or-drop (each (a + i))

  -- the lines after line a follow its LF
  after : (a : ℕ) → drop 1 (drop (a * coordinator_bytes + line_end) s) ≡ drop (a * coordinator_bytes) (drop coordinator_bytes s)
  after a =
      let e : a * coordinator_bytes + line_end + 1 ≡ coordinator_bytes + a * coordinator_bytes = omega arith in
      drop-drop 1 (a * coordinator_bytes + line_end) s ∙ (ap (λ (n : ℕ). drop n s) e ∙ sym (drop-drop (a * coordinator_bytes) coordinator_bytes s))

  -- the two passes, for the issued count v
  module _ (v : ℕ) (sized : length s ≡ count s * coordinator_bytes + coordinator_bytes) (few : count s ≤ 999) where
    abbrev LowReads : Type 0
    LowReads = Reads (λ (d : Decision). true) 1 (pieces coordinator_bytes v (drop coordinator_bytes s))

    abbrev HighReads : Type 0
    HighReads = Reads is_undecided (suc v) (pieces coordinator_bytes (count s - v) (drop (v * coordinator_bytes) (drop coordinator_bytes s)))

    reads_pass : v ≤ count s → get_or s line_end 0 ≡ 10 → LowReads → HighReads → decisions_made v s ≡ true
    unfolding decisions_made
    reads_pass l z r t =
        let p = read_made Undecided Committed Aborted Undecided (λ (d : Decision). true) tells_any 0 v (drop line_end s) (each_from line_end)
        (simp length-drop (omega arith)) (omega arith) (get_or-drop line_end s 0 0 ∙ z) (rw (after 0) r) in
        let e : line_end + v * coordinator_bytes ≡ v * coordinator_bytes + line_end + 0 = omega arith in
        let lf : get_or (drop (v * coordinator_bytes + line_end) s) 0 0 ≡ 10 =
        get_or-drop (v * coordinator_bytes + line_end) s 0 0 ∙ (ap (λ (i : ℕ). get_or s i 0) (sym e) ∙ (sym (get_or-drop line_end s (v * coordinator_bytes) 0) ∙ p.1)) in
        let q =
        read_made Undecided Undecided Undecided Undecided is_undecided tells_none v (count s - v) (drop (v * coordinator_bytes + line_end) s) (each_from (v * coordinator_bytes + line_end))
        (simp length-drop (omega arith)) (omega arith) lf (rw (after v) t) in
        and_both (le-leb v (count s) l) (and_both p.0 q.0)

    pass_reads : decisions_made v s ≡ true → (v ≤ count s) × (LowReads × HighReads)
    unfolding decisions_made all is_undecided
    pass_reads h =
        let l : v ≤ count s = search tests in
        let r = made_read Undecided Committed Aborted Undecided (λ (d : Decision). true) refl 0 v (drop line_end s) (each_from line_end)
        (simp length-drop (omega arith)) (omega arith) (search tests) in
        let t =
        made_read Undecided Undecided Undecided Undecided is_undecided refl v (count s - v) (drop (v * coordinator_bytes + line_end) s) (each_from (v * coordinator_bytes + line_end))
        (simp length-drop (omega arith)) (omega arith) (search tests) in
        (l, (rw (after 0) at r, rw (after v) at t))

  readable_passes : coordinator_readable s ≡ true → sheet_made s ≡ true
  unfolding sheet_made whole_lines letters_set of_number coordinator_good
  readable_passes h =
      let a = readable_parts s h in
      let v = (coordinator_of s).issued in
      let n = length (coordinator_of s).decisions in
      let some : 1 ≤ n = leb-true 1 n (search (tests, a.good)) in
      let few : n ≤ 999 = (bounds (coordinator_of s) a.good).few in
      let most : v ≤ n = (bounds (coordinator_of s) a.good).issued in
      let above : all is_undecided (drop v (coordinator_of s).decisions) ≡ true = search (tests, a.good) in
      let long : coordinator_bytes ≤ length s = readable_length s h in
      let lines : n ≡ length (drop coordinator_bytes s) / coordinator_bytes = length-decisions s in
      let whole : length (drop coordinator_bytes s) ≡ length (drop coordinator_bytes s) / coordinator_bytes * coordinator_bytes = a.whole in
      let size : length (drop coordinator_bytes s) ≡ length s - coordinator_bytes = length-drop coordinator_bytes s in
      let rest : length (drop coordinator_bytes s) / coordinator_bytes ≡ v + (count s - v) = omega arith in
      let head = readable_head s h in
      let letters : letters_set (take coordinator_bytes s) ≡ true = head.1 in
      let lf : get_or s line_end 0 ≡ 10 =
      sym (get_or-take coordinator_bytes s line_end 0 (omega arith)) ∙ eqb-true (get_or (take coordinator_bytes s) line_end 0) 10 (search (tests, letters)) in
      let r = sym (readable_cut s v (count s - v) rest) ∙ a.readable in
      let t = sym (in_turn_cut s v (count s - v) rest) ∙ a.in_turn in
      let u = sym (decided-cut s v (count s - v) rest) ∙ (ap (λ (ds : List Decision). all is_undecided (drop v ds)) (sym (decisions_read_lem s)) ∙ above) in
      let pass = reads_pass v (omega arith) (omega arith) (omega arith) lf
      (record { readable = search (tests, r); in_turn = search (tests, t); decided = all_always (pieces coordinator_bytes v (drop coordinator_bytes s)) })
      (record { readable = search (tests, r); in_turn = search (tests, t); decided = u }) in
      and_both
      (and_both (and_both (le-leb least_coordinator_bytes (length s) (omega arith)) (le-leb (length s) most_coordinator_bytes (omega arith))) (eq-eqb (length s % coordinator_bytes) 0 (omega arith)))
      (and_both letters (ap (of_number (λ (issued : ℕ). decisions_made issued s)) head.0 ∙ pass))

  passes_readable : sheet_made s ≡ true → coordinator_readable s ≡ true
  unfolding sheet_made coordinator_good
  passes_readable h =
      let w = whole_parts (length s) (search tests) in
      let f = figure 0 999 (take 4 s) in
      let v = number f in
      let c = is_number_lem (λ (issued : ℕ). decisions_made issued s) f (search tests) in
      let p = pass_reads v (omega arith) (omega arith) c.1 in
      let l : v ≤ count s = p.0 in
      let n = length (coordinator_of s).decisions in
      let issued : (coordinator_of s).issued ≡ v = sym (issued_at s) in
      let lines : n ≡ length (drop coordinator_bytes s) / coordinator_bytes = length-decisions s in
      let size : length (drop coordinator_bytes s) ≡ length s - coordinator_bytes = length-drop coordinator_bytes s in
      let rest : length (drop coordinator_bytes s) / coordinator_bytes ≡ v + (count s - v) = omega arith in
      let letters : letters_set (take coordinator_bytes s) ≡ true = search tests in
      let above : all is_undecided (drop (coordinator_of s).issued (coordinator_of s).decisions) ≡ true =
      ap₂ (λ (k : ℕ) (ds : List Decision). all is_undecided (drop k ds)) issued (decisions_read_lem s)
      ∙ (decided-cut s v (count s - v) rest ∙ p.1.1.decided) in
      let bounded = and_both
      (and_both (eq-eqb (length (coordinator_of s).units) 9 (nine_units s)) (le-leb 1 n (omega arith)))
      (le-leb n 999 (omega arith)) in
      parts_readable s
      (record {
        head = head_parts s (omega arith) ∙ and_both (ap is_number c.0) letters;
        whole = omega arith;
        readable = readable_cut s v (count s - v) rest ∙ and_both p.1.0.readable p.1.1.readable;
        in_turn = in_turn_cut s v (count s - v) rest ∙ and_both p.1.0.in_turn p.1.1.in_turn;
        good = and_both (and_both bounded (le-leb (coordinator_of s).issued n (omega arith))) above;
      })

  -- what the check computes is whether the sheet keeps the rules
  pub readable_made : coordinator_readable s ≡ sheet_made s
  readable_made = same_test (coordinator_readable s) (sheet_made s) readable_passes passes_readable

-- The code's passes: each starts with the columns of the number before its first line.

-- those of `   0`
pub columns_zero : loaded (32 ∷ 32 ∷ 32 ∷ 48 ∷ []) ≡ columns 0
unfolding field_text ahead
columns_zero = refl

module _ (s : List ℕ) (issued : ℕ) (whole : whole_lines (length s) ≡ true) (inside : issued ≤ count s) where
  pub ready_low : (before : ℕ) → before ≡ columns 0 → Ready s 0 issued before
  ready_low before q =
      let w = whole_parts (length s) whole in
      record { order = omega arith; few = omega arith; long = omega arith; counted = q }

  pub ready_high : (before : ℕ) → figure 0 999 (take 4 s) ≡ Some issued → before ≡ loaded (take 4 s) → Ready s issued (count s) before
  ready_high before f q =
      let w = whole_parts (length s) whole in
      let n : length (take 4 s) ≡ 4 = simp length-take (omega arith) in
      let t : take 4 s ≡ field_text 4 issued = (written_read 0 999 (take 4 s) issued f).0 ∙ ap (λ (k : ℕ). field_text k issued) n in
      record { order = inside; few = omega arith; long = omega arith; counted = q ∙ ap loaded t }

-- The code's tests in turn.

pub too_few : (issued : ℕ) (s : List ℕ) → count s < issued → false ≡ decisions_made issued s
unfolding decisions_made
too_few issued s l = rw (lt-leb issued (count s) l)

pub passes_are : (issued : ℕ) (s any none : List ℕ) (low high : Bool) → issued ≤ count s → any ≡ any_decision → none ≡ no_decision
    → low ≡ lines_made any 0 (issued - 0) (drop line_end s) → high ≡ lines_made none issued (count s - issued) (drop (issued * coordinator_bytes + line_end) s)
    → (low && high) ≡ decisions_made issued s
unfolding decisions_made
passes_are issued s any none low high l e f p q =
    let z : issued - 0 ≡ issued = omega arith in
    rw (p, q, e, f, z, le-leb issued (count s) l)

pub not-whole : (s : List ℕ) → whole_lines (length s) ≡ false → false ≡ sheet_made s
unfolding sheet_made
not-whole s h = rw h

pub not_lettered : (s : List ℕ) → whole_lines (length s) ≡ true → letters_set (take coordinator_bytes s) ≡ false → false ≡ sheet_made s
unfolding sheet_made
not_lettered s h l = rw (h, l)

pub by_count : (s : List ℕ) (r : Option ℕ) → whole_lines (length s) ≡ true → letters_set (take coordinator_bytes s) ≡ true → r ≡ figure 0 999 (take 4 s)
    → of_number (λ (issued : ℕ). decisions_made issued s) r ≡ sheet_made s
unfolding sheet_made
by_count s r h l e = rw (h, l, e)

-- which is whether the sheet is readable, where it is one of bytes
module _ (s : List ℕ) (b : Bytes s) where
  pub unread-whole : whole_lines (length s) ≡ false → false ≡ coordinator_readable s
  unread-whole h = not-whole s h ∙ sym (readable_made s b)

  pub unread_letters : whole_lines (length s) ≡ true → letters_set (take coordinator_bytes s) ≡ false → false ≡ coordinator_readable s
  unread_letters h l = not_lettered s h l ∙ sym (readable_made s b)

  pub read_by_count : (r : Option ℕ) → whole_lines (length s) ≡ true → letters_set (take coordinator_bytes s) ≡ true → r ≡ figure 0 999 (take 4 s)
      → of_number (λ (issued : ℕ). decisions_made issued s) r ≡ coordinator_readable s
  read_by_count r h l e = by_count s r h l e ∙ sym (readable_made s b)
