-- The coordinator sheet: both round trips, by the head and then line by line, and as numbers; what setting a decision and
-- raising the issued count do.
use Rattle.std.specs.Prelude.{◌≡◌, ◌+◌, ◌*◌, ◌/◌, ◌-◌, ◌≤◌, ◌&&◌, ◌∷◌, ◌++◌}
use Rattle.std.proofs.Common.{◌∙◌}
use Rattle.lists.specs.Basics.{refl, ap, ap₂, ℕ, zero, suc, eqb, leb, Bool, true, false, not, cond, List, [], map, length, take, drop}
use Rattle.lists.specs.Basics.{get_or, length-map, drop_at, take_at, arith, eqb-true, leb-true, leb-false, eq-eqb, le-leb, lt-leb, all, joined, pieces, listed, eq_list, bytes}
use Rattle.lists.specs.Basics.{and_fst, and_snd, and_both, tests}
use Rattle.std.proofs.Math.ListN.{take-append-drop}
use Rattle.lists.specs.All.{all_map, all_weaken, all_always, map-map, map_same, listed_is}
use Rattle.lists.specs.Pieces.{AllOf, joined-pieces, pieces-joined, length-joined}
use Rattle.model.specs.Types.{Decision, Undecided, Committed, Aborted, AtomicityUnit, Column}
use Rattle.types.specs.declared.AtomicityUnit.TheVariants.{Record as RecordUnit, Partition, Table, Namespace, Storage}
use Rattle.model.specs.Layouts.{head_layout, line_layout, decision_column, words, figures, coordinator_bytes, head_fields}
use Rattle.model.specs.Lines.{field_value, field_bytes, word_from, row_of, line_set, line_text, row_good, in_range, lines_of, lines_set}
use Rattle.model.specs.Coordinator.{Letter, Coordinator, decision_number, decision_of, unit_number, unit_of, letter_number, letter_of, coordinator_good, decision_in, coordinator_of, numbered}
use Rattle.model.specs.Coordinator.{coordinator_readable, decision_texts, head_numbers, coordinator_text}
use Rattle.sheet_laws.specs.Fields.{column_ok, all_below, is_the, word_ok}
use Rattle.sheet_laws.specs.Lines.{layout_ok, line_bytes, length-row_of, line-length, line_written_read, line_read_written, row_read_written, row-in_range}

pub decision-of_number : (d : Decision) → decision_of (decision_number d) ≡ d
unfolding decision_of decision_number
decision-of_number Undecided = refl
decision-of_number Committed = refl
decision-of_number Aborted = refl

pub number_of-decision : (n : ℕ) → in_range decision_column n ≡ true → decision_number (decision_of n) ≡ n
unfolding decision_of decision_number in_range
number_of-decision zero h = refl
number_of-decision (suc zero) h = refl
number_of-decision (suc (suc zero)) h = refl
number_of-decision (suc (suc (suc n))) h =
    let l : suc (suc (suc n)) ≤ 2 = leb-true (suc (suc (suc n))) 2 (and_snd (leb 0 (suc (suc (suc n)))) _ h) in
    absurd (omega arith)

pub decision-ranged : (d : Decision) → in_range decision_column (decision_number d) ≡ true
unfolding decision_number in_range
decision-ranged Undecided = refl
decision-ranged Committed = refl
decision-ranged Aborted = refl

unit_of-number : (u : AtomicityUnit) → unit_of (unit_number u) ≡ u
unfolding unit_of unit_number
unit_of-number RecordUnit = refl
unit_of-number Partition = refl
unit_of-number Table = refl
unit_of-number Namespace = refl
unit_of-number Storage = refl

number_of_unit : (n : ℕ) → n ≤ 4 → unit_number (unit_of n) ≡ n
unfolding unit_of unit_number
number_of_unit zero l = refl
number_of_unit (suc zero) l = refl
number_of_unit (suc (suc zero)) l = refl
number_of_unit (suc (suc (suc zero))) l = refl
number_of_unit (suc (suc (suc (suc zero)))) l = refl
number_of_unit (suc (suc (suc (suc (suc n))))) l = absurd (omega arith)

unit_ranged : (u : AtomicityUnit) → unit_number u ≤ 4
unfolding unit_number
unit_ranged RecordUnit = omega arith
unit_ranged Partition = omega arith
unit_ranged Table = omega arith
unit_ranged Namespace = omega arith
unit_ranged Storage = omega arith

letter-of_number : (l : Letter) → letter_of (letter_number l) ≡ l
unfolding letter_of letter_number
letter-of_number l = go l.lower
  where
    n : ℕ
    n = unit_number l.unit

    letter_as : (b c : Bool) (i : ℕ) → leb i 4 ≡ c → not c ≡ b → cond c i (i - 5) ≡ n → letter_of i ≡ record { unit = l.unit; lower = b }
    letter_as b c i e f g =
        λ j. record {
          unit = (ap (λ (x : Bool). unit_of (cond x i (i - 5))) e ∙ (ap unit_of g ∙ unit_of-number l.unit)) j;
          lower = (ap not e ∙ f) j;
        }

    go : (b : Bool) → letter_of (n + cond b 5 0) ≡ record { unit = l.unit; lower = b }
    go true = letter_as true false (n + 5) (lt-leb (n + 5) 4 (omega arith)) refl (omega arith)
    go false = let m = unit_ranged l.unit in letter_as false true (n + 0) (le-leb (n + 0) 4 (omega arith)) refl (omega arith)

number_of-letter : (n : ℕ) → leb n 9 ≡ true → letter_number (letter_of n) ≡ n
unfolding letter_of letter_number
number_of-letter n l = go (leb n 4) refl
  where
    go : (b : Bool) → leb n 4 ≡ b → unit_number (unit_of (cond b n (n - 5))) + cond (not b) 5 0 ≡ n
    go true e = let m = number_of_unit n (leb-true n 4 e) in omega arith
    go false e =
        let a = leb-true n 9 l in
        let b = leb-false n 4 e in
        let m = number_of_unit (n - 5) (omega arith) in
        omega arith

letter-ranged : (l : Letter) → leb (letter_number l) 9 ≡ true
unfolding letter_number
letter-ranged l = go l.lower
  where
    go : (b : Bool) → leb (unit_number l.unit + cond b 5 0) 9 ≡ true
    go true = let m = unit_ranged l.unit in le-leb (unit_number l.unit + 5) 9 (omega arith)
    go false = let m = unit_ranged l.unit in le-leb (unit_number l.unit + 0) 9 (omega arith)

pub head_layout_ok : layout_ok head_layout ≡ true
unfolding all column_ok head_layout words all_below word_ok is_the field_value field_bytes word_from bytes
head_layout_ok = refl

pub line-layout_ok : layout_ok line_layout ≡ true
unfolding all column_ok line_layout words all_below word_ok is_the field_value field_bytes word_from bytes
line-layout_ok = refl

pub head_bytes : line_bytes head_layout ≡ coordinator_bytes
unfolding line_bytes head_layout
head_bytes = refl

pub line_bytes_lem : line_bytes line_layout ≡ coordinator_bytes
unfolding line_bytes line_layout
line_bytes_lem = refl

pub head_fields_lem : length head_layout ≡ head_fields
unfolding head_layout
head_fields_lem = refl

-- A line.

-- the line of number k with a decision
abbrev pub decision_text : ℕ → Decision → List ℕ
decision_text k d = line_text line_layout (k ∷ decision_number d ∷ [])

-- a line that can be read is that of its number and decision
pub decision_written_read : (k : ℕ) (line : List ℕ) → line_set line_layout line ≡ true → get_or (row_of line_layout line) 0 0 ≡ k → decision_text k (decision_in line) ≡ line
unfolding decision_in line_layout listed
decision_written_read k line h e =
    let v = row_of line_layout line in
    let r = line_written_read line_layout line line-layout_ok h in
    let i = row-in_range line_layout v (figures 0 0 0) 1 r.1 (omega arith) in
    let l : listed 0 2 v ≡ v = listed_is 0 2 v (length-row_of line_layout line) in
    rw (number_of-decision (get_or v 1 0) i, ← e) (ap (line_text line_layout) l ∙ r.0)

-- numbers 1 to 999 have a line
line-ranged : (k : ℕ) (d : Decision) → 1 ≤ k → k ≤ 999 → row_good line_layout (k ∷ decision_number d ∷ []) ≡ true
unfolding row_good line_layout in_range
line-ranged k d l m = and_both (and_both (le-leb 1 k l) (le-leb k 999 m)) (and_both (decision-ranged d) refl)

pub decision_read_written : (k : ℕ) (d : Decision) → 1 ≤ k → k ≤ 999 → (row_of line_layout (decision_text k d) ≡ k ∷ decision_number d ∷ []) × (decision_in (decision_text k d) ≡ d)
unfolding decision_in
decision_read_written k d l m =
    let r = row_read_written line_layout (k ∷ decision_number d ∷ []) line-layout_ok (line-ranged k d l m) (unfold line_layout in refl) in
    (r, ap (λ (v : List ℕ). decision_of (get_or v 1 0)) r ∙ decision-of_number d)

pub decision_text-set : (k : ℕ) (d : Decision) → 1 ≤ k → k ≤ 999 → line_set line_layout (decision_text k d) ≡ true
decision_text-set k d l m = line_read_written line_layout (k ∷ decision_number d ∷ []) line-layout_ok (line-ranged k d l m)

pub length-decision_text : (k : ℕ) (d : Decision) → 1 ≤ k → k ≤ 999 → length (decision_text k d) ≡ coordinator_bytes
length-decision_text k d l m = line-length line_layout (decision_text k d) (decision_text-set k d l m) ∙ line_bytes_lem

-- The lines.

-- lines numbered from k on are those of their decisions
lines_written_read : (k : ℕ) (ls : List (List ℕ)) → all (line_set line_layout) ls ≡ true → numbered k ls ≡ true → decision_texts k (map decision_in ls) ≡ ls
unfolding all numbered decision_texts
lines_written_read k [] h n = refl
lines_written_read k (l ∷ ls) h n =
    let t = eqb (get_or (row_of line_layout l) 0 0) k in
    ap₂ ◌∷◌
    (decision_written_read k l (and_fst (line_set line_layout l) (all (line_set line_layout) ls) h) (eqb-true (get_or (row_of line_layout l) 0 0) k (and_fst t (numbered (suc k) ls) n)))
    (lines_written_read (suc k) ls (and_snd (line_set line_layout l) (all (line_set line_layout) ls) h) (and_snd t (numbered (suc k) ls) n))

-- what holds of the lines of decisions numbered from k on
record LinesOf (k : ℕ) (ds : List Decision) : Type 0 where
  whole : AllOf coordinator_bytes (decision_texts k ds)
  readable : all (line_set line_layout) (decision_texts k ds) ≡ true
  in_turn : numbered k (decision_texts k ds) ≡ true
  same : map decision_in (decision_texts k ds) ≡ ds
  count : length (decision_texts k ds) ≡ length ds

lines_read_written : (k : ℕ) (ds : List Decision) → 1 ≤ k → k + length ds ≤ 1000 → LinesOf k ds
unfolding all numbered decision_texts
lines_read_written k [] l m = record { whole = tt; readable = refl; in_turn = refl; same = refl; count = refl }
lines_read_written k (d ∷ ds) l m =
    let n : k ≤ 999 = omega arith in
    let r = lines_read_written (suc k) ds (omega arith) (omega arith) in
    let e = decision_read_written k d l n in
    record {
      whole = (length-decision_text k d l n, r.whole);
      readable = and_both (decision_text-set k d l n) r.readable;
      in_turn = and_both (eq-eqb (get_or (row_of line_layout (decision_text k d)) 0 0) k (ap (λ (v : List ℕ). get_or v 0 0) e.0)) r.in_turn;
      same = ap₂ ◌∷◌ e.1 r.same;
      count = ap suc r.count;
    }

-- The head.

-- numbers in range of columns with one bound are at most that bound
same_bound : (h : ℕ) (cs : List Column) (vs : List ℕ) → all (λ (c : Column). eqb c.high h) cs ≡ true → row_good cs vs ≡ true → length vs ≡ length cs → all (λ (v : ℕ). leb v h) vs ≡ true
unfolding all row_good in_range
same_bound h cs [] b g n = refl
same_bound h [] (v ∷ vs) b g n = absurd (omega arith)
same_bound h (c ∷ cs) (v ∷ vs) b g n =
    let e : c.high ≡ h = eqb-true c.high h (and_fst (eqb c.high h) (all (λ (x : Column). eqb x.high h) cs) b) in
    let i = and_fst (leb c.low v && leb v c.high) (row_good cs vs) g in
    let k = and_snd (leb c.low v && leb v c.high) (row_good cs vs) g in
    and_both (rw e at (and_snd (leb c.low v) (leb v c.high) i))
    (same_bound h cs vs (and_snd (eqb c.high h) (all (λ (x : Column). eqb x.high h) cs) b) k (omega arith))

-- the other way round, where the columns start at 0
from_bound : (h : ℕ) (cs : List Column) (vs : List ℕ) → all (λ (c : Column). eqb c.low 0 && eqb c.high h) cs ≡ true → all (λ (v : ℕ). leb v h) vs ≡ true → length vs ≡ length cs → row_good cs vs ≡ true
unfolding all row_good in_range
from_bound h [] vs b g n = refl
from_bound h (c ∷ cs) [] b g n = absurd (omega arith)
from_bound h (c ∷ cs) (v ∷ vs) b g n =
    let t = all (λ (x : Column). eqb x.low 0 && eqb x.high h) cs in
    let p = and_fst (eqb c.low 0 && eqb c.high h) t b in
    let z : c.low ≡ 0 = search (tests, p) in
    let e : c.high ≡ h = search (tests, p) in
    let l : v ≤ h = leb-true v h (and_fst (leb v h) (all (λ (x : ℕ). leb x h) vs) g) in
    and_both (and_both (le-leb c.low v (omega arith)) (le-leb v c.high (omega arith)))
    (from_bound h cs vs (and_snd (eqb c.low 0 && eqb c.high h) t b) (and_snd (leb v h) (all (λ (x : ℕ). leb x h) vs) g) (omega arith))

-- a head's numbers: a count, and letters by their numbers
letters_same : (us : List ℕ) → all (λ (v : ℕ). leb v 9) us ≡ true → map letter_number (map letter_of us) ≡ us
letters_same us h = map-map letter_number letter_of us ∙ map_same (λ (v : ℕ). leb v 9) (λ (v : ℕ). letter_number (letter_of v)) number_of-letter us h

pub letters_back : (us : List Letter) → map letter_of (map letter_number us) ≡ us
letters_back us =
    map-map letter_of letter_number us
    ∙ map_same (λ (u : Letter). true) (λ (u : Letter). letter_of (letter_number u)) (λ u e. letter-of_number u) us (all_always us)

-- the numbers of a row in range of the head are its count and its letters
pub head_numbers_lem : (v : List ℕ) → row_good head_layout v ≡ true → length v ≡ head_fields → get_or v 0 0 ∷ map letter_number (map letter_of (drop 1 v)) ≡ v
unfolding head_layout row_good all
head_numbers_lem [] g n = absurd (omega arith)
head_numbers_lem (x ∷ us) g n =
    let b : all (λ (v : ℕ). leb v 9) us ≡ true =
    same_bound 9 (drop 1 head_layout) us refl (and_snd (in_range (figures 4 0 999) x) (row_good (drop 1 head_layout) us) g) (omega arith) in
    ap (λ (t : List ℕ). x ∷ t) (letters_same us b)

-- a coordinator's head numbers are in range
pub head_ranged : (c : Coordinator) → c.issued ≤ 999 → length c.units ≡ 9 → row_good head_layout (head_numbers c) ≡ true
unfolding head_layout head_numbers row_good in_range all
head_ranged c l n =
    let u : all (λ (v : ℕ). leb v 9) (map letter_number c.units) ≡ true =
    all_map (λ (v : ℕ). leb v 9) letter_number c.units ∙ all_weaken (λ (x : Letter). true) (λ (x : Letter). leb (letter_number x) 9) (λ x e. letter-ranged x) c.units (all_always c.units) in
    let m : length (map letter_number c.units) ≡ 9 = length-map c.units letter_number ∙ n in
    and_both (and_both (le-leb 0 c.issued (omega arith)) (le-leb c.issued 999 l))
    (from_bound 9 (drop 1 head_layout) (map letter_number c.units) refl u m)

-- The sheet.

-- T3, coordinator sheet: a sheet that keeps the rules, read and written again, is the same sheet
pub coordinator_written_read : (s : List ℕ) → coordinator_readable s ≡ true → coordinator_text (coordinator_of s) ≡ s
unfolding coordinator_readable lines_set coordinator_text coordinator_of head_numbers lines_of
coordinator_written_read s h =
    let head : line_set head_layout (take coordinator_bytes s) ≡ true = search tests in
    let whole : length (drop coordinator_bytes s) ≡ length (drop coordinator_bytes s) / coordinator_bytes * coordinator_bytes = search tests in
    let each : all (line_set line_layout) (pieces coordinator_bytes (length (drop coordinator_bytes s) / coordinator_bytes) (drop coordinator_bytes s)) ≡ true = search tests in
    let turn : numbered 1 (pieces coordinator_bytes (length (drop coordinator_bytes s) / coordinator_bytes) (drop coordinator_bytes s)) ≡ true = search tests in
    let r = line_written_read head_layout (take coordinator_bytes s) head_layout_ok head in
    let n : length (row_of head_layout (take coordinator_bytes s)) ≡ head_fields = unfold head_layout in length-row_of head_layout (take coordinator_bytes s) in
    ap₂ ◌++◌ (ap (line_text head_layout) (head_numbers_lem (row_of head_layout (take coordinator_bytes s)) r.1 n) ∙ r.0)
    (ap joined (lines_written_read 1 _ each turn) ∙ joined-pieces coordinator_bytes (length (drop coordinator_bytes s) / coordinator_bytes) (drop coordinator_bytes s) whole)
    ∙ take-append-drop coordinator_bytes s

-- the bounds in the rules
pub record Bounds (c : Coordinator) : Type 0 where
  pub units : length c.units ≡ 9
  pub few : length c.decisions ≤ 999
  pub issued : c.issued ≤ length c.decisions

pub bounds : (c : Coordinator) → coordinator_good c ≡ true → Bounds c
unfolding coordinator_good
bounds c h = record { units = search tests; few = search tests; issued = search tests }

head_count : (c : Coordinator) → length c.units ≡ 9 → length (head_numbers c) ≡ length head_layout
unfolding head_numbers head_layout
head_count c n = ap suc (length-map c.units letter_number ∙ n)

-- the coordinator that a head's numbers and decisions say
said : (c : Coordinator) → ◌≡◌ {A = Coordinator} (record { issued = get_or (head_numbers c) 0 0; units = map letter_of (drop 1 (head_numbers c)); decisions = c.decisions }) c
unfolding head_numbers
said c = ap (λ (us : List Letter). record { issued = c.issued; units = us; decisions = c.decisions }) (letters_back c.units)

-- T3, coordinator sheet: a rule-keeping coordinator, written and read, is the same, and its sheet keeps the rules
pub coordinator_read_written : (c : Coordinator) → coordinator_good c ≡ true → (coordinator_of (coordinator_text c) ≡ c) × (coordinator_readable (coordinator_text c) ≡ true)
unfolding coordinator_text coordinator_of coordinator_readable lines_set lines_of
coordinator_read_written c h = (same, readable)
  where
    b : Bounds c
    b = bounds c h

    head : List ℕ
    head = line_text head_layout (head_numbers c)

    lines : List ℕ
    lines = joined (decision_texts 1 c.decisions)

    few : c.issued ≤ 999
    few = let l = b.few in let m = b.issued in omega arith

    ranged : row_good head_layout (head_numbers c) ≡ true
    ranged = head_ranged c few b.units

    head_set : line_set head_layout head ≡ true
    head_set = line_read_written head_layout (head_numbers c) head_layout_ok ranged

    head_length : length head ≡ coordinator_bytes
    head_length = line-length head_layout head head_set ∙ head_bytes

    row : row_of head_layout head ≡ head_numbers c
    row =
        row_read_written head_layout (head_numbers c) head_layout_ok ranged
        (head_count c b.units)

    ls : LinesOf 1 c.decisions
    ls = let l = b.few in lines_read_written 1 c.decisions (omega arith) (omega arith)

    count : length lines ≡ length (decision_texts 1 c.decisions) * coordinator_bytes
    count = length-joined coordinator_bytes (decision_texts 1 c.decisions) ls.whole

    cut : lines_of coordinator_bytes lines ≡ decision_texts 1 c.decisions
    cut =
        let k = count in
        let q : length lines / coordinator_bytes ≡ length (decision_texts 1 c.decisions) = omega arith in
        rw q (pieces-joined coordinator_bytes (decision_texts 1 c.decisions) ls.whole)

    front : take coordinator_bytes (coordinator_text c) ≡ head
    front = take_at head lines coordinator_bytes head_length

    rest : drop coordinator_bytes (coordinator_text c) ≡ lines
    rest = drop_at head lines coordinator_bytes head_length

    same : coordinator_of (coordinator_text c) ≡ c
    same = rw (front, rest, row, cut, ls.same) (said c)

    readable : coordinator_readable (coordinator_text c) ≡ true
    readable =
        let k = count in
        let q : length lines ≡ length lines / coordinator_bytes * coordinator_bytes = omega arith in
        let first : line_set head_layout (take coordinator_bytes (coordinator_text c)) ≡ true = rw front head_set in
        let each : lines_set line_layout coordinator_bytes (drop coordinator_bytes (coordinator_text c)) ≡ true =
        rw rest (and_both (eq-eqb (length lines) (length lines / coordinator_bytes * coordinator_bytes) q) (rw cut ls.readable)) in
        let turn : numbered 1 (lines_of coordinator_bytes (drop coordinator_bytes (coordinator_text c))) ≡ true = rw (rest, cut) ls.in_turn in
        let good : coordinator_good (coordinator_of (coordinator_text c)) ≡ true = rw same h in
        and_both (and_both (and_both first each) turn) good
