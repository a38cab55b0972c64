-- "An atomic write goes to both, within one unit." The joined sheet has this law already (turns), letters of either case; a line of either sheet is the part of the
-- line joined, and says its key. So a line that stays joined stays in both parts.
use Rattle.std.specs.Prelude.{◌≡◌, ◌+◌, ◌-◌, ◌*◌, ◌/◌, ◌^◌, ◌≤◌, ◌<◌, ◌∷◌, ◌++◌}
use Rattle.std.proofs.Common.{◌∙◌}
use Rattle.lists.specs.Basics.{refl, sym, ap, ap₂, subst, ℕ, zero, suc, eqb, ltb, Bool, true, false, List, [], map, length, take, get_or, replicate, eq-eqb}
use Rattle.lists.specs.Basics.{length-map, length-take, length-drop, drop_of_length-le, get_or-map, arith, eqb-true, ltb-true, ltb-false, joined}
use Rattle.std.proofs.Math.Nat.{mul-le-mul_right}
use Rattle.std.proofs.lemmas.List.{map-append}
use Rattle.lists.specs.All.{all_of, get_or_any}
use Rattle.lists.specs.Pieces.{AllOf, length-pieces, pieces-joined, length-joined, joined-append, get_or-pieces}
use Rattle.model.specs.Types.{Key, Record, Transaction, Some}
use Rattle.model.specs.Layouts.{record_bytes}
use Rattle.model.specs.Lines.{lines_of}
use Rattle.model.specs.Records.{record_in, records_text}
use Rattle.model.specs.Coordinator.{Letter, coordinator_of, coordinator_text}
use Rattle.model.specs.Groups.{scope}
use Rattle.model.specs.Refusals.{refusal_of}
use Rattle.model.specs.SheetCalls.{line_at}
use Rattle.model.specs.Spares.{spare_line, filled_lines, spares_text, sheet_for}
use Rattle.model.specs.Writes.{Sheets, sheets_good}
use Rattle.model.specs.Results.{Call, answer_of}
use Rattle.model.specs.Histories.{ClockFits}
use Rattle.model.specs.ByteHistories.{Bytes, Readable}
use Rattle.model.specs.Closing.{Run, close_conditions}
use Rattle.model.specs.Operations.{once, writes_once, stands_for, close_run, ended, coordinator_left}
use Rattle.model.specs.Turns.{Turn, single, turn_call, turn_writes_once, turn_shifts, turn_event, turn_after}
use Rattle.model.specs.TwoSheets.{plain_bytes, bookkeeping_bytes, joined_sheet, plain_line, bookkeeping_line, plain_part, bookkeeping_part, plain_record, bookkeeping_record, line_of_sheet}
use Rattle.model.specs.TwoSpares.{joined_lines}
use Rattle.model.specs.TwoCalls.{TwoBytes, saying_two, conditions_of, PassingTwo, response_two, plain_left, bookkeeping_left, two_left, after_two, turn_response_two}
use Rattle.model.specs.TwoCalls.{turn_after_two}
use Rattle.model.specs.Closes.{NextWrite, nothing_more, one_write_more, NextLimitTwo}
use Rattle.model.specs.AtomicWrites.{WithinUnit, lines_of_one_unit, coordinator_only, LinePutIn, line_for, OneUnit, within_unit, line_added, line_removed, KeepsOthers, WithinUnitTwo}
use Rattle.model.specs.AtomicWrites.{lines_of_one_unit_two, coordinator_only_two, BothPutIn, OneUnitTwo, within_unit_two, line_added_two, line_removed_two}
use Rattle.call_laws.specs.Lifting.{readable_both, readable_good, encoded, encoded_readable, readable_encoded, good_records}
use Rattle.turns.specs.Operations.{close_sound}
use Rattle.turns.specs.Turns.{turn_stays_good, turn_stays_readable}
use Rattle.turns.specs.Units.{readable_within, readable_unit}
use Rattle.turns.specs.Closes.{next_by, run_next}
use Rattle.two_laws.specs.Deciding.{whole}
use Rattle.two_laws.specs.FilledSheets.{lines_wide}
use Rattle.two_laws.specs.TwoLines.{plain_of, bookkeeping_of, joined-plain_record, joined-bookkeeping_record, join_back, parts-agree, length-plain_line}
use Rattle.two_laws.specs.TwoLines.{length-bookkeeping_line}
use Rattle.sheet_laws.specs.Records.{records_read_written}
use Rattle.sheet_laws.specs.ByIndex.{whole_lines_lem}
use Rattle.sheet_laws.specs.Fronts.{lines-joined, lines-behind, front-spares}
use Rattle.sheet_laws.specs.Spared.{accepted_whole}
use Rattle.two_laws.specs.Encoding.{split_join}
use Rattle.two_laws.specs.SparedJoin.{plain-spare, bookkeeping-spare, joined-spared}
use Rattle.two_laws.specs.TwoEncoding.{joined_bytes, cut_two, JoinableTwo, same-filled, joined_lines-whole, passing_two, passing_two_good, encoded_two, passing_encoded_two}
use Rattle.two_turns.specs.Turns.{turn_two}

-- either part of a record line says its fields
pub plain-says : (l : List ℕ) → length l ≡ record_bytes → plain_record (plain_line l) ≡ plain_of (record_in l)
plain-says l h =
    joined-plain_record (plain_line l) (bookkeeping_line l) (length-plain_line l h) (length-bookkeeping_line l h) (parts-agree l h)
    ∙ ap (λ (x : List ℕ). plain_of (record_in x)) (join_back l h)

bookkeeping-says : (l : List ℕ) → length l ≡ record_bytes → bookkeeping_record (bookkeeping_line l) ≡ bookkeeping_of (record_in l)
bookkeeping-says l h =
    joined-bookkeeping_record (plain_line l) (bookkeeping_line l) (length-plain_line l h) (length-bookkeeping_line l h)
    ∙ ap (λ (x : List ℕ). bookkeeping_of (record_in x)) (join_back l h)

-- so it has its key
plain_key : (l : List ℕ) → length l ≡ record_bytes → (plain_record (plain_line l)).key ≡ (record_in l).key
plain_key l h = ap (λ (r : Record). r.key) (plain-says l h)

bookkeeping_key : (l : List ℕ) → length l ≡ record_bytes → (bookkeeping_record (bookkeeping_line l)).key ≡ (record_in l).key
bookkeeping_key l h = ap (λ (r : Record). r.key) (bookkeeping-says l h)

-- A part of every line, of w bytes, that says its key.
module _ (w : ℕ) (part : List ℕ → List ℕ) (key_in : List ℕ → Key)
    (wide : (l : List ℕ) → length l ≡ record_bytes → length (part l) ≡ w) (key : (l : List ℕ) → length l ≡ record_bytes → key_in (part l) ≡ (record_in l).key) where
  abbrev parts : List ℕ → List ℕ
  parts s = joined (map part (lines_of record_bytes s))

  module _ (s : List ℕ) (h : whole record_bytes s ≡ true) where
    abbrev lines : List (List ℕ)
    lines = lines_of record_bytes s

    all_wide : AllOf w (map part lines)
    all_wide = all_of w (λ (x : List ℕ). eqb (length x) record_bytes) part (λ x e. wide x (eqb-true (length x) record_bytes e)) lines (lines_wide record_bytes s h)

    count : length (map part lines) ≡ length s / record_bytes
    unfolding lines_of
    count = length-map lines part ∙ length-pieces record_bytes (length s / record_bytes) s

    size_of : length (parts s) ≡ length s / record_bytes * w
    size_of = length-joined w (map part lines) all_wide ∙ ap (λ (n : ℕ). n * w) count

    -- line i of the parts is the part of line i
    line_of : (i : ℕ) → i < length s / record_bytes → line_of_sheet w (parts s) (Some i) ≡ part (line_at s (Some i))
    unfolding line_of_sheet line_at lines_of
    line_of i l =
        let k : i < length (map part lines) = omega (arith, count) in
        sym (get_or-pieces w i (length (map part lines)) (parts s) k)
        ∙ (ap (λ (x : List (List ℕ)). get_or x i []) (pieces-joined w (map part lines) all_wide)
        ∙ (get_or_any (map part lines) i [] (part []) k
        ∙ (get_or-map part lines i [] ∙ ap part (get_or-pieces record_bytes i (length s / record_bytes) s l))))

    -- and each is a whole line
    line_wide : (i : ℕ) → i < length s / record_bytes → length (line_at s (Some i)) ≡ record_bytes
    unfolding line_at
    line_wide i l =
        let n : length s ≡ length s / record_bytes * record_bytes = eqb-true (length s) (length s / record_bytes * record_bytes) h in
        simp (length-take, length-drop) (omega (arith, n))

    line_past : (i : ℕ) → length s / record_bytes ≤ i → line_of_sheet w (parts s) (Some i) ≡ take w []
    unfolding line_of_sheet
    line_past i l =
        let m : length s / record_bytes * w ≤ i * w = mul-le-mul_right w l in
        let k : length (parts s) ≤ i * w = omega (arith, size_of, m) in
        ap (take w) (drop_of_length-le (parts s) k)

  -- lines outside one unit keep their bytes in the parts, if they do so joined
  keeps : (units : List Letter) (unit : List ℕ) (s s' : List ℕ) → whole record_bytes s ≡ true → whole record_bytes s' ≡ true → length s' ≡ length s
      → ((i : ℕ) → (scope units (record_in (line_at s (Some i))).key ≡ unit → ⊥) → line_at s' (Some i) ≡ line_at s (Some i))
      → KeepsOthers units unit w key_in (parts s) (parts s')
  keeps units unit s s' h h' n f =
      record { size = size_of s' h' ∙ (ap (λ (k : ℕ). k / record_bytes * w) n ∙ sym (size_of s h)); others = λ i d. go i d (ltb i (length s / record_bytes)) refl }
    where
      go : (i : ℕ) → (scope units (key_in (line_of_sheet w (parts s) (Some i))) ≡ unit → ⊥) → (x : Bool) → ltb i (length s / record_bytes) ≡ x
          → line_of_sheet w (parts s') (Some i) ≡ line_of_sheet w (parts s) (Some i)
      go i d true e =
          let l : i < length s / record_bytes = ltb-true i (length s / record_bytes) e in
          let k : key_in (line_of_sheet w (parts s) (Some i)) ≡ (record_in (line_at s (Some i))).key = ap key_in (line_of s h i l) ∙ key (line_at s (Some i)) (line_wide s h i l) in
          line_of s' h' i (omega (arith, n)) ∙ (ap part (f i (λ q. d (ap (scope units) k ∙ q))) ∙ sym (line_of s h i l))
      go i d false e =
          let l : length s / record_bytes ≤ i = ltb-false i (length s / record_bytes) e in
          line_past s' h' i (omega (arith, n)) ∙ sym (line_past s h i l)

  -- a line put in goes to the parts, at the same index
  put_in : part (spare_line record_bytes) ≡ spare_line w → 0 < w → (line : List ℕ) (i : ℕ) (s s' : List ℕ) → whole record_bytes s ≡ true → whole record_bytes s' ≡ true
      → LinePutIn record_bytes line i s s' → LinePutIn w (part line) i (parts s) (parts s')
  put_in spare some line i s s' h h' x =
      record {
        above = map part x.above;
        below = map part x.below;
        index = length-map x.above part ∙ x.index;
        size = size_of s' h' ∙ (ap (λ (k : ℕ). k / record_bytes * w) x.size ∙ sym (size_of s h));
        was =
            lines-joined w some (map part (lines_of record_bytes s)) (all_wide s h)
            ∙ (ap (map part) x.was
            ∙ (map-append part x.above (x.below ++ (spare_line record_bytes ∷ []))
            ∙ ap (λ (ls : List (List ℕ)). map part x.above ++ ls) (map-append part x.below (spare_line record_bytes ∷ []) ∙ ap (λ (l : List ℕ). map part x.below ++ (l ∷ [])) spare)));
        is =
            lines-joined w some (map part (lines_of record_bytes s')) (all_wide s' h')
            ∙ (ap (map part) x.is ∙ map-append part x.above (line ∷ x.below));
      }

-- both parts of a record sheet, beside the coordinator sheet
abbrev apart : Bytes → TwoBytes
apart b = record { plain = plain_part b.records; bookkeeping = bookkeeping_part b.records; coordinator = b.coordinator }

-- a write in one unit goes to both parts in that unit
within-apart : (b a : Bytes) → whole record_bytes b.records ≡ true → whole record_bytes a.records ≡ true → WithinUnit b a → WithinUnitTwo (apart b) (apart a)
unfolding plain_part bookkeeping_part
within-apart b a h h' (lines_of_one_unit unit c n f) =
    let us = (coordinator_of b.coordinator).units in
    lines_of_one_unit_two unit c
    (keeps plain_bytes plain_line (λ (l : List ℕ). (plain_record l).key) length-plain_line plain_key us unit b.records a.records h h' n f)
    (keeps bookkeeping_bytes bookkeeping_line (λ (l : List ℕ). (bookkeeping_record l).key) length-bookkeeping_line bookkeeping_key us unit b.records a.records h h' n f)
within-apart b a h h' (coordinator_only e) = coordinator_only_two (ap plain_part e) (ap bookkeeping_part e)

both-put_in : (line : List ℕ) (i : ℕ) (b a : Bytes) → whole record_bytes b.records ≡ true → whole record_bytes a.records ≡ true → LinePutIn record_bytes line i b.records a.records → BothPutIn line i (apart b) (apart a)
unfolding plain_part bookkeeping_part
both-put_in line i b a h h' x = (
  put_in plain_bytes plain_line (λ (l : List ℕ). (plain_record l).key) length-plain_line plain_key plain-spare (omega arith) line i b.records a.records h h' x,
  put_in bookkeeping_bytes bookkeeping_line (λ (l : List ℕ). (bookkeeping_record l).key) length-bookkeeping_line bookkeeping_key bookkeeping-spare (omega arith) line i b.records a.records h h' x,
)

unit_apart : (c : Call) (b a : Bytes) → whole record_bytes b.records ≡ true → whole record_bytes a.records ≡ true → OneUnit b a c → OneUnitTwo (apart b) (apart a) c
unit_apart c b a h h' (within_unit u) = within_unit_two (within-apart b a h h' u)
unit_apart c b a h h' (line_added k i e x) = line_added_two k i e (both-put_in (line_for k) i b a h h' x)
unit_apart c b a h h' (line_removed k i e x) = line_removed_two k i e (both-put_in (line_for k) i a b h' h x)

pub readable_whole : (b : Bytes) → Readable b → whole record_bytes b.records ≡ true
readable_whole b h = eq-eqb (length b.records) (length b.records / record_bytes * record_bytes) (accepted_whole b.records (readable_both b h).0)

-- the parts of spares
map-replicate : (part : List ℕ → List ℕ) (w n : ℕ) → part (spare_line record_bytes) ≡ spare_line w → map part (replicate n (spare_line record_bytes)) ≡ replicate n (spare_line w)
map-replicate part w zero e = refl
map-replicate part w (suc n) e = ap₂ ◌∷◌ e (map-replicate part w n e)

parts-behind : (part : List ℕ → List ℕ) (w n : ℕ) (s : List ℕ) → part (spare_line record_bytes) ≡ spare_line w → length s ≡ length s / record_bytes * record_bytes
    → joined (map part (lines_of record_bytes (s ++ spares_text record_bytes n))) ≡ joined (map part (lines_of record_bytes s)) ++ spares_text w n
parts-behind part w n s e whole =
    let ls = lines_of record_bytes s in
    ap (λ (x : List (List ℕ)). joined (map part x)) (lines-behind record_bytes (omega arith) s n whole)
    ∙ (ap joined (map-append part ls (replicate n (spare_line record_bytes)) ∙ ap (λ (x : List (List ℕ)). map part ls ++ x) (map-replicate part w n e))
    ∙ joined-append (map part ls) (replicate n (spare_line w)))

-- good sheets encoded, apart, are those encoded and split
apart-encoded : (s : Sheets) → sheets_good s ≡ true → apart (encoded s) ≡ encoded_two s
unfolding plain_part bookkeeping_part sheet_for
apart-encoded s g =
    let n = s.size - length s.lines in
    let w : length (records_text s.lines) ≡ length (records_text s.lines) / record_bytes * record_bytes = whole_lines_lem (records_text s.lines) (records_read_written s.lines (good_records s g)).1 in
    λ i. record {
      plain = parts-behind plain_line plain_bytes n (records_text s.lines) plain-spare w i;
      bookkeeping = parts-behind bookkeeping_line bookkeeping_bytes n (records_text s.lines) bookkeeping-spare w i;
      coordinator = coordinator_text s.coordinator;
    }

-- either sheet is its part of the joined one
pub split_join_two : (b : TwoBytes) → JoinableTwo b → (plain_part (joined_sheet b.plain b.bookkeeping) ≡ b.plain) × (bookkeeping_part (joined_sheet b.plain b.bookkeeping) ≡ b.bookkeeping)
unfolding plain_part bookkeeping_part
split_join_two b j =
    let ps = b.plain in
    let bs = b.bookkeeping in
    let n = length bs / bookkeeping_bytes - filled_lines bookkeeping_bytes bs in
    let m : n ≡ length ps / plain_bytes - filled_lines plain_bytes ps = ap₂ ◌-◌ (sym j.many) (sym (same-filled b j)) in
    let e : joined_sheet ps bs ≡ joined_lines ps bs ++ spares_text record_bytes n = joined-spared ps bs j.plain j.bookkeeping j.many (same-filled b j) in
    let w : length (joined_lines ps bs) ≡ length (joined_lines ps bs) / record_bytes * record_bytes = joined_lines-whole b j in
    let f = split_join (cut_two b) j.lines in (
      ap plain_part e
          ∙ (parts-behind plain_line plain_bytes n (joined_lines ps bs) plain-spare w
          ∙ (ap₂ (λ (t : List ℕ) (k : ℕ). t ++ spares_text plain_bytes k) f.0 m ∙ front-spares plain_bytes (omega arith) ps j.plain)),
      ap bookkeeping_part e
          ∙ (parts-behind bookkeeping_line bookkeeping_bytes n (joined_lines ps bs) bookkeeping-spare w
          ∙ (ap (λ (t : List ℕ). t ++ spares_text bookkeeping_bytes n) f.1 ∙ front-spares bookkeeping_bytes (omega arith) bs j.bookkeeping)),
    )

-- sheets that pass are the parts of the joined one
passing_apart : (b : TwoBytes) → PassingTwo b → apart (joined_bytes b) ≡ b
passing_apart b h =
    ap apart (sym (readable_encoded (joined_bytes b) (passing_two b h).readable))
    ∙ (apart-encoded (saying_two b) (passing_two_good b h) ∙ passing_encoded_two b h)

-- what holds of the joined sheet before and after a turn, and of the parts if of the whole
turn-apart : (R : Bytes → Bytes → Type 0) (S : TwoBytes → TwoBytes → Type 0) → ((b a : Bytes) → whole record_bytes b.records ≡ true → whole record_bytes a.records ≡ true → R b a → S (apart b) (apart a)) → (x : Turn) (b : TwoBytes) → ClockFits (turn_call x) → PassingTwo b → R (joined_bytes b) (encoded (turn_after x (saying_two b))) → S b (turn_after_two x b)
unfolding turn_event
turn-apart R S parts x b l h u =
    let r = (passing_two b h).readable in
    let g : sheets_good (turn_after x (saying_two b)) ≡ true = turn_stays_good x (saying_two b) l (passing_two_good b h) in
    subst (λ (a : TwoBytes). S a (turn_after_two x b)) (passing_apart b h)
    (subst (S (apart (joined_bytes b))) (apart-encoded (turn_after x (saying_two b)) g ∙ sym (turn_two x b h))
    (parts (joined_bytes b) (encoded (turn_after x (saying_two b))) (readable_whole (joined_bytes b) r)
    (readable_whole (encoded (turn_after x (saying_two b))) (turn_stays_readable x (joined_bytes b) l r).1) u))

-- "An atomic write goes to both, within one unit": unless the turn adds or removes a line
pub turn-within-two : (x : Turn) (b : TwoBytes) → turn_writes_once x ≡ true → turn_shifts x ≡ false → ClockFits (turn_call x) → PassingTwo b → WithinUnitTwo b (turn_after_two x b)
turn-within-two x b w n l h = turn-apart WithinUnit WithinUnitTwo within-apart x b l h (readable_within x (joined_bytes b) w n l (passing_two b h).readable)

pub turn_unit_two : (x : Turn) (b : TwoBytes) → turn_writes_once x ≡ true → ClockFits (turn_call x) → PassingTwo b → OneUnitTwo b (turn_after_two x b) (turn_call x)
turn_unit_two x b w l h = turn-apart (λ (b a : Bytes). OneUnit b a (turn_call x)) (λ (b a : TwoBytes). OneUnitTwo b a (turn_call x)) (unit_apart (turn_call x)) x b l h (readable_unit x (joined_bytes b) w l (passing_two b h).readable)

pub call_unit_two : (c : Call) (b : TwoBytes) → ClockFits c → PassingTwo b → OneUnitTwo b (after_two c b) c
unfolding after_two turn_after_two turn_response_two turn_writes_once writes_once turn_call stands_for
call_unit_two c b l h = turn_unit_two (single (once c)) b refl l h

-- A close, "from one limit to the next"
pub next_limit_two : (t : Transaction) (now limit : ℕ) (b : TwoBytes) → now < 2 ^ 32 → NextLimitTwo t now limit b
unfolding response_two plain_left bookkeeping_left coordinator_left
next_limit_two t now limit b fits = next_by WithinUnitTwo (two_left b) (conditions_of b) t now limit s (λ h z. go h z (run_next t now limit (joined_bytes b) fits (passing_two b h).readable z))
  where
    s : Sheets
    s = saying_two b

    run : ℕ → Run
    run m = close_run t now m s

    good_at : PassingTwo b → refusal_of (close_conditions t s) ≡ 0 → (m : ℕ) → sheets_good (run m).sheets ≡ true
    good_at h z m = (close_sound t now m s fits (readable_good (joined_bytes b) (passing_two b h).readable) z).good

    -- what is left is the parts of what the joined sheet would be, which has whole lines
    whole_at : PassingTwo b → refusal_of (close_conditions t s) ≡ 0 → (m : ℕ) → whole record_bytes (encoded (run m).sheets).records ≡ true
    whole_at h z m = readable_whole (encoded (run m).sheets) (encoded_readable (run m).sheets (good_at h z m)).1

    go : PassingTwo b → refusal_of (close_conditions t s) ≡ 0
        → NextWrite WithinUnit (answer_of (ended (run limit))) (answer_of (ended (run (limit + 1)))) (encoded (run limit).sheets) (encoded (run (limit + 1)).sheets)
        → NextWrite WithinUnitTwo (answer_of (ended (run limit))) (answer_of (ended (run (limit + 1)))) (two_left b (ended (run limit))) (two_left b (ended (run (limit + 1))))
    go h z (nothing_more e f) =
        nothing_more e (sym (apart-encoded (run (limit + 1)).sheets (good_at h z (limit + 1))) ∙ (ap apart f ∙ apart-encoded (run limit).sheets (good_at h z limit)))
    go h z (one_write_more e u) =
        one_write_more e
        (subst (λ (x : TwoBytes). WithinUnitTwo x (encoded_two (run (limit + 1)).sheets)) (apart-encoded (run limit).sheets (good_at h z limit))
        (subst (WithinUnitTwo (apart (encoded (run limit).sheets))) (apart-encoded (run (limit + 1)).sheets (good_at h z (limit + 1)))
        (within-apart (encoded (run limit).sheets) (encoded (run (limit + 1)).sheets) (whole_at h z limit) (whole_at h z (limit + 1)) u)))
