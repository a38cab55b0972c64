-- The sheet, as the code walks it: line after line, each good, and its key before the next one's. By induction on the lines that is what the
-- sheet's rules say of all of them.
use Rattle.std.specs.Prelude.{◌≡◌, ◌+◌, ◌-◌, ◌*◌, ◌/◌, ◌<◌, ◌&&◌}
use Rattle.std.proofs.Common.{◌∙◌}
use Rattle.lists.specs.Basics.{refl, sym, ap, ap₂, ℕ, zero, suc, eqb, leb, Bool, true, false, and_assoc, and-false}
use Rattle.lists.specs.Basics.{List, map, length, take, drop, drop-drop, take-take, arith, all, pieces, less, and_fst}
use Rattle.lists.specs.Tests.{and_swap}
use Rattle.model.specs.Layouts.{record_layout, record_bytes, key_bytes}
use Rattle.model.specs.Lines.{line_set, lines_of, lines_set}
use Rattle.model.specs.Spares.{sized, record_lines, sheet_accepted}
use Rattle.model.specs.Records.{good_alone, in_order, rising, records_good, record_in, records, records_accepted}
use Rattle.sheet_laws.specs.ByIndex.{length-records}
use Rattle.record_check.specs.Keys.{key_order}
use Rattle.record_check.specs.Line.{line_good}

-- the first line's key comes before that of the next, where n lines follow the first
unfoldable pub key_before : ℕ → List ℕ → Bool
key_before zero s = true
key_before (suc n) s = less (take key_bytes s) (take key_bytes (drop record_bytes s))

-- n lines that are good, with keys that rise
unfoldable pub lines_pass : ℕ → List ℕ → Bool
lines_pass zero s = true
lines_pass (suc n) s = line_good (take record_bytes s) && (key_before n s && lines_pass n (drop record_bytes s))

key_before_lem : (n : ℕ) (s : List ℕ) → line_set record_layout (take record_bytes s) ≡ true → all (line_set record_layout) (pieces record_bytes n (drop record_bytes s)) ≡ true
    → key_before n s ≡ in_order (record_in (take record_bytes s)) (map record_in (pieces record_bytes n (drop record_bytes s)))
unfolding all pieces key_before in_order
key_before_lem zero s h g = refl
key_before_lem (suc n) s h g =
    let a = take record_bytes s in
    let b = take record_bytes (drop record_bytes s) in
    let f = and_fst (line_set record_layout b) (all (line_set record_layout) (pieces record_bytes n (drop record_bytes (drop record_bytes s)))) g in
    ap₂ less (sym (take-take key_bytes record_bytes s (omega arith))) (sym (take-take key_bytes record_bytes (drop record_bytes s) (omega arith)))
    ∙ key_order a b h f

-- the tests of a line and of the lines after it, taken together or kind by kind
shuffled : (l g o p a b c : Bool) → (l ≡ true → a ≡ true → o ≡ p) → ((l && g) && (o && (a && (b && c)))) ≡ ((l && a) && ((g && b) && (p && c)))
shuffled false g o p a b c f = refl
shuffled true false o p true b c f = refl
shuffled true false o p false b c f = refl
shuffled true true o p false b c f = and-false o
shuffled true true o p true true c f = ap (λ (x : Bool). x && c) (f refl refl)
shuffled true true o p true false c f = and-false o

-- the rules of the sheet by its lines
abbrev all_rules : List (List ℕ) → Bool
all_rules ls = all (line_set record_layout) ls && (all good_alone (map record_in ls) && rising (map record_in ls))

lines_pass_lem : (n : ℕ) (s : List ℕ) → lines_pass n s ≡ all_rules (pieces record_bytes n s)
unfolding lines_pass line_good all pieces rising
lines_pass_lem zero s = refl
lines_pass_lem (suc n) s =
    let line = take record_bytes s in
    let ls = pieces record_bytes n (drop record_bytes s) in
    ap (λ (x : Bool). line_good line && (key_before n s && x)) (lines_pass_lem n (drop record_bytes s))
    ∙ shuffled
    (line_set record_layout line)
    (good_alone (record_in line))
    (key_before n s)
    (in_order (record_in line) (map record_in ls))
    (all (line_set record_layout) ls)
    (all good_alone (map record_in ls))
    (rising (map record_in ls))
    (key_before_lem n s)

-- one turn of the code's loop: what is left from line i on
pub pass_next : (i n : ℕ) (s : List ℕ) → i < n
    → lines_pass (n - i) (drop (i * record_bytes) s)
    ≡ (line_good (take (i * record_bytes + record_bytes - i * record_bytes) (drop (i * record_bytes) s)) && (key_before (n - (i + 1)) (drop (i * record_bytes) s) && lines_pass (n - (i + 1)) (drop ((i + 1) * record_bytes) s)))
unfolding lines_pass
pass_next i n s l =
    let e : n - i ≡ suc (n - (i + 1)) = omega arith in
    let f : (i + 1) * record_bytes ≡ i * record_bytes + record_bytes = omega arith in
    let w : i * record_bytes + record_bytes - i * record_bytes ≡ record_bytes = omega arith in
    rw (e, f, w, drop-drop record_bytes (i * record_bytes) s)

-- at most 500 whole lines
unfoldable pub lines_sized : ℕ → ℕ → Bool
lines_sized bytes n = eqb bytes (n * record_bytes) && leb n 500

-- the lines of records that the code lets pass
pub accepted_is : (s : List ℕ) → records_accepted s ≡ (lines_sized (length s) (length s / record_bytes) && lines_pass (length s / record_bytes) s)
unfolding records_accepted lines_set lines_of records records_good lines_sized
accepted_is s =
    let n = length s / record_bytes in
    let ls = pieces record_bytes n s in
    let whole = eqb (length s) (n * record_bytes) in
    let count = leb n 500 in
    let good = all good_alone (map record_in ls) in
    rw (length-records s, lines_pass_lem n s)
    (ap (λ (x : Bool). whole && all (line_set record_layout) ls && x) (and_assoc count good (rising (map record_in ls)))
    ∙ and_swap whole (all (line_set record_layout) ls) count (good && rising (map record_in ls)))

-- and the record sheets
pub sheet_unsized : (s : List ℕ) → sized record_bytes s ≡ false → sheet_accepted s ≡ false
unfolding sheet_accepted
sheet_unsized s h = ap (λ (x : Bool). x && records_accepted (record_lines s)) h

pub sheet-sized : (s : List ℕ) → sized record_bytes s ≡ true → sheet_accepted s ≡ records_accepted (record_lines s)
unfolding sheet_accepted
sheet-sized s h = ap (λ (x : Bool). x && records_accepted (record_lines s)) h
