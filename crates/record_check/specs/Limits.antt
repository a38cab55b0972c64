-- Ranges narrowed at some fields of a layout. A row of numbers is good by the narrowed layout where it is good by the layout and each number keeps
-- to its limit: by induction on the limits, and for one limit along the columns up to its field.
use Rattle.std.specs.Prelude.{◌≡◌, ◌≤◌, ◌<◌, ◌&&◌, ◌∷◌}
use Rattle.std.proofs.Common.{◌∙◌}
use Rattle.lists.specs.Basics.{refl, sym, ap, ℕ, zero, suc, leb, ltb, Bool, true, false, and_assoc, and-true, and-false, List, []}
use Rattle.lists.specs.Basics.{map, length, drop, get_or, set, get_or-drop, arith, leb-true, le-leb, all, and_fst, and_snd, tests}
use Rattle.std.proofs.Math.Seq.{map-set_same}
use Rattle.lists.specs.Tests.{and_move}
use Rattle.model.specs.Types.{Column}
use Rattle.model.specs.Layouts.{no_column}
use Rattle.model.specs.Lines.{in_range, row_of, line_set, row_good}
use Rattle.line_bytes.specs.Parts.{parts_ok}
use Rattle.record_check.specs.Ranges.{opened, line_held}
use Rattle.record_check.specs.LayoutParts.{layout_parts, sayable, parts_are_held}

-- a bound on number i of the row
pub data Limit : Type 0 where
  at_least : (i bound : ℕ) → Limit
  at_most : (i bound : ℕ) → Limit

unfoldable pub keeps : List ℕ → Limit → Bool
keeps v (at_least i n) = leb n (get_or v i 0)
keeps v (at_most i n) = leb (get_or v i 0) n

abbrev from : ℕ → Column → Column
from n c = record { width = c.width; kind = c.kind; low = n; high = c.high }

abbrev up_to : ℕ → Column → Column
up_to n c = record { width = c.width; kind = c.kind; low = c.low; high = n }

-- the layout with one range narrowed
unfoldable pub narrowed : Limit → List Column → List Column
narrowed (at_least i n) cs = set cs i (from n (get_or cs i no_column))
narrowed (at_most i n) cs = set cs i (up_to n (get_or cs i no_column))

-- and with all of the limits
unfoldable pub limited : List Limit → List Column → List Column
limited [] cs = cs
limited (l ∷ ls) cs = narrowed l (limited ls cs)

-- the limit stands at a column, and does not widen its range
unfoldable pub narrows : Limit → List Column → Bool
narrows (at_least i n) cs = ltb i (length cs) && leb (get_or cs i no_column).low n
narrows (at_most i n) cs = ltb i (length cs) && leb n (get_or cs i no_column).high

unfoldable pub all_narrow : List Limit → List Column → Bool
all_narrow [] cs = true
all_narrow (l ∷ ls) cs = narrows l (limited ls cs) && all_narrow ls cs

-- a test that another follows from adds nothing to it
weaker : (a b : Bool) → (a ≡ true → b ≡ true) → a ≡ (b && a)
weaker true b f = ap (λ (x : Bool). x && true) (sym (f refl))
weaker false b f = sym (and-false b)

from_range : (n v : ℕ) (c : Column) → c.low ≤ n → in_range (from n c) v ≡ (in_range c v && leb n v)
unfolding in_range
from_range n v c l =
    ap (λ (x : Bool). x && leb v c.high) (weaker (leb n v) (leb c.low v) (λ e. le-leb c.low v (omega (arith, leb-true n v e))))
    ∙ and_move (leb c.low v) (leb n v) (leb v c.high)

up_to_range : (n v : ℕ) (c : Column) → n ≤ c.high → in_range (up_to n c) v ≡ (in_range c v && leb v n)
unfolding in_range
up_to_range n v c l =
    ap (λ (x : Bool). leb c.low v && x) (weaker (leb v n) (leb v c.high) (λ e. le-leb v c.high (omega (arith, leb-true v n e))))
    ∙ sym (and_assoc (leb c.low v) (leb v c.high) (leb v n))

-- another column for field i, whose range is that of the first and a test more
row-set : (cs : List Column) (i : ℕ) (d : Column) (t : Bool) (v : List ℕ)
    → i < length cs
    → in_range d (get_or v i 0) ≡ (in_range (get_or cs i no_column) (get_or v i 0) && t)
    → row_good (set cs i d) v ≡ (row_good cs v && t)
unfolding row_good
row-set [] i d t v l e = absurd (omega arith)
row-set (c ∷ cs) zero d t v l e = ap (λ (x : Bool). x && row_good cs (drop 1 v)) e ∙ and_move (in_range c (get_or v 0 0)) t (row_good cs (drop 1 v))
row-set (c ∷ cs) (suc i) d t v l e =
    let g : get_or (drop 1 v) i 0 ≡ get_or v (suc i) 0 = get_or-drop 1 v i 0 ∙ ap (λ (k : ℕ). get_or v k 0) (omega arith) in
    ap (λ (x : Bool). in_range c (get_or v 0 0) && x) (row-set cs i d t (drop 1 v) (omega arith) (rw g e))
    ∙ sym (and_assoc (in_range c (get_or v 0 0)) (row_good cs (drop 1 v)) t)

narrowed-row : (l : Limit) (cs : List Column) (v : List ℕ)
    → narrows l cs ≡ true → row_good (narrowed l cs) v ≡ (row_good cs v && keeps v l)
unfolding narrows narrowed keeps
narrowed-row (at_least i n) cs v o =
    let a : i < length cs = search tests in
    let b : (get_or cs i no_column).low ≤ n = search tests in
    row-set cs i (from n (get_or cs i no_column)) (leb n (get_or v i 0)) v a (from_range n (get_or v i 0) (get_or cs i no_column) b)
narrowed-row (at_most i n) cs v o =
    let a : i < length cs = search tests in
    let b : n ≤ (get_or cs i no_column).high = search tests in
    row-set cs i (up_to n (get_or cs i no_column)) (leb (get_or v i 0) n) v a (up_to_range n (get_or v i 0) (get_or cs i no_column) b)

limited-row : (ls : List Limit) (cs : List Column) (v : List ℕ)
    → all_narrow ls cs ≡ true → row_good (limited ls cs) v ≡ (row_good cs v && all (keeps v) ls)
unfolding limited all_narrow all
limited-row [] cs v o = sym (and-true (row_good cs v))
limited-row (l ∷ ls) cs v o =
    narrowed-row l (limited ls cs) v (and_fst (narrows l (limited ls cs)) (all_narrow ls cs) o)
    ∙ (ap (λ (x : Bool). x && keeps v l) (limited-row ls cs v (and_snd (narrows l (limited ls cs)) (all_narrow ls cs) o))
    ∙ (and_move (row_good cs v) (all (keeps v) ls) (keeps v l) ∙ and_assoc (row_good cs v) (keeps v l) (all (keeps v) ls)))

-- A line by a narrowed layout.

same-opened : (ls : List Limit) (cs : List Column) → map opened (limited ls cs) ≡ map opened cs
unfolding limited narrowed opened
same-opened [] cs = refl
same-opened (at_least i n ∷ ls) cs = map-set_same opened (limited ls cs) i (from n (get_or (limited ls cs) i no_column)) no_column refl ∙ same-opened ls cs
same-opened (at_most i n ∷ ls) cs = map-set_same opened (limited ls cs) i (up_to n (get_or (limited ls cs) i no_column)) no_column refl ∙ same-opened ls cs

-- the numbers of a line, read by the widest ranges
abbrev pub widest_row : List Column → List ℕ → List ℕ
widest_row cs s = row_of (map opened cs) s

pub limited-line : (ls : List Limit) (cs : List Column) (s : List ℕ)
    → all_narrow ls cs ≡ true → line_held (limited ls cs) s ≡ (line_held cs s && all (keeps (widest_row cs s)) ls)
limited-line ls cs s o =
    rw (same-opened ls cs, limited-row ls cs (widest_row cs s) o)
    (sym (and_assoc (line_set (map opened cs) s) (row_good cs (widest_row cs s)) (all (keeps (widest_row cs s)) ls)))

-- limits whose layout parts can say
unfoldable pub says : List Limit → List Column → Bool
says ls cs = all_narrow ls cs && all sayable (limited ls cs)

-- what the parts of a narrowed layout say of a line
pub limited-parts : (ls : List Limit) (cs : List Column) (s : List ℕ)
    → says ls cs ≡ true → parts_ok (layout_parts (limited ls cs)) s ≡ (line_held cs s && all (keeps (widest_row cs s)) ls)
unfolding says
limited-parts ls cs s o =
    parts_are_held (limited ls cs) s (and_snd (all_narrow ls cs) (all sayable (limited ls cs)) o)
    ∙ limited-line ls cs s (and_fst (all_narrow ls cs) (all sayable (limited ls cs)) o)
