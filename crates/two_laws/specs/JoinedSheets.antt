-- Sheets joined and split. Two sheets whose keys agree, byte for byte, are pairs of lines; each law goes by induction on the pairs.
use Rattle.std.specs.Prelude.{◌*◌, ◌/◌, ◌≡◌, ◌&&◌, ◌∷◌, ◌++◌}
use Rattle.std.proofs.Common.{◌∙◌}
use Rattle.lists.specs.Basics.{cond, ℕ, refl, sym, ap, ap₂, Bool, true, true≢false, List, [], map, arith}
use Rattle.lists.specs.Basics.{length, length-map, eqb, leb, eqb-true, eq-eqb, and_fst, and_snd, and_both, tests, all, joined}
use Rattle.lists.specs.All.{all_map, all_of, all_weaken}
use Rattle.lists.specs.Pieces.{AllOf, joined-pieces, length-joined}
use Rattle.model.specs.Types.{State, Record}
use Rattle.types.specs.declared.State.TheVariants.{Absent, Committed, Prepared}
use Rattle.model.specs.Layouts.{record_layout, key_layout, image_layout, columns_layout, record_bytes}
use Rattle.model.specs.Lines.{line_set, lines_of, lines_set, row_good, in_range}
use Rattle.model.specs.Records.{records_good, record_in, records, records_accepted, good_alone, state_rule, is_zero, absence, no_before, before_rule, absent_rule, committed_rule, prepared_rule, by_state}
use Rattle.model.specs.Records.{state_number, before_number, key_numbers, image_numbers, record_numbers, in_order, rising, key_less}
use Rattle.model.specs.Coordinator.{names_issued}
use Rattle.model.specs.TwoSheets.{plain_layout, bookkeeping_layout, plain_bytes, bookkeeping_bytes, join_line, plain_line, bookkeeping_line, join_lines, joined_sheet}
use Rattle.model.specs.TwoSheets.{plain_part, bookkeeping_part, plain_record, bookkeeping_record, plain_alone, bookkeeping_alone}
use Rattle.sheet_laws.specs.Fronts.{lines-joined}
use Rattle.two_laws.specs.Deciding.{whole, keys_agree, lines_agree}
use Rattle.two_laws.specs.Parts.{good_append}
use Rattle.two_laws.specs.TwoLines.{state_layout, rest_layout, no_rest, plain_of, bookkeeping_of, length-join_line, joined-bookkeeping_record, joined-bookkeeping-set}
use Rattle.two_laws.specs.TwoLines.{joined-plain_record, joined-plain-set, plain_back, bookkeeping_back, join_back, parts-agree, length-plain_line}
use Rattle.two_laws.specs.TwoLines.{length-bookkeeping_line}
use Rattle.two_laws.specs.FilledSheets.{lines_wide, record_lines_lem, lines_accepted}

-- lines of both sheets, pair by pair
pub data Pairs : List (List ℕ) → List (List ℕ) → Type 0 where
  none : Pairs [] []
  pair : {p b : List ℕ} {ps bs : List (List ℕ)} → length p ≡ plain_bytes → length b ≡ bookkeeping_bytes → keys_agree p b ≡ true → Pairs ps bs → Pairs (p ∷ ps) (b ∷ bs)

pairs_of : (ps bs : List (List ℕ)) → all (λ (x : List ℕ). eqb (length x) plain_bytes) ps ≡ true → all (λ (x : List ℕ). eqb (length x) bookkeeping_bytes) bs ≡ true → lines_agree ps bs ≡ true → Pairs ps bs
unfolding all lines_agree
pairs_of [] [] f g h = none
pairs_of [] (b ∷ bs) f g h = absurd (true≢false (sym h))
pairs_of (p ∷ ps) [] f g h = absurd (true≢false (sym h))
pairs_of (p ∷ ps) (b ∷ bs) f g h =
    pair (eqb-true (length p) plain_bytes (and_fst (eqb (length p) plain_bytes) (all (λ (x : List ℕ). eqb (length x) plain_bytes) ps) f))
    (eqb-true (length b) bookkeeping_bytes (and_fst (eqb (length b) bookkeeping_bytes) (all (λ (x : List ℕ). eqb (length x) bookkeeping_bytes) bs) g))
    (and_fst (keys_agree p b) (lines_agree ps bs) h)
    (pairs_of ps bs (and_snd (eqb (length p) plain_bytes) (all (λ (x : List ℕ). eqb (length x) plain_bytes) ps) f)
    (and_snd (eqb (length b) bookkeeping_bytes) (all (λ (x : List ℕ). eqb (length x) bookkeeping_bytes) bs) g)
    (and_snd (keys_agree p b) (lines_agree ps bs) h))

joins_wide : {ps bs : List (List ℕ)} → Pairs ps bs → AllOf record_bytes (join_lines ps bs)
unfolding join_lines
joins_wide none = tt
joins_wide (pair {p} {b} l m k r) = (length-join_line p b l m, joins_wide r)

plains_back : {ps bs : List (List ℕ)} → Pairs ps bs → map plain_line (join_lines ps bs) ≡ ps
unfolding join_lines
plains_back none = refl
plains_back (pair {p} {b} l m k r) = ap₂ ◌∷◌ (plain_back p b l m k) (plains_back r)

bookkeepings_back : {ps bs : List (List ℕ)} → Pairs ps bs → map bookkeeping_line (join_lines ps bs) ≡ bs
unfolding join_lines
bookkeepings_back none = refl
bookkeepings_back (pair {p} {b} l m k r) = ap₂ ◌∷◌ (bookkeeping_back p b l m) (bookkeepings_back r)

plains-set : {ps bs : List (List ℕ)} → Pairs ps bs → all (line_set record_layout) (join_lines ps bs) ≡ true → all (line_set plain_layout) ps ≡ true
unfolding join_lines all
plains-set none h = refl
plains-set (pair {p} {b} {ps} {bs} l m k r) h =
    and_both (joined-plain-set p b l m k (and_fst (line_set record_layout (join_line p b)) (all (line_set record_layout) (join_lines ps bs)) h))
    (plains-set r (and_snd (line_set record_layout (join_line p b)) (all (line_set record_layout) (join_lines ps bs)) h))

bookkeepings_set : {ps bs : List (List ℕ)} → Pairs ps bs → all (line_set record_layout) (join_lines ps bs) ≡ true → all (line_set bookkeeping_layout) bs ≡ true
unfolding join_lines all
bookkeepings_set none h = refl
bookkeepings_set (pair {p} {b} {ps} {bs} l m k r) h =
    and_both (joined-bookkeeping-set p b l m (and_fst (line_set record_layout (join_line p b)) (all (line_set record_layout) (join_lines ps bs)) h))
    (bookkeepings_set r (and_snd (line_set record_layout (join_line p b)) (all (line_set record_layout) (join_lines ps bs)) h))

plains_say : {ps bs : List (List ℕ)} → Pairs ps bs → map plain_record ps ≡ map (λ (r : Record). plain_of r) (map record_in (join_lines ps bs))
unfolding join_lines
plains_say none = refl
plains_say (pair {p} {b} l m k r) = ap₂ ◌∷◌ (joined-plain_record p b l m k) (plains_say r)

bookkeepings_say : {ps bs : List (List ℕ)} → Pairs ps bs → map bookkeeping_record bs ≡ map (λ (r : Record). bookkeeping_of r) (map record_in (join_lines ps bs))
unfolding join_lines
bookkeepings_say none = refl
bookkeepings_say (pair {p} {b} l m k r) = ap₂ ◌∷◌ (joined-bookkeeping_record p b l m) (bookkeepings_say r)

-- A change of records that keeps their keys and what is good alone keeps a good list good.
module _ (f : Record → Record) (keys : (r : Record) → (f r).key ≡ r.key) (kept : (r : Record) → good_alone r ≡ true → good_alone (f r) ≡ true) where
  rising-map : (rs : List Record) → rising (map f rs) ≡ rising rs
  unfolding rising in_order
  rising-map [] = refl
  rising-map (r ∷ []) = refl
  rising-map (r ∷ q ∷ rs) = ap₂ ◌&&◌ (ap₂ key_less (keys r) (keys q)) (rising-map (q ∷ rs))

  good_map : (rs : List Record) → records_good rs ≡ true → records_good (map f rs) ≡ true
  unfolding records_good
  good_map rs h =
      let b : leb (length rs) 500 ≡ true = search tests in
      let g : all good_alone rs ≡ true = search tests in
      let o : rising rs ≡ true = search tests in
      let n : length (map f rs) ≡ length rs = length-map rs f in
      let x : all good_alone (map f rs) ≡ true = all_map good_alone f rs ∙ all_weaken good_alone (λ (r : Record). good_alone (f r)) kept rs g in
      and_both
      (and_both (ap (λ (k : ℕ). leb k 500) n ∙ b) x)
      (rising-map rs ∙ o)

-- the numbers behind the columns
abbrev rest_numbers : Record → List ℕ
rest_numbers r = before_number r.prior ∷ image_numbers r.before ++ (r.clock ∷ [])

-- the ranges of a record's numbers, part by part
ranged-parts : (r : Record)
    → row_good record_layout (record_numbers r)
    ≡ (row_good key_layout (key_numbers r.key)
    && (row_good state_layout (state_number r.state ∷ r.image.version ∷ r.image.txid ∷ [])
    && (row_good columns_layout (r.image.column1 ∷ r.image.column2 ∷ []) && row_good rest_layout (rest_numbers r))))
unfolding record_numbers key_numbers image_numbers record_layout key_layout columns_layout image_layout
ranged-parts r =
    let m = state_number r.state ∷ r.image.version ∷ r.image.txid ∷ [] in
    let c = r.image.column1 ∷ r.image.column2 ∷ [] in
    let e = rest_numbers r in
    good_append key_layout (state_layout ++ (columns_layout ++ rest_layout)) (key_numbers r.key) (m ++ (c ++ e)) refl
    ∙ ap (λ (x : Bool). row_good key_layout (key_numbers r.key) && x)
    (good_append state_layout (columns_layout ++ rest_layout) m (c ++ e) refl
    ∙ ap (λ (x : Bool). row_good state_layout m && x) (good_append columns_layout rest_layout c e refl))

fixed_state_good : row_good state_layout (1 ∷ 1 ∷ 0 ∷ []) ≡ true
unfolding row_good in_range record_layout
fixed_state_good = refl

fixed_columns_good : row_good columns_layout (0 ∷ 0 ∷ []) ≡ true
unfolding row_good in_range record_layout image_layout columns_layout
fixed_columns_good = refl

fixed_rest_good : row_good rest_layout no_rest ≡ true
unfolding row_good in_range record_layout
fixed_rest_good = refl

-- a good record is good as either sheet has it
plain_good : (r : Record) → good_alone r ≡ true → good_alone (plain_of r) ≡ true
unfolding good_alone committed_rule no_before is_zero state_number before_number image_numbers
plain_good r h =
    let k = row_good key_layout (key_numbers r.key) in
    let m = row_good state_layout (state_number r.state ∷ r.image.version ∷ r.image.txid ∷ []) in
    let c = row_good columns_layout (r.image.column1 ∷ r.image.column2 ∷ []) in
    let e = row_good rest_layout (rest_numbers r) in
    let g : (k && (m && (c && e))) ≡ true =
    sym (ranged-parts r) ∙ and_fst (row_good record_layout (record_numbers r)) (state_rule r) h in
    let x : c ≡ true = and_fst c e (and_snd m (c && e) (and_snd k (m && (c && e)) g)) in
    let y : row_good record_layout (record_numbers (plain_of r)) ≡ true =
    ranged-parts (plain_of r) ∙ and_both (and_fst k (m && (c && e)) g) (and_both fixed_state_good (and_both x fixed_rest_good)) in
    and_both y refl

bookkeeping_good : (r : Record) → good_alone r ≡ true → good_alone (bookkeeping_of r) ≡ true
unfolding good_alone
bookkeeping_good r h =
    let k = row_good key_layout (key_numbers r.key) in
    let m = row_good state_layout (state_number r.state ∷ r.image.version ∷ r.image.txid ∷ []) in
    let c = row_good columns_layout (r.image.column1 ∷ r.image.column2 ∷ []) in
    let e = row_good rest_layout (rest_numbers r) in
    let g : (k && (m && (c && e))) ≡ true =
    sym (ranged-parts r) ∙ and_fst (row_good record_layout (record_numbers r)) (state_rule r) h in
    let y : row_good record_layout (record_numbers (bookkeeping_of r)) ≡ true =
    ranged-parts (bookkeeping_of r)
    ∙ and_both (and_fst k (m && (c && e)) g)
    (and_both (and_fst m (c && e) (and_snd k (m && (c && e)) g))
    (and_both fixed_columns_good (and_snd c e (and_snd m (c && e) (and_snd k (m && (c && e)) g))))) in
    and_both y (rule r.state (and_snd (row_good record_layout (record_numbers r)) (state_rule r) h))
  where
    same-before : no_before (bookkeeping_of r) ≡ no_before r
    same-before = unfold no_before in refl

    absent : absent_rule r ≡ true → absent_rule (bookkeeping_of r) ≡ true
    absent x =
        unfold absent_rule absence in
        let v : cond (eqb r.image.version 0) (eqb r.image.txid 0) (leb 1 r.image.txid) ≡ true = search tests in
        let b : no_before r ≡ true = search tests in
        and_both (and_both (and_both v refl) refl) (same-before ∙ b)

    rule : (s : State) → by_state s (absent_rule r) (committed_rule r) (prepared_rule r) ≡ true → by_state s (absent_rule (bookkeeping_of r)) (committed_rule (bookkeeping_of r)) (prepared_rule (bookkeeping_of r)) ≡ true
    rule Absent x = absent x
    rule Committed x = unfold committed_rule no_before in x
    rule Prepared x = unfold prepared_rule before_rule in x

-- Two sheets of whole lines whose keys agree.
module _ (ps bs : List ℕ) (wp : whole plain_bytes ps ≡ true) (wb : whole bookkeeping_bytes bs ≡ true)
    (agree : lines_agree (lines_of plain_bytes ps) (lines_of bookkeeping_bytes bs) ≡ true) where
  pairs : Pairs (lines_of plain_bytes ps) (lines_of bookkeeping_bytes bs)
  pairs = pairs_of (lines_of plain_bytes ps) (lines_of bookkeeping_bytes bs) (lines_wide plain_bytes ps wp) (lines_wide bookkeeping_bytes bs wb) agree

  -- line i of either sheet is the part of line i joined
  pub plain_lines_lem : map plain_line (lines_of record_bytes (joined_sheet ps bs)) ≡ lines_of plain_bytes ps
  unfolding joined_sheet
  plain_lines_lem =
      ap (map plain_line) (record_lines_lem (join_lines (lines_of plain_bytes ps) (lines_of bookkeeping_bytes bs)) (joins_wide pairs)).1 ∙ plains_back pairs

  pub bookkeeping_lines_lem : map bookkeeping_line (lines_of record_bytes (joined_sheet ps bs)) ≡ lines_of bookkeeping_bytes bs
  unfolding joined_sheet
  bookkeeping_lines_lem =
      ap (map bookkeeping_line) (record_lines_lem (join_lines (lines_of plain_bytes ps) (lines_of bookkeeping_bytes bs)) (joins_wide pairs)).1 ∙ bookkeepings_back pairs

  -- split-join
  pub plain_part-joined : plain_part (joined_sheet ps bs) ≡ ps
  unfolding plain_part lines_of
  plain_part-joined =
      ap joined plain_lines_lem ∙ joined-pieces plain_bytes (length ps / plain_bytes) ps (eqb-true (length ps) (length ps / plain_bytes * plain_bytes) wp)

  pub bookkeeping_part-joined : bookkeeping_part (joined_sheet ps bs) ≡ bs
  unfolding bookkeeping_part lines_of
  bookkeeping_part-joined =
      ap joined bookkeeping_lines_lem
      ∙ joined-pieces bookkeeping_bytes (length bs / bookkeeping_bytes) bs (eqb-true (length bs) (length bs / bookkeeping_bytes * bookkeeping_bytes) wb)

  -- the bookkeeping sheet names the numbers that the joined sheet names
  pub issued-joined : (n : ℕ) → all (names_issued n) (map bookkeeping_record (lines_of bookkeeping_bytes bs)) ≡ all (names_issued n) (records (joined_sheet ps bs))
  unfolding records joined_sheet names_issued
  issued-joined n =
      let js = join_lines (lines_of plain_bytes ps) (lines_of bookkeeping_bytes bs) in
      ap (all (names_issued n)) (bookkeepings_say pairs)
      ∙ (all_map (names_issued n) (λ (r : Record). bookkeeping_of r) (map record_in js)
      ∙ ap (λ (ls : List (List ℕ)). all (names_issued n) (map record_in ls)) (sym (record_lines_lem js (joins_wide pairs)).1))

  -- joined-accepted: where the joined sheet is accepted, either sheet is good alone
  module _ (accepted : records_accepted (joined_sheet ps bs) ≡ true) where
    both : (all (line_set record_layout) (join_lines (lines_of plain_bytes ps) (lines_of bookkeeping_bytes bs))
        && records_good (map record_in (join_lines (lines_of plain_bytes ps) (lines_of bookkeeping_bytes bs))))
        ≡ true
    unfolding joined_sheet
    both = sym (lines_accepted (join_lines (lines_of plain_bytes ps) (lines_of bookkeeping_bytes bs)) (joins_wide pairs)) ∙ accepted

    lines_good : all (line_set record_layout) (join_lines (lines_of plain_bytes ps) (lines_of bookkeeping_bytes bs)) ≡ true
    lines_good =
        and_fst (all (line_set record_layout) (join_lines (lines_of plain_bytes ps) (lines_of bookkeeping_bytes bs)))
        (records_good (map record_in (join_lines (lines_of plain_bytes ps) (lines_of bookkeeping_bytes bs)))) both

    records_good_lem : records_good (map record_in (join_lines (lines_of plain_bytes ps) (lines_of bookkeeping_bytes bs))) ≡ true
    records_good_lem =
        and_snd (all (line_set record_layout) (join_lines (lines_of plain_bytes ps) (lines_of bookkeeping_bytes bs)))
        (records_good (map record_in (join_lines (lines_of plain_bytes ps) (lines_of bookkeeping_bytes bs)))) both

    pub joined-plain : plain_alone ps ≡ true
    unfolding plain_alone lines_set
    joined-plain =
        and_both (and_both wp (plains-set pairs lines_good))
        (ap records_good (plains_say pairs) ∙ good_map (λ (r : Record). plain_of r) (λ r. refl) plain_good _ records_good_lem)

    pub joined-bookkeeping : bookkeeping_alone bs ≡ true
    unfolding bookkeeping_alone lines_set
    joined-bookkeeping =
        and_both (and_both wb (bookkeepings_set pairs lines_good))
        (ap records_good (bookkeepings_say pairs) ∙ good_map (λ (r : Record). bookkeeping_of r) (λ r. refl) bookkeeping_good _ records_good_lem)

-- lines of record width, and their parts
abbrev is_wide : List ℕ → Bool
is_wide x = eqb (length x) record_bytes

plains : (ls : List (List ℕ)) → all is_wide ls ≡ true → lines_of plain_bytes (joined (map plain_line ls)) ≡ map plain_line ls
plains ls w =
    let o : AllOf plain_bytes (map plain_line ls) = all_of plain_bytes is_wide plain_line (λ x e. length-plain_line x (eqb-true (length x) record_bytes e)) ls w in
    lines-joined plain_bytes (omega arith) (map plain_line ls) o

bookkeepings : (ls : List (List ℕ)) → all is_wide ls ≡ true → lines_of bookkeeping_bytes (joined (map bookkeeping_line ls)) ≡ map bookkeeping_line ls
bookkeepings ls w =
    let o : AllOf bookkeeping_bytes (map bookkeeping_line ls) =
    all_of bookkeeping_bytes is_wide bookkeeping_line (λ x e. length-bookkeeping_line x (eqb-true (length x) record_bytes e)) ls w in
    lines-joined bookkeeping_bytes (omega arith) (map bookkeeping_line ls) o

joins : (ls : List (List ℕ)) → all is_wide ls ≡ true → join_lines (map plain_line ls) (map bookkeeping_line ls) ≡ ls
unfolding join_lines all
joins [] w = refl
joins (l ∷ ls) w =
    ap₂ ◌∷◌ (join_back l (eqb-true (length l) record_bytes (and_fst (is_wide l) (all is_wide ls) w))) (joins ls (and_snd (is_wide l) (all is_wide ls) w))

-- join-split: the two parts of a sheet of whole lines join to it
pub join_split : (s : List ℕ) → whole record_bytes s ≡ true → joined_sheet (plain_part s) (bookkeeping_part s) ≡ s
unfolding joined_sheet plain_part bookkeeping_part lines_of
join_split s h =
    let wide : all is_wide (lines_of record_bytes s) ≡ true = lines_wide record_bytes s h in
    ap₂ (λ (x y : List (List ℕ)). joined (join_lines x y)) (plains (lines_of record_bytes s) wide) (bookkeepings (lines_of record_bytes s) wide)
    ∙ (ap joined (joins (lines_of record_bytes s) wide)
    ∙ joined-pieces record_bytes (length s / record_bytes) s (eqb-true (length s) (length s / record_bytes * record_bytes) h))

agree-lines : (ls : List (List ℕ)) → all is_wide ls ≡ true → lines_agree (map plain_line ls) (map bookkeeping_line ls) ≡ true
unfolding lines_agree all
agree-lines [] w = refl
agree-lines (l ∷ ls) w =
    and_both (parts-agree l (eqb-true (length l) record_bytes (and_fst (is_wide l) (all is_wide ls) w)))
    (agree-lines ls (and_snd (is_wide l) (all is_wide ls) w))

-- the two parts of a sheet of whole lines agree
pub split_agrees : (s : List ℕ) → whole record_bytes s ≡ true → lines_agree (lines_of plain_bytes (plain_part s)) (lines_of bookkeeping_bytes (bookkeeping_part s)) ≡ true
unfolding plain_part bookkeeping_part
split_agrees s h =
    let wide : all is_wide (lines_of record_bytes s) ≡ true = lines_wide record_bytes s h in
    ap₂ lines_agree (plains (lines_of record_bytes s) wide) (bookkeepings (lines_of record_bytes s) wide) ∙ agree-lines (lines_of record_bytes s) wide

-- and have whole lines
pub split_whole : (s : List ℕ) → whole record_bytes s ≡ true → (whole plain_bytes (plain_part s) ≡ true) × (whole bookkeeping_bytes (bookkeeping_part s) ≡ true)
unfolding plain_part bookkeeping_part
split_whole s h =
    let wide : all is_wide (lines_of record_bytes s) ≡ true = lines_wide record_bytes s h in
    let ls = lines_of record_bytes s in
    let p = joined (map plain_line ls) in
    let b = joined (map bookkeeping_line ls) in
    let n : length p ≡ length (map plain_line ls) * plain_bytes =
    length-joined plain_bytes (map plain_line ls) (all_of plain_bytes is_wide plain_line (λ x e. length-plain_line x (eqb-true (length x) record_bytes e)) ls wide) in
    let m : length b ≡ length (map bookkeeping_line ls) * bookkeeping_bytes =
    length-joined bookkeeping_bytes (map bookkeeping_line ls)
    (all_of bookkeeping_bytes is_wide bookkeeping_line (λ x e. length-bookkeeping_line x (eqb-true (length x) record_bytes e)) ls wide) in
    let x : length p ≡ length p / plain_bytes * plain_bytes = omega arith in
    let y : length b ≡ length b / bookkeeping_bytes * bookkeeping_bytes = omega arith in
    (eq-eqb (length p) (length p / plain_bytes * plain_bytes) x, eq-eqb (length b) (length b / bookkeeping_bytes * bookkeeping_bytes) y)
