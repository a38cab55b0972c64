-- Records as numbers, judged row by row: each row by itself, and its key against the next row's. Where a row is in range,
-- its record's numbers are the row again, so that the record's ranges need not be asked twice.
use Rattle.std.specs.Prelude.{◌≡◌, ◌+◌, ◌-◌, ◌*◌, ◌/◌, ◌≤◌, ◌<◌, ◌&&◌, ◌∷◌}
use Rattle.std.proofs.Common.{◌∙◌}
use Rattle.lists.specs.Basics.{refl, sym, ap, ap₂, ℕ, zero, suc, eqb, Bool, true, false, List, [], map}
use Rattle.lists.specs.Basics.{length, drop, get_or, length-map, length-take, length-drop, arith, eq-eqb, le-leb, all, and_fst, and_snd, and_both, same_test, and_assoc, and-true, get_or-drop}
use Rattle.lists.specs.All.{pieces_whole, get_or_any}
use Rattle.lists.specs.Pieces.{get_or-pieces}
use Rattle.lists.specs.Chains.{all_is}
use Rattle.lists.specs.Tests.{and_swap}
use Rattle.std.specs.List.{list_all, zip}
use Rattle.model.specs.Layouts.{record_layout, record_fields}
use Rattle.model.specs.Lines.{row_good}
use Rattle.model.specs.Records.{record_of, record_numbers, state_rule, good_alone, key_less, in_order, rising, records_good, rows, rows_accepted}
use Rattle.model.specs.Spares.{sized}
use Rattle.model.specs.SheetCalls.{rows_front, all_rows_accepted}
use Rattle.sheet_laws.specs.Numbers.{length-rows, row_same}
use Rattle.sheet_laws.specs.Fronts.{sized-whole, sized-few}
use Rattle.sheet_laws.specs.SparedNumbers.{rows-within, rows_front-count, rows_front-whole}

-- a row good by itself
unfoldable pub row_ok : List ℕ → Bool
row_ok v = row_good record_layout v && state_rule (record_of v)

-- every row good by itself and before the next
unfoldable pub rows_pass : List (List ℕ) → Bool
rows_pass vs = all row_ok vs && rising (map record_of vs)

abbrev whole : List ℕ → Bool
whole v = eqb (length v) record_fields

-- a row in range and its record
row_good_lem : (v : List ℕ) → whole v ≡ true → (row_good record_layout v && good_alone (record_of v)) ≡ row_ok v
unfolding good_alone row_ok
row_good_lem v n =
    same_test (row_good record_layout v && good_alone (record_of v)) (row_ok v)
    (λ h.
    let g : row_good record_layout v ≡ true = and_fst (row_good record_layout v) (good_alone (record_of v)) h in
    let r = and_snd (row_good record_layout v) (good_alone (record_of v)) h in
    and_both g (and_snd (row_good record_layout (record_numbers (record_of v))) (state_rule (record_of v)) r))
    (λ h.
    let g : row_good record_layout v ≡ true = and_fst (row_good record_layout v) (state_rule (record_of v)) h in
    let e : record_numbers (record_of v) ≡ v = row_same v (and_both g n) in
    and_both g (and_both (ap (row_good record_layout) e ∙ g) (and_snd (row_good record_layout v) (state_rule (record_of v)) h)))

each_good : (vs : List (List ℕ)) → all whole vs ≡ true → (all (row_good record_layout) vs && all good_alone (map record_of vs)) ≡ all row_ok vs
unfolding all
each_good [] n = refl
each_good (v ∷ vs) n =
    and_swap (row_good record_layout v) (all (row_good record_layout) vs) (good_alone (record_of v)) (all good_alone (map record_of vs))
    ∙ ap₂ ◌&&◌ (row_good_lem v (and_fst (whole v) (all whole vs) n)) (each_good vs (and_snd (whole v) (all whole vs) n))

pub rows_pass_lem : (vs : List (List ℕ)) → all whole vs ≡ true → (all (row_good record_layout) vs && (all good_alone (map record_of vs) && rising (map record_of vs))) ≡ rows_pass vs
unfolding rows_pass
rows_pass_lem vs n =
    sym (and_assoc (all (row_good record_layout) vs) (all good_alone (map record_of vs)) (rising (map record_of vs)))
    ∙ ap (λ (b : Bool). b && rising (map record_of vs)) (each_good vs n)

-- the key of the first row of a pair comes before that of the second
abbrev pub ordered : List ℕ × List ℕ → Bool
ordered p = key_less (record_of p.0).key (record_of p.1).key

-- neighbours are the rows beside those from the second on
pub rising_is : (vs : List (List ℕ)) → list_all ordered (zip vs (drop 1 vs)) ≡ rising (map record_of vs)
unfolding rising in_order
rising_is [] = refl
rising_is (v ∷ []) = refl
rising_is (v ∷ w ∷ vs) = ap (λ (b : Bool). ordered (v, w) && b) (rising_is (w ∷ vs))

-- where the two rows of a pair stand
pairs_at : (vs : List (List ℕ)) (k : ℕ) (p : List ℕ × List ℕ) → k < length (zip vs (drop 1 vs)) → p ≡ get_or (zip vs (drop 1 vs)) k p → (k + 1 < length vs) × (p.0 ≡ get_or vs k []) × (p.1 ≡ get_or vs (k + 1) [])
pairs_at [] k p l e = absurd (omega arith)
pairs_at (v ∷ []) k p l e = absurd (omega arith)
pairs_at (v ∷ w ∷ vs) zero p l e = (omega arith, ap (λ (q : List ℕ × List ℕ). q.0) e, ap (λ (q : List ℕ × List ℕ). q.1) e)
pairs_at (v ∷ w ∷ vs) (suc k) p l e =
    let r = pairs_at (w ∷ vs) k p (omega arith) e in
    let n : suc k + 1 ≡ suc (k + 1) = omega arith in
    (omega (arith, r.0), r.1, r.2 ∙ ap (λ (i : ℕ). get_or (v ∷ w ∷ vs) i []) (sym n))

-- both have sixteen numbers
pub pair_whole : (v : List ℕ) (k : ℕ) (p : List ℕ × List ℕ) → k < length (zip (rows v) (drop 1 (rows v))) → p ≡ get_or (zip (rows v) (drop 1 (rows v))) k p → (length p.0 ≡ record_fields) × (length p.1 ≡ record_fields)
unfolding rows
pair_whole v k p l e =
    let r = pairs_at (rows v) k p l e in
    let n : k + 1 < length v / record_fields = omega (arith, r.0, length-rows v) in (
      ap length (r.1 ∙ get_or-pieces record_fields k (length v / record_fields) v (omega arith)) ∙ simp (length-take, length-drop) (omega arith),
      ap length (r.2 ∙ get_or-pieces record_fields (k + 1) (length v / record_fields) v n) ∙ simp (length-take, length-drop) (omega arith),
    )

-- a row behind some others has sixteen numbers too
pub last_whole : (v : List ℕ) (n k : ℕ) (r : List ℕ) → k < length (drop n (rows v)) → r ≡ get_or (drop n (rows v)) k r → length r ≡ record_fields
unfolding rows
last_whole v n k r l e =
    let m : n + k < length (rows v) = omega (arith, length-drop n (rows v)) in
    let j : n + k < length v / record_fields = omega (arith, m, length-rows v) in
    ap length (e ∙ (get_or_any (drop n (rows v)) k r [] l ∙ (get_or-drop n (rows v) k [] ∙ get_or-pieces record_fields (n + k) (length v / record_fields) v j))) ∙ simp (length-take, length-drop) (omega arith)

-- a pair's first row is good, and before the second
abbrev pub pair_good : List ℕ × List ℕ → Bool
pair_good p = row_ok p.0 && ordered p

-- every row but the last is the first of a pair
pairs_last : (k : ℕ) (vs : List (List ℕ)) → k + 1 ≡ length vs → (list_all pair_good (zip vs (drop 1 vs)) && list_all row_ok (drop k vs)) ≡ rows_pass vs
unfolding rows_pass rising in_order all
pairs_last k [] e = absurd (omega arith)
pairs_last zero (v ∷ []) e = sym (and-true (row_ok v && true))
pairs_last zero (v ∷ w ∷ vs) e = absurd (omega arith)
pairs_last (suc k) (v ∷ []) e = absurd (omega arith)
pairs_last (suc k) (v ∷ w ∷ vs) e =
    let n : k + 1 ≡ length (w ∷ vs) = omega arith in
    and_assoc (pair_good (v, w)) (list_all pair_good (zip (w ∷ vs) vs)) (list_all row_ok (drop k (w ∷ vs)))
    ∙ (ap (λ (b : Bool). pair_good (v, w) && b) (pairs_last k (w ∷ vs) n)
    ∙ and_swap (row_ok v) (ordered (v, w)) (all row_ok (w ∷ vs)) (rising (map record_of (w ∷ vs))))

pub one_by_one : (vs : List (List ℕ)) (k : ℕ) → k ≡ length vs - 1 → (list_all pair_good (zip vs (drop 1 vs)) && list_all row_ok (drop k vs)) ≡ rows_pass vs
unfolding rows_pass rising all
one_by_one [] k e = let z : k ≡ 0 = omega arith in rw z refl
one_by_one (v ∷ vs) k e = pairs_last k (v ∷ vs) (omega (arith, e))

-- a bad pair settles it; with good pairs alone, the last row does
pub pairs_out : (vs : List (List ℕ)) → list_all pair_good (zip vs (drop 1 vs)) ≡ false → false ≡ rows_pass vs
pairs_out vs e = sym (ap (λ (b : Bool). b && list_all row_ok (drop (length vs - 1) vs)) e) ∙ one_by_one vs (length vs - 1) refl

pub pairs_in : (vs : List (List ℕ)) (k : ℕ) → k ≡ length vs - 1 → list_all pair_good (zip vs (drop 1 vs)) ≡ true → list_all row_ok (drop k vs) ≡ rows_pass vs
pairs_in vs k n e = sym (ap (λ (b : Bool). b && list_all row_ok (drop k vs)) e) ∙ one_by_one vs k n

-- a bad row settles it; with good rows alone, the order does
pub stopped : (vs : List (List ℕ)) → list_all row_ok vs ≡ false → false ≡ rows_pass vs
unfolding rows_pass
stopped vs e = sym (ap (λ (b : Bool). b && rising (map record_of vs)) (sym (all_is row_ok vs) ∙ e))

pub went_on : (vs : List (List ℕ)) → list_all row_ok vs ≡ true → list_all ordered (zip vs (drop 1 vs)) ≡ rows_pass vs
unfolding rows_pass
went_on vs e = rising_is vs ∙ sym (ap (λ (b : Bool). b && rising (map record_of vs)) (sym (all_is row_ok vs) ∙ e))

rows_whole : (v : List ℕ) → length v ≡ length v / record_fields * record_fields → all whole (rows v) ≡ true
unfolding rows
rows_whole v n = pieces_whole record_fields (length v / record_fields) v n

-- the acceptance of whole rows that are few enough
few-rows : (v : List ℕ) → length v ≡ length v / record_fields * record_fields → length v / record_fields ≤ 500 → rows_accepted v ≡ rows_pass (rows v)
unfolding rows_accepted records_good
few-rows v w l =
    let n : length (map record_of (rows v)) ≡ length v / record_fields = length-map (rows v) record_of ∙ length-rows v in
    rw (eq-eqb (length v) (length v / record_fields * record_fields) w, le-leb (length (map record_of (rows v))) 500 (omega arith))
    (rows_pass_lem (rows v) (rows_whole v w))

-- the acceptance of numbers: their size, and the rows before the spares
pub rows_unsized : (v : List ℕ) → sized record_fields v ≡ false → false ≡ all_rows_accepted v
unfolding all_rows_accepted
rows_unsized v h = sym (ap (λ (x : Bool). x && rows_accepted (rows_front v)) h)

pub rows-sized : (v : List ℕ) → sized record_fields v ≡ true → rows_pass (rows (rows_front v)) ≡ all_rows_accepted v
unfolding all_rows_accepted
rows-sized v h =
    let w : length v ≡ length v / record_fields * record_fields = sized-whole record_fields v h in
    let l : length (rows_front v) / record_fields ≤ 500 = omega (arith, sized-few record_fields v h, rows-within v w, rows_front-count v w) in
    sym (ap (λ (x : Bool). x && rows_accepted (rows_front v)) h ∙ few-rows (rows_front v) (rows_front-whole v w) l)

pub row_out : (v : List ℕ) → row_good record_layout v ≡ false → false ≡ row_ok v
unfolding row_ok
row_out v e = rw e

pub row_in : (v : List ℕ) → row_good record_layout v ≡ true → state_rule (record_of v) ≡ row_ok v
unfolding row_ok
row_in v e = rw e
