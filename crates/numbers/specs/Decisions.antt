-- A coordinator as numbers, judged decision by decision: below the issued count any of the three, from it on none.
-- The two tests of the rules, range and no decision, are one pass, by induction on the decisions.
use Rattle.std.specs.Prelude.{◌≡◌, ◌+◌, ◌-◌, ◌*◌, ◌/◌, ◌%◌, ◌≤◌, ◌<◌, ◌&&◌, ◌∷◌}
use Rattle.std.proofs.Common.{◌∙◌}
use Rattle.lists.specs.Basics.{refl, sym, ap, ap₂, ℕ, zero, suc, eqb, leb, Bool, true, false, not, and_assoc}
use Rattle.lists.specs.Basics.{and-true, and-false, List, [], map, length, take, drop, get_or, length-map, length-take, length-drop, arith, eqb-true, leb-true, eq-eqb}
use Rattle.lists.specs.Basics.{ne_eqb, all, same_test}
use Rattle.std.proofs.Math.Dec.{leb-zero}
use Rattle.lists.specs.Tests.{and_swap}
use Rattle.model.specs.Layouts.{head_layout, decision_column, coordinator_bytes, head_fields}
use Rattle.model.specs.Lines.{in_range, row_good}
use Rattle.model.specs.Coordinator.{decision_of, letter_of, is_undecided, coordinator_good, all_capitals, coordinator_from, numbers_accepted}

-- every decision is in range, and none stands from the issued count k on
unfoldable pub decisions_pass : ℕ → List ℕ → Bool
decisions_pass k ds = all (λ (d : ℕ). leb d 2) ds && all (λ (d : ℕ). eqb d 0) (drop k ds)

-- the tests of the rules are these
ranged : (ds : List ℕ) → all (in_range decision_column) ds ≡ all (λ (d : ℕ). leb d 2) ds
unfolding all in_range
ranged [] = refl
ranged (d ∷ ds) = ap₂ ◌&&◌ (ap (λ (b : Bool). b && leb d 2) (leb-zero d)) (ranged ds)

undecided : (ds : List ℕ) → all is_undecided (map decision_of ds) ≡ all (λ (d : ℕ). eqb d 0) ds
unfolding all is_undecided decision_of
undecided [] = refl
undecided (zero ∷ ds) = undecided ds
undecided (suc zero ∷ ds) = rw (ne_eqb 1 0 (λ e. omega arith))
undecided (suc (suc d) ∷ ds) = rw (ne_eqb (suc (suc d)) 0 (λ e. omega arith))

pub decisions_pass_lem : (k : ℕ) (ds : List ℕ) → (all (in_range decision_column) ds && all is_undecided (drop k (map decision_of ds))) ≡ decisions_pass k ds
unfolding decisions_pass
decisions_pass_lem k ds = ap₂ ◌&&◌ (ranged ds) (ap (all is_undecided) (drop-map k ds) ∙ undecided (drop k ds))
  where
    drop-map : (k : ℕ) (ds : List ℕ) → drop k (map decision_of ds) ≡ map decision_of (drop k ds)
    drop-map zero ds = refl
    drop-map (suc k) [] = refl
    drop-map (suc k) (d ∷ ds) = drop-map k ds

-- those below the issued count are in range, and behind them none is a decision
pub decisions_split : (k : ℕ) (ds : List ℕ) → (all (λ (d : ℕ). leb d 2) (take k ds) && all (λ (d : ℕ). eqb d 0) (drop k ds)) ≡ decisions_pass k ds
unfolding decisions_pass all
decisions_split zero [] = refl
decisions_split zero (d ∷ ds) = go (leb d 2) refl (eqb d 0) refl (decisions_split zero ds)
  where
    go : (b : Bool) → leb d 2 ≡ b → (e : Bool) → eqb d 0 ≡ e → all (λ (x : ℕ). eqb x 0) ds ≡ (all (λ (x : ℕ). leb x 2) ds && all (λ (x : ℕ). eqb x 0) ds)
        → (eqb d 0 && all (λ (x : ℕ). eqb x 0) ds) ≡ ((leb d 2 && all (λ (x : ℕ). leb x 2) ds) && (eqb d 0 && all (λ (x : ℕ). eqb x 0) ds))
    go b h false e i = rw e (sym (and-false (leb d 2 && all (λ (x : ℕ). leb x 2) ds)))
    go b h true e i =
        let z : d ≡ 0 = eqb-true d 0 e in
        rw z i
decisions_split (suc k) [] = refl
decisions_split (suc k) (d ∷ ds) =
    and_assoc (leb d 2) (all (λ (x : ℕ). leb x 2) (take k ds)) (all (λ (x : ℕ). eqb x 0) (drop k ds))
    ∙ (ap (λ (b : Bool). leb d 2 && b) (decisions_split k ds)
    ∙ sym (and_assoc (leb d 2) (all (λ (x : ℕ). leb x 2) ds) (all (λ (x : ℕ). eqb x 0) (drop k ds))))

-- where one below the issued count is out of range
pub decisions_out : (k : ℕ) (ds : List ℕ) → all (λ (d : ℕ). leb d 2) (take k ds) ≡ false → false ≡ decisions_pass k ds
decisions_out k ds e = sym (ap (λ (b : Bool). b && all (λ (d : ℕ). eqb d 0) (drop k ds)) e) ∙ decisions_split k ds

pub decisions_in : (k : ℕ) (ds : List ℕ) → all (λ (d : ℕ). leb d 2) (take k ds) ≡ true → all (λ (d : ℕ). eqb d 0) (drop k ds) ≡ decisions_pass k ds
decisions_in k ds e = sym (ap (λ (b : Bool). b && all (λ (d : ℕ). eqb d 0) (drop k ds)) e) ∙ decisions_split k ds

-- no number past that of the last capital says one
pub capitals_is : (letters : List ℕ) → all (λ (n : ℕ). leb n 4) letters ≡ all_capitals (map letter_of letters)
unfolding all all_capitals letter_of
capitals_is [] = refl
capitals_is (n ∷ letters) = ap₂ ◌&&◌ (go (leb n 4)) (capitals_is letters)
  where
    go : (b : Bool) → b ≡ not (not b)
    go true = refl
    go false = refl

-- what the code asks of numbers, in its order
abbrev asked_of : List ℕ → Bool
asked_of v =
    leb head_fields (length v)
    && (row_good head_layout (take head_fields v)
    && (all_capitals (map letter_of (take 9 (drop 1 v)))
    && (leb 1 (length v - head_fields)
    && (leb (length v - head_fields) 999
    && (leb (get_or v 0 0) (length v - head_fields) && decisions_pass (get_or v 0 0) (drop head_fields v))))))

-- the letters judged before the decisions, and these last
reorder : (g k a b c d z : Bool) → (g && a && (b && c && d && z) && k) ≡ (g && (k && (b && (c && (d && (a && z))))))
reorder false k a b c d z = refl
reorder true false a b c d z = and-false (a && (b && c && d && z))
reorder true true a b c d z =
    and-true (a && (b && c && d && z))
    ∙ (and_swap true a (b && c && d) z ∙ (and_assoc (b && c) d (a && z) ∙ and_assoc b c (d && (a && z))))

-- the acceptance of numbers is what the code asks
pub accepted_numbers : (v : List ℕ) → numbers_accepted v ≡ asked_of v
unfolding numbers_accepted coordinator_good coordinator_from
accepted_numbers v = go (leb head_fields (length v)) refl
  where
    count : length (map decision_of (drop head_fields v)) ≡ length v - head_fields
    count = length-map (drop head_fields v) decision_of ∙ length-drop head_fields v

    go : (b : Bool) → leb head_fields (length v) ≡ b → numbers_accepted v ≡ asked_of v
    go true e =
        let l = leb-true head_fields (length v) e in
        let n : length (map letter_of (take 9 (drop 1 v))) ≡ 9 = length-map (take 9 (drop 1 v)) letter_of ∙ simp (length-take, length-drop) (omega arith) in
        rw (e, n, count)
        (reorder (row_good head_layout (take head_fields v)) (all_capitals (map letter_of (take 9 (drop 1 v)))) (all (in_range decision_column) (drop head_fields v)) (leb 1 (length v - head_fields)) (leb (length v - head_fields) 999) (leb (get_or v 0 0) (length v - head_fields)) (all is_undecided (drop (get_or v 0 0) (map decision_of (drop head_fields v))))
        ∙ ap (λ (b : Bool). row_good head_layout (take head_fields v) && (all_capitals (map letter_of (take 9 (drop 1 v))) && (leb 1 (length v - head_fields) && (leb (length v - head_fields) 999 && (leb (get_or v 0 0) (length v - head_fields) && b))))) (decisions_pass_lem (get_or v 0 0) (drop head_fields v)))
    go false e = rw e

-- The room for a head and n lines, by whole lines.

pub room_short : (m n : ℕ) → m < coordinator_bytes → false ≡ eqb m (coordinator_bytes + n * coordinator_bytes)
room_short m n l = sym (ne_eqb m (coordinator_bytes + n * coordinator_bytes) (λ e. omega arith))

pub room_broken : (m n : ℕ) → (m % coordinator_bytes ≡ 0 → ⊥) → false ≡ eqb m (coordinator_bytes + n * coordinator_bytes)
room_broken m n b = sym (ne_eqb m (coordinator_bytes + n * coordinator_bytes) (λ e. b (omega arith)))

pub room_lines : (m n : ℕ) → coordinator_bytes ≤ m → m % coordinator_bytes ≡ 0 → eqb (m / coordinator_bytes - 1) n ≡ eqb m (coordinator_bytes + n * coordinator_bytes)
room_lines m n l w =
    same_test (eqb (m / coordinator_bytes - 1) n) (eqb m (coordinator_bytes + n * coordinator_bytes))
    (λ e. let q = eqb-true (m / coordinator_bytes - 1) n e in eq-eqb m (coordinator_bytes + n * coordinator_bytes) (omega arith))
    (λ e. let q = eqb-true m (coordinator_bytes + n * coordinator_bytes) e in eq-eqb (m / coordinator_bytes - 1) n (omega arith))
