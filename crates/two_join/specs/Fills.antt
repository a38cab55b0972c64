-- A sheet filled with fixed text, so that the check of a joined sheet tells whether it is good alone: the parts of a filled line, one after another, as the code writes
-- them.
use Rattle.std.specs.Prelude.{◌+◌, ◌-◌, ◌*◌, ◌≤◌, ◌≡◌, ◌++◌}
use Rattle.std.proofs.Common.{◌∙◌}
use Rattle.lists.specs.Basics.{ℕ, sym, ap, ap₂, List, append_assoc, arith}
use Rattle.lists.specs.Basics.{length, take, drop, length-take, length-drop, length-append, drop-drop, take-take, take_all, bytes}
use Rattle.lists.specs.Pieces.{over, over_next, take-drop-take}
use Rattle.model.specs.Layouts.{record_bytes}
use Rattle.model.specs.TwoSheets.{plain_bytes, bookkeeping_bytes}
use Rattle.two_laws.specs.Deciding.{fixed_state, fixed_columns, fixed_rest, fill_plain, fill_bookkeeping}
use Rattle.two_join.specs.Joins.{rest_bytes}
use Rattle.two_join.specs.Splits.{line_in}

-- where LF stands in a line of a joined sheet
abbrev pub record_end : ℕ
record_end = record_bytes - 1

-- three parts, one after another
over-three : (s x y z : List ℕ) (a b c : ℕ) → b ≡ a + length x → c ≡ b + length y → a + length (x ++ (y ++ z)) ≤ length s
    → over (over (over s a x) b y) c z ≡ over s a (x ++ (y ++ z))
over-three s x y z a b c e f l =
    let p : length (x ++ (y ++ z)) ≡ length x + (length y + length z) = simp length-append (omega arith) in
    let q : length (x ++ y) ≡ length x + length y = simp length-append (omega arith) in
    ap (λ (t : List ℕ). over t c z) (over_next s x y a b e (omega arith))
    ∙ (over_next s (x ++ y) z a c (omega (arith, q)) (omega arith) ∙ ap (over s a) (append_assoc x y z))

-- The bookkeeping line: its first fields, columns 0, and the rest.
pub bookkeeping-filled : (bs : List ℕ) (i : ℕ) → i * bookkeeping_bytes + bookkeeping_bytes ≤ length bs → (s u : List ℕ) → i * record_bytes + record_bytes ≤ length s
    → u ≡ over (over (over s (i * record_bytes) (take 40 (drop (i * bookkeeping_bytes) bs))) (i * record_bytes + 40) fixed_columns) (i * record_bytes + 58) (take rest_bytes (drop (i * bookkeeping_bytes + 40) bs))
    → u ≡ over s (i * record_bytes) (fill_bookkeeping (line_in bookkeeping_bytes bs i))
unfolding fill_bookkeeping fixed_columns bytes
bookkeeping-filled bs i m s u l h =
    let rest = drop (i * bookkeeping_bytes) bs in
    let x = take 40 rest in
    let z = take rest_bytes (drop (i * bookkeeping_bytes + 40) bs) in
    let p : length x ≡ 40 = simp (length-take, length-drop) (omega arith) in
    let q : length z ≡ rest_bytes = simp (length-take, length-drop) (omega arith) in
    let k : length (x ++ (fixed_columns ++ z)) ≡ record_bytes = simp length-append (omega (arith, p, q)) in
    let front : take 40 (take bookkeeping_bytes rest) ≡ x = take-take 40 bookkeeping_bytes rest (omega arith) in
    let n : length (drop 40 (take bookkeeping_bytes rest)) ≤ rest_bytes = simp (length-drop, length-take) (omega arith) in
    let back : drop 40 (take bookkeeping_bytes rest) ≡ z =
    sym (take_all rest_bytes (drop 40 (take bookkeeping_bytes rest)) n) ∙ (take-drop-take rest_bytes 40 bookkeeping_bytes rest (omega arith) ∙ ap (take rest_bytes) (drop-drop 40 (i * bookkeeping_bytes) bs)) in
    h
    ∙ (over-three s x fixed_columns z (i * record_bytes) (i * record_bytes + 40) (i * record_bytes + 58) (omega (arith, p)) (omega arith) (omega (arith, k))
    ∙ ap (over s (i * record_bytes)) (sym (ap₂ (λ (t v : List ℕ). t ++ (fixed_columns ++ v)) front back)))

-- The plain line: its key, COMMITTED of version 1, its columns, nothing before it, and what ends it.
pub plain_filled_lem : (ps : List ℕ) (i : ℕ) → i * plain_bytes + plain_bytes ≤ length ps → (s u : List ℕ) → i * record_bytes + record_bytes ≤ length s
    → u ≡ over (over (over (over (over s (i * record_bytes) (take 20 (drop (i * plain_bytes) ps))) (i * record_bytes + 20) fixed_state) (i * record_bytes + 40) (take 18 (drop (i * plain_bytes + 20) ps))) (i * record_bytes + 58) fixed_rest) (i * record_bytes + record_end) (take 1 (drop (i * plain_bytes + 38) ps))
    → u ≡ over s (i * record_bytes) (fill_plain (line_in plain_bytes ps i))
unfolding fill_plain fixed_state fixed_rest bytes
plain_filled_lem ps i m s u l h =
    let rest = drop (i * plain_bytes) ps in
    let x = take 20 rest in
    let c = take 18 (drop (i * plain_bytes + 20) ps) in
    let e = take 1 (drop (i * plain_bytes + 38) ps) in
    let p : length x ≡ 20 = simp (length-take, length-drop) (omega arith) in
    let q : length c ≡ 18 = simp (length-take, length-drop) (omega arith) in
    let r : length e ≡ 1 = simp (length-take, length-drop) (omega arith) in
    let front = x ++ (fixed_state ++ c) in
    let k : length front ≡ 58 = simp length-append (omega (arith, p, q)) in
    let w : length (front ++ (fixed_rest ++ e)) ≡ record_bytes = simp length-append (omega (arith, p, q, r)) in
    let a : take 20 (take plain_bytes rest) ≡ x = take-take 20 plain_bytes rest (omega arith) in
    let b : take 18 (drop 20 (take plain_bytes rest)) ≡ c = take-drop-take 18 20 plain_bytes rest (omega arith) ∙ ap (take 18) (drop-drop 20 (i * plain_bytes) ps) in
    let n : length (drop 38 (take plain_bytes rest)) ≤ 1 = simp (length-drop, length-take) (omega arith) in
    let d : drop 38 (take plain_bytes rest) ≡ e =
    sym (take_all 1 (drop 38 (take plain_bytes rest)) n) ∙ (take-drop-take 1 38 plain_bytes rest (omega arith) ∙ ap (take 1) (drop-drop 38 (i * plain_bytes) ps)) in
    h
    ∙ (ap (λ (t : List ℕ). over (over t (i * record_bytes + 58) fixed_rest) (i * record_bytes + record_end) e)
    (over-three s x fixed_state c (i * record_bytes) (i * record_bytes + 20) (i * record_bytes + 40) (omega (arith, p)) (omega arith) (omega (arith, k)))
    ∙ (over-three s front fixed_rest e (i * record_bytes) (i * record_bytes + 58) (i * record_bytes + record_end) (omega (arith, k)) (omega arith) (omega (arith, w))
    ∙ ap (over s (i * record_bytes)) (append_assoc x (fixed_state ++ c) (fixed_rest ++ e) ∙ (ap (λ (t : List ℕ). x ++ t) (append_assoc fixed_state c (fixed_rest ++ e))
    ∙ sym (ap₂ (λ (t v : List ℕ). t ++ (fixed_state ++ (v ++ (fixed_rest ++ drop 38 (take plain_bytes rest))))) a b
    ∙ ap (λ (t : List ℕ). x ++ (fixed_state ++ (c ++ (fixed_rest ++ t)))) d)))))
