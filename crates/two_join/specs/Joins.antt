-- What the loop that joins keeps.
use Rattle.std.specs.Prelude.{◌+◌, ◌-◌, ◌*◌, ◌/◌, ◌≤◌, ◌<◌, ◌≡◌, ◌∷◌, ◌++◌}
use Rattle.lists.specs.Basics.{ℕ, suc, sym, ap, ap₂, List, [], append_assoc, append-nil, arith}
use Rattle.lists.specs.Basics.{length, take, drop, get_or, set, take-add, drop-cons, length-take, length-drop, length-append, take_at, drop-drop, take-take, take_all, joined}
use Rattle.lists.specs.Basics.{pieces}
use Rattle.std.proofs.lemmas.List.{set_split}
use Rattle.std.proofs.Common.{zero-mul, ◌∙◌}
use Rattle.lists.specs.Pieces.{over, over-same, over-part, over_next, length_over, length-pieces, pieces_add, take-drop-take}
use Rattle.two_laws.specs.TwoLines.{length-join_line}
use Rattle.decimal.specs.Word.{put_word, put_fits_lem}
use Rattle.model.specs.Lines.{lines_of}
use Rattle.model.specs.TwoSheets.{join_line, join_lines, joined_sheet, plain_bytes, bookkeeping_bytes}
use Rattle.model.specs.Layouts.{record_bytes}

-- bytes of a bookkeeping line behind state, version and TxID, which stand behind the columns of a joined line, LF counted
abbrev pub rest_bytes : ℕ
rest_bytes = bookkeeping_bytes - 40

-- a part lent and come back as n bytes of another list
pub part-over : (s f u : List ℕ) (a b n : ℕ) → a + n ≤ length s → b + n ≤ length f → u ≡ put_word (take (a + n - a) (drop a s)) (take (b + n - b) (drop b f)) → take a s ++ (u ++ drop (a + n - a) (drop a s)) ≡ over s a (take n (drop b f))
part-over s f u a b n l m h =
    let i : a + n - a ≡ n = omega arith in
    let j : b + n - b ≡ n = omega arith in
    let t = take n (drop b f) in
    let w : length t ≡ n = simp (length-take, length-drop) (omega arith) in
    let v : length (take n (drop a s)) ≡ n = simp (length-take, length-drop) (omega arith) in
    let g : u ≡ put_word (take n (drop a s)) t = rw (i, j) at h in
    let e : u ≡ t = g ∙ put_fits_lem (take n (drop a s)) t (v ∙ sym w) in
    let k : length t ≡ a + n - a = w ∙ sym i in
    ap (λ (x : List ℕ). take a s ++ (x ++ drop (a + n - a) (drop a s))) e ∙ over-part s t a (a + n) k

-- one byte written
pub set-over : (s : List ℕ) (k v : ℕ) → k < length s → set s k v ≡ over s k (v ∷ [])
unfolding over
set-over s k v l = let e : suc k ≡ k + length (v ∷ []) = omega arith in set_split s k v l ∙ ap (λ (n : ℕ). take k s ++ (v ∷ drop n s)) e

-- Bytes of another list written one after another: so many of them, and the next ones.
module _ (s f : List ℕ) (at start : ℕ) where
  -- the first n bytes from `start` on, over those from `at` on
  abbrev pub written : ℕ → List ℕ
  written n = over s at (take n (drop start f))

  pub written_none : at ≤ length s → written 0 ≡ s
  written_none l = over-same s at 0 (omega arith)

  pub length-written : (n : ℕ) → at + n ≤ length s → start + n ≤ length f → length (written n) ≡ length s
  length-written n l m =
      let w : length (take n (drop start f)) ≡ n = simp (length-take, length-drop) (omega arith) in
      length_over s (take n (drop start f)) at (omega (arith, w))

  pub written_more : (m n : ℕ) → at + (m + n) ≤ length s → start + (m + n) ≤ length f → over (written m) (at + m) (take n (drop (start + m) f)) ≡ written (m + n)
  written_more m n l k =
      let w : length (take m (drop start f)) ≡ m = simp (length-take, length-drop) (omega arith) in
      over_next s (take m (drop start f)) (take n (drop (start + m) f)) at (at + m) (omega (arith, w)) (omega arith)
      ∙ ap (over s at) (sym (take-add m n (drop start f) ∙ ap (λ (t : List ℕ). take m (drop start f) ++ take n t) (drop-drop m start f)))

  pub written_one : (m : ℕ) → at + m < length s → start + m < length f → set (written m) (at + m) (get_or f (start + m) 0) ≡ written (m + 1)
  written_one m l k =
      let n = length-written m (omega arith) (omega arith) in
      let d : take 1 (drop (start + m) f) ≡ get_or f (start + m) 0 ∷ [] = ap (take 1) (drop-cons f (start + m) 0 k) in
      set-over (written m) (at + m) (get_or f (start + m) 0) (omega (arith, n))
      ∙ (ap (over (written m) (at + m)) (sym d) ∙ written_more m 1 (omega arith) (omega arith))

  -- eight bytes, one after another
  pub eight_written : at + 8 ≤ length s → start + 8 ≤ length f
      → set (set (set (set (set (set (set (set s at (get_or f start 0)) (at + 1) (get_or f (start + 1) 0)) (at + 2) (get_or f (start + 2) 0)) (at + 3) (get_or f (start + 3) 0)) (at + 4) (get_or f (start + 4) 0)) (at + 5) (get_or f (start + 5) 0)) (at + 6) (get_or f (start + 6) 0)) (at + 7) (get_or f (start + 7) 0) ≡ written 8
  eight_written l k =
      let w1 = first (omega arith) (omega arith) in
      let w2 = next 1 _ w1 (omega arith) (omega arith) in
      let w3 = next 2 _ w2 (omega arith) (omega arith) in
      let w4 = next 3 _ w3 (omega arith) (omega arith) in
      let w5 = next 4 _ w4 (omega arith) (omega arith) in
      let w6 = next 5 _ w5 (omega arith) (omega arith) in
      let w7 = next 6 _ w6 (omega arith) (omega arith) in
      next 7 _ w7 (omega arith) (omega arith)
    where
      next : (m : ℕ) (u : List ℕ) → u ≡ written m → at + m < length s → start + m < length f → set u (at + m) (get_or f (start + m) 0) ≡ written (m + 1)
      next m u e i j = ap (λ (t : List ℕ). set t (at + m) (get_or f (start + m) 0)) e ∙ written_one m i j

      first : at < length s → start < length f → set s at (get_or f start 0) ≡ written 1
      first i j =
          let y : at ≡ at + 0 = omega arith in
          let z : start ≡ start + 0 = omega arith in
          ap₂ (λ (a b : ℕ). set s a (get_or f b 0)) y z ∙ next 0 s (sym (written_none (omega arith))) (omega arith) (omega arith)

  -- eight more, and the rest up to n
  pub written_eights : (k : ℕ) → at + (k * 8 + 8) ≤ length s → start + (k * 8 + 8) ≤ length f → over (written (k * 8)) (at + k * 8) (take 8 (drop (start + k * 8) f)) ≡ written ((k + 1) * 8)
  written_eights k l m = let e : k * 8 + 8 ≡ (k + 1) * 8 = omega arith in written_more (k * 8) 8 l m ∙ ap written e

  pub written-rest : (k n : ℕ) (t : List ℕ) → k ≡ n / 8 → t ≡ written (k * 8) → at + n ≤ length s → start + n ≤ length f → over t (at + n / 8 * 8) (take (n - n / 8 * 8) (drop (start + n / 8 * 8) f)) ≡ written n
  written-rest k n t e h l m =
      let q : n / 8 * 8 + (n - n / 8 * 8) ≡ n = omega arith in
      ap (λ (u : List ℕ). over u (at + n / 8 * 8) (take (n - n / 8 * 8) (drop (start + n / 8 * 8) f))) (h ∙ ap (λ (j : ℕ). written (j * 8)) e)
      ∙ (written_more (n / 8 * 8) (n - n / 8 * 8) (omega arith) (omega arith) ∙ ap written q)

-- the parts of line i of either sheet, as bytes of the sheet
pub join_bytes : (p b : List ℕ) (i : ℕ) → take 40 (drop (i * bookkeeping_bytes) b) ++ (take 18 (drop (i * plain_bytes + 20) p) ++ take rest_bytes (drop (i * bookkeeping_bytes + 40) b)) ≡ join_line (take plain_bytes (drop (i * plain_bytes) p)) (take bookkeeping_bytes (drop (i * bookkeeping_bytes) b))
unfolding join_line
join_bytes p b i =
    let q = drop (i * plain_bytes) p in
    let c = drop (i * bookkeeping_bytes) b in
    let x : take 40 (take bookkeeping_bytes c) ≡ take 40 c = take-take 40 bookkeeping_bytes c (omega arith) in
    let y : take 18 (drop 20 (take plain_bytes q)) ≡ take 18 (drop (i * plain_bytes + 20) p) =
    take-drop-take 18 20 plain_bytes q (omega arith) ∙ ap (take 18) (drop-drop 20 (i * plain_bytes) p) in
    let z : drop 40 (take bookkeeping_bytes c) ≡ take rest_bytes (drop (i * bookkeeping_bytes + 40) b) =
    drop-take c ∙ ap (take rest_bytes) (drop-drop 40 (i * bookkeeping_bytes) b) in
    sym (ap₂ (λ (u v : List ℕ). u ++ (take 18 (drop 20 (take plain_bytes q)) ++ v)) x z ∙ ap (λ (u : List ℕ). take 40 c ++ (u ++ take rest_bytes (drop (i * bookkeeping_bytes + 40) b))) y)
  where
    drop-take : (l : List ℕ) → drop 40 (take bookkeeping_bytes l) ≡ take rest_bytes (drop 40 l)
    drop-take l =
        let e : take rest_bytes (drop 40 (take bookkeeping_bytes l)) ≡ take rest_bytes (drop 40 l) = take-drop-take rest_bytes 40 bookkeeping_bytes l (omega arith) in
        let m : length (drop 40 (take bookkeeping_bytes l)) ≤ rest_bytes = simp (length-drop, length-take) (omega arith) in
        sym (take_all rest_bytes (drop 40 (take bookkeeping_bytes l)) m) ∙ e

-- three parts, one after another, are the line joined
pub three-parts : (s p b : List ℕ) (i : ℕ) → i * plain_bytes + plain_bytes ≤ length p → i * bookkeeping_bytes + bookkeeping_bytes ≤ length b → i * record_bytes + record_bytes ≤ length s → over (over (over s (i * record_bytes) (take 40 (drop (i * bookkeeping_bytes) b))) (i * record_bytes + 40) (take 18 (drop (i * plain_bytes + 20) p))) (i * record_bytes + 58) (take rest_bytes (drop (i * bookkeeping_bytes + 40) b)) ≡ over s (i * record_bytes) (join_line (take plain_bytes (drop (i * plain_bytes) p)) (take bookkeeping_bytes (drop (i * bookkeeping_bytes) b)))
three-parts s p b i l m n =
    let x = take 40 (drop (i * bookkeeping_bytes) b) in
    let y = take 18 (drop (i * plain_bytes + 20) p) in
    let z = take rest_bytes (drop (i * bookkeeping_bytes + 40) b) in
    let u : length x ≡ 40 = simp (length-take, length-drop) (omega arith) in
    let v : length y ≡ 18 = simp (length-take, length-drop) (omega arith) in
    let w : i * record_bytes + 58 ≡ i * record_bytes + length (x ++ y) = simp length-append (omega arith) in
    ap (λ (t : List ℕ). over t (i * record_bytes + 58) z) (over_next s x y (i * record_bytes) (i * record_bytes + 40) (omega arith) (omega arith))
    ∙ (over_next s (x ++ y) z (i * record_bytes) (i * record_bytes + 58) w (omega arith)
    ∙ ap (over s (i * record_bytes)) (append_assoc x y z ∙ join_bytes p b i))

-- one pair more
joins_snoc : (xs ys : List (List ℕ)) (p b : List ℕ) → length xs ≡ length ys → joined (join_lines (xs ++ (p ∷ [])) (ys ++ (b ∷ []))) ≡ joined (join_lines xs ys) ++ join_line p b
unfolding joined join_lines
joins_snoc [] [] p b e = append-nil (join_line p b)
joins_snoc [] (y ∷ ys) p b e = absurd (omega arith)
joins_snoc (x ∷ xs) [] p b e = absurd (omega arith)
joins_snoc (x ∷ xs) (y ∷ ys) p b e =
    ap (λ (t : List ℕ). join_line x y ++ t) (joins_snoc xs ys p b (omega arith)) ∙ sym (append_assoc (join_line x y) (joined (join_lines xs ys)) (join_line p b))

-- the first i lines joined
abbrev pub first_joined : List ℕ → List ℕ → ℕ → List ℕ
first_joined p b i = joined (join_lines (pieces plain_bytes i p) (pieces bookkeeping_bytes i b))

pub next_joined : (p b : List ℕ) (i : ℕ) → first_joined p b (i + 1) ≡ first_joined p b i ++ join_line (take plain_bytes (drop (i * plain_bytes) p)) (take bookkeeping_bytes (drop (i * bookkeeping_bytes) b))
unfolding pieces
next_joined p b i =
    ap₂ (λ (x y : List (List ℕ)). joined (join_lines x y)) (pieces_add plain_bytes i 1 p) (pieces_add bookkeeping_bytes i 1 b)
    ∙ joins_snoc (pieces plain_bytes i p) (pieces bookkeeping_bytes i b) (take plain_bytes (drop (i * plain_bytes) p)) (take bookkeeping_bytes (drop (i * bookkeeping_bytes) b)) (length-pieces plain_bytes i p ∙ sym (length-pieces bookkeeping_bytes i b))

-- the loop's turn
pub turn : (s u p b : List ℕ) (i : ℕ) → i * plain_bytes + plain_bytes ≤ length p → i * bookkeeping_bytes + bookkeeping_bytes ≤ length b → i * record_bytes + record_bytes ≤ length s → take (i * record_bytes) s ≡ first_joined p b i → u ≡ over s (i * record_bytes) (join_line (take plain_bytes (drop (i * plain_bytes) p)) (take bookkeeping_bytes (drop (i * bookkeeping_bytes) b))) → (length u ≡ length s) × (take ((i + 1) * record_bytes) u ≡ first_joined p b (i + 1))
turn s u p b i l m n e h =
    let q = take plain_bytes (drop (i * plain_bytes) p) in
    let c = take bookkeeping_bytes (drop (i * bookkeeping_bytes) b) in
    let j = join_line q c in
    let x : length q ≡ plain_bytes = simp (length-take, length-drop) (omega arith) in
    let y : length c ≡ bookkeeping_bytes = simp (length-take, length-drop) (omega arith) in
    let w : length j ≡ record_bytes = length-join_line q c x y in
    let k : length (take (i * record_bytes) s ++ j) ≡ (i + 1) * record_bytes = simp (length-append, length-take) (omega arith) in (
      ap length h ∙ length_over s j (i * record_bytes) (omega arith),
      ap (take ((i + 1) * record_bytes)) (h ∙ split s j (i * record_bytes))
          ∙ (take_at (take (i * record_bytes) s ++ j) (drop (i * record_bytes + length j) s) ((i + 1) * record_bytes) k
          ∙ (ap (λ (t : List ℕ). t ++ j) e ∙ sym (next_joined p b i))),
    )
  where
    split : (t j : List ℕ) (a : ℕ) → over t a j ≡ (take a t ++ j) ++ drop (a + length j) t
    split t j a = unfold over in sym (append_assoc (take a t) j (drop (a + length j) t))

-- no line left
pub all-joined : (s p b : List ℕ) (m i : ℕ) → length s ≡ m → m ≡ m / record_bytes * record_bytes → length p ≡ m / record_bytes * plain_bytes → length b ≡ m / record_bytes * bookkeeping_bytes → i ≡ m / record_bytes → take (i * record_bytes) s ≡ first_joined p b i → s ≡ joined_sheet p b
unfolding joined_sheet lines_of
all-joined s p b m i a l k h c e =
    let x : length p / plain_bytes ≡ i = omega arith in
    let y : length b / bookkeeping_bytes ≡ i = omega arith in
    let z : length s ≤ i * record_bytes = omega arith in
    sym (take_all (i * record_bytes) s z)
    ∙ (e ∙ sym (ap₂ (λ (g j : ℕ). joined (join_lines (pieces plain_bytes g p) (pieces bookkeeping_bytes j b))) x y))

pub no_line : (s p b : List ℕ) → take (0 * record_bytes) s ≡ first_joined p b 0
unfolding pieces joined join_lines
no_line s p b = ap (λ (k : ℕ). take k s) (zero-mul record_bytes)
