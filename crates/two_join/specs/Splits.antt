-- What the loops keep that write a sheet line by line from another: the first i lines have been made of it and written. The law is one for all, by how a line is made.
use Rattle.std.specs.Prelude.{◌+◌, ◌*◌, ◌/◌, ◌≤◌, ◌≡◌, ◌∷◌, ◌++◌}
use Rattle.std.proofs.Common.{◌∙◌}
use Rattle.lists.specs.Basics.{ℕ, sym, ap, ap₂, List, [], append_assoc, append-nil, map, arith}
use Rattle.lists.specs.Basics.{length, take, drop, set, length-take, length-drop, length-append, take_at, drop-drop, take-take, take_all, joined, pieces}
use Rattle.lists.specs.Pieces.{over, over_next, length_over, pieces_add, take-drop-take}
use Rattle.model.specs.Layouts.{record_bytes}
use Rattle.model.specs.Lines.{lines_of}
use Rattle.model.specs.TwoSheets.{plain_bytes, bookkeeping_bytes, plain_line, bookkeeping_line}
use Rattle.two_join.specs.Joins.{rest_bytes, set-over}

-- line i of a sheet whose lines have w bytes, and of a joined sheet
abbrev pub line_in : ℕ → List ℕ → ℕ → List ℕ
line_in w a i = take w (drop (i * w) a)

abbrev pub line_at : List ℕ → ℕ → List ℕ
line_at a i = line_in record_bytes a i

-- one line more
mapped_snoc : (f : List ℕ → List ℕ) (ls : List (List ℕ)) (l : List ℕ) → joined (map f (ls ++ (l ∷ []))) ≡ joined (map f ls) ++ f l
unfolding joined
mapped_snoc f [] l = append-nil (f l)
mapped_snoc f (x ∷ ls) l = ap (λ (t : List ℕ). f x ++ t) (mapped_snoc f ls l) ∙ sym (append_assoc (f x) (joined (map f ls)) (f l))

module _ (w : ℕ) (f : List ℕ → List ℕ) (a : List ℕ) where
  -- the first i lines, cut
  abbrev pub first_cut : ℕ → List ℕ
  first_cut i = joined (map f (pieces w i a))

  next_cut : (i : ℕ) → first_cut (i + 1) ≡ first_cut i ++ f (line_in w a i)
  unfolding pieces
  next_cut i = ap (λ (ls : List (List ℕ)). joined (map f ls)) (pieces_add w i 1 a) ∙ mapped_snoc f (pieces w i a) (line_in w a i)

  -- the loop's turn: what was written ends at b, and with the next line at c
  pub cut-turn : (s u : List ℕ) (i b c : ℕ) → c ≤ length s → b + length (f (line_in w a i)) ≡ c → take b s ≡ first_cut i → u ≡ over s b (f (line_in w a i))
      → (length u ≡ length s) × (take c u ≡ first_cut (i + 1))
  cut-turn s u i b c n l e h =
      let j = f (line_in w a i) in
      let k : length (take b s ++ j) ≡ c = simp (length-append, length-take) (omega arith) in (
        ap length h ∙ length_over s j b (omega arith),
        ap (take c) (h ∙ split s j)
            ∙ (take_at (take b s ++ j) (drop (b + length j) s) c k
            ∙ (ap (λ (t : List ℕ). t ++ j) e ∙ sym (next_cut i))),
      )
    where
      split : (t j : List ℕ) → over t b j ≡ (take b t ++ j) ++ drop (b + length j) t
      split t j = unfold over in sym (append_assoc (take b t) j (drop (b + length j) t))

  -- the same by widths: lines of w bytes are made into lines of v
  pub line-turn : (v : ℕ) → ((l : List ℕ) → length l ≡ w → length (f l) ≡ v) → (s u : List ℕ) (i : ℕ) → i * w + w ≤ length a → i * v + v ≤ length s → take (i * v) s ≡ first_cut i
      → u ≡ over s (i * v) (f (line_in w a i)) → (length u ≡ length s) × (take ((i + 1) * v) u ≡ first_cut (i + 1))
  line-turn v made s u i m n e h =
      let whole : length (line_in w a i) ≡ w = simp (length-take, length-drop) (omega arith) in
      let k = made (line_in w a i) whole in
      let c : (i + 1) * v ≡ i * v + v = omega arith in
      cut-turn s u i (i * v) ((i + 1) * v) (omega (arith, c)) (omega (arith, k, c)) e h

  pub no_cut : (s : List ℕ) (b : ℕ) → b ≡ 0 → take b s ≡ first_cut 0
  unfolding pieces joined
  no_cut s b e = ap (λ (k : ℕ). take k s) e

  -- no line left
  pub all-cut : (s : List ℕ) (i b : ℕ) → length s ≤ b → i ≡ length a / w → take b s ≡ first_cut i → s ≡ joined (map f (lines_of w a))
  unfolding lines_of
  all-cut s i b m e h = sym (take_all b s m) ∙ (h ∙ ap (λ (n : ℕ). joined (map f (pieces w n a))) e)

-- The parts of line i, as bytes of the joined sheet.

module _ (a : List ℕ) (i : ℕ) (whole : i * record_bytes + record_bytes ≤ length a) where
  abbrev rest : List ℕ
  rest = drop (i * record_bytes) a

  plain_bytes_lem : take 20 (drop (i * record_bytes) a) ++ (take 18 (drop (i * record_bytes + 40) a) ++ (10 ∷ [])) ≡ plain_line (line_at a i)
  unfolding plain_line
  plain_bytes_lem =
      let x : take 20 (take record_bytes rest) ≡ take 20 rest = take-take 20 record_bytes rest (omega arith) in
      let y : take 18 (drop 40 (take record_bytes rest)) ≡ take 18 (drop (i * record_bytes + 40) a) =
      take-drop-take 18 40 record_bytes rest (omega arith) ∙ ap (take 18) (drop-drop 40 (i * record_bytes) a) in
      sym (ap₂ (λ (u v : List ℕ). u ++ (v ++ (10 ∷ []))) x y)

  -- three writes, one after another, are the line cut
  pub plain-parts : (s u : List ℕ) → i * plain_bytes + plain_bytes ≤ length s
      → u ≡ set (over (over s (i * plain_bytes) (take 20 (drop (i * record_bytes) a))) (i * plain_bytes + 20) (take 18 (drop (i * record_bytes + 40) a))) (i * plain_bytes + 38) 10
      → u ≡ over s (i * plain_bytes) (plain_line (line_at a i))
  plain-parts s u l h =
      let x = take 20 (drop (i * record_bytes) a) in
      let y = take 18 (drop (i * record_bytes + 40) a) in
      let p : length x ≡ 20 = simp (length-take, length-drop) (omega arith) in
      let q : length y ≡ 18 = simp (length-take, length-drop) (omega arith) in
      let w : i * plain_bytes + 38 ≡ i * plain_bytes + length (x ++ y) = simp length-append (omega arith) in
      let two : over (over s (i * plain_bytes) x) (i * plain_bytes + 20) y ≡ over s (i * plain_bytes) (x ++ y) = over_next s x y (i * plain_bytes) (i * plain_bytes + 20) (omega arith) (omega arith) in
      let n : length (over s (i * plain_bytes) (x ++ y)) ≡ length s = length_over s (x ++ y) (i * plain_bytes) (simp length-append (omega arith)) in
      h
      ∙ (ap (λ (t : List ℕ). set t (i * plain_bytes + 38) 10) two
      ∙ (set-over (over s (i * plain_bytes) (x ++ y)) (i * plain_bytes + 38) 10 (omega (arith, n))
      ∙ (over_next s (x ++ y) (10 ∷ []) (i * plain_bytes) (i * plain_bytes + 38) w (omega arith)
      ∙ ap (over s (i * plain_bytes)) (append_assoc x y (10 ∷ []) ∙ plain_bytes_lem))))

  bookkeeping_bytes_lem : take 40 (drop (i * record_bytes) a) ++ take rest_bytes (drop (i * record_bytes + 58) a) ≡ bookkeeping_line (line_at a i)
  unfolding bookkeeping_line
  bookkeeping_bytes_lem =
      let x : take 40 (take record_bytes rest) ≡ take 40 rest = take-take 40 record_bytes rest (omega arith) in
      let m : length (drop 58 (take record_bytes rest)) ≤ rest_bytes = simp (length-drop, length-take) (omega arith) in
      let y : drop 58 (take record_bytes rest) ≡ take rest_bytes (drop (i * record_bytes + 58) a) =
      sym (take_all rest_bytes (drop 58 (take record_bytes rest)) m) ∙ (take-drop-take rest_bytes 58 record_bytes rest (omega arith) ∙ ap (take rest_bytes) (drop-drop 58 (i * record_bytes) a)) in
      sym (ap₂ (λ (u v : List ℕ). u ++ v) x y)

  pub bookkeeping-parts : (s u : List ℕ) → i * bookkeeping_bytes + bookkeeping_bytes ≤ length s
      → u ≡ over (over s (i * bookkeeping_bytes) (take 40 (drop (i * record_bytes) a))) (i * bookkeeping_bytes + 40) (take rest_bytes (drop (i * record_bytes + 58) a))
      → u ≡ over s (i * bookkeeping_bytes) (bookkeeping_line (line_at a i))
  bookkeeping-parts s u l h =
      let x = take 40 (drop (i * record_bytes) a) in
      let y = take rest_bytes (drop (i * record_bytes + 58) a) in
      let p : length x ≡ 40 = simp (length-take, length-drop) (omega arith) in
      h ∙ (over_next s x y (i * bookkeeping_bytes) (i * bookkeeping_bytes + 40) (omega arith) (omega arith) ∙ ap (over s (i * bookkeeping_bytes)) bookkeeping_bytes_lem)
