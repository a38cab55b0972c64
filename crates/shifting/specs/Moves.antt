-- Laws of the lines of a sheet whose bytes were copied a line further down or up. For any width.
use Rattle.std.specs.Prelude.{◌+◌, ◌-◌, ◌*◌, ◌≤◌, ◌<◌, ◌≡◌, ◌∷◌, ◌++◌}
use Rattle.lists.specs.Basics.{ℕ, zero, suc, refl, sym, ap, ap₂, List, [], append_assoc, append-nil, arith}
use Rattle.lists.specs.Basics.{add-one, length, take, drop, length-append, length-take, length-drop, drop_of_length-le, drop-drop, take_at, drop_at, take-add}
use Rattle.lists.specs.Basics.{take_all, take-take, joined, pieces}
use Rattle.std.proofs.Math.Nat.{suc-mul}
use Rattle.std.proofs.Common.{zero-mul, add-mul, length-take-le, ◌∙◌}
use Rattle.std.proofs.lemmas.List.{take-append-le}
use borrow.Rule.Slice.PartMut.{put_mid}
use lib.Seq.{paste}
use Rattle.lists.specs.Pieces.{joined-append, pieces_add, length-pieces}
use Rattle.lists.specs.Fill.{fill_room}
use Rattle.shifting.specs.Shifted.{insert_at, remove_at}

-- the first i lines are the first i * w bytes
joined-first {ℓ} : {A : Type ℓ} (w i : ℕ) (s : List A) → joined (pieces w i s) ≡ take (i * w) s
unfolding pieces joined
joined-first w zero s = rw zero-mul
joined-first w (suc i) s =
    let f : suc i * w ≡ w + i * w = rw suc-mul (omega arith) in
    ap (λ (t : List _). take w s ++ t) (joined-first w i (drop w s)) ∙ (sym (take-add w (i * w) s) ∙ ap (λ (k : ℕ). take k s) (sym f))

take-pieces {ℓ} : {A : Type ℓ} (w i n : ℕ) (s : List A) → i ≤ n → take i (pieces w n s) ≡ pieces w i s
unfolding pieces
take-pieces w zero n s l = refl
take-pieces w (suc i) zero s l = absurd (omega arith)
take-pieces w (suc i) (suc n) s l = ap (λ (t : List (List _)). take w s ∷ t) (take-pieces w i n (drop w s) (omega arith))

-- m lines from index i on
joined-part {ℓ} : {A : Type ℓ} (w i m n : ℕ) (s : List A) → i + m ≤ n → joined (take m (drop i (pieces w n s))) ≡ take (m * w) (drop (i * w) s)
joined-part w i m n s l =
    let e : n ≡ i + (n - i) = omega arith in
    ap (λ (k : ℕ). joined (take m (drop i (pieces w k s)))) e
    ∙ (ap (λ (t : List (List _)). joined (take m t)) (ap (drop i) (pieces_add w i (n - i) s) ∙ drop_at (pieces w i s) (pieces w (n - i) (drop (i * w) s)) i (length-pieces w i s))
    ∙ (ap joined (take-pieces w m (n - i) (drop (i * w) s) (omega arith)) ∙ joined-first w m (drop (i * w) s)))

module _ (w i n : ℕ) (s t : List ℕ) (whole : length s ≡ n * w) (within : i < n) where
  -- as many bytes as the lines below index i have
  below : length s - (i * w + w) ≡ (n - 1 - i) * w
  below =
      let e : n ≡ (n - 1 - i) + suc i = omega arith in
      let f : n * w ≡ (n - 1 - i) * w + suc i * w = ap (λ (k : ℕ). k * w) e ∙ add-mul (n - 1 - i) (suc i) w in
      let g : suc i * w ≡ i * w + w = suc-mul i w in
      omega arith

  -- the line t put in at index i
  pub inserted-bytes : joined (insert_at i t (pieces w n s)) ≡ take (i * w) s ++ (t ++ take (length s - (i * w + w)) (drop (i * w) s))
  unfolding insert_at joined
  inserted-bytes =
      let ls = pieces w n s in
      let k : length ls ≡ n = length-pieces w n s in
      let x : joined (take i ls) ≡ take (i * w) s = ap joined (take-pieces w i n s (omega arith)) ∙ joined-first w i s in
      let y : joined (take (length ls - 1 - i) (drop i ls)) ≡ take (length s - (i * w + w)) (drop (i * w) s) =
      ap (λ (m : ℕ). joined (take (m - 1 - i) (drop i ls))) k
      ∙ (joined-part w i (n - 1 - i) n s (omega arith) ∙ ap (λ (m : ℕ). take m (drop (i * w) s)) (sym below)) in
      joined-append (take i ls) (t ∷ take (length ls - 1 - i) (drop i ls)) ∙ ap₂ (λ (p q : List ℕ). p ++ (t ++ q)) x y

  -- the line at index i taken out, and t last
  pub removed_bytes : joined (remove_at i t (pieces w n s)) ≡ take (i * w) s ++ (drop (i * w + w) s ++ t)
  unfolding remove_at joined
  removed_bytes =
      let ls = pieces w n s in
      let k : length ls ≡ n = length-pieces w n s in
      let x : joined (take i ls) ≡ take (i * w) s = ap joined (take-pieces w i n s (omega arith)) ∙ joined-first w i s in
      let m = n - (i + 1) in
      let d : take m (drop (i + 1) ls) ≡ drop (i + 1) ls = take_all m (drop (i + 1) ls) (rw length-drop (omega arith)) in
      let f : (i + 1) * w ≡ i * w + w = ap (λ (j : ℕ). j * w) (add-one i) ∙ suc-mul i w in
      let b : length s - (i * w + w) ≡ (n - 1 - i) * w = below in
      let c : n - 1 - i ≡ m = omega arith in
      let g : length (drop (i * w + w) s) ≡ m * w = length-drop (i * w + w) s ∙ (b ∙ ap (λ (j : ℕ). j * w) c) in
      let y : joined (drop (i + 1) ls) ≡ drop (i * w + w) s =
      ap joined (sym d)
      ∙ (joined-part w (i + 1) m n s (omega arith)
      ∙ (ap (λ (j : ℕ). take (m * w) (drop j s)) f ∙ take_all (m * w) (drop (i * w + w) s) (omega arith))) in
      joined-append (take i ls) (drop (i + 1) ls ++ (t ∷ []))
      ∙ ap₂ ◌++◌ x (joined-append (drop (i + 1) ls) (t ∷ []) ∙ ap₂ ◌++◌ y (append-nil t))

-- a line stands within the sheet
pub line_room : (w i n : ℕ) (s : List ℕ) → length s ≡ n * w → i < n → i * w + w ≤ length s
line_room w i n s whole within = let r : i * w + w ≤ n * w = fill_room w n i within in omega arith

-- the k bytes from a on give way to the line t of as many bytes
line_over : (a k w : ℕ) (m u t : List ℕ) → u ≡ t → k ≡ w → put_mid a k m u ≡ take a m ++ (t ++ drop (a + w) m)
line_over a k w m u t e f = rw (e, f, drop-drop w a m)

module _ (w i n : ℕ) (s m t u : List ℕ) (whole : length s ≡ n * w) (within : i < n) (written : u ≡ t) where
  -- the bytes copied a line further down, and the line t where it goes: the line t put in
  pub insert_done : m ≡ paste s (i * w + w) (drop (i * w) s) (length s - w - i * w) → put_mid (i * w) (i * w + w - i * w) m u ≡ joined (insert_at i t (pieces w n s))
  insert_done e =
      let a = i * w in
      let r = line_room w i n s whole within in
      let q = take (a + w) s in
      let k : length q ≡ a + w = length-take-le (a + w) s r in
      let v = take (length s - w - a) (drop a s) in
      let z : drop (a + w + (length s - w - a)) s ≡ [] = drop_of_length-le s (omega arith) in
      let f : m ≡ q ++ v = e ∙ (ap (λ (x : List ℕ). q ++ v ++ x) z ∙ append-nil (q ++ v)) in
      let x : take a m ≡ take a s = ap (take a) f ∙ (take-append-le a q v (omega arith) ∙ take-take a (a + w) s (omega arith)) in
      let j : length s - w - a ≡ length s - (a + w) = omega arith in
      let y : drop (a + w) m ≡ take (length s - (a + w)) (drop a s) =
      ap (drop (a + w)) f ∙ (drop_at q v (a + w) k ∙ ap (λ (b : ℕ). take b (drop a s)) j) in
      line_over a (a + w - a) w m u t written (omega arith)
      ∙ (ap₂ (λ (p b : List ℕ). p ++ (t ++ b)) x y ∙ sym (inserted-bytes w i n s t whole within))

  -- the bytes copied a line further up, and t over the last line: the line at index i taken out
  pub remove_done : m ≡ paste s (i * w) (drop (i * w + w) s) (length s - (i * w + w)) → put_mid (length m - w) (length m - (length m - w)) m u ≡ joined (remove_at i t (pieces w n s))
  remove_done e =
      let a = i * w in
      let r = line_room w i n s whole within in
      let d = drop (a + w) s in
      let h : length d ≡ length s - (a + w) = length-drop (a + w) s in
      let p = take a s ++ d in
      let o = drop (a + (length s - (a + w))) s in
      let f : m ≡ p ++ o = e ∙ ap (λ (x : List ℕ). take a s ++ x ++ o) (take_all (length s - (a + w)) d (omega arith)) in
      let k : length p ≡ length s - w = simp (length-append, length-take, length-drop) (omega arith) in
      let l : length m ≡ length s = ap length f ∙ simp (length-append, length-take, length-drop) (omega arith) in
      let b : length m - w ≡ length s - w = omega arith in
      let x : take (length m - w) m ≡ p = ap₂ take b f ∙ take_at p o (length s - w) k in
      let z : drop (length m - w + w) m ≡ [] = drop_of_length-le m (omega arith) in
      line_over (length m - w) (length m - (length m - w)) w m u t written (omega arith)
      ∙ (ap₂ (λ (y c : List ℕ). y ++ (t ++ c)) x z
      ∙ (ap (λ (c : List ℕ). p ++ c) (append-nil t)
      ∙ (append_assoc (take a s) d t ∙ sym (removed_bytes w i n s t whole within))))
