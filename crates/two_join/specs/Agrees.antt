-- What the loop that compares keys keeps.
use Rattle.std.specs.Prelude.{◌+◌, ◌-◌, ◌*◌, ◌/◌, ◌≤◌, ◌<◌, ◌≡◌, ◌&&◌, ◌∷◌}
use Rattle.lists.specs.Basics.{ℕ, and-true, suc, refl, sym, ap, ap₂, Bool, true, false, true≢false, List, []}
use Rattle.lists.specs.Basics.{arith, length, take, drop, get_or, length-take, length-drop, drop_of_length-le, drop-drop, take-take, drop-cons}
use Rattle.lists.specs.Basics.{take-add, get_or-take, get_or-drop, eqb, eqb-true, eq-eqb, ne_eqb, and_fst, and_snd, eq_list, pieces}
use Rattle.std.proofs.Common.{zero-mul, ◌∙◌}
use Rattle.lists.specs.Bytes.{eq_list-append}
use Rattle.lists.specs.Pieces.{length-pieces}
use Rattle.model.specs.Lines.{lines_of}
use Rattle.two_laws.specs.Deciding.{keys_agree, lines_agree, whole}
use Rattle.model.specs.TwoSheets.{plain_bytes, bookkeeping_bytes}

-- the last byte of a line
pub end_byte : (p : List ℕ) (i : ℕ) → i * plain_bytes + plain_bytes ≤ length p → eq_list (drop 38 (take plain_bytes (drop (i * plain_bytes) p))) (10 ∷ []) ≡ eqb (get_or p (i * plain_bytes + 38) 0) 10
end_byte p i h =
    let l = take plain_bytes (drop (i * plain_bytes) p) in
    let n : length l ≡ plain_bytes = simp (length-take, length-drop) (omega arith) in
    let e : drop 38 l ≡ get_or l 38 0 ∷ drop plain_bytes l = drop-cons l 38 0 (omega arith) in
    let m : length l ≤ plain_bytes = omega arith in
    let f : drop plain_bytes l ≡ [] = drop_of_length-le l m in
    let g : get_or l 38 0 ≡ get_or p (i * plain_bytes + 38) 0 = get_or-take plain_bytes (drop (i * plain_bytes) p) 38 0 (omega arith) ∙ get_or-drop (i * plain_bytes) p 38 0 in
    ap (λ (t : List ℕ). eq_list t (10 ∷ [])) (e ∙ ap₂ ◌∷◌ g f) ∙ and-true (eqb (get_or p (i * plain_bytes + 38) 0) 10)

-- twenty bytes are equal if ten and ten more are
tens_equal : (s t : List ℕ) → 20 ≤ length s → 20 ≤ length t → (eq_list (take 10 s) (take 10 t) && eq_list (take 10 (drop 10 s)) (take 10 (drop 10 t))) ≡ eq_list (take 20 s) (take 20 t)
tens_equal s t l m =
    let n : length (take 10 s) ≡ length (take 10 t) = simp length-take (omega arith) in
    sym (ap₂ eq_list (take-add 10 10 s) (take-add 10 10 t) ∙ eq_list-append (take 10 s) (take 10 t) (take 10 (drop 10 s)) (take 10 (drop 10 t)) n)

module _ (p b : List ℕ) (i : ℕ) where
  abbrev ten : ℕ → ℕ → Bool
  ten a d = eq_list (take 10 (drop a p)) (take 10 (drop d b))

  pub line-agrees : i * plain_bytes + plain_bytes ≤ length p → i * bookkeeping_bytes + bookkeeping_bytes ≤ length b
      → (ten (i * plain_bytes) (i * bookkeeping_bytes) && ten (i * plain_bytes + 10) (i * bookkeeping_bytes + 10) && eqb (get_or p (i * plain_bytes + 38) 0) 10) ≡ keys_agree (take plain_bytes (drop (i * plain_bytes) p)) (take bookkeeping_bytes (drop (i * bookkeeping_bytes) b))
  unfolding keys_agree
  line-agrees h g =
      let x : 20 ≤ length (drop (i * plain_bytes) p) = simp length-drop (omega arith) in
      let y : 20 ≤ length (drop (i * bookkeeping_bytes) b) = simp length-drop (omega arith) in
      let e : ten (i * plain_bytes + 10) (i * bookkeeping_bytes + 10) ≡ eq_list (take 10 (drop 10 (drop (i * plain_bytes) p))) (take 10 (drop 10 (drop (i * bookkeeping_bytes) b))) =
      ap₂ (λ (u v : List ℕ). eq_list (take 10 u) (take 10 v)) (sym (drop-drop 10 (i * plain_bytes) p)) (sym (drop-drop 10 (i * bookkeeping_bytes) b)) in
      ap₂ ◌&&◌
      (ap (λ (z : Bool). ten (i * plain_bytes) (i * bookkeeping_bytes) && z) e
      ∙ (tens_equal (drop (i * plain_bytes) p) (drop (i * bookkeeping_bytes) b) x y
      ∙ ap₂ eq_list (sym (take-take 20 plain_bytes (drop (i * plain_bytes) p) (omega arith))) (sym (take-take 20 bookkeeping_bytes (drop (i * bookkeeping_bytes) b) (omega arith)))))
      (sym (end_byte p i h))

-- the lines from i on agree
abbrev pub agree_from : List ℕ → List ℕ → ℕ → ℕ → Bool
agree_from p b n i = lines_agree (pieces plain_bytes (n - i) (drop (i * plain_bytes) p)) (pieces bookkeeping_bytes (n - i) (drop (i * bookkeeping_bytes) b))

pub agree_next : (p b : List ℕ) (n i : ℕ) → i < n → agree_from p b n i ≡ (keys_agree (take plain_bytes (drop (i * plain_bytes) p)) (take bookkeeping_bytes (drop (i * bookkeeping_bytes) b)) && agree_from p b n (i + 1))
agree_next p b n i l =
    let e : n - i ≡ suc (n - (i + 1)) = omega arith in
    let x : i * plain_bytes + plain_bytes ≡ (i + 1) * plain_bytes = omega arith in
    let y : i * bookkeeping_bytes + bookkeeping_bytes ≡ (i + 1) * bookkeeping_bytes = omega arith in
    ap (λ (k : ℕ). lines_agree (pieces plain_bytes k (drop (i * plain_bytes) p)) (pieces bookkeeping_bytes k (drop (i * bookkeeping_bytes) b))) e
    ∙ (one (drop (i * plain_bytes) p) (drop (i * bookkeeping_bytes) b) (n - (i + 1))
    ∙ ap₂ (λ (u v : List ℕ). keys_agree (take plain_bytes (drop (i * plain_bytes) p)) (take bookkeeping_bytes (drop (i * bookkeeping_bytes) b)) && lines_agree (pieces plain_bytes (n - (i + 1)) u) (pieces bookkeeping_bytes (n - (i + 1)) v))
    (drop-drop plain_bytes (i * plain_bytes) p ∙ ap (λ (k : ℕ). drop k p) x) (drop-drop bookkeeping_bytes (i * bookkeeping_bytes) b ∙ ap (λ (k : ℕ). drop k b) y))
  where
    one : (u v : List ℕ) (m : ℕ) → lines_agree (pieces plain_bytes (suc m) u) (pieces bookkeeping_bytes (suc m) v) ≡ (keys_agree (take plain_bytes u) (take bookkeeping_bytes v) && lines_agree (pieces plain_bytes m (drop plain_bytes u)) (pieces bookkeeping_bytes m (drop bookkeeping_bytes v)))
    one u v m = unfold lines_agree pieces in refl

pub agree-first : (p b : List ℕ) (n : ℕ) → agree_from p b n 0 ≡ lines_agree (pieces plain_bytes n p) (pieces bookkeeping_bytes n b)
agree-first p b n =
    let e : n - 0 ≡ n = omega arith in
    ap (λ (k : ℕ). lines_agree (pieces plain_bytes k (drop (0 * plain_bytes) p)) (pieces bookkeeping_bytes k (drop (0 * bookkeeping_bytes) b))) e
    ∙ ap₂ (λ (x y : ℕ). lines_agree (pieces plain_bytes n (drop x p)) (pieces bookkeeping_bytes n (drop y b))) (zero-mul plain_bytes) (zero-mul bookkeeping_bytes)

pub agree_last : (p b : List ℕ) (n i : ℕ) → n ≤ i → agree_from p b n i ≡ true
unfolding lines_agree pieces
agree_last p b n i l = let e : n - i ≡ 0 = omega arith in rw e

-- sheets of whole lines, as many
pub agree-whole : (p b : List ℕ) → length p ≡ length p / plain_bytes * plain_bytes → length b / bookkeeping_bytes ≡ length p / plain_bytes → length b ≡ length p / plain_bytes * bookkeeping_bytes → (whole plain_bytes p && whole bookkeeping_bytes b && lines_agree (lines_of plain_bytes p) (lines_of bookkeeping_bytes b)) ≡ lines_agree (pieces plain_bytes (length p / plain_bytes) p) (pieces bookkeeping_bytes (length p / plain_bytes) b)
unfolding lines_of
agree-whole p b h g k =
    let l : length b ≡ length b / bookkeeping_bytes * bookkeeping_bytes = k ∙ ap (λ (n : ℕ). n * bookkeeping_bytes) (sym g) in
    ap₂ (λ (x y : Bool). x && y && lines_agree (pieces plain_bytes (length p / plain_bytes) p) (pieces bookkeeping_bytes (length b / bookkeeping_bytes) b)) (eq-eqb (length p) (length p / plain_bytes * plain_bytes) h) (eq-eqb (length b) (length b / bookkeeping_bytes * bookkeeping_bytes) l)
    ∙ ap (λ (n : ℕ). lines_agree (pieces plain_bytes (length p / plain_bytes) p) (pieces bookkeeping_bytes n b)) g

-- sheets that are not
pub plain_cut_short : (p b : List ℕ) → (length p ≡ length p / plain_bytes * plain_bytes → ⊥) → (whole plain_bytes p && whole bookkeeping_bytes b && lines_agree (lines_of plain_bytes p) (lines_of bookkeeping_bytes b)) ≡ false
plain_cut_short p b d =
    ap (λ (x : Bool). x && whole bookkeeping_bytes b && lines_agree (lines_of plain_bytes p) (lines_of bookkeeping_bytes b)) (ne_eqb (length p) (length p / plain_bytes * plain_bytes) d)

counts : (xs ys : List (List ℕ)) → lines_agree xs ys ≡ true → length xs ≡ length ys
unfolding lines_agree
counts [] [] e = refl
counts [] (y ∷ ys) e = absurd (true≢false (sym e))
counts (x ∷ xs) [] e = absurd (true≢false (sym e))
counts (x ∷ xs) (y ∷ ys) e = ap suc (counts xs ys (and_snd (keys_agree x y) (lines_agree xs ys) e))

never_true : (a : Bool) → (a ≡ true → ⊥) → a ≡ false
never_true true f = absurd (f refl)
never_true false f = refl

-- lines that agree are as many
pub same_counts : (p b : List ℕ) → lines_agree (lines_of plain_bytes p) (lines_of bookkeeping_bytes b) ≡ true → length p / plain_bytes ≡ length b / bookkeeping_bytes
unfolding lines_of
same_counts p b e =
    sym (length-pieces plain_bytes (length p / plain_bytes) p)
    ∙ (counts (pieces plain_bytes (length p / plain_bytes) p) (pieces bookkeeping_bytes (length b / bookkeeping_bytes) b) e
    ∙ length-pieces bookkeeping_bytes (length b / bookkeeping_bytes) b)

pub counts_differ : (p b : List ℕ) → (length b / bookkeeping_bytes ≡ length p / plain_bytes → ⊥) → (whole plain_bytes p && whole bookkeeping_bytes b && lines_agree (lines_of plain_bytes p) (lines_of bookkeeping_bytes b)) ≡ false
counts_differ p b d =
    never_true (whole plain_bytes p && whole bookkeeping_bytes b && lines_agree (lines_of plain_bytes p) (lines_of bookkeeping_bytes b))
    (λ e. d (sym (same_counts p b (and_snd (whole plain_bytes p && whole bookkeeping_bytes b) (lines_agree (lines_of plain_bytes p) (lines_of bookkeeping_bytes b)) e))))

pub book_cut_short : (p b : List ℕ) → length b / bookkeeping_bytes ≡ length p / plain_bytes → (length b ≡ length p / plain_bytes * bookkeeping_bytes → ⊥) → (whole plain_bytes p && whole bookkeeping_bytes b && lines_agree (lines_of plain_bytes p) (lines_of bookkeeping_bytes b)) ≡ false
book_cut_short p b g d =
    never_true (whole plain_bytes p && whole bookkeeping_bytes b && lines_agree (lines_of plain_bytes p) (lines_of bookkeeping_bytes b))
    (λ e.
    let w : whole bookkeeping_bytes b ≡ true = and_snd (whole plain_bytes p) (whole bookkeeping_bytes b) (and_fst (whole plain_bytes p && whole bookkeeping_bytes b) (lines_agree (lines_of plain_bytes p) (lines_of bookkeeping_bytes b)) e) in
    d (eqb-true (length b) (length b / bookkeeping_bytes * bookkeeping_bytes) w ∙ ap (λ (n : ℕ). n * bookkeeping_bytes) g))

-- a pair that does not agree ends it, one that agrees leaves it to the others
pub agree_stop : (p b : List ℕ) (n i : ℕ) {w : Bool} → i < n → agree_from p b n i ≡ w → keys_agree (take plain_bytes (drop (i * plain_bytes) p)) (take bookkeeping_bytes (drop (i * bookkeeping_bytes) b)) ≡ false → w ≡ false
agree_stop p b n i l e k = sym e ∙ (agree_next p b n i l ∙ ap (λ (x : Bool). x && agree_from p b n (i + 1)) k)

pub agree_on : (p b : List ℕ) (n i : ℕ) {w : Bool} → i < n → agree_from p b n i ≡ w → keys_agree (take plain_bytes (drop (i * plain_bytes) p)) (take bookkeeping_bytes (drop (i * bookkeeping_bytes) b)) ≡ true → agree_from p b n (i + 1) ≡ w
agree_on p b n i l e k = sym (agree_next p b n i l ∙ ap (λ (x : Bool). x && agree_from p b n (i + 1)) k) ∙ e
