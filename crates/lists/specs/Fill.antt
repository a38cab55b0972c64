-- Filling a list piece by piece, w elements each, or one by one: those before i are there, and those from i on are still to come.
-- Filling it in two parts, lent one after the other.
use Rattle.std.specs.Prelude.{◌≡◌, ◌+◌, ◌-◌, ◌*◌, ◌≤◌, ◌<◌, ◌∷◌, ◌++◌}
use Rattle.lists.specs.Kit.{refl, sym, ap, ap₂, ℕ, zero, suc, List, [], append-nil, append_assoc, length}
use Rattle.lists.specs.Kit.{take, drop, get_or, set, length-append, length-take, length-drop, length-set, drop_of_length-le, drop_at, take_at, take_all}
use Rattle.lists.specs.Kit.{arith, add-one}
use Rattle.std.proofs.Common.{suc-mul, zero-mul, take-suc-set, ◌∙◌}
use Rattle.std.proofs.Math.Seq.{append_snoc}
use Rattle.lists.specs.Each.{joined}
use Rattle.lists.specs.Pieces.{over, length_over}
use Rattle.lists.specs.Walks.{drop_here}

pub record FilledTo (w : ℕ) (parts : List (List ℕ)) (target : List ℕ) (i : ℕ) : Type 0 where
  pub reached : i ≤ length parts
  pub room : length target ≡ length parts * w
  pub done : take (i * w) target ++ joined (drop i parts) ≡ joined parts

pub fill_first : (w : ℕ) (parts : List (List ℕ)) (target : List ℕ) → length target ≡ length parts * w → FilledTo w parts target 0
fill_first w parts target n =
    let z : 0 * w ≡ 0 = zero-mul w in
    record { reached = omega arith; room = n; done = rw z }

-- there is room for piece i
pub fill_room : (w n i : ℕ) → i < n → i * w + w ≤ n * w
fill_room w zero i l = absurd (omega arith)
fill_room w (suc n) zero l = let e : suc n * w ≡ n * w + w = suc-mul n w in let z : 0 * w ≡ 0 = zero-mul w in omega arith
fill_room w (suc n) (suc i) l =
    let e : suc n * w ≡ n * w + w = suc-mul n w in
    let f : suc i * w ≡ i * w + w = suc-mul i w in
    let r : i * w + w ≤ n * w = fill_room w n i (omega arith) in
    omega arith

pub fill_next : (w : ℕ) (parts : List (List ℕ)) (target t : List ℕ) (i : ℕ) → i < length parts → t ≡ get_or parts i [] → length t ≡ w → FilledTo w parts target i → FilledTo w parts (over target (i * w) t) (i + 1)
unfolding joined over
fill_next w parts target t i l e n f =
    let r : i * w + w ≤ length parts * w = fill_room w (length parts) i l in
    let m : length target ≡ length parts * w = f.room in
    let s : (i + 1) * w ≡ i * w + w = ap (λ (k : ℕ). k * w) (add-one i) ∙ suc-mul i w in
    let k : length (take (i * w) target ++ t) ≡ i * w + w = simp (length-append, length-take) (omega arith) in
    let d : drop i parts ≡ t ∷ drop (i + 1) parts = drop_here parts i [] t l e in
    let a : take ((i + 1) * w) (over target (i * w) t) ≡ take (i * w) target ++ t =
    ap₂ take s (sym (append_assoc (take (i * w) target) t (drop (i * w + length t) target)))
    ∙ take_at (take (i * w) target ++ t) (drop (i * w + length t) target) (i * w + w) k in
    record {
      reached = omega arith;
      room = length_over target t (i * w) (omega arith) ∙ m;
      done =
          ap (λ (x : List ℕ). x ++ joined (drop (i + 1) parts)) a
          ∙ (append_assoc (take (i * w) target) t (joined (drop (i + 1) parts))
          ∙ (ap (λ (x : List (List ℕ)). take (i * w) target ++ joined x) (sym d) ∙ f.done));
    }

pub fill_last : (w : ℕ) (parts : List (List ℕ)) (target : List ℕ) (i : ℕ) → length parts ≤ i → FilledTo w parts target i → target ≡ joined parts
unfolding joined
fill_last w parts target i l f =
    let p : i ≤ length parts = f.reached in
    let e : i ≡ length parts = omega arith in
    let d : drop i parts ≡ [] = drop_of_length-le parts l in
    let m : length target ≡ length parts * w = f.room in
    let q : i * w ≡ length parts * w = ap (λ (k : ℕ). k * w) e in
    let t : take (i * w) target ≡ target = take_all (i * w) target (omega arith) in
    sym (append-nil target) ∙ (rw (d, t) at f.done)

-- One by one.
pub record StoredTo (parts target : List ℕ) (i : ℕ) : Type 0 where
  pub reached : i ≤ length parts
  pub room : length target ≡ length parts
  pub done : take i target ++ drop i parts ≡ parts

pub store_first : (parts target : List ℕ) → length target ≡ length parts → StoredTo parts target 0
store_first parts target n = record { reached = omega arith; room = n; done = refl }

pub store_next : (parts target : List ℕ) (v i : ℕ) → i < length parts → v ≡ get_or parts i 0 → StoredTo parts target i → StoredTo parts (set target i v) (i + 1)
store_next parts target v i l e f =
    let m : length target ≡ length parts = f.room in
    let t : take (i + 1) (set target i v) ≡ take i target ++ (v ∷ []) =
    ap (λ (k : ℕ). take k (set target i v)) (add-one i) ∙ take-suc-set target i v (omega arith) in
    let d : drop i parts ≡ v ∷ drop (i + 1) parts = drop_here parts i 0 v l e in
    record {
      reached = omega arith;
      room = length-set target i v ∙ m;
      done =
          ap (λ (x : List ℕ). x ++ drop (i + 1) parts) t
          ∙ (append_snoc (take i target) v (drop (i + 1) parts) ∙ (ap (λ (x : List ℕ). take i target ++ x) (sym d) ∙ f.done));
    }

pub store_last : (parts target : List ℕ) (i : ℕ) → length parts ≤ i → StoredTo parts target i → target ≡ parts
store_last parts target i l f =
    let m : length target ≡ length parts = f.room in
    let d : drop i parts ≡ [] = drop_of_length-le parts l in
    let t : take i target ≡ target = take_all i target (omega arith) in
    sym (append-nil target) ∙ (rw (d, t) at f.done)

-- In two parts.

-- the part from n on, to the end
pub rest_part : (n : ℕ) (s : List ℕ) → take (length s - n) (drop n s) ≡ drop n s
rest_part n s = take_all (length s - n) (drop n s) (simp length-drop (omega arith))

-- A list whose first n elements were lent and came back as t: what is lent after them, and what stands there once that came back as u.
module _ (n : ℕ) (t v : List ℕ) (kept : length t ≡ length (take n v)) (fits : n ≤ length v) where
  front_wide : length t ≡ n
  front_wide = kept ∙ simp length-take (omega arith)

  pub front_length : length (t ++ drop n v) ≡ length v
  front_length = let w = front_wide in simp (length-append, length-drop) (omega arith)

  pub front_rest : take (length (t ++ drop n v) - n) (drop n (t ++ drop n v)) ≡ drop n v
  front_rest = rest_part n (t ++ drop n v) ∙ drop_at t (drop n v) n front_wide

  pub front_back : (u : List ℕ) → take n (t ++ drop n v) ++ (u ++ drop (length (t ++ drop n v) - n) (drop n (t ++ drop n v))) ≡ t ++ u
  front_back u =
      let l : length (drop n (t ++ drop n v)) ≤ length (t ++ drop n v) - n = simp length-drop (omega arith) in
      let e : drop (length (t ++ drop n v) - n) (drop n (t ++ drop n v)) ≡ [] = drop_of_length-le (drop n (t ++ drop n v)) l in
      ap₂ ◌++◌ (take_at t (drop n v) n front_wide) (ap (λ (x : List ℕ). u ++ x) e ∙ append-nil u)

  pub front_same : (u : List ℕ) → length u ≡ length (take (length (t ++ drop n v) - n) (drop n (t ++ drop n v))) → length (take n (t ++ drop n v) ++ (u ++ drop (length (t ++ drop n v) - n) (drop n (t ++ drop n v)))) ≡ length v
  front_same u e =
      let w = front_wide in
      let k : length u ≡ length v - n = e ∙ (ap length front_rest ∙ length-drop n v) in
      ap length (front_back u) ∙ simp length-append (omega arith)
