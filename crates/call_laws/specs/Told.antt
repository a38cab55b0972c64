-- What is told of two sheets. The range of lines is the least that has every line that differs: it begins and ends in one, and stored over the sheet before
-- it gives the sheet after. Each goes by induction on the number of lines.
use Rattle.std.specs.Prelude.{◌≡◌, ◌+◌, ◌-◌, ◌*◌, ◌/◌, ◌%◌, ◌≤◌, ◌<◌, ◌++◌}
use Rattle.lists.specs.Basics.{refl, sym, ap, ap₂, ℕ, zero, suc, Bool, true, false, true≢false, List}
use Rattle.lists.specs.Basics.{length, take, drop, length-take, length-drop, drop_of_length-le, drop-drop, take-add, arith, not-false, choose_by, eq_list}
use Rattle.lists.specs.Basics.{eq_list-true}
use Rattle.std.proofs.Common.{take-append-drop, ◌∙◌}
use Rattle.lists.specs.Pieces.{over, over-same}
use Rattle.model.specs.Types.{Some}
use Rattle.model.specs.Layouts.{record_bytes}
use Rattle.model.specs.SheetCalls.{line_at}
use Rattle.model.specs.Changes.{differs, reach_of, first_of, last_reach, first_differing, lines_stored}

module _ (before after : List ℕ) where
  pub reach_within : (n : ℕ) → reach_of before after n ≤ n
  unfolding reach_of
  reach_within zero = omega arith
  reach_within (suc n) =
      choose_by (λ (m : ℕ). m ≤ suc n) (differs before after n) (λ _. omega arith) (λ _. let l = reach_within n in omega arith)

  pub first-within : (i n : ℕ) → first_of before after i n ≤ i + n
  unfolding first_of
  first-within i zero = omega arith
  first-within i (suc n) =
      choose_by (λ (m : ℕ). m ≤ i + suc n) (differs before after i) (λ _. omega arith) (λ _. let l = first-within (suc i) n in omega arith)

  -- a line that differs is not one that doesn't
  apart : (i j : ℕ) → differs before after i ≡ true → differs before after j ≡ false → i ≡ j → ⊥
  apart i j d e q = true≢false (sym d ∙ (ap (differs before after) q ∙ e))

  reach_covers : (n i : ℕ) → i < n → differs before after i ≡ true → i < reach_of before after n
  unfolding reach_of
  reach_covers zero i l d = absurd (omega arith)
  reach_covers (suc n) i l d =
      choose_by (λ (m : ℕ). i < m) (differs before after n) (λ _. l)
      (λ e. let a = apart i n d e in reach_covers n i (omega (arith, a)) d)

  first_covers : (j n i : ℕ) → j ≤ i → i < j + n → differs before after i ≡ true → first_of before after j n ≤ i
  unfolding first_of
  first_covers j zero i k l d = absurd (omega arith)
  first_covers j (suc n) i k l d =
      choose_by (λ (m : ℕ). m ≤ i) (differs before after j) (λ _. k)
      (λ e. let a = apart i j d e in first_covers (suc j) n i (omega (arith, a)) (omega arith) d)

  -- every line that differs is in the range told
  pub told_covers : (i : ℕ) → i < length before / record_bytes → differs before after i ≡ true → (first_differing before after ≤ i) × (i < last_reach before after)
  told_covers i l d =
      let r = reach_covers (length before / record_bytes) i l d in
      (first_covers 0 (last_reach before after) i (omega arith) (omega arith) d, r)

  reach_differs : (n : ℕ) → 0 < reach_of before after n → differs before after (reach_of before after n - 1) ≡ true
  unfolding reach_of
  reach_differs zero l = absurd (omega arith)
  reach_differs (suc n) l =
      choose_by (λ (m : ℕ). 0 < m → differs before after (m - 1) ≡ true) (differs before after n)
      (λ e _. let q : suc n - 1 ≡ n = omega arith in rw q e)
      (λ e k. reach_differs n k) l

  first-differs : (j n i : ℕ) → j ≤ i → i < j + n → differs before after i ≡ true → differs before after (first_of before after j n) ≡ true
  unfolding first_of
  first-differs j zero i k l d = absurd (omega arith)
  first-differs j (suc n) i k l d =
      choose_by (λ (m : ℕ). differs before after m ≡ true) (differs before after j) (λ e. e)
      (λ e. let a = apart i j d e in first-differs (suc j) n i (omega (arith, a)) (omega arith) d)

  -- where any line differs, the first and the last of the range do
  pub told_ends : 0 < last_reach before after
      → (differs before after (first_differing before after) ≡ true) × (differs before after (last_reach before after - 1) ≡ true)
  told_ends l =
      let d = reach_differs (length before / record_bytes) l in
      (first-differs 0 (last_reach before after) (last_reach before after - 1) (omega arith) (omega arith) d, d)

  -- The range stored over the sheet before.

  -- a line that does not differ has the same bytes
  same_line : (i : ℕ) → differs before after i ≡ false → line_at before (Some i) ≡ line_at after (Some i)
  same_line i d = eq_list-true (line_at before (Some i)) (line_at after (Some i)) (not-false (eq_list (line_at before (Some i)) (line_at after (Some i))) d)

  -- a line outside of the range has
  outside : (i : ℕ) → i < length before / record_bytes
      → (first_differing before after ≤ i → i < last_reach before after → ⊥) → line_at before (Some i) ≡ line_at after (Some i)
  outside i l n = go (differs before after i) refl
    where
      go : (x : Bool) → differs before after i ≡ x → line_at before (Some i) ≡ line_at after (Some i)
      go true e = let c = told_covers i l e in absurd (n c.0 c.1)
      go false e = same_line i e

  same_up : (m : ℕ) → ((i : ℕ) → i < m → line_at before (Some i) ≡ line_at after (Some i)) → take (m * record_bytes) before ≡ take (m * record_bytes) after
  unfolding line_at
  same_up zero f = refl
  same_up (suc m) f =
      let e : suc m * record_bytes ≡ m * record_bytes + record_bytes = omega arith in
      rw (e, take-add (m * record_bytes) record_bytes before, take-add (m * record_bytes) record_bytes after)
      (ap₂ ◌++◌ (same_up m (λ i l. f i (omega arith))) (f m (omega arith)))

  -- the n lines from m on are the last
  same_down : (n m : ℕ) → length before ≡ (m + n) * record_bytes → length after ≡ (m + n) * record_bytes
      → ((i : ℕ) → m ≤ i → i < m + n → line_at before (Some i) ≡ line_at after (Some i)) → drop (m * record_bytes) before ≡ drop (m * record_bytes) after
  unfolding line_at
  same_down zero m k l f =
      let a : length before ≤ m * record_bytes = omega arith in
      let b : length after ≤ m * record_bytes = omega arith in
      drop_of_length-le before a ∙ sym (drop_of_length-le after b)
  same_down (suc n) m k l f =
      let i = same_down n (suc m) (omega arith) (omega arith) (λ j p q. f j (omega arith) (omega arith)) in
      cut before ∙ (ap₂ ◌++◌ (f m (omega arith) (omega arith)) i ∙ sym (cut after))
    where
      -- what stands from line m on is that line and the rest
      cut : (s : List ℕ) → drop (m * record_bytes) s ≡ take record_bytes (drop (m * record_bytes) s) ++ drop (suc m * record_bytes) s
      cut s =
          let e : suc m * record_bytes ≡ m * record_bytes + record_bytes = omega arith in
          sym (rw (e, ← drop-drop) (take-append-drop record_bytes (drop (m * record_bytes) s)))

  -- storing the lines told over the sheet before gives the sheet after
  pub told_suffices : length before ≡ length after → length before % record_bytes ≡ 0 → lines_stored before after ≡ after
  unfolding over
  told_suffices same whole =
      let n = length before / record_bytes in
      let r = last_reach before after in
      let f = first_differing before after in
      let w : r ≤ n = reach_within n in
      let b : f ≤ r = let l = first-within 0 r in omega arith in
      let t = take ((r - f) * record_bytes) (drop (f * record_bytes) after) in
      let l : length t ≡ (r - f) * record_bytes = simp (length-take, length-drop) (omega arith) in
      let e : f * record_bytes + length t ≡ r * record_bytes = omega arith in
      let up = same_up f (λ i k. outside i (omega arith) (λ p q. omega arith)) in
      let down = same_down (n - r) r (omega arith) (omega arith) (λ i p q. outside i (omega arith) (λ p' q'. omega arith)) in
      ap₂ (λ (x y : List ℕ). x ++ (t ++ y)) up (ap (λ (k : ℕ). drop k before) e ∙ (down ∙ sym (ap (λ (k : ℕ). drop k after) e)))
      ∙ over-same after (f * record_bytes) ((r - f) * record_bytes) (omega arith)

  -- where no line differs, both are one sheet
  pub told_none : length before ≡ length after → length before % record_bytes ≡ 0 → last_reach before after ≡ 0 → before ≡ after
  told_none same whole none =
      same_down (length before / record_bytes) 0 (omega arith) (omega arith) (λ i p q. outside i (omega arith) (λ p' q'. omega (arith, none)))
