-- A sheet of whole lines is its front and spares behind it, and lines that are no spares, with spares behind them, have these as front and spares: the laws of `Ends` for
-- lines, of which a sheet is the bytes. For any width.
use Rattle.std.specs.Prelude.{◌+◌, ◌-◌, ◌*◌, ◌/◌, ◌≤◌, ◌<◌, ◌≡◌, ◌∷◌, ◌++◌}
use Rattle.lists.specs.Basics.{ℕ, zero, suc, refl, sym, ap, ap₂, Bool, true, false, not, true≢false, List, [], arith}
use Rattle.lists.specs.Basics.{length, take, drop, drop_at, get_or, get_or-drop, length-append, replicate, all, and_fst, and_snd, and_both, joined, eq_list-true, eq_list_refl}
use Rattle.lists.specs.Basics.{tests}
use Rattle.std.proofs.Common.{take-append-drop, ◌∙◌}
use Rattle.std.proofs.lemmas.List.{length-replicate}
use Rattle.lists.specs.Pieces.{AllOf, joined-pieces, get_or-pieces, joined-append, all_join, all-pieces}
use Rattle.model.specs.Types.{Column}
use Rattle.model.specs.Lines.{lines_of, line_set}
use Rattle.model.specs.Spares.{spare_line, is_spare, trimmed, filled_lines, front, spares_text, sized}
use Rattle.sheet_laws.specs.Trimmed.{trimmed-first}
use Rattle.sheet_laws.specs.Ends as ends

module _ (w : ℕ) (some : 0 < w) where
  pub length-spare : length (spare_line w) ≡ w
  unfolding spare_line
  length-spare = length-append (replicate (w - 1) 32) (10 ∷ []) ∙ (ap (λ (n : ℕ). n + 1) (length-replicate (w - 1) 32) ∙ omega arith)

  passes : is_spare w (spare_line w) ≡ true
  passes = eq_list_refl (spare_line w)

  only : (l : List ℕ) → length l ≡ w → is_spare w l ≡ true → l ≡ spare_line w
  only l n h = eq_list-true l (spare_line w) h

  pub spares_wide : (n : ℕ) → AllOf w (replicate n (spare_line w))
  spares_wide n = ends.spares_wide w some (is_spare w) (spare_line w) length-spare passes only n

  pub spares-length : (n : ℕ) → length (spares_text w n) ≡ n * w
  spares-length n = ends.spares-length w some (is_spare w) (spare_line w) length-spare passes only n

  -- the lines of lines joined, where each has w bytes
  pub lines-joined : (ls : List (List ℕ)) → AllOf w ls → lines_of w (joined ls) ≡ ls
  unfolding lines_of
  lines-joined ls a = ends.cut-joined w some ls a

  -- A sheet of whole lines.
  module _ (s : List ℕ) (whole : length s ≡ length s / w * w) where
    pub wide_lines : AllOf w (lines_of w s)
    unfolding lines_of
    wide_lines = all-pieces w (length s / w) s whole

    pub bytes-lines : joined (lines_of w s) ≡ s
    unfolding lines_of
    bytes-lines = joined-pieces w (length s / w) s whole

    pub filled_within : filled_lines w s ≤ length s / w
    unfolding filled_lines lines_of
    filled_within = ends.filled_within w some (is_spare w) (spare_line w) length-spare passes only s whole

    -- the front has the lines up to the last that is no spare
    pub front-lines : lines_of w (front w s) ≡ take (filled_lines w s) (lines_of w s)
    unfolding front filled_lines lines_of
    front-lines = ends.front_cut w some (is_spare w) (spare_line w) length-spare passes only s whole

    pub front_length : length (front w s) ≡ filled_lines w s * w
    unfolding front filled_lines lines_of
    front_length = ends.front_length w some (is_spare w) (spare_line w) length-spare passes only s whole

    pub front-count : length (front w s) / w ≡ filled_lines w s
    unfolding front filled_lines lines_of
    front-count = ends.front-count w some (is_spare w) (spare_line w) length-spare passes only s whole

    pub front-whole : length (front w s) ≡ length (front w s) / w * w
    unfolding front filled_lines lines_of
    front-whole = ends.front-whole w some (is_spare w) (spare_line w) length-spare passes only s whole

    -- and spares are behind it
    rest-spares : drop (filled_lines w s) (lines_of w s) ≡ replicate (length s / w - filled_lines w s) (spare_line w)
    unfolding filled_lines lines_of
    rest-spares = ends.rest-spares w some (is_spare w) (spare_line w) length-spare passes only s whole

    pub spare_at : (i : ℕ) → filled_lines w s ≤ i → i < length s / w → take w (drop (i * w) s) ≡ spare_line w
    unfolding lines_of
    spare_at i l h =
        let m = filled_lines w s in
        let e : m + (i - m) ≡ i = omega arith in
        sym (get_or-pieces w i (length s / w) s h)
        ∙ (sym (ap (λ (j : ℕ). get_or (lines_of w s) j []) e)
        ∙ (sym (get_or-drop m (lines_of w s) (i - m) [])
        ∙ (ap (λ (ls : List (List ℕ)). get_or ls (i - m) []) rest-spares ∙ get_or-same (i - m) (length s / w - m) (omega arith))))
      where
        get_or-same : (j n : ℕ) → j < n → get_or (replicate n (spare_line w)) j [] ≡ spare_line w
        get_or-same j zero l = absurd (omega arith)
        get_or-same zero (suc n) l = refl
        get_or-same (suc j) (suc n) l = get_or-same j n (omega arith)

    pub lines-spared : lines_of w s ≡ lines_of w (front w s) ++ replicate (length s / w - filled_lines w s) (spare_line w)
    lines-spared = sym (take-append-drop (filled_lines w s) (lines_of w s)) ∙ ap₂ ◌++◌ (sym front-lines) rest-spares

    -- so that no more are to be cut
    pub front-filled : trimmed (is_spare w) (lines_of w (front w s)) ≡ filled_lines w s
    unfolding filled_lines
    front-filled = ap (trimmed (is_spare w)) front-lines ∙ trimmed-first (is_spare w) (lines_of w s)

    pub front-spares : front w s ++ spares_text w (length s / w - filled_lines w s) ≡ s
    unfolding front filled_lines lines_of
    front-spares = ends.front-spares w some (is_spare w) (spare_line w) length-spare passes only s whole

    pub front_tail : drop (filled_lines w s * w) s ≡ spares_text w (length s / w - filled_lines w s)
    front_tail =
        ap (drop (filled_lines w s * w)) (sym front-spares)
        ∙ drop_at (front w s) (spares_text w (length s / w - filled_lines w s)) (filled_lines w s * w) front_length

  -- any whole lines with spares behind them
  pub lines-behind : (s : List ℕ) (n : ℕ) → length s ≡ length s / w * w → lines_of w (s ++ spares_text w n) ≡ lines_of w s ++ replicate n (spare_line w)
  lines-behind s n e =
      let ls = lines_of w s in
      ap (λ (t : List ℕ). lines_of w (t ++ spares_text w n)) (sym (bytes-lines s e))
      ∙ (ap (lines_of w) (sym (joined-append ls (replicate n (spare_line w))))
      ∙ lines-joined (ls ++ replicate n (spare_line w)) (all_join w ls (replicate n (spare_line w)) (wide_lines s e) (spares_wide n)))

  -- Lines that are no spares, with spares behind them.
  module _ (ls : List (List ℕ)) (n : ℕ) (wide : AllOf w ls) (none : all (λ (l : List ℕ). not (is_spare w l)) ls ≡ true) where
    pub spared-length : length (joined ls ++ spares_text w n) ≡ (length ls + n) * w
    spared-length = ends.spared-length w some (is_spare w) (spare_line w) length-spare passes only ls n wide none

    pub spared-count : length (joined ls ++ spares_text w n) / w ≡ length ls + n
    spared-count = ends.spared-count w some (is_spare w) (spare_line w) length-spare passes only ls n wide none

    pub spared-lines : lines_of w (joined ls ++ spares_text w n) ≡ ls ++ replicate n (spare_line w)
    unfolding lines_of
    spared-lines = ends.spared-cut w some (is_spare w) (spare_line w) length-spare passes only ls n wide none

    pub spared-filled : filled_lines w (joined ls ++ spares_text w n) ≡ length ls
    unfolding filled_lines lines_of
    spared-filled = ends.spared-filled w some (is_spare w) (spare_line w) length-spare passes only ls n wide none

    pub spared-front : front w (joined ls ++ spares_text w n) ≡ joined ls
    unfolding front filled_lines lines_of
    spared-front = ends.spared-front w some (is_spare w) (spare_line w) length-spare passes only ls n wide none

  -- lines that can be read by a layout are no spares where a spare can't
  pub set_no_spares : (layout : List Column) → line_set layout (spare_line w) ≡ false → (ls : List (List ℕ)) → all (line_set layout) ls ≡ true → all (λ (l : List ℕ). not (is_spare w l)) ls ≡ true
  unfolding all
  set_no_spares layout bad [] h = refl
  set_no_spares layout bad (l ∷ ls) h =
      and_both (go (is_spare w l) refl) (set_no_spares layout bad ls (and_snd (line_set layout l) (all (line_set layout) ls) h))
    where
      go : (b : Bool) → is_spare w l ≡ b → not b ≡ true
      go false e = refl
      go true e =
          absurd (true≢false
          (sym (and_fst (line_set layout l) (all (line_set layout) ls) h) ∙ (ap (line_set layout) (eq_list-true l (spare_line w) e) ∙ bad)))

-- what the size of a sheet says
pub sized-whole : (w : ℕ) (s : List ℕ) → sized w s ≡ true → length s ≡ length s / w * w
unfolding sized
sized-whole w s h = search tests

pub sized_some : (w : ℕ) (s : List ℕ) → sized w s ≡ true → 1 ≤ length s / w
unfolding sized
sized_some w s h = search tests

pub sized-few : (w : ℕ) (s : List ℕ) → sized w s ≡ true → length s / w ≤ 500
unfolding sized
sized-few w s h = search tests
