-- A line put in, over the bytes of a sheet whose lines are the texts of records with spares behind them: those above and below the new line are the texts that were there, and of the
-- spares the last is used up. A line taken out is that the other way round, since an ABSENT line of version 0 is put in where it was. For any width and text of a record: `sheet-lines`
-- serves the code for a record sheet, a plain sheet and a bookkeeping sheet.
use Rattle.std.specs.Prelude.{◌≡◌, ◌+◌, ◌-◌, ◌*◌, ◌≤◌, ◌<◌, ◌∷◌, ◌++◌}
use Rattle.lists.specs.Basics.{sym, ap, ap₂, subst, ℕ, suc, Bool, true, false, List, [], append_assoc, map, length, length-map, length-append}
use Rattle.lists.specs.Basics.{take, drop, replicate, arith, all, joined}
use Rattle.std.proofs.lemmas.List.{map-append, length-replicate, replicate-append-replicate}
use Rattle.std.proofs.Common.{take-append-drop, length-take-le, ◌∙◌}
use Rattle.lists.specs.All.{all_of}
use Rattle.lists.specs.Pieces.{AllOf, length-joined, joined-append, all_join}
use Rattle.model.specs.Types.{Key, Record}
use Rattle.model.specs.Lines.{lines_of}
use Rattle.model.specs.Records.{rising, rank, absent_at, line_of}
use Rattle.model.specs.Spares.{spare_line, spares_text}
use Rattle.model.specs.Writes.{inserted, without}
use Rattle.model.specs.AtomicWrites.{LinePutIn}
use Rattle.sheet_laws.specs.KeyOrder.{lists_key}
use Rattle.sheet_laws.specs.Ranks.{rank-within}
use Rattle.sheet_laws.specs.Fronts.{spares_wide, lines-joined}
use Rattle.sheet_laws.specs.AddedLines.{length_inserted, inserted_at, all_inserted, rising-without, length_without, all_without, lists_without, inserted-without}

module _ (w : ℕ) (some : 0 < w) (f : Record → List ℕ) (p : Record → Bool) (wide : (r : Record) → p r ≡ true → length (f r) ≡ w) where
  -- the sheet of so many lines
  abbrev pub lines_for : List Record → ℕ → List ℕ
  lines_for rs n = joined (map f rs) ++ spares_text w (n - length rs)

  module _ (rs : List Record) (n : ℕ) (pass : all p rs ≡ true) where
    abbrev spares : List (List ℕ)
    spares = replicate (n - length rs) (spare_line w)

    all_wide : AllOf w (map f rs ++ spares)
    all_wide = all_join w (map f rs) spares (all_of w p f wide rs pass) (spares_wide w some (n - length rs))

    sheet-joined : lines_for rs n ≡ joined (map f rs ++ spares)
    sheet-joined = sym (joined-append (map f rs) spares)

    pub sheet-lines : lines_of w (lines_for rs n) ≡ map f rs ++ spares
    sheet-lines = ap (lines_of w) sheet-joined ∙ lines-joined w some (map f rs ++ spares) all_wide

    pub sheet-bytes : length rs ≤ n → length (lines_for rs n) ≡ n * w
    sheet-bytes l =
        let a : length (map f rs) ≡ length rs = length-map rs f in
        let b : length spares ≡ n - length rs = length-replicate (n - length rs) (spare_line w) in
        let c : length (map f rs ++ spares) ≡ n = length-append (map f rs) spares ∙ omega arith in
        ap length sheet-joined ∙ (length-joined w (map f rs ++ spares) all_wide ∙ ap (λ (m : ℕ). m * w) c)

  pub added_in : (k : Key) (rs : List Record) (n : ℕ) → rising rs ≡ true → lists_key k rs ≡ false → all p rs ≡ true → p (absent_at k) ≡ true → length rs < n
      → LinePutIn w (f (absent_at k)) (rank k rs) (lines_for rs n) (lines_for (inserted k rs) n)
  added_in k rs n order none pass new room =
      let i = rank k rs in
      let sp = spare_line w in
      let m = n - suc (length rs) in
      let above = map f (take i rs) in
      let below = map f (drop i rs) ++ replicate m sp in
      let l : length (inserted k rs) ≡ suc (length rs) = length_inserted k rs in
      let q : m + 1 ≡ n - length rs = omega arith in
      let last : replicate (n - length rs) sp ≡ replicate m sp ++ (sp ∷ []) = sym (replicate-append-replicate m 1 sp ∙ ap (λ (j : ℕ). replicate j sp) q) in
      let cut : map f rs ≡ above ++ map f (drop i rs) = sym (ap (map f) (take-append-drop i rs)) ∙ map-append f (take i rs) (drop i rs) in
      record {
        above = above;
        below = below;
        index = length-map (take i rs) f ∙ length-take-le i rs (rank-within k rs);
        size = sheet-bytes (inserted k rs) n (all_inserted k p rs new pass) (omega arith) ∙ sym (sheet-bytes rs n pass (omega arith));
        was =
            sheet-lines rs n pass
            ∙ (ap₂ ◌++◌ cut last
            ∙ (append_assoc above (map f (drop i rs)) (replicate m sp ++ (sp ∷ []))
            ∙ ap (λ (ls : List (List ℕ)). above ++ ls) (sym (append_assoc (map f (drop i rs)) (replicate m sp) (sp ∷ [])))));
        is =
            sheet-lines (inserted k rs) n (all_inserted k p rs new pass)
            ∙ (ap₂ ◌++◌ (ap (map f) (inserted_at k rs order none) ∙ map-append f (take i rs) (absent_at k ∷ drop i rs)) (ap (λ (j : ℕ). replicate (n - j) sp) l)
            ∙ append_assoc above (f (absent_at k) ∷ map f (drop i rs)) (replicate m sp));
      }

  pub removed_in : (k : Key) (rs : List Record) (n : ℕ) → rising rs ≡ true → lists_key k rs ≡ true → line_of k rs ≡ absent_at k → all p rs ≡ true → p (absent_at k) ≡ true → length rs ≤ n
      → LinePutIn w (f (absent_at k)) (rank k (without k rs)) (lines_for (without k rs) n) (lines_for rs n)
  removed_in k rs n order has blank pass new room =
      let l : suc (length (without k rs)) ≡ length rs = length_without k rs has in
      subst (λ (ls : List Record). LinePutIn w (f (absent_at k)) (rank k (without k rs)) (lines_for (without k rs) n) (lines_for ls n)) (inserted-without k rs order has blank)
      (added_in k (without k rs) n (rising-without k rs order) (lists_without k rs order) (all_without k p rs pass) new (omega arith))
