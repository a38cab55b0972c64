-- The sheet of some records, with a line put in at the rank of its key or taken out there, is the sheet of the records after it. For any width, and for any text of a record, so
-- that a record sheet, a plain sheet and a bookkeeping sheet have one law.
use Rattle.std.specs.Prelude.{◌≡◌, ◌-◌, ◌≤◌, ◌<◌, ◌∷◌, ◌++◌}
use Rattle.std.proofs.Common.{◌∙◌}
use Rattle.lists.specs.Basics.{sym, ap, ap₂, ℕ, suc, Bool, true, false, List, map, length, length-map, take, drop, replicate, arith, all, joined}
use Rattle.std.proofs.lemmas.List.{map-append}
use Rattle.lists.specs.Pieces.{joined-append}
use Rattle.model.specs.Types.{Key, Record}
use Rattle.model.specs.Lines.{lines_of}
use Rattle.model.specs.Records.{rising, rank, absent_at}
use Rattle.model.specs.Spares.{spare_line}
use Rattle.model.specs.Writes.{inserted, without}
use Rattle.sheet_laws.specs.KeyOrder.{lists_key}
use Rattle.sheet_laws.specs.Ranks.{rank-within}
use Rattle.sheet_laws.specs.AddedLines.{length_inserted, inserted_at, length_without, without_at, rank_inside}
use Rattle.call_laws.specs.PutIn.{lines_for, sheet-lines}
use Rattle.shifting.specs.Shifted.{insert_at, remove_at}
use Rattle.shifting.specs.Spares.{map-take, map-drop, insert_spares, remove_spares}

module _ (w : ℕ) (some : 0 < w) (f : Record → List ℕ) (p : Record → Bool) (wide : (r : Record) → p r ≡ true → length (f r) ≡ w) where
  abbrev sheet_of : List Record → ℕ → List ℕ
  sheet_of = lines_for w some f p wide

  pub inserted-sheet : (k : Key) (rs : List Record) (n : ℕ) → rising rs ≡ true → lists_key k rs ≡ false → all p rs ≡ true → length rs < n
      → joined (insert_at (rank k rs) (f (absent_at k)) (lines_of w (sheet_of rs n))) ≡ sheet_of (inserted k rs) n
  inserted-sheet k rs n order none pass room =
      let i = rank k rs in
      let x = f (absent_at k) in
      let sp = spare_line w in
      let m = n - suc (length rs) in
      let l : length (map f rs) ≡ length rs = length-map rs f in
      let within : i ≤ length rs = rank-within k rs in
      let j : n - length rs ≡ suc m = omega arith in
      let e : n - length (inserted k rs) ≡ m = ap (λ (y : ℕ). n - y) (length_inserted k rs) in
      let lines : lines_of w (sheet_of rs n) ≡ map f rs ++ replicate (suc m) sp =
      sheet-lines w some f p wide rs n pass ∙ ap (λ (y : ℕ). map f rs ++ replicate y sp) j in
      let texts : take i (map f rs) ++ (x ∷ drop i (map f rs)) ≡ map f (inserted k rs) =
      ap₂ (λ (a b : List (List ℕ)). a ++ (x ∷ b)) (sym (map-take f i rs)) (sym (map-drop f i rs))
      ∙ (sym (map-append f (take i rs) (absent_at k ∷ drop i rs)) ∙ ap (map f) (sym (inserted_at k rs order none))) in
      ap (λ (ls : List (List ℕ)). joined (insert_at i x ls)) lines
      ∙ (ap joined (insert_spares sp i m x (map f rs) (omega arith))
      ∙ (joined-append (take i (map f rs) ++ (x ∷ drop i (map f rs))) (replicate m sp)
      ∙ ap₂ (λ (ls : List (List ℕ)) (y : ℕ). joined ls ++ joined (replicate y sp)) texts (sym e)))

  pub removed_sheet : (k : Key) (rs : List Record) (n : ℕ) → rising rs ≡ true → lists_key k rs ≡ true → all p rs ≡ true → length rs ≤ n
      → joined (remove_at (rank k rs) (spare_line w) (lines_of w (sheet_of rs n))) ≡ sheet_of (without k rs) n
  removed_sheet k rs n order has pass room =
      let i = rank k rs in
      let sp = spare_line w in
      let m = n - length rs in
      let l : length (map f rs) ≡ length rs = length-map rs f in
      let inside : i < length rs = rank_inside k rs order has in
      let q : suc (length (without k rs)) ≡ length rs = length_without k rs has in
      let e : n - length (without k rs) ≡ suc m = omega arith in
      let texts : take i (map f rs) ++ drop (suc i) (map f rs) ≡ map f (without k rs) =
      ap₂ ◌++◌ (sym (map-take f i rs)) (sym (map-drop f (suc i) rs))
      ∙ (sym (map-append f (take i rs) (drop (suc i) rs)) ∙ ap (map f) (sym (without_at k rs order has))) in
      ap (λ (ls : List (List ℕ)). joined (remove_at i sp ls)) (sheet-lines w some f p wide rs n pass)
      ∙ (ap joined (remove_spares sp i m (map f rs) (omega arith))
      ∙ (joined-append (take i (map f rs) ++ drop (suc i) (map f rs)) (replicate (suc m) sp)
      ∙ ap₂ (λ (ls : List (List ℕ)) (y : ℕ). joined ls ++ joined (replicate y sp)) texts (sym e)))
