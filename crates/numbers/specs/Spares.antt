-- Spares behind records: where they begin, counted row by row from the end, and what stands in a target with the records filled first and the spares behind them.
use Rattle.std.specs.Prelude.{◌+◌, ◌-◌, ◌*◌, ◌/◌, ◌≤◌, ◌<◌, ◌≡◌, ◌∷◌, ◌++◌}
use Rattle.lists.specs.Basics.{ℕ, zero, suc, refl, sym, ap, ap₂, eqb, true, false, List, [], map}
use Rattle.lists.specs.Basics.{length, take, drop, replicate, length-drop, ne_eqb, take_all, arith, add-one, all, joined}
use Rattle.std.proofs.lemmas.List.{length-replicate, get_or-replicate}
use Rattle.std.proofs.Common.{take-suc, length-take-le, ◌∙◌}
use Rattle.lists.specs.Pieces.{over-part, length-pieces, get_or-pieces}
use Rattle.lists.specs.Fill.{FilledTo, fill_first, fill_next, fill_last, front_length, front_rest, front_back}
use Rattle.model.specs.Layouts.{record_layout, record_bytes, record_fields}
use Rattle.model.specs.Lines.{row_of, line_text, lines_of}
use Rattle.model.specs.Records.{rows}
use Rattle.model.specs.Spares.{spare_line, trimmed, filled_lines, front, spares_text, record_lines}
use Rattle.model.specs.SheetCalls.{filled_rows, rows_front}
use Rattle.sheet_laws.specs.Fronts.{length-spare, filled_within}
use Rattle.sheet_laws.specs.SparedNumbers.{rows-within}
use Rattle.sheet_laws.specs.Trimmed.{trimmed-pass, trimmed_fail}

-- the rows of a sheet's record lines, and zeros behind them
unfoldable pub rows_read : List ℕ → List ℕ
rows_read s =
    joined (map (row_of record_layout) (lines_of record_bytes (record_lines s)))
    ++ replicate ((length s / record_bytes - filled_lines record_bytes s) * record_fields) 0

-- the lines of the rows up to the last that is no spare, and spares behind them
unfoldable pub lines_written : List ℕ → List ℕ
lines_written v =
    joined (map (line_text record_layout) (rows (rows_front v))) ++ spares_text record_bytes (length v / record_fields - filled_rows v)

-- whichever side 0 stands on
pub zeros_is : (row : List ℕ) → all (λ (x : ℕ). eqb x 0) row ≡ all (eqb 0) row
unfolding all
zeros_is [] = refl
zeros_is (zero ∷ row) = zeros_is row
zeros_is (suc x ∷ row) = rw (ne_eqb (suc x) 0 (λ e. omega arith), ne_eqb 0 (suc x) (λ e. omega arith))

-- Counting from the end.

module _ (v : List ℕ) where
  -- the rows behind the first n make no difference
  pub record SparesFrom (n : ℕ) : Type 0 where
    pub within : n ≤ length v / record_fields
    pub kept : trimmed (all (eqb 0)) (take n (rows v)) ≡ filled_rows v

  count_rows_lem : length (rows v) ≡ length v / record_fields
  unfolding rows
  count_rows_lem = length-pieces record_fields (length v / record_fields) v

  pub spares-first : SparesFrom (length v / record_fields)
  unfolding filled_rows
  spares-first =
      record {
        within = omega arith;
        kept = ap (trimmed (all (eqb 0))) (take_all (length v / record_fields) (rows v) (omega (arith, count_rows_lem)));
      }

  -- row i, as the code lends it
  abbrev lent : ℕ → List ℕ
  lent i = take (i * record_fields + record_fields - i * record_fields) (drop (i * record_fields) v)

  last_row_lem : (i : ℕ) → i < length v / record_fields → take (i + 1) (rows v) ≡ take i (rows v) ++ (lent i ∷ [])
  unfolding rows
  last_row_lem i l =
      let w : record_fields ≡ i * record_fields + record_fields - i * record_fields = omega arith in
      ap (λ (k : ℕ). take k (rows v)) (add-one i)
      ∙ (take-suc (rows v) i [] (omega (arith, count_rows_lem))
      ∙ ap (λ (x : List ℕ). take i (rows v) ++ (x ∷ []))
      (get_or-pieces record_fields i (length v / record_fields) v l ∙ ap (λ (k : ℕ). take k (drop (i * record_fields) v)) w))

  -- it is no spare
  pub no_spare_lem : (i : ℕ) → SparesFrom (i + 1) → all (eqb 0) (lent i) ≡ false → i + 1 ≡ filled_rows v
  no_spare_lem i f h =
      let l = f.within in
      let k : length (take i (rows v)) ≡ i = length-take-le i (rows v) (omega (arith, count_rows_lem)) in
      let t : trimmed (all (eqb 0)) (take (i + 1) (rows v)) ≡ suc i =
      ap (trimmed (all (eqb 0))) (last_row_lem i (omega arith)) ∙ (trimmed_fail (all (eqb 0)) (lent i) (take i (rows v)) h ∙ ap suc k) in
      omega (arith, f.kept)

  -- it is one
  pub one-spare : (i : ℕ) → SparesFrom (i + 1) → all (eqb 0) (lent i) ≡ true → SparesFrom i
  one-spare i f h =
      let l = f.within in
      record {
        within = omega arith;
        kept =
            sym (ap (trimmed (all (eqb 0))) (last_row_lem i (omega arith)) ∙ trimmed-pass (all (eqb 0)) (lent i) (take i (rows v)) h)
            ∙ f.kept;
      }

  -- no row is left
  pub none_left : (n : ℕ) → n ≤ 0 → SparesFrom n → 0 ≡ filled_rows v
  unfolding trimmed
  none_left zero l f = f.kept
  none_left (suc n) l f = absurd (omega arith)

-- Filling with spares.

abbrev pub SparedTo : ℕ → List ℕ → ℕ → Type 0
SparedTo n target i = FilledTo record_bytes (replicate n (spare_line record_bytes)) target i

pub spared-first : (target : List ℕ) → length target ≡ length target / record_bytes * record_bytes → SparedTo (length target / record_bytes) target 0
spared-first target e =
    fill_first record_bytes (replicate (length target / record_bytes) (spare_line record_bytes)) target
    (e ∙ ap (λ (m : ℕ). m * record_bytes) (sym (length-replicate (length target / record_bytes) (spare_line record_bytes))))

pub spared_room : (n i : ℕ) (target : List ℕ) → SparedTo n target i → length target ≡ n * record_bytes
spared_room n i target f = f.room ∙ ap (λ (m : ℕ). m * record_bytes) (length-replicate n (spare_line record_bytes))

-- spare i over the part that the code lends
pub spared_next : (n i : ℕ) (target line t : List ℕ) → i < n → line ≡ spare_line record_bytes → t ≡ line → SparedTo n target i → SparedTo n (take (i * record_bytes) target ++ (t ++ drop (i * record_bytes + record_bytes - i * record_bytes) (drop (i * record_bytes) target))) (i + 1)
spared_next n i target line t l e p f =
    let m : length t ≡ record_bytes = ap length (p ∙ e) ∙ length-spare record_bytes (omega arith) in
    rw (over-part target t (i * record_bytes) (i * record_bytes + record_bytes) (m ∙ omega arith))
    (fill_next record_bytes (replicate n (spare_line record_bytes)) target t i (omega (arith, length-replicate n (spare_line record_bytes)))
    (p ∙ (e ∙ sym (get_or-replicate n i (spare_line record_bytes) [] l))) m f)

pub spared_last : (n i : ℕ) (target : List ℕ) → n ≤ i → SparedTo n target i → target ≡ spares_text record_bytes n
spared_last n i target l f = fill_last record_bytes (replicate n (spare_line record_bytes)) target i (omega (arith, length-replicate n (spare_line record_bytes))) f

-- Both parts of a target, one lent after the other. What stands behind the first part, a, as it came back.
abbrev behind : ℕ → List ℕ → List ℕ → List ℕ
behind k a t = take (length (a ++ drop k t) - k) (drop k (a ++ drop k t))

-- and the whole, once that came back as z
abbrev together : ℕ → List ℕ → List ℕ → List ℕ → List ℕ
together k a t z = take k (a ++ drop k t) ++ (z ++ drop (length (a ++ drop k t) - k) (drop k (a ++ drop k t)))

-- The numbers of the record lines, which end at byte `end`, and zeros.
module _ (s t : List ℕ) (end : ℕ) (whole : length s ≡ length s / record_bytes * record_bytes) (fits : length t ≡ length s / record_bytes * record_fields) (ends : end ≡ filled_lines record_bytes s * record_bytes) where
  abbrev lines : ℕ
  lines = filled_lines record_bytes s

  few_lines : lines ≤ length s / record_bytes
  few_lines = filled_within record_bytes (omega arith) s whole

  pub read_few : end ≤ length s
  read_few = let l = few_lines in omega arith

  pub read_room : end / record_bytes * record_fields ≤ length t
  read_room = let l = few_lines in omega arith

  pub read_fits : length (take (end / record_bytes * record_fields) t) ≡ length (take end s) / record_bytes * record_fields
  read_fits =
      let l = read_few in
      let m = read_room in
      length-take-le (end / record_bytes * record_fields) t m ∙ ap (λ (n : ℕ). n / record_bytes * record_fields) (sym (length-take-le end s l))

  module _ (a : List ℕ) (kept : length a ≡ length (take (end / record_bytes * record_fields) t)) where
    pub read_rest : end / record_bytes * record_fields ≤ length (a ++ drop (end / record_bytes * record_fields) t)
    read_rest =
        let e = front_length (end / record_bytes * record_fields) a t kept read_room in
        let l = read_room in
        omega arith

    pub read_behind : (z : List ℕ) → a ≡ joined (map (row_of record_layout) (lines_of record_bytes (take end s))) → z ≡ replicate (length (behind (end / record_bytes * record_fields) a t)) 0 → together (end / record_bytes * record_fields) a t z ≡ rows_read s
    unfolding rows_read front
    read_behind z e q =
        let k = end / record_bytes * record_fields in
        let l = few_lines in
        let n : length (behind k a t) ≡ (length s / record_bytes - lines) * record_fields = ap length (front_rest k a t kept read_room) ∙ (length-drop k t ∙ omega arith) in
        front_back k a t kept read_room z
        ∙ ap₂ ◌++◌ (e ∙ ap (λ (m : ℕ). joined (map (row_of record_layout) (lines_of record_bytes (take m s)))) ends) (q ∙ ap (λ (m : ℕ). replicate m 0) n)

-- The lines of n rows, and spares.
module _ (v t : List ℕ) (n : ℕ) (whole : length v ≡ length v / record_fields * record_fields) (fits : length t ≡ length v / record_fields * record_bytes) (counted : n ≡ filled_rows v) where
  few-rows : n ≤ length v / record_fields
  few-rows = let l = rows-within v whole in omega arith

  pub write_few : n * record_fields ≤ length v
  write_few = let l = few-rows in omega arith

  pub write_room : n * record_bytes ≤ length t
  write_room = let l = few-rows in omega arith

  pub write_fits : length (take (n * record_bytes) t) ≡ length (take (n * record_fields) v) / record_fields * record_bytes
  write_fits =
      let l = length-take-le (n * record_fields) v write_few in
      let m = length-take-le (n * record_bytes) t write_room in
      omega arith

  module _ (a : List ℕ) (kept : length a ≡ length (take (n * record_bytes) t)) where
    pub write_rest : n * record_bytes ≤ length (a ++ drop (n * record_bytes) t)
    write_rest =
        let e = front_length (n * record_bytes) a t kept write_room in
        let l = write_room in
        omega arith

    behind-length : length (behind (n * record_bytes) a t) ≡ (length v / record_fields - n) * record_bytes
    behind-length =
        let l = few-rows in
        ap length (front_rest (n * record_bytes) a t kept write_room) ∙ (length-drop (n * record_bytes) t ∙ omega arith)

    pub write_whole : length (behind (n * record_bytes) a t) ≡ length (behind (n * record_bytes) a t) / record_bytes * record_bytes
    write_whole = let e = behind-length in omega arith

    pub write_behind : (z : List ℕ) → a ≡ joined (map (line_text record_layout) (rows (take (n * record_fields) v))) → z ≡ spares_text record_bytes (length (behind (n * record_bytes) a t) / record_bytes) → together (n * record_bytes) a t z ≡ lines_written v
    unfolding lines_written rows_front
    write_behind z e q =
        let b = behind-length in
        let m : length (behind (n * record_bytes) a t) / record_bytes ≡ length v / record_fields - filled_rows v = omega arith in
        front_back (n * record_bytes) a t kept write_room z
        ∙ ap₂ ◌++◌ (e ∙ ap (λ (i : ℕ). joined (map (line_text record_layout) (rows (take (i * record_fields) v)))) counted) (q ∙ ap (spares_text record_bytes) m)
