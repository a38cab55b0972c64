-- Spare lines at the end of a sheet. Document 02, note 6: "A sheet may end in spare lines, .. spaces and LF, counted in the 500, or be all spares", note 7: "a spare is 107 spaces and LF"; note 6: "On note 4's sheets a
-- spare is spaces to each width". The lines before them are its front: a spare above a record line stands in the front, where it can't be read.
use Rattle.std.specs.Prelude.{◌-◌, ◌*◌, ◌/◌, ◌&&◌, ◌∷◌, ◌++◌}
use Rattle.lists.specs.Basics.{ℕ, suc, eqb, leb, Bool, cond, List, [], length, take, replicate, eq_list, joined}
use Rattle.model.specs.Types.{Record}
use Rattle.model.specs.Layouts.{record_bytes}
use Rattle.model.specs.Lines.{lines_of}
use Rattle.model.specs.Records.{records_text, records_accepted}

-- spaces and LF
unfoldable pub spare_line : ℕ → List ℕ
spare_line width = replicate (width - 1) 32 ++ (10 ∷ [])

abbrev pub is_spare : ℕ → List ℕ → Bool
is_spare width l = eq_list l (spare_line width)

-- the index behind the last element that fails the test
unfoldable pub trimmed {ℓ} : {A : Type ℓ} → (A → Bool) → List A → ℕ
trimmed p [] = 0
trimmed p (x ∷ xs) = cond (eqb (trimmed p xs) 0 && p x) 0 (suc (trimmed p xs))

-- how many lines a sheet has up to the last that is no spare
unfoldable pub filled_lines : ℕ → List ℕ → ℕ
filled_lines width s = trimmed (is_spare width) (lines_of width s)

-- the sheet without the spares at its end
unfoldable pub front : ℕ → List ℕ → List ℕ
front width s = take (filled_lines width s * width) s

-- so many spares
abbrev pub spares_text : ℕ → ℕ → List ℕ
spares_text width n = joined (replicate n (spare_line width))

-- whole lines, 1 to 500 of them, spares "counted in the 500"
unfoldable pub sized : ℕ → List ℕ → Bool
sized width s = eqb (length s) (length s / width * width) && leb 1 (length s / width) && leb (length s / width) 500

-- The record sheet.

-- the lines of its records
abbrev pub record_lines : List ℕ → List ℕ
record_lines s = front record_bytes s

-- the sheet of so many lines for these records
unfoldable pub sheet_for : List Record → ℕ → List ℕ
sheet_for rs size = records_text rs ++ spares_text record_bytes (size - length rs)

-- the record sheets that refusal 1 lets pass
unfoldable pub sheet_accepted : List ℕ → Bool
sheet_accepted s = sized record_bytes s && records_accepted (record_lines s)
