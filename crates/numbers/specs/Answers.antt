-- What each call answers, case by case in the order of its conditions.
use Rattle.std.specs.Prelude.{◌≡◌, ◌-◌, ◌*◌, ◌/◌, ◌++◌}
use Rattle.std.proofs.Common.{◌∙◌}
use Rattle.lists.specs.Basics.{refl, ap, ℕ, true, false, List, length, replicate, eq-eqb, ne_eqb, and_fst, and_snd}
use Rattle.model.specs.Layouts.{record_bytes, record_fields}
use Rattle.model.specs.Records.{records_accepted, rows_accepted}
use Rattle.model.specs.Spares.{filled_lines, spares_text, sized, record_lines, sheet_accepted}
use Rattle.model.specs.Refusals.{refusal_of}
use Rattle.model.specs.SheetCalls.{read_records_conditions, sheet_numbers, numbers_read, filled_rows, rows_front, all_rows_accepted, rows_text, write_records_conditions, records_written}
use Rattle.sheet_laws.specs.Numbers.{numbers_of-lines, lines_of-numbers}
use Rattle.sheet_laws.specs.Fronts.{sized-whole}
use Rattle.numbers.specs.Spares.{rows_read, lines_written}

-- what is filled in is what the calls are to leave
rows_read_lem : (s : List ℕ) → sheet_accepted s ≡ true → rows_read s ≡ sheet_numbers s
unfolding rows_read sheet_numbers sheet_accepted
rows_read_lem s h =
    ap (λ (x : List ℕ). x ++ replicate ((length s / record_bytes - filled_lines record_bytes s) * record_fields) 0)
    (numbers_of-lines (record_lines s) (and_snd (sized record_bytes s) (records_accepted (record_lines s)) h))

lines_written_lem : (v : List ℕ) → all_rows_accepted v ≡ true → lines_written v ≡ rows_text v
unfolding lines_written rows_text all_rows_accepted
lines_written_lem v h =
    ap (λ (x : List ℕ). x ++ spares_text record_bytes (length v / record_fields - filled_rows v))
    (lines_of-numbers (rows_front v) (and_snd (sized record_fields v) (rows_accepted (rows_front v)) h))

-- the sizes that filling needs
pub sheet-whole : (s : List ℕ) → sheet_accepted s ≡ true → length s ≡ length s / record_bytes * record_bytes
unfolding sheet_accepted
sheet-whole s h = sized-whole record_bytes s (and_fst (sized record_bytes s) (records_accepted (record_lines s)) h)

pub rows_whole : (v : List ℕ) → all_rows_accepted v ≡ true → length v ≡ length v / record_fields * record_fields
unfolding all_rows_accepted
rows_whole v h = sized-whole record_fields v (and_fst (sized record_fields v) (rows_accepted (rows_front v)) h)

-- Record sheet to numbers.
module _ (s t : List ℕ) where
  -- the answer r with the target left as u
  abbrev pub ReadRecords : ℕ → List ℕ → Type 0
  ReadRecords r u = (r ≡ refusal_of (read_records_conditions s t)) × (u ≡ numbers_read s t)

  pub read_bad : sheet_accepted s ≡ false → ReadRecords 1 t
  unfolding read_records_conditions numbers_read refusal_of
  read_bad e = rw e (refl, refl)

  pub read_misfit : sheet_accepted s ≡ true → (length t ≡ length s / record_bytes * record_fields → ⊥) → ReadRecords 1 t
  unfolding read_records_conditions numbers_read refusal_of
  read_misfit e n = rw (e, ne_eqb (length t) (length s / record_bytes * record_fields) n) (refl, refl)

  pub read_done : (u : List ℕ) → sheet_accepted s ≡ true → length t ≡ length s / record_bytes * record_fields → u ≡ rows_read s → ReadRecords 0 u
  unfolding read_records_conditions numbers_read refusal_of
  read_done u e n q =
      let k = rows_read_lem s e in
      rw (e, eq-eqb (length t) (length s / record_bytes * record_fields) n) (refl, q ∙ k)

-- Numbers to record sheet.
module _ (v t : List ℕ) where
  abbrev pub WriteRecords : ℕ → List ℕ → Type 0
  WriteRecords r u = (r ≡ refusal_of (write_records_conditions v t)) × (u ≡ records_written v t)

  pub write_bad : all_rows_accepted v ≡ false → WriteRecords 1 t
  unfolding write_records_conditions records_written refusal_of
  write_bad e = rw e (refl, refl)

  pub write_misfit : all_rows_accepted v ≡ true → (length t ≡ length v / record_fields * record_bytes → ⊥) → WriteRecords 1 t
  unfolding write_records_conditions records_written refusal_of
  write_misfit e n = rw (e, ne_eqb (length t) (length v / record_fields * record_bytes) n) (refl, refl)

  pub write_done : (u : List ℕ) → all_rows_accepted v ≡ true → length t ≡ length v / record_fields * record_bytes → u ≡ lines_written v → WriteRecords 0 u
  unfolding write_records_conditions records_written refusal_of
  write_done u e n q =
      let k = lines_written_lem v e in
      rw (e, eq-eqb (length t) (length v / record_fields * record_bytes) n) (refl, q ∙ k)
