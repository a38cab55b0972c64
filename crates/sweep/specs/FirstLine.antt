-- The first line of an input: its figures as they are read from the bytes, and which inputs it fits.
use Rattle.std.specs.Prelude.{◌≡◌, ◌+◌, ◌-◌, ◌*◌, ◌≤◌, ◌<◌, ◌&&◌, ◌∷◌}
use Rattle.std.proofs.Common.{◌∙◌}
use Rattle.lists.specs.Basics.{refl, sym, ap, ap₂, ℕ, eqb, Bool, true, false, not, and-false, List, [], length}
use Rattle.lists.specs.Basics.{take, drop, get_or, length-take, drop_of_length-le, drop-drop, drop-cons, take-take, get_or-take, arith, eqb-true, not-false, eq_list}
use Rattle.lists.specs.Basics.{and_fst, and_snd}
use Rattle.lists.specs.Fill.{rest_part}
use Rattle.lists.specs.Pieces.{take-drop-take}
use Rattle.decimal.specs.Field.{figure, number, is_number}
use Rattle.decimal.specs.Laws.{number_bounded}
use Rattle.sweep.specs.declared.FirstLine.{FirstLine}
use Rattle.model.specs.Layouts.{coordinator_bytes, record_bytes}
use Rattle.model.specs.Lines.{field_value, row_of, line_set}
use Rattle.model.specs.Refusals.{refusal_of}
use Rattle.model.specs.SheetCalls.{check_conditions}
use Rattle.model.specs.Visitor.{first_layout, first_bytes, first_number, coordinator_size, input_fits, input_sheets, input_conditions}
use Rattle.sheet_laws.specs.Lines.{line_bytes, line-length}
use Rattle.call_laws.specs.Choices.{not_first}
use Rattle.model.specs.ByteHistories.{Passing}

pub first_bytes_lem : line_bytes first_layout ≡ first_bytes
unfolding line_bytes first_layout
first_bytes_lem = refl

abbrev pub first_of : List ℕ → FirstLine
first_of input = record { lines = first_number 0 input; decisions = first_number 1 input; clock = first_number 2 input }

-- where the record sheet begins
abbrev pub records_from : FirstLine → ℕ
records_from f = first_bytes + (f.decisions + 1) * coordinator_bytes

-- numbers of lines that four columns hold
pub record Small (f : FirstLine) : Type 0 where
  pub lines : f.lines ≤ 9999
  pub decisions : f.decisions ≤ 9999

module _ (s : List ℕ) where
  first_part : take 4 (take first_bytes s) ≡ take 4 s
  first_part = take-take 4 first_bytes s (omega arith)

  second-part : take 4 (drop 4 (take first_bytes s)) ≡ take 4 (drop 4 s)
  second-part = take-drop-take 4 4 first_bytes s (omega arith)

  third-part : take 11 (drop 4 (drop 4 (take first_bytes s))) ≡ take 11 (drop 8 s)
  third-part = ap (take 11) (drop-drop 4 4 (take first_bytes s)) ∙ take-drop-take 11 8 first_bytes s (omega arith)

  -- Its numbers.

  pub lines_read : number (figure 0 9999 (take 4 s)) ≡ first_number 0 s
  unfolding first_layout row_of field_value
  lines_read = ap (λ (t : List ℕ). number (figure 0 9999 t)) (sym first_part)

  pub decisions_read_lem : number (figure 0 9999 (take 4 (drop 4 s))) ≡ first_number 1 s
  unfolding first_layout row_of field_value
  decisions_read_lem = ap (λ (t : List ℕ). number (figure 0 9999 t)) (sym second-part)

  pub clock_read : number (figure 0 4294967295 (take 11 (drop 8 s))) ≡ first_number 2 s
  unfolding first_layout row_of field_value
  clock_read = ap (λ (t : List ℕ). number (figure 0 4294967295 t)) (sym third-part)

  pub first_small : Small (first_of s)
  first_small =
      let a : number (figure 0 9999 (take 4 s)) ≤ 9999 = number_bounded 0 9999 (take 4 s) in
      let b : number (figure 0 9999 (take 4 (drop 4 s))) ≤ 9999 = number_bounded 0 9999 (take 4 (drop 4 s)) in
      record { lines = rw lines_read at a; decisions = rw decisions_read_lem at b }

  -- Its form.

  last_part : first_bytes ≤ length s → drop 11 (drop 4 (drop 4 (take first_bytes s))) ≡ get_or s 19 0 ∷ []
  last_part l =
      let n : length (take first_bytes s) ≡ first_bytes = simp length-take (omega arith) in
      let m : length (take first_bytes s) ≤ first_bytes = omega arith in
      ap (drop 11) (drop-drop 4 4 (take first_bytes s))
      ∙ (drop-drop 11 8 (take first_bytes s)
      ∙ (drop-cons (take first_bytes s) 19 0 (omega arith)
      ∙ ap₂ ◌∷◌ (get_or-take first_bytes s 19 0 (omega arith)) (drop_of_length-le (take first_bytes s) m)))

  ends_line : (b : ℕ) → eq_list (b ∷ []) (10 ∷ []) ≡ eqb b 10
  ends_line b = go (eqb b 10)
    where
      go : (x : Bool) → (x && true) ≡ x
      go true = refl
      go false = refl

  pub first-set : first_bytes ≤ length s → line_set first_layout (take first_bytes s) ≡ (is_number (figure 0 9999 (take 4 s)) && (is_number (figure 0 9999 (take 4 (drop 4 s))) && (is_number (figure 0 4294967295 (take 11 (drop 8 s))) && eqb (get_or s 19 0) 10)))
  unfolding first_layout line_set field_value
  first-set l =
      ap₂ ◌&&◌ (ap (λ (t : List ℕ). is_number (figure 0 9999 t)) first_part)
      (ap₂ ◌&&◌ (ap (λ (t : List ℕ). is_number (figure 0 9999 t)) second-part)
      (ap₂ ◌&&◌ (ap (λ (t : List ℕ). is_number (figure 0 4294967295 t)) third-part)
      (ap (λ (t : List ℕ). eq_list t (10 ∷ [])) (last_part l) ∙ ends_line (get_or s 19 0))))

  -- A figure that cannot be read.

  pub first_wrong : first_bytes ≤ length s → is_number (figure 0 9999 (take 4 s)) ≡ false → false ≡ line_set first_layout (take first_bytes s)
  first_wrong l h =
      let b : Bool = is_number (figure 0 9999 (take 4 (drop 4 s))) in
      let c : Bool = is_number (figure 0 4294967295 (take 11 (drop 8 s))) in
      sym (first-set l ∙ ap (λ (x : Bool). x && (b && (c && eqb (get_or s 19 0) 10))) h)

  pub second_wrong : first_bytes ≤ length s → is_number (figure 0 9999 (take 4 (drop 4 s))) ≡ false → false ≡ line_set first_layout (take first_bytes s)
  second_wrong l h =
      let a : Bool = is_number (figure 0 9999 (take 4 s)) in
      let c : Bool = is_number (figure 0 4294967295 (take 11 (drop 8 s))) in
      sym (first-set l ∙ (ap (λ (x : Bool). a && (x && (c && eqb (get_or s 19 0) 10))) h ∙ and-false a))

  pub third_wrong : first_bytes ≤ length s → is_number (figure 0 4294967295 (take 11 (drop 8 s))) ≡ false → false ≡ line_set first_layout (take first_bytes s)
  third_wrong l h =
      let a : Bool = is_number (figure 0 9999 (take 4 s)) in
      let b : Bool = is_number (figure 0 9999 (take 4 (drop 4 s))) in
      sym
      (first-set l
      ∙ (ap (λ (x : Bool). a && (b && (x && eqb (get_or s 19 0) 10))) h
      ∙ (ap (λ (x : Bool). a && x) (and-false b) ∙ and-false a)))

  -- all three can be read
  pub figures-set : first_bytes ≤ length s → is_number (figure 0 9999 (take 4 s)) ≡ true → is_number (figure 0 9999 (take 4 (drop 4 s))) ≡ true → is_number (figure 0 4294967295 (take 11 (drop 8 s))) ≡ true → eqb (get_or s 19 0) 10 ≡ line_set first_layout (take first_bytes s)
  figures-set l a b c = let e = first-set l in sym (rw (a, b, c) at e)

  -- The input that it fits.

  pub set_long : line_set first_layout (take first_bytes s) ≡ true → first_bytes ≤ length s
  unfolding first_layout line_bytes
  set_long h =
      let e : length (take first_bytes s) ≡ first_bytes = line-length first_layout (take first_bytes s) h in omega (arith, length-take first_bytes s)

  pub unset_unfit : line_set first_layout (take first_bytes s) ≡ false → input_fits s ≡ false
  unfolding input_fits
  unset_unfit h = ap (λ (x : Bool). x && eqb (length s) (first_bytes + coordinator_size s + first_number 0 s * record_bytes)) h

  pub short_unfit : length s < first_bytes → input_fits s ≡ false
  short_unfit l = go (line_set first_layout (take first_bytes s)) refl
    where
      go : (x : Bool) → line_set first_layout (take first_bytes s) ≡ x → input_fits s ≡ false
      go true e = absurd (omega (arith, set_long e))
      go false e = unset_unfit e

  pub set-fits : line_set first_layout (take first_bytes s) ≡ true → input_fits s ≡ eqb (length s) (first_bytes + coordinator_size s + first_number 0 s * record_bytes)
  unfolding input_fits
  set-fits h = ap (λ (x : Bool). x && eqb (length s) (first_bytes + coordinator_size s + first_number 0 s * record_bytes)) h

  pub record Fit : Type 0 where
    pub set : line_set first_layout (take first_bytes s) ≡ true
    pub long : first_bytes ≤ length s
    pub whole : length s ≡ first_bytes + coordinator_size s + first_number 0 s * record_bytes

  pub fit : input_fits s ≡ true → Fit
  unfolding input_fits
  fit h =
      let a : line_set first_layout (take first_bytes s) ≡ true = and_fst (line_set first_layout (take first_bytes s)) _ h in
      let b : eqb (length s) (first_bytes + coordinator_size s + first_number 0 s * record_bytes) ≡ true = and_snd (line_set first_layout (take first_bytes s)) _ h in
      record { set = a; long = set_long a; whole = eqb-true (length s) (first_bytes + coordinator_size s + first_number 0 s * record_bytes) b }

  -- What refuses an input.

  pub unfit_refused : input_fits s ≡ false → refusal_of (input_conditions s) ≡ 1
  unfolding input_conditions refusal_of
  unfit_refused h = rw h

  pub fit_refused : input_fits s ≡ true → refusal_of (input_conditions s) ≡ refusal_of (check_conditions (input_sheets s).records (input_sheets s).coordinator)
  unfolding input_conditions refusal_of
  fit_refused h = rw h

  pub record AcceptedInput : Type 0 where
    pub fits : Fit
    pub passing : Passing (input_sheets s)

  pub accepted_input : refusal_of (input_conditions s) ≡ 0 → AcceptedInput
  unfolding input_conditions
  accepted_input h =
      let p = not_first 1 (not (input_fits s)) _ (omega arith) h in
      record { fits = fit (not-false (input_fits s) p.0); passing = p.1 }

-- The parts of an input that are lent as its sheets.
module _ (s : List ℕ) (n : ℕ) (e : n ≡ records_from (first_of s)) where
  pub records-within : Fit s → (first_bytes ≤ n) × (n ≤ length s)
  records-within f = (omega (arith, e), omega (arith, e, f.whole))

  pub coordinator-part : take (n - first_bytes) (drop first_bytes s) ≡ (input_sheets s).coordinator
  coordinator-part = let k : n - first_bytes ≡ coordinator_size s = omega arith in ap (λ (m : ℕ). take m (drop first_bytes s)) k

  pub records-part : take (length s - n) (drop n s) ≡ (input_sheets s).records
  records-part = rest_part n s ∙ ap (λ (m : ℕ). drop m s) e
