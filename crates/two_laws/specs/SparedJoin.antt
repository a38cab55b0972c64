-- Two sheets with as many lines and as many spares join to one with as many spares: a spare joins with a spare to a spare, and a line that is no spare on the bookkeeping
-- sheet joins to none. So the joined sheet's front is the fronts joined.
use Rattle.std.specs.Prelude.{◌+◌, ◌-◌, ◌*◌, ◌/◌, ◌≡◌, ◌&&◌, ◌∷◌, ◌++◌}
use Rattle.std.proofs.Common.{◌∙◌}
use Rattle.lists.specs.Basics.{ℕ, zero, suc, refl, sym, ap, ap₂, Bool, true, false, cond, List, [], arith}
use Rattle.lists.specs.Basics.{length, length-append, take, take_at, replicate, eqb, ne_eqb, joined, eq_list-true, eq_list_refl}
use Rattle.std.proofs.lemmas.List.{length-replicate}
use Rattle.lists.specs.Pieces.{AllOf, length-joined, joined-append, all_join}
use Rattle.model.specs.Layouts.{record_bytes}
use Rattle.model.specs.Lines.{lines_of}
use Rattle.model.specs.Spares.{spare_line, is_spare, trimmed, filled_lines, front, spares_text, record_lines}
use Rattle.model.specs.TwoSheets.{plain_bytes, bookkeeping_bytes, join_line, plain_line, bookkeeping_line, join_lines, joined_sheet}
use Rattle.model.specs.TwoSpares.{plain_lines, bookkeeping_lines, joined_lines}
use Rattle.sheet_laws.specs.Trimmed.{trimmed_more}
use Rattle.sheet_laws.specs.ByIndex.{length-lines}
use Rattle.sheet_laws.specs.Fronts.{wide_lines, filled_within, front-count, front-whole, front-filled, lines-spared, spares_wide, lines-joined}
use Rattle.sheet_laws.specs.Ends.{quotient}
use Rattle.two_laws.specs.TwoLines.{length-join_line, bookkeeping_back}

-- spares join to a spare
spare-joins : join_line (spare_line plain_bytes) (spare_line bookkeeping_bytes) ≡ spare_line record_bytes
unfolding spare_line join_line
spare-joins = refl

-- of which either part is one
pub plain-spare : plain_line (spare_line record_bytes) ≡ spare_line plain_bytes
unfolding spare_line plain_line
plain-spare = refl

pub bookkeeping-spare : bookkeeping_line (spare_line record_bytes) ≡ spare_line bookkeeping_bytes
unfolding spare_line bookkeeping_line
bookkeeping-spare = refl

joined-spare : (p b : List ℕ) → length p ≡ plain_bytes → length b ≡ bookkeeping_bytes → is_spare record_bytes (join_line p b) ≡ true → is_spare bookkeeping_bytes b ≡ true
joined-spare p b l m h =
    let e : b ≡ spare_line bookkeeping_bytes =
    sym (bookkeeping_back p b l m) ∙ (ap bookkeeping_line (eq_list-true (join_line p b) (spare_line record_bytes) h) ∙ bookkeeping-spare) in
    ap (is_spare bookkeeping_bytes) e ∙ eq_list_refl (spare_line bookkeeping_bytes)

-- Lines.

join_append : (ps qs bs cs : List (List ℕ)) → length ps ≡ length bs → join_lines (ps ++ qs) (bs ++ cs) ≡ join_lines ps bs ++ join_lines qs cs
unfolding join_lines
join_append [] qs [] cs e = refl
join_append [] qs (b ∷ bs) cs e = absurd (omega (arith, e))
join_append (p ∷ ps) qs [] cs e = absurd (omega (arith, e))
join_append (p ∷ ps) qs (b ∷ bs) cs e = ap (λ (t : List (List ℕ)). join_line p b ∷ t) (join_append ps qs bs cs (omega (arith, e)))

join_spares : (n : ℕ) → join_lines (replicate n (spare_line plain_bytes)) (replicate n (spare_line bookkeeping_bytes)) ≡ replicate n (spare_line record_bytes)
unfolding join_lines
join_spares zero = refl
join_spares (suc n) = ap₂ ◌∷◌ spare-joins (join_spares n)

join_count : (ps bs : List (List ℕ)) → length ps ≡ length bs → length (join_lines ps bs) ≡ length bs
unfolding join_lines
join_count [] [] e = refl
join_count [] (b ∷ bs) e = e
join_count (p ∷ ps) [] e = absurd (omega (arith, e))
join_count (p ∷ ps) (b ∷ bs) e = ap suc (join_count ps bs (omega (arith, e)))

join_wide : (ps bs : List (List ℕ)) → AllOf plain_bytes ps → AllOf bookkeeping_bytes bs → AllOf record_bytes (join_lines ps bs)
unfolding join_lines
join_wide [] bs f g = tt
join_wide (p ∷ ps) [] f g = tt
join_wide (p ∷ ps) (b ∷ bs) f g = (length-join_line p b f.0 g.0, join_wide ps bs f.1 g.1)

-- the lines behind the first one, where none is to be cut
trimmed_tail : (n m : ℕ) (x : Bool) → cond (eqb n 0 && x) 0 (suc n) ≡ suc m → n ≡ m
trimmed_tail zero m true q = absurd (omega (arith, q))
trimmed_tail zero m false q = omega (arith, q)
trimmed_tail (suc n) m x q = omega (arith, sym (ap (λ (y : Bool). cond (y && x) 0 (suc (suc n))) (ne_eqb (suc n) 0 (λ z. omega (arith, z)))) ∙ q)

-- a first line that isn't to be cut, nor one that is a spare only where it is
still_one : (n : ℕ) (x y : Bool) → (y ≡ true → x ≡ true) → cond (eqb n 0 && x) 0 (suc n) ≡ suc n → cond (eqb n 0 && y) 0 (suc n) ≡ suc n
still_one zero x true k h = absurd (omega (arith, sym h ∙ ap (λ (z : Bool). cond z 0 1) (k refl)))
still_one zero x false k h = refl
still_one (suc n) x y k h = ap (λ (z : Bool). cond (z && y) 0 (suc (suc n))) (ne_eqb (suc n) 0 (λ z. omega (arith, z)))

-- no spare at the end of the bookkeeping lines, none at the end of the joined ones
join_filled : (ps bs : List (List ℕ)) → AllOf plain_bytes ps → AllOf bookkeeping_bytes bs → length ps ≡ length bs → trimmed (is_spare bookkeeping_bytes) bs ≡ length bs
    → trimmed (is_spare record_bytes) (join_lines ps bs) ≡ length bs
unfolding join_lines trimmed
join_filled [] [] f g e h = refl
join_filled [] (b ∷ bs) f g e h = absurd (omega (arith, e))
join_filled (p ∷ ps) [] f g e h = absurd (omega (arith, e))
join_filled (p ∷ ps) (b ∷ bs) f g e h =
    let rest : trimmed (is_spare bookkeeping_bytes) bs ≡ length bs = trimmed_tail (trimmed (is_spare bookkeeping_bytes) bs) (length bs) (is_spare bookkeeping_bytes b) h in
    let ours = join_filled ps bs f.1 g.1 (omega (arith, e)) rest in
    ap (λ (n : ℕ). cond (eqb n 0 && is_spare record_bytes (join_line p b)) 0 (suc n)) ours
    ∙ still_one (length bs) (is_spare bookkeeping_bytes b) (is_spare record_bytes (join_line p b)) (joined-spare p b f.0 g.0)
    (ap (λ (n : ℕ). cond (eqb n 0 && is_spare bookkeeping_bytes b) 0 (suc n)) (sym rest) ∙ h)

-- Sheets.
module _ (ps bs : List ℕ) (wp : length ps ≡ length ps / plain_bytes * plain_bytes) (wb : length bs ≡ length bs / bookkeeping_bytes * bookkeeping_bytes)
    (many : length ps / plain_bytes ≡ length bs / bookkeeping_bytes) (same : filled_lines plain_bytes ps ≡ filled_lines bookkeeping_bytes bs) where
  abbrev spares : ℕ
  spares = length bs / bookkeeping_bytes - filled_lines bookkeeping_bytes bs

  abbrev plains : List (List ℕ)
  plains = lines_of plain_bytes (plain_lines ps)

  abbrev books : List (List ℕ)
  books = lines_of bookkeeping_bytes (bookkeeping_lines bs)

  plains-count : length plains ≡ filled_lines plain_bytes ps
  plains-count = length-lines plain_bytes (plain_lines ps) ∙ front-count plain_bytes (omega arith) ps wp

  books-count : length books ≡ filled_lines bookkeeping_bytes bs
  books-count =
      length-lines bookkeeping_bytes (bookkeeping_lines bs) ∙ front-count bookkeeping_bytes (omega arith) bs wb

  as_many_lem : length plains ≡ length books
  as_many_lem = plains-count ∙ (same ∙ sym books-count)

  plains_wide : AllOf plain_bytes plains
  plains_wide = wide_lines plain_bytes (omega arith) (plain_lines ps) (front-whole plain_bytes (omega arith) ps wp)

  books_wide : AllOf bookkeeping_bytes books
  books_wide = wide_lines bookkeeping_bytes (omega arith) (bookkeeping_lines bs) (front-whole bookkeeping_bytes (omega arith) bs wb)

  joins : List (List ℕ)
  joins = join_lines plains books

  joins_wide : AllOf record_bytes joins
  unfolding joins
  joins_wide = join_wide plains books plains_wide books_wide

  joins-count : length joins ≡ filled_lines bookkeeping_bytes bs
  unfolding joins
  joins-count = join_count plains books as_many_lem ∙ books-count

  -- all lines joined
  all-joined : join_lines (lines_of plain_bytes ps) (lines_of bookkeeping_bytes bs) ≡ joins ++ replicate spares (spare_line record_bytes)
  unfolding joins
  all-joined =
      let k : length ps / plain_bytes - filled_lines plain_bytes ps ≡ spares = ap₂ ◌-◌ many same in
      ap₂ join_lines
      (lines-spared plain_bytes (omega arith) ps wp ∙ ap (λ (n : ℕ). plains ++ replicate n (spare_line plain_bytes)) k)
      (lines-spared bookkeeping_bytes (omega arith) bs wb)
      ∙ (join_append plains (replicate spares (spare_line plain_bytes)) books (replicate spares (spare_line bookkeeping_bytes)) as_many_lem
      ∙ ap (λ (t : List (List ℕ)). join_lines plains books ++ t) (join_spares spares))

  pub joined-spared : joined_sheet ps bs ≡ joined_lines ps bs ++ spares_text record_bytes spares
  unfolding joined_sheet joins
  joined-spared = ap joined all-joined ∙ joined-append joins (replicate spares (spare_line record_bytes))

  joined_wide : AllOf record_bytes (joins ++ replicate spares (spare_line record_bytes))
  joined_wide = all_join record_bytes joins (replicate spares (spare_line record_bytes)) joins_wide (spares_wide record_bytes (omega arith) spares)

  sheet_is : joined_sheet ps bs ≡ joined (joins ++ replicate spares (spare_line record_bytes))
  unfolding joined_sheet
  sheet_is = ap joined all-joined

  pub joined_length : length (joined_sheet ps bs) ≡ length bs / bookkeeping_bytes * record_bytes
  joined_length =
      let l = filled_within bookkeeping_bytes (omega arith) bs wb in
      let n : length (joins ++ replicate spares (spare_line record_bytes)) ≡ length bs / bookkeeping_bytes =
      length-append joins (replicate spares (spare_line record_bytes))
      ∙ (ap₂ ◌+◌ joins-count (length-replicate spares (spare_line record_bytes)) ∙ omega (arith, l)) in
      ap length sheet_is ∙ (length-joined record_bytes (joins ++ replicate spares (spare_line record_bytes)) joined_wide ∙ ap (λ (m : ℕ). m * record_bytes) n)

  pub joined-count : length (joined_sheet ps bs) / record_bytes ≡ length bs / bookkeeping_bytes
  joined-count = ap (λ (m : ℕ). m / record_bytes) joined_length ∙ quotient record_bytes (omega arith) (length bs / bookkeeping_bytes)

  line-joined : filled_lines record_bytes (joined_sheet ps bs) ≡ length joins
  unfolding filled_lines joins
  line-joined =
      ap (trimmed (is_spare record_bytes)) (ap (lines_of record_bytes) sheet_is ∙ lines-joined record_bytes (omega arith) (joins ++ replicate spares (spare_line record_bytes)) joined_wide)
      ∙ (trimmed_more (is_spare record_bytes) (spare_line record_bytes) spares joins (eq_list_refl (spare_line record_bytes))
      ∙ (join_filled plains books plains_wide books_wide as_many_lem (front-filled bookkeeping_bytes (omega arith) bs wb ∙ sym books-count) ∙ sym (join_count plains books as_many_lem)))

  pub joined-filled : filled_lines record_bytes (joined_sheet ps bs) ≡ filled_lines bookkeeping_bytes bs
  joined-filled = line-joined ∙ joins-count

  pub joined-front : record_lines (joined_sheet ps bs) ≡ joined_lines ps bs
  unfolding front joined_sheet joins
  joined-front =
      ap₂ (λ (m : ℕ) (t : List ℕ). take (m * record_bytes) t) line-joined joined-spared
      ∙ take_at (joined joins) (spares_text record_bytes spares) (length joins * record_bytes) (length-joined record_bytes joins joins_wide)
