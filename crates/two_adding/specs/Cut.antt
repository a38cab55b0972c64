-- What is told of a place on the lines before the spares is what is told of both sheets.
use Rattle.std.specs.Prelude.{◌≡◌, ◌*◌, ◌/◌, ◌≤◌}
use Rattle.std.proofs.Common.{◌∙◌}
use Rattle.lists.specs.Basics.{refl, sym, ap, ap₂, ℕ, eqb, leb, Bool, true, false, List, length, take, arith, all, eqb-true, eqb-false, eq-eqb, ne_eqb, leb-true, leb-false}
use Rattle.model.specs.Types.{Key, Record, Ranked}
use Rattle.model.specs.Records.{records, ranked}
use Rattle.model.specs.Spares.{filled_lines, front}
use Rattle.model.specs.Refusals.{Condition, refusal_of}
use Rattle.model.specs.Writes.{Sheets}
use Rattle.model.specs.SheetCalls.{told_rank}
use Rattle.model.specs.Conditions.{no_spare, conditions, add_conditions, remove_conditions}
use Rattle.model.specs.TwoSheets.{plain_bytes, bookkeeping_bytes, joined_sheet, lines_conditions, full_conditions}
use Rattle.model.specs.TwoSpares.{plain_lines, bookkeeping_lines, form_conditions, two_conditions}
use Rattle.model.specs.FullCalls.{TwoBytes}
use Rattle.model.specs.TwoCalls.{saying_two, PassingTwo}
use Rattle.sheet_laws.specs.Fronts.{sized-whole}
use Rattle.call_laws.specs.Sheets.{good_parts}
use Rattle.two_laws.specs.TwoEncoding.{passing_two_good}
use Rattle.two_check.specs.Areas.{two}
use Rattle.two_engine.specs.Forms.{Whole, refusal_cut}
use Rattle.two_engine.specs.Performing.{size, passed, said, kept}
use Rattle.two_adding.specs.Placing.{place_conditions, place_full, place_two, call_of, told-front, told_past}

pub forms_told : (adds : Bool) (k : Key) (ps bs cs : List ℕ) (n : ℕ) → n ≡ refusal_of (two_conditions ps bs cs) → (n ≡ 0 → ⊥) → record { refusal = n; rank = record { below = 0; present = false } } ≡ place_two adds k ps bs cs
unfolding place_two
forms_told adds k ps bs cs n e z =
    told-front (two_conditions ps bs cs) (conditions (call_of adds k) (saying_two (two ps bs cs))) (ranked k (saying_two (two ps bs cs)).lines) n e z

-- Sheets that have their size and as many lines, and where their spares begin; and what is told of a place on their lines.
module _ (adds : Bool) (k : Key) (ps bs cs : List ℕ) (w : Whole ps bs) (p q : ℕ) (at_p : p ≡ filled_lines plain_bytes ps * plain_bytes) (at_b : q ≡ filled_lines bookkeeping_bytes bs * bookkeeping_bytes)
    (full : Bool) (is-full : full ≡ eqb q (length bs)) (r : Ranked) (told : r ≡ place_full adds full k (take p ps) (take q bs) cs) where
  abbrev both : TwoBytes
  both = two ps bs cs

  abbrev rows : List Record
  rows = (saying_two both).lines

  abbrev js : List Record
  js = records (joined_sheet (plain_lines ps) (bookkeeping_lines bs))

  abbrev asked : List Condition
  asked = full_conditions (plain_lines ps) (bookkeeping_lines bs) cs

  abbrev own : List Condition
  own = place_conditions adds full k js

  told-cut : r ≡ place_full adds full k (plain_lines ps) (bookkeeping_lines bs) cs
  unfolding front
  told-cut = told ∙ ap₂ (λ (x y : List ℕ). place_full adds full k x y cs) (ap (λ (n : ℕ). take n ps) at_p) (ap (λ (n : ℕ). take n bs) at_b)

  same_rows : PassingTwo both → rows ≡ js
  same_rows h = ap (λ (s : Sheets). s.lines) (said ps bs cs w h)

  full_is : PassingTwo both → full ≡ no_spare (saying_two both)
  full_is h =
      let m = size ps bs cs w in
      let x = kept ps bs cs w h in
      let l : length bs ≡ length bs / bookkeeping_bytes * bookkeeping_bytes = sized-whole bookkeeping_bytes bs w.bookkeeping in
      let f : length rows ≤ m = (good_parts (saying_two both) (passing_two_good both h)).few_lines in
      is-full ∙ go (leb m (length rows)) refl l f (ap length (same_rows h) ∙ x.lines) x.many
    where
      go : (b : Bool) → leb (size ps bs cs w) (length rows) ≡ b → length bs ≡ length bs / bookkeeping_bytes * bookkeeping_bytes → length rows ≤ size ps bs cs w → length rows ≡ filled_lines bookkeeping_bytes bs → size ps bs cs w ≡ length bs / bookkeeping_bytes → eqb q (length bs) ≡ b
      go true h l f c m = let y = leb-true (size ps bs cs w) (length rows) h in eq-eqb q (length bs) (omega (arith, at_b, l, f, c, m, y))
      go false h l f c m = let y = leb-false (size ps bs cs w) (length rows) h in ne_eqb q (length bs) (λ e. omega (arith, at_b, l, c, m, y, e))

  own-conditions : PassingTwo both → conditions (call_of adds k) (saying_two both) ≡ own
  unfolding conditions
  own-conditions h = go adds
    where
      go : (x : Bool) → conditions (call_of x k) (saying_two both) ≡ place_conditions x full k js
      go true = ap₂ (λ (b : Bool) (ls : List Record). add_conditions b k ls) (sym (full_is h)) (same_rows h)
      go false = ap (remove_conditions k) (same_rows h)

  pub place_of : r ≡ place_two adds k ps bs cs
  unfolding place_two place_full full_conditions lines_conditions two_conditions form_conditions all
  place_of = told-cut ∙ go (eqb (refusal_of asked) 0) refl
    where
      go : (x : Bool) → eqb (refusal_of asked) 0 ≡ x → place_full adds full k (plain_lines ps) (bookkeeping_lines bs) cs ≡ place_two adds k ps bs cs
      go true e =
          let free = eqb-true (refusal_of asked) 0 e in
          let h : PassingTwo both = passed ps bs cs w free in
          told_past asked own (ranked k js) refl free
          ∙ (ap₂ (λ (x : List Condition) (ls : List Record). told_rank x (ranked k ls)) (sym (own-conditions h)) (sym (same_rows h))
          ∙ sym (told_past (two_conditions ps bs cs) (conditions (call_of adds k) (saying_two both)) (ranked k rows) refl h))
      go false e =
          let n = refusal_of asked in
          let z = eqb-false n 0 e in
          sym (told-front asked own (ranked k js) n refl z)
          ∙ told-front (two_conditions ps bs cs) (conditions (call_of adds k) (saying_two both)) (ranked k rows) n (refusal_cut ps bs w cs) z
