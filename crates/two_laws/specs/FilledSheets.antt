-- A sheet alone is good exactly if it has whole lines and the sheet filled with fixed text is accepted.
use Rattle.std.specs.Prelude.{◌*◌, ◌/◌, ◌≡◌, ◌&&◌, ◌∷◌}
use Rattle.std.proofs.Common.{◌∙◌}
use Rattle.lists.specs.Basics.{ℕ, refl, sym, ap, ap₂, Bool, true, and_assoc, List, [], map, arith, length}
use Rattle.lists.specs.Basics.{eqb, eqb-true, eq-eqb, and_fst, and_snd, all, joined}
use Rattle.lists.specs.Tests.{and_same}
use Rattle.lists.specs.All.{all_map, all_of, map-map, map_equal, pieces_whole}
use Rattle.lists.specs.Pieces.{AllOf, length-joined}
use Rattle.model.specs.Types.{Column, Record}
use Rattle.model.specs.Layouts.{record_layout, record_bytes}
use Rattle.model.specs.Lines.{line_set, lines_of, lines_set}
use Rattle.model.specs.Records.{records_good, record_in, records, records_accepted}
use Rattle.model.specs.TwoSheets.{plain_layout, bookkeeping_layout, plain_bytes, bookkeeping_bytes, plain_record, bookkeeping_record, plain_alone, bookkeeping_alone}
use Rattle.sheet_laws.specs.Fronts.{lines-joined}
use Rattle.two_laws.specs.Deciding.{whole, fill_plain, fill_bookkeeping, filled_plain, filled_bookkeeping}
use Rattle.two_laws.specs.TwoLines.{length-fill_plain, filled_plain-set, filled-plain_record, length-fill_bookkeeping, filled_bookkeeping-set}
use Rattle.two_laws.specs.TwoLines.{filled-bookkeeping_record}

-- two tests that agree on every element of a list
pub all_equal {ℓ} : {A : Type ℓ} (w p q : A → Bool) → ((x : A) → w x ≡ true → p x ≡ q x) → (xs : List A) → all w xs ≡ true → all p xs ≡ all q xs
unfolding all
all_equal w p q e [] h = refl
all_equal w p q e (x ∷ xs) h =
    ap₂ ◌&&◌ (e x (and_fst (w x) (all w xs) h)) (all_equal w p q e xs (and_snd (w x) (all w xs) h))

-- the lines of a sheet of whole lines have w bytes each
pub lines_wide : (w : ℕ) (s : List ℕ) → whole w s ≡ true → all (λ (x : List ℕ). eqb (length x) w) (lines_of w s) ≡ true
unfolding lines_of
lines_wide w s h = pieces_whole w (length s / w) s (eqb-true (length s) (length s / w * w) h)

-- record lines, joined: whole lines, and these
pub record_lines_lem : (xs : List (List ℕ)) → AllOf record_bytes xs → (whole record_bytes (joined xs) ≡ true) × (lines_of record_bytes (joined xs) ≡ xs)
record_lines_lem xs h =
    let n : length (joined xs) ≡ length xs * record_bytes = length-joined record_bytes xs h in
    let e : length (joined xs) / record_bytes ≡ length xs = omega arith in
    let k : length (joined xs) ≡ length (joined xs) / record_bytes * record_bytes = omega arith in
    (eq-eqb (length (joined xs)) (length (joined xs) / record_bytes * record_bytes) k, lines-joined record_bytes (omega arith) xs h)

-- the rule of a sheet of record lines
pub lines_accepted : (xs : List (List ℕ)) → AllOf record_bytes xs → records_accepted (joined xs) ≡ (all (line_set record_layout) xs && records_good (map record_in xs))
unfolding records_accepted lines_set records
lines_accepted xs h =
    let r = record_lines_lem xs h in
    ap₂ (λ (b : Bool) (ls : List (List ℕ)). b && all (line_set record_layout) ls && records_good (map record_in ls)) r.0 r.1

-- A way to fill lines of w bytes, so that they read as they did.
module _ (w : ℕ) (cs : List Column) (fill : List ℕ → List ℕ) (said : List ℕ → Record)
    (wide : (x : List ℕ) → length x ≡ w → length (fill x) ≡ record_bytes)
    (sets : (x : List ℕ) → length x ≡ w → line_set record_layout (fill x) ≡ line_set cs x)
    (says : (x : List ℕ) → length x ≡ w → record_in (fill x) ≡ said x) where
  filled-sheet : (s : List ℕ) → (lines_set cs w s && records_good (map said (lines_of w s))) ≡ (whole w s && records_accepted (joined (map fill (lines_of w s))))
  unfolding lines_set
  filled-sheet s =
      and_assoc (whole w s) (all (line_set cs) (lines_of w s)) (records_good (map said (lines_of w s)))
      ∙ and_same (whole w s) (all (line_set cs) (lines_of w s) && records_good (map said (lines_of w s))) (records_accepted (joined (map fill (lines_of w s)))) (λ h. sym (go (lines_of w s) (lines_wide w s h)))
    where
      go : (ls : List (List ℕ)) → all (λ (x : List ℕ). eqb (length x) w) ls ≡ true → records_accepted (joined (map fill ls)) ≡ (all (line_set cs) ls && records_good (map said ls))
      go ls h =
          let o : AllOf record_bytes (map fill ls) =
          all_of record_bytes (λ (x : List ℕ). eqb (length x) w) fill (λ x e. wide x (eqb-true (length x) w e)) ls h in
          let t : all (line_set record_layout) (map fill ls) ≡ all (line_set cs) ls =
          all_map (line_set record_layout) fill ls
          ∙ all_equal (λ (x : List ℕ). eqb (length x) w) (λ (x : List ℕ). line_set record_layout (fill x)) (line_set cs) (λ x e. sets x (eqb-true (length x) w e)) ls h in
          let r : map record_in (map fill ls) ≡ map said ls =
          map-map record_in fill ls
          ∙ map_equal (λ (x : List ℕ). eqb (length x) w) (λ (x : List ℕ). record_in (fill x)) said (λ x e. says x (eqb-true (length x) w e)) ls h in
          lines_accepted (map fill ls) o ∙ ap₂ (λ (b : Bool) (rs : List Record). b && records_good rs) t r

-- filled-plain, filled-bookkeeping
pub filled_plain_lem : (ps : List ℕ) → plain_alone ps ≡ (whole plain_bytes ps && records_accepted (filled_plain ps))
unfolding plain_alone filled_plain
filled_plain_lem ps = filled-sheet plain_bytes plain_layout fill_plain plain_record length-fill_plain filled_plain-set filled-plain_record ps

pub filled_bookkeeping_lem : (bs : List ℕ) → bookkeeping_alone bs ≡ (whole bookkeeping_bytes bs && records_accepted (filled_bookkeeping bs))
unfolding bookkeeping_alone filled_bookkeeping
filled_bookkeeping_lem bs =
    filled-sheet bookkeeping_bytes bookkeeping_layout fill_bookkeeping bookkeeping_record length-fill_bookkeeping filled_bookkeeping-set filled-bookkeeping_record bs

-- the records of the filled bookkeeping sheet are those that its lines say
pub filled_bookkeeping-records : (bs : List ℕ) → whole bookkeeping_bytes bs ≡ true → records (filled_bookkeeping bs) ≡ map bookkeeping_record (lines_of bookkeeping_bytes bs)
unfolding records filled_bookkeeping
filled_bookkeeping-records bs h =
    let ls = lines_of bookkeeping_bytes bs in
    let w : all (λ (x : List ℕ). eqb (length x) bookkeeping_bytes) ls ≡ true = lines_wide bookkeeping_bytes bs h in
    let o : AllOf record_bytes (map fill_bookkeeping ls) =
    all_of record_bytes (λ (x : List ℕ). eqb (length x) bookkeeping_bytes) fill_bookkeeping (λ x e. length-fill_bookkeeping x (eqb-true (length x) bookkeeping_bytes e)) ls w in
    ap (map record_in) (record_lines_lem (map fill_bookkeeping ls) o).1
    ∙ (map-map record_in fill_bookkeeping ls
    ∙ map_equal (λ (x : List ℕ). eqb (length x) bookkeeping_bytes) (λ (x : List ℕ). record_in (fill_bookkeeping x)) bookkeeping_record
    (λ x e. filled-bookkeeping_record x (eqb-true (length x) bookkeeping_bytes e)) ls w)
