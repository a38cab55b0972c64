-- Adding and removing on two lent sheets: refused by the check, by what is told of the place, or accepted and the line put in or taken out.
use Rattle.std.specs.Prelude.{◌≡◌, ◌*◌, ◌/◌, ◌≤◌, ◌<◌}
use Rattle.std.proofs.Common.{◌∙◌}
use Rattle.lists.specs.Basics.{refl, sym, ap, ap₂, ℕ, eqb, leb, Bool, true, false, List, length, take, arith, all, tests, joined, eq-eqb, ne_eqb, leb-true, leb-false}
use Rattle.lists.specs.All.{all_weaken}
use Rattle.model.specs.Types.{Key, Record, Rank, Ranked}
use Rattle.model.specs.Layouts.{record_bytes}
use Rattle.model.specs.Lines.{lines_of}
use Rattle.model.specs.Records.{records, record_text, records_text, records_accepted, records_good, good_alone, rank, ranked, absent_at}
use Rattle.model.specs.Spares.{spare_line, filled_lines, front, record_lines, sheet_for}
use Rattle.model.specs.Refusals.{refusal_of}
use Rattle.model.specs.SheetCalls.{check_conditions, told_rank}
use Rattle.model.specs.Writes.{Write, add_line, remove_line, apply}
use Rattle.model.specs.Results.{Call, add, remove, acknowledged, refusal_in, Result, Answer, refused, made, answer_of}
use Rattle.model.specs.Conditions.{no_spare, conditions, add_conditions, remove_conditions}
use Rattle.model.specs.Calls.{outcome, result_of}
use Rattle.model.specs.ByteCalls.{sheets_said, result_on, sheet_after}
use Rattle.model.specs.ByteHistories.{Bytes, saying}
use Rattle.sheet_laws.specs.Records.{ranged, good_ranged, length-record_text}
use Rattle.sheet_laws.specs.Spared.{sheet-said, accepted_lines, accepted_whole, count-front}
use Rattle.sheet_laws.specs.Ranks.{rank-within}
use Rattle.sheet_laws.specs.AddedLines.{rank_inside}
use Rattle.call_laws.specs.Lines.{lines_added, lines_removed}
use Rattle.call_laws.specs.Adding.{MayAdd, may_add, MayRemove, may_remove}
use Rattle.call_laws.specs.Sheets.{GoodSheets, good_parts}
use Rattle.call_laws.specs.Lifting.{passing_parts, passing_good, good_records}
use Rattle.call_laws.specs.Accepted.{unless-held, unless-free}
use Rattle.shifting.specs.Shifted.{insert_at, remove_at}
use Rattle.adding.specs.Placing.{told_refused, told_free, absent_wide}
use Rattle.adding.specs.Shifts.{inserted-sheet, removed_sheet}

-- what is answered and left: the refusal, or 0, and the record sheet
pub record Shifted (c : Call) (rs cs : List ℕ) (answer : ℕ) (rs' : List ℕ) : Type 0 where
  pub said : answer ≡ refusal_in (answer_of (result_on c rs cs))
  pub sheet : rs' ≡ sheet_after rs cs (result_on c rs cs)

module _ (c : Call) (rs cs : List ℕ) where
  refused_as : (n : ℕ) → result_on c rs cs ≡ refused n → Shifted c rs cs n rs
  unfolding sheet_after
  refused_as n e = record { said = ap (λ (r : Result Answer). refusal_in (answer_of r)) (sym e); sheet = ap (sheet_after rs cs) (sym e) }

  -- by the check
  pub check_refuses : (n : ℕ) → n ≡ refusal_of (check_conditions rs cs) → (n ≡ 0 → ⊥) → Shifted c rs cs n rs
  unfolding result_on
  check_refuses n e z = refused_as n (unless-held (check_conditions rs cs) (result_of c (sheets_said rs cs)) n (sym e) z)

  module _ (passed : refusal_of (check_conditions rs cs) ≡ 0) where
    on_said : result_on c rs cs ≡ result_of c (sheets_said rs cs)
    unfolding result_on
    on_said = unless-free (check_conditions rs cs) (result_of c (sheets_said rs cs)) passed

    -- by one of its own conditions
    call_refuses : (n : ℕ) → n ≡ refusal_of (conditions c (sheets_said rs cs)) → (n ≡ 0 → ⊥) → Shifted c rs cs n rs
    unfolding result_of
    call_refuses n e z = refused_as n (on_said ∙ unless-held (conditions c (sheets_said rs cs)) (outcome c (sheets_said rs cs)) n (sym e) z)

    -- or not at all
    call_made : (w : Write) → outcome c (sheets_said rs cs) ≡ made acknowledged w → refusal_of (conditions c (sheets_said rs cs)) ≡ 0 → (rs' : List ℕ)
        → rs' ≡ sheet_for (apply w (sheets_said rs cs)).lines (length rs / record_bytes) → Shifted c rs cs 0 rs'
    unfolding result_of sheet_after apply
    call_made w Made-so z rs' e =
        let r : result_on c rs cs ≡ made acknowledged w = on_said ∙ (unless-free (conditions c (sheets_said rs cs)) (outcome c (sheets_said rs cs)) z ∙ Made-so) in
        record { said = ap (λ (x : Result Answer). refusal_in (answer_of x)) (sym r); sheet = e ∙ ap (sheet_after rs cs) (sym r) }

-- Sheets that the check lets pass, and where their spares begin.
module _ (k : Key) (rs cs : List ℕ) (passed : refusal_of (check_conditions rs cs) ≡ 0) (end : ℕ) (at : end ≡ filled_lines record_bytes rs * record_bytes) where
  abbrev both : Bytes
  both = record { records = rs; coordinator = cs }

  abbrev rows : List Record
  rows = records (record_lines rs)

  abbrev size : ℕ
  size = length rs / record_bytes

  parts : GoodSheets (sheets_said rs cs)
  parts = good_parts (saying both) (passing_good both passed)

  all-ranged : all ranged rows ≡ true
  unfolding records_good
  all-ranged =
      let g = good_records (saying both) (passing_good both passed) in
      let h : all good_alone rows ≡ true = search (tests, g) in
      all_weaken good_alone ranged good_ranged rows h

  sheet_is : sheet_for rows size ≡ rs
  sheet_is = sheet-said rs (passing_parts both passed).0

  lent : records (take end rs) ≡ rows
  unfolding front
  lent = ap (λ (n : ℕ). records (take n rs)) at

  pub accepted_front : records_accepted (take end rs) ≡ true
  unfolding front
  accepted_front = ap (λ (n : ℕ). records_accepted (take n rs)) at ∙ accepted_lines rs (passing_parts both passed).0

  -- no spare is left where the lines of records reach to the end
  full_is : (full : Bool) → full ≡ eqb end (length rs) → full ≡ no_spare (sheets_said rs cs)
  full_is full e =
      let w : length rs ≡ size * record_bytes = accepted_whole rs (passing_parts both passed).0 in
      let c : length rows ≡ filled_lines record_bytes rs = count-front rs (passing_parts both passed).0 in
      let l : length rows ≤ size = parts.few_lines in
      e ∙ go (leb size (length rows)) refl w c l
    where
      go : (b : Bool) → leb size (length rows) ≡ b → length rs ≡ size * record_bytes → length rows ≡ filled_lines record_bytes rs → length rows ≤ size → eqb end (length rs) ≡ b
      go true h w c l =
          let m = leb-true size (length rows) h in
          eq-eqb end (length rs) (omega (arith, at, w, c, m, l))
      go false h w c l =
          let m = leb-false size (length rows) h in
          ne_eqb end (length rs) (λ q. omega (arith, at, w, c, m, q))

  -- Adding.
  module _ (full : Bool) (is-full : full ≡ eqb end (length rs)) (r : Ranked) (told : r ≡ told_rank (add_conditions full k (records (take end rs))) (ranked k (records (take end rs)))) where
    told-said : r ≡ told_rank (add_conditions (no_spare (sheets_said rs cs)) k rows) (ranked k rows)
    told-said = told ∙ ap₂ (λ (b : Bool) (ls : List Record). told_rank (add_conditions b k ls) (ranked k ls)) (full_is full is-full) lent

    pub add_refuses : (r.refusal ≡ 0 → ⊥) → Shifted (add k) rs cs r.refusal rs
    unfolding conditions
    add_refuses z = call_refuses (add k) rs cs passed r.refusal (told_refused (add_conditions (no_spare (sheets_said rs cs)) k rows) (ranked k rows) r told-said z) z

    module _ (free : r.refusal ≡ 0) where
      clear : (refusal_of (add_conditions (no_spare (sheets_said rs cs)) k rows) ≡ 0) × (r.rank ≡ ranked k rows)
      clear = told_free (add_conditions (no_spare (sheets_said rs cs)) k rows) (ranked k rows) r told-said free

      may : MayAdd k (sheets_said rs cs)
      unfolding conditions
      may = may_add k (sheets_said rs cs) clear.0

      place : r.rank.below ≡ rank k rows
      place = ap (λ (x : Rank). x.below) clear.1

      -- the place is not below the last record, and there is a spare behind that
      pub add_within : (r.rank.below ≤ end / record_bytes) × (end / record_bytes < length rs / record_bytes)
      add_within =
          let l = rank-within k rows in
          let m = may.room in
          let c : length rows ≡ filled_lines record_bytes rs = count-front rs (passing_parts both passed).0 in (omega (arith, at, place, l, c), omega (arith, at, c, m))

      pub add_wide : length (record_text (absent_at k)) ≡ record_bytes
      add_wide = absent_wide k may.is_in_range

      pub add_made : (rs' : List ℕ) → rs' ≡ joined (insert_at r.rank.below (record_text (absent_at k)) (lines_of record_bytes rs)) → Shifted (add k) rs cs 0 rs'
      unfolding conditions outcome apply sheet_for records_text
      add_made rs' e =
          call_made (add k) rs cs passed (add_line k) refl clear.0 rs'
          (e
          ∙ (ap₂ (λ (i : ℕ) (t : List ℕ). joined (insert_at i (record_text (absent_at k)) (lines_of record_bytes t))) place (sym sheet_is)
          ∙ (inserted-sheet record_bytes (omega arith) record_text ranged length-record_text k rows size parts.order may.unlisted all-ranged may.room
          ∙ ap (λ (ls : List Record). sheet_for ls size) (sym (lines_added k rows)))))

  -- Removing.
  module _ (r : Ranked) (told : r ≡ told_rank (remove_conditions k (records (take end rs))) (ranked k (records (take end rs)))) where
    gone_said : r ≡ told_rank (remove_conditions k rows) (ranked k rows)
    gone_said = told ∙ ap (λ (ls : List Record). told_rank (remove_conditions k ls) (ranked k ls)) lent

    pub remove_refuses : (r.refusal ≡ 0 → ⊥) → Shifted (remove k) rs cs r.refusal rs
    unfolding conditions
    remove_refuses z = call_refuses (remove k) rs cs passed r.refusal (told_refused (remove_conditions k rows) (ranked k rows) r gone_said z) z

    module _ (free : r.refusal ≡ 0) where
      gone : (refusal_of (remove_conditions k rows) ≡ 0) × (r.rank ≡ ranked k rows)
      gone = told_free (remove_conditions k rows) (ranked k rows) r gone_said free

      may_go : MayRemove k (sheets_said rs cs)
      unfolding conditions
      may_go = may_remove k (sheets_said rs cs) gone.0

      gone_from : r.rank.below ≡ rank k rows
      gone_from = ap (λ (x : Rank). x.below) gone.1

      pub remove_within : r.rank.below < length rs / record_bytes
      remove_within = let l = rank_inside k rows parts.order may_go.listed in let m = parts.few_lines in omega (arith, gone_from, l, m)

      pub remove_made : (rs' : List ℕ) → rs' ≡ joined (remove_at r.rank.below (spare_line record_bytes) (lines_of record_bytes rs)) → Shifted (remove k) rs cs 0 rs'
      unfolding conditions outcome apply sheet_for records_text
      remove_made rs' e =
          call_made (remove k) rs cs passed (remove_line k) refl gone.0 rs'
          (e
          ∙ (ap₂ (λ (i : ℕ) (t : List ℕ). joined (remove_at i (spare_line record_bytes) (lines_of record_bytes t))) gone_from (sym sheet_is)
          ∙ (removed_sheet record_bytes (omega arith) record_text ranged length-record_text k rows size parts.order may_go.listed all-ranged parts.few_lines
          ∙ ap (λ (ls : List Record). sheet_for ls size) (sym (lines_removed k rows)))))
