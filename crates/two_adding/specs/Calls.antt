-- Adding and removing on both sheets: refused by what is told of them first, by what is told of the place, or accepted and the line put in or taken out of both.
use Rattle.std.specs.Prelude.{◌≡◌, ◌-◌, ◌<◌, ◌++◌}
use Rattle.std.proofs.Common.{◌∙◌}
use Rattle.lists.specs.Basics.{refl, sym, ap, ℕ, eqb, Bool, true, false, List, length, arith, all, joined, tests, eqb-true, eqb-false}
use Rattle.lists.specs.All.{all_weaken}
use Rattle.model.specs.Types.{Key, Record, Rank, Ranked}
use Rattle.model.specs.Lines.{lines_of}
use Rattle.model.specs.Records.{record_text, records_text, records_good, good_alone, rank, ranked, absent_at, key_in_range}
use Rattle.model.specs.Spares.{spare_line, spares_text}
use Rattle.model.specs.Refusals.{Condition, refusal_of}
use Rattle.model.specs.Writes.{Sheets, Write, add_line, remove_line, apply}
use Rattle.model.specs.Results.{Call, add, remove, acknowledged, refusal_in, Answer, Response, refused, made, answer_of}
use Rattle.model.specs.Conditions.{conditions}
use Rattle.model.specs.Calls.{outcome, result_of}
use Rattle.model.specs.Operations.{once, settled, response}
use Rattle.model.specs.TwoSheets.{plain_bytes, bookkeeping_bytes, plain_line, bookkeeping_line, plain_part, bookkeeping_part}
use Rattle.model.specs.TwoSpares.{form_conditions, two_conditions}
use Rattle.model.specs.FullCalls.{TwoBytes}
use Rattle.model.specs.TwoCalls.{saying_two, PassingTwo, response_two, plain_left, bookkeeping_left}
use Rattle.sheet_laws.specs.Records.{ranged, good_ranged}
use Rattle.sheet_laws.specs.Ranks.{rank-within}
use Rattle.sheet_laws.specs.AddedLines.{rank_inside}
use Rattle.call_laws.specs.Lines.{lines_added, lines_removed}
use Rattle.call_laws.specs.Ranges.{absent_ranged}
use Rattle.call_laws.specs.Adding.{MayAdd, may_add, MayRemove, may_remove}
use Rattle.call_laws.specs.Sheets.{GoodSheets, good_parts}
use Rattle.call_laws.specs.Lifting.{good_records}
use Rattle.call_laws.specs.Accepted.{unless-held, unless-free, refusal_front, refusal_past}
use Rattle.shifting.specs.Shifted.{insert_at, remove_at}
use Rattle.adding.specs.Placing.{told_refused, told_free}
use Rattle.two_laws.specs.TwoLines.{length-plain_line, length-bookkeeping_line}
use Rattle.two_laws.specs.TwoEncoding.{passing_two, count-joined, passing_two_good, passing_encoded_two}
use Rattle.two_check.specs.Areas.{two}
use Rattle.two_adding.specs.Placing.{place_two, call_of}
use Rattle.two_adding.specs.Parts.{Shiftable, part_added, part_removed}

-- what is answered and left: the refusal, or 0, and both sheets
pub record ShiftedTwo (c : Call) (ps bs cs : List ℕ) (answer : ℕ) (ps' bs' : List ℕ) : Type 0 where
  pub said : answer ≡ refusal_in (answer_of (response_two (once c) (two ps bs cs)))
  pub plain : ps' ≡ plain_left ps (response_two (once c) (two ps bs cs))
  pub bookkeeping : bs' ≡ bookkeeping_left bs (response_two (once c) (two ps bs cs))

module _ (c : Call) (ps bs cs : List ℕ) where
  abbrev saying : Sheets
  saying = saying_two (two ps bs cs)

  by_response : {answer : ℕ} {ps' bs' : List ℕ} (r : Response Answer Sheets) → response_two (once c) (two ps bs cs) ≡ r → answer ≡ refusal_in (answer_of r) → ps' ≡ plain_left ps r → bs' ≡ bookkeeping_left bs r → ShiftedTwo c ps bs cs answer ps' bs'
  by_response r e a p b =
      record {
        said = a ∙ ap (λ (x : Response Answer Sheets). refusal_in (answer_of x)) (sym e);
        plain = p ∙ ap (plain_left ps) (sym e);
        bookkeeping = b ∙ ap (bookkeeping_left bs) (sym e);
      }

  -- by what is asked of the sheets
  pub forms_refuse : (n : ℕ) → n ≡ refusal_of (two_conditions ps bs cs) → (n ≡ 0 → ⊥) → ShiftedTwo c ps bs cs n ps bs
  unfolding response_two plain_left bookkeeping_left
  forms_refuse n e z = by_response (refused n) (unless-held (two_conditions ps bs cs) (response (once c) saying) n (sym e) z) refl refl refl

  module _ (h : PassingTwo (two ps bs cs)) where
    on_said : response_two (once c) (two ps bs cs) ≡ settled saying (result_of c saying)
    unfolding response_two response
    on_said = unless-free (two_conditions ps bs cs) (response (once c) saying) h

    -- by one of its own conditions
    call_refuses : (n : ℕ) → n ≡ refusal_of (conditions c saying) → (n ≡ 0 → ⊥) → ShiftedTwo c ps bs cs n ps bs
    unfolding result_of plain_left bookkeeping_left
    call_refuses n e z =
        by_response (refused n) (on_said ∙ ap (settled saying) (unless-held (conditions c saying) (outcome c saying) n (sym e) z)) refl refl refl

    -- or not at all
    call_made : (w : Write) → outcome c saying ≡ made acknowledged w → refusal_of (conditions c saying) ≡ 0 → {ps' bs' : List ℕ}
        → ps' ≡ plain_left ps (made acknowledged (apply w saying)) → bs' ≡ bookkeeping_left bs (made acknowledged (apply w saying)) → ShiftedTwo c ps bs cs 0 ps' bs'
    unfolding result_of
    call_made w Made-so z p b =
        by_response (made acknowledged (apply w saying))
        (on_said ∙ ap (settled saying) (unless-free (conditions c saying) (outcome c saying) z ∙ Made-so)) refl p b

-- What is told of a place on both sheets.
module _ (adds : Bool) (k : Key) (ps bs cs : List ℕ) (r : Ranked) (told : r ≡ place_two adds k ps bs cs) where
  abbrev both : TwoBytes
  both = two ps bs cs

  abbrev rows : List Record
  rows = (saying_two both).lines

  abbrev asked : List Condition
  asked = two_conditions ps bs cs

  abbrev own : List Condition
  own = conditions (call_of adds k) (saying_two both)

  own_refusal : PassingTwo both → refusal_of (asked ++ own) ≡ refusal_of own
  unfolding two_conditions form_conditions all
  own_refusal h = refusal_past asked own refl h

  pub place_refuses : (r.refusal ≡ 0 → ⊥) → ShiftedTwo (call_of adds k) ps bs cs r.refusal ps bs
  unfolding place_two
  place_refuses z = go (eqb (refusal_of asked) 0) refl
    where
      whole : r.refusal ≡ refusal_of (asked ++ own)
      whole = told_refused (asked ++ own) (ranked k rows) r told z

      go : (x : Bool) → eqb (refusal_of asked) 0 ≡ x → ShiftedTwo (call_of adds k) ps bs cs r.refusal ps bs
      go true e = let h = eqb-true (refusal_of asked) 0 e in call_refuses (call_of adds k) ps bs cs h r.refusal (whole ∙ own_refusal h) z
      go false e =
          let n = refusal_of asked in
          forms_refuse (call_of adds k) ps bs cs r.refusal (whole ∙ sym (refusal_front asked own n refl (eqb-false n 0 e))) z

  -- None of the conditions holds.
  module _ (free : r.refusal ≡ 0) where
    clear : (refusal_of (asked ++ own) ≡ 0) × (r.rank ≡ ranked k rows)
    unfolding place_two
    clear = told_free (asked ++ own) (ranked k rows) r told free

    passes : PassingTwo both
    passes = go (eqb (refusal_of asked) 0) refl
      where
        go : (x : Bool) → eqb (refusal_of asked) 0 ≡ x → refusal_of asked ≡ 0
        go true e = eqb-true (refusal_of asked) 0 e
        go false e =
            let n = refusal_of asked in
            refusal_front asked own n refl (eqb-false n 0 e) ∙ clear.0

    own_clear : refusal_of own ≡ 0
    own_clear = sym (own_refusal passes) ∙ clear.0

    place_is : r.rank.below ≡ rank k rows
    place_is = ap (λ (x : Rank). x.below) clear.1

    good : GoodSheets (saying_two both)
    good = good_parts (saying_two both) (passing_two_good both passes)

    fits : all ranged rows ≡ true
    unfolding records_good
    fits =
        let g = good_records (saying_two both) (passing_two_good both passes) in
        let h : all good_alone rows ≡ true = search (tests, g) in
        all_weaken good_alone ranged good_ranged rows h

    shiftable : r.rank.below < (saying_two both).size → Shiftable ps bs r.rank.below
    shiftable l =
        let j = (passing_two both passes).lines in
        let m = count-joined both j in
        let n = j.many in
        record { plain = j.plain; bookkeeping = j.bookkeeping; in_plain = omega (arith, l, m, n); in_bookkeeping = omega (arith, l, m) }

-- Adding.
module _ (k : Key) (ps bs cs : List ℕ) (r : Ranked) (told : r ≡ place_two true k ps bs cs) (free : r.refusal ≡ 0) where
  abbrev here : Sheets
  here = saying_two (two ps bs cs)

  pass : PassingTwo (two ps bs cs)
  pass = passes true k ps bs cs r told free

  parts_good : GoodSheets here
  parts_good = good true k ps bs cs r told free

  may : MayAdd k here
  may = may_add k here (own_clear true k ps bs cs r told free)

  at_rank : r.rank.below ≡ rank k here.lines
  at_rank = place_is true k ps bs cs r told free

  pub add_shiftable : Shiftable ps bs r.rank.below × (key_in_range k ≡ true)
  add_shiftable =
      let l = rank-within k here.lines in
      let m = may.room in
      (shiftable true k ps bs cs r told free (omega (arith, at_rank, l, m)), may.is_in_range)

  pub add_made : (ps' bs' : List ℕ) → ps' ≡ joined (insert_at r.rank.below (plain_line (record_text (absent_at k))) (lines_of plain_bytes ps))
      → bs' ≡ joined (insert_at r.rank.below (bookkeeping_line (record_text (absent_at k))) (lines_of bookkeeping_bytes bs)) → ShiftedTwo (add k) ps bs cs 0 ps' bs'
  unfolding outcome apply plain_left bookkeeping_left plain_part bookkeeping_part
  add_made ps' bs' e f =
      let fit = fits true k ps bs cs r told free in
      let new = absent_ranged k may.is_in_range in
      let lines = lines_added k here.lines in
      call_made (add k) ps bs cs pass (add_line k) refl (own_clear true k ps bs cs r told free)
      (e
      ∙ (ap (λ (i : ℕ). joined (insert_at i (plain_line (record_text (absent_at k))) (lines_of plain_bytes ps))) at_rank
      ∙ (part_added plain_bytes (omega arith) plain_line length-plain_line k here.lines here.size ps (sym (ap (λ (x : TwoBytes). x.plain) (passing_encoded_two (two ps bs cs) pass)))
      parts_good.order fit may.unlisted new may.room
      ∙ ap (λ (ls : List Record). plain_part (records_text ls) ++ spares_text plain_bytes (here.size - length ls)) (sym lines))))
      (f
      ∙ (ap (λ (i : ℕ). joined (insert_at i (bookkeeping_line (record_text (absent_at k))) (lines_of bookkeeping_bytes bs))) at_rank
      ∙ (part_added bookkeeping_bytes (omega arith) bookkeeping_line length-bookkeeping_line k here.lines here.size bs (sym (ap (λ (x : TwoBytes). x.bookkeeping) (passing_encoded_two (two ps bs cs) pass)))
      parts_good.order fit may.unlisted new may.room
      ∙ ap (λ (ls : List Record). bookkeeping_part (records_text ls) ++ spares_text bookkeeping_bytes (here.size - length ls)) (sym lines))))

-- Removing.
module _ (k : Key) (ps bs cs : List ℕ) (r : Ranked) (told : r ≡ place_two false k ps bs cs) (free : r.refusal ≡ 0) where
  abbrev there : Sheets
  there = saying_two (two ps bs cs)

  let_pass : PassingTwo (two ps bs cs)
  let_pass = passes false k ps bs cs r told free

  there_good : GoodSheets there
  there_good = good false k ps bs cs r told free

  may_go : MayRemove k there
  may_go = may_remove k there (own_clear false k ps bs cs r told free)

  from-rank : r.rank.below ≡ rank k there.lines
  from-rank = place_is false k ps bs cs r told free

  pub remove_shiftable : Shiftable ps bs r.rank.below
  remove_shiftable =
      let l = rank_inside k there.lines there_good.order may_go.listed in
      let m = there_good.few_lines in
      shiftable false k ps bs cs r told free (omega (arith, from-rank, l, m))

  pub remove_made : (ps' bs' : List ℕ) → ps' ≡ joined (remove_at r.rank.below (spare_line plain_bytes) (lines_of plain_bytes ps))
      → bs' ≡ joined (remove_at r.rank.below (spare_line bookkeeping_bytes) (lines_of bookkeeping_bytes bs)) → ShiftedTwo (remove k) ps bs cs 0 ps' bs'
  unfolding outcome apply plain_left bookkeeping_left plain_part bookkeeping_part
  remove_made ps' bs' e f =
      let fit = fits false k ps bs cs r told free in
      let lines = lines_removed k there.lines in
      call_made (remove k) ps bs cs let_pass (remove_line k) refl (own_clear false k ps bs cs r told free)
      (e
      ∙ (ap (λ (i : ℕ). joined (remove_at i (spare_line plain_bytes) (lines_of plain_bytes ps))) from-rank
      ∙ (part_removed plain_bytes (omega arith) plain_line length-plain_line k there.lines there.size ps (sym (ap (λ (x : TwoBytes). x.plain) (passing_encoded_two (two ps bs cs) let_pass)))
      there_good.order fit may_go.listed there_good.few_lines
      ∙ ap (λ (ls : List Record). plain_part (records_text ls) ++ spares_text plain_bytes (there.size - length ls)) (sym lines))))
      (f
      ∙ (ap (λ (i : ℕ). joined (remove_at i (spare_line bookkeeping_bytes) (lines_of bookkeeping_bytes bs))) from-rank
      ∙ (part_removed bookkeeping_bytes (omega arith) bookkeeping_line length-bookkeeping_line k there.lines there.size bs (sym (ap (λ (x : TwoBytes). x.bookkeeping) (passing_encoded_two (two ps bs cs) let_pass)))
      there_good.order fit may_go.listed there_good.few_lines
      ∙ ap (λ (ls : List Record). bookkeeping_part (records_text ls) ++ spares_text bookkeeping_bytes (there.size - length ls)) (sym lines))))
