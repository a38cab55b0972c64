-- Two sheets without spares that pass are whole lines whose keys agree, and join to lines that break no rule.
use Rattle.std.specs.Prelude.{◌≡◌, ◌&&◌}
use Rattle.std.proofs.Common.{◌∙◌}
use Rattle.lists.specs.Basics.{sym, true, not, [], arith, not-false, and_fst, and_snd}
use Rattle.model.specs.Lines.{lines_of}
use Rattle.model.specs.Records.{records_accepted}
use Rattle.model.specs.Coordinator.{coordinator_readable}
use Rattle.model.specs.SheetCalls.{all_issued}
use Rattle.model.specs.Refusals.{refusal_of}
use Rattle.model.specs.Writes.{Sheets}
use Rattle.model.specs.Results.{Response}
use Rattle.model.specs.TwoSheets.{plain_bytes, bookkeeping_bytes, joined_sheet, plain_part, bookkeeping_part, plain_alone, bookkeeping_alone, same_keys, lines_conditions}
use Rattle.model.specs.TwoSheets.{coordinator_fits, full_conditions}
use Rattle.model.specs.FullCalls.{TwoBytes, saying_full, PassingFull, on_full}
use Rattle.call_laws.specs.Choices.{not_first}
use Rattle.call_laws.specs.Accepted.{unless-free}
use Rattle.call_laws.specs.Lifting.{LinesFit}
use Rattle.two_laws.specs.Deciding.{whole, lines_agree, filled_plain, filled_bookkeeping, joined_conditions}
use Rattle.two_laws.specs.FilledSheets.{filled_plain_lem, filled_bookkeeping_lem}
use Rattle.two_laws.specs.JoinedSheets.{plain_part-joined, bookkeeping_part-joined}
use Rattle.two_laws.specs.KeysAsBytes.{keys_as_bytes}
use Rattle.two_laws.specs.Decision.{agreeing}

-- whole lines on both, and keys that agree, byte for byte
pub record Joinable (b : TwoBytes) : Type 0 where
  pub plain : whole plain_bytes b.plain ≡ true
  pub bookkeeping : whole bookkeeping_bytes b.bookkeeping ≡ true
  pub agree : lines_agree (lines_of plain_bytes b.plain) (lines_of bookkeeping_bytes b.bookkeeping) ≡ true

-- so are sheets that are good alone and have the same keys
pub alone_joinable : (b : TwoBytes) → plain_alone b.plain ≡ true → bookkeeping_alone b.bookkeeping ≡ true → same_keys b.plain b.bookkeeping ≡ true → Joinable b
alone_joinable b p q k =
    record {
      plain = and_fst (whole plain_bytes b.plain) (records_accepted (filled_plain b.plain)) (sym (filled_plain_lem b.plain) ∙ p);
      bookkeeping = and_fst (whole bookkeeping_bytes b.bookkeeping) (records_accepted (filled_bookkeeping b.bookkeeping)) (sym (filled_bookkeeping_lem b.bookkeeping) ∙ q);
      agree = keys_as_bytes b.plain b.bookkeeping p q ∙ k;
    }

pub record Joined (b : TwoBytes) : Type 0 where
  pub lines : Joinable b
  pub fit : LinesFit (joined_sheet b.plain b.bookkeeping) b.coordinator

pub passing_joined : (b : TwoBytes) → PassingFull b → Joined b
passing_joined b h =
    let j : Joinable b = alone_joinable b free.0 free.1.0 free.1.1 in
    record { lines = j; fit = fits (sym (agreeing b.plain b.bookkeeping b.coordinator j.plain j.bookkeeping j.agree) ∙ h) }
  where
    -- the five conditions
    free : (plain_alone b.plain ≡ true) × ((bookkeeping_alone b.bookkeeping ≡ true) × (same_keys b.plain b.bookkeeping ≡ true))
    free =
        unfold full_conditions lines_conditions in
        let c1 = not_first 1 (not (plain_alone b.plain)) _ (omega arith) h in
        let c2 = not_first 1 (not (bookkeeping_alone b.bookkeeping)) _ (omega arith) c1.1 in
        let c3 = not_first 1 (same_keys b.plain b.bookkeeping && not (records_accepted (joined_sheet b.plain b.bookkeeping))) _ (omega arith) c2.1 in
        let c4 = not_first 2 (not (coordinator_fits b.bookkeeping b.coordinator)) _ (omega arith) c3.1 in
        let c5 = not_first 13 (not (same_keys b.plain b.bookkeeping)) [] (omega arith) c4.1 in
        (not-false (plain_alone b.plain) c1.0, (not-false (bookkeeping_alone b.bookkeeping) c2.0, not-false (same_keys b.plain b.bookkeeping) c5.0))

    -- and the joined lines' two
    fits : refusal_of (joined_conditions (joined_sheet b.plain b.bookkeeping) b.coordinator) ≡ 0 → LinesFit (joined_sheet b.plain b.bookkeeping) b.coordinator
    fits z =
        unfold joined_conditions in
        let s = joined_sheet b.plain b.bookkeeping in
        let c1 = not_first 1 (not (records_accepted s)) _ (omega arith) z in
        let c2 = not_first 2 (not (coordinator_readable b.coordinator && all_issued s b.coordinator)) [] (omega arith) c1.1 in
        let e = not-false (coordinator_readable b.coordinator && all_issued s b.coordinator) c2.0 in (
          not-false (records_accepted s) c1.0,
          (and_fst (coordinator_readable b.coordinator) (all_issued s b.coordinator) e, and_snd (coordinator_readable b.coordinator) (all_issued s b.coordinator) e),
        )

-- either sheet is its part of the joined one
pub split_join : (b : TwoBytes) → Joinable b → (plain_part (joined_sheet b.plain b.bookkeeping) ≡ b.plain) × (bookkeeping_part (joined_sheet b.plain b.bookkeeping) ≡ b.bookkeeping)
split_join b j =
    (plain_part-joined b.plain b.bookkeeping j.plain j.bookkeeping j.agree, bookkeeping_part-joined b.plain b.bookkeeping j.plain j.bookkeeping j.agree)

-- An operation on sheets that pass is the operation on what they say.
pub on_passing_full : {A E : Type 0} (b : TwoBytes) (call : Sheets → Response A E) → PassingFull b → on_full b call ≡ call (saying_full b)
on_passing_full b call h = unless-free (full_conditions b.plain b.bookkeeping b.coordinator) (call (saying_full b)) h
