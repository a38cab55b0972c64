-- Two sheets that pass, spares included, join to a readable sheet. So good sheets, encoded and split, pass and say the same, and sheets that pass are those of what they say.
-- All but the spares is said of the lines before them (Encoding).
use Rattle.std.specs.Prelude.{◌+◌, ◌-◌, ◌*◌, ◌/◌, ◌<◌, ◌≡◌, ◌&&◌, ◌∷◌, ◌++◌}
use Rattle.std.proofs.Common.{◌∙◌}
use Rattle.lists.specs.Basics.{ℕ, suc, refl, sym, ap, ap₂, eqb, leb, Bool, true, false, not, true≢false, List, [], length, arith}
use Rattle.lists.specs.Basics.{map, eqb-true, eq-eqb, not-false, and_fst, and_snd, all, joined}
use Rattle.decimal.specs.Field.{figure, scanned, stepped, within, is_number}
use Rattle.model.specs.Types.{Column}
use Rattle.model.specs.Layouts.{record_bytes, record_layout, key_layout, columns_layout}
use Rattle.model.specs.Lines.{lines_of, lines_set, line_set, field_value}
use Rattle.model.specs.Records.{records_text, records_good, records_accepted}
use Rattle.model.specs.Spares.{spare_line, is_spare, filled_lines, front, spares_text, sized, record_lines, sheet_for, sheet_accepted}
use Rattle.model.specs.Coordinator.{coordinator_text, coordinator_readable}
use Rattle.model.specs.Refusals.{refuse, refusal_of}
use Rattle.model.specs.SheetCalls.{all_issued, readable_conditions}
use Rattle.model.specs.Writes.{Sheets, sheets_good}
use Rattle.model.specs.Results.{Response, refused, made}
use Rattle.model.specs.ByteHistories.{Bytes, saying, Readable}
use Rattle.model.specs.Operations.{sheets_left, coordinator_left}
use Rattle.model.specs.TwoSheets.{plain_bytes, bookkeeping_bytes, plain_layout, bookkeeping_layout, joined_sheet, plain_part, bookkeeping_part, plain_alone, bookkeeping_alone, same_keys}
use Rattle.model.specs.TwoSheets.{lines_conditions, coordinator_fits, full_conditions, plain_record, bookkeeping_record}
use Rattle.model.specs.TwoSpares.{plain_lines, bookkeeping_lines, joined_lines, as_many, keys_match, form_conditions, two_conditions}
use Rattle.model.specs.FullCalls.{TwoBytes, PassingFull}
use Rattle.model.specs.TwoCalls.{saying_two, PassingTwo, on_two, plain_left, bookkeeping_left, two_left}
use Rattle.sheet_laws.specs.ByIndex.{length-lines}
use Rattle.sheet_laws.specs.Fronts.{sized-whole, front-whole, front-count, front-spares, spared-front, spared-length, spared-count, set_no_spares, wide_lines, bytes-lines}
use Rattle.sheet_laws.specs.Records.{records_read_written, sheet_written_read}
use Rattle.sheet_laws.specs.Spared.{accepted_lines, count-front}
use Rattle.sheet_laws.specs.Coordinator.{coordinator_written_read}
use Rattle.call_laws.specs.Choices.{not_first}
use Rattle.call_laws.specs.Accepted.{unless-free}
use Rattle.call_laws.specs.Lifting.{encoded, readable_both, readable_good, encoded_readable, good_records}
use Rattle.two_laws.specs.Deciding.{keys_agree, lines_agree, joined_conditions}
use Rattle.two_laws.specs.JoinedSheets.{split_agrees}
use Rattle.two_laws.specs.Decision.{agreeing, accepted_whole, split_accepted}
use Rattle.two_laws.specs.Encoding.{Joinable, alone_joinable, split_join}
use Rattle.two_laws.specs.SparedJoin.{joined-spared, joined_length, joined-count, joined-filled, joined-front}

-- the joined sheet beside the coordinator sheet
abbrev pub joined_bytes : TwoBytes → Bytes
joined_bytes b = record { records = joined_sheet b.plain b.bookkeeping; coordinator = b.coordinator }

-- the lines before the spares
abbrev pub cut_two : TwoBytes → TwoBytes
cut_two b = record { plain = plain_lines b.plain; bookkeeping = bookkeeping_lines b.bookkeeping; coordinator = b.coordinator }

-- as many whole lines on both, and before the spares keys that agree, byte for byte
pub record JoinableTwo (b : TwoBytes) : Type 0 where
  pub plain : length b.plain ≡ length b.plain / plain_bytes * plain_bytes
  pub bookkeeping : length b.bookkeeping ≡ length b.bookkeeping / bookkeeping_bytes * bookkeeping_bytes
  pub many : length b.plain / plain_bytes ≡ length b.bookkeeping / bookkeeping_bytes
  pub lines : Joinable (cut_two b)

agree-count : (ps bs : List (List ℕ)) → lines_agree ps bs ≡ true → length ps ≡ length bs
unfolding lines_agree
agree-count [] [] h = refl
agree-count [] (b ∷ bs) h = absurd (true≢false (sym h))
agree-count (p ∷ ps) [] h = absurd (true≢false (sym h))
agree-count (p ∷ ps) (b ∷ bs) h = ap suc (agree-count ps bs (and_snd (keys_agree p b) (lines_agree ps bs) h))

module _ (b : TwoBytes) (j : JoinableTwo b) where
  abbrev ps : List ℕ
  ps = b.plain

  abbrev bs : List ℕ
  bs = b.bookkeeping

  pub same-filled : filled_lines plain_bytes ps ≡ filled_lines bookkeeping_bytes bs
  same-filled =
      sym (front-count plain_bytes (omega arith) ps j.plain)
      ∙ (sym (length-lines plain_bytes (plain_lines ps))
      ∙ (agree-count (lines_of plain_bytes (plain_lines ps)) (lines_of bookkeeping_bytes (bookkeeping_lines bs)) j.lines.agree
      ∙ (length-lines bookkeeping_bytes (bookkeeping_lines bs)
      ∙ front-count bookkeeping_bytes (omega arith) bs j.bookkeeping)))

  pub front-joined : record_lines (joined_sheet ps bs) ≡ joined_lines ps bs
  front-joined = joined-front ps bs j.plain j.bookkeeping j.many same-filled

  pub count-joined : length (joined_sheet ps bs) / record_bytes ≡ length bs / bookkeeping_bytes
  count-joined = joined-count ps bs j.plain j.bookkeeping j.many same-filled

  whole-joined : length (joined_sheet ps bs) ≡ length (joined_sheet ps bs) / record_bytes * record_bytes
  whole-joined = joined_length ps bs j.plain j.bookkeeping j.many same-filled ∙ ap (λ (n : ℕ). n * record_bytes) (sym count-joined)

  -- the joined lines are whole, being the front of a sheet that is
  pub joined_lines-whole : length (joined_lines ps bs) ≡ length (joined_lines ps bs) / record_bytes * record_bytes
  joined_lines-whole =
      ap length (sym front-joined) ∙ (front-whole record_bytes (omega arith) (joined_sheet ps bs) whole-joined ∙ ap (λ (t : List ℕ). length t / record_bytes * record_bytes) front-joined)

  -- all three have their size, or none
  abbrev few : Bool
  few = leb 1 (length bs / bookkeeping_bytes) && leb (length bs / bookkeeping_bytes) 500

  size_of : (w : ℕ) (s : List ℕ) → length s ≡ length s / w * w → length s / w ≡ length bs / bookkeeping_bytes → sized w s ≡ few
  unfolding sized
  size_of w s e n =
      ap₂ (λ (x : Bool) (m : ℕ). x && leb 1 m && leb m 500) (eq-eqb (length s) (length s / w * w) e) n

  -- the refusals of two sheets by tests of their size and number, and of the joined one by its size and lines
  abbrev ours : Bool → Bool → Bool → ℕ
  ours y z m =
      refusal_of
      (refuse 1 (not (y && plain_alone (plain_lines ps)))
      ∷ refuse 1 (not (z && bookkeeping_alone (bookkeeping_lines bs)))
      ∷ refuse 1 (m && same_keys (plain_lines ps) (bookkeeping_lines bs) && not (records_accepted (joined_lines ps bs)))
      ∷ refuse 2 (not (coordinator_fits (bookkeeping_lines bs) b.coordinator))
      ∷ refuse 13 (not (m && same_keys (plain_lines ps) (bookkeeping_lines bs)))
      ∷ [])

  abbrev joint : Bool → List ℕ → ℕ
  joint z t = refusal_of (refuse 1 (not (z && records_accepted t)) ∷ refuse 2 (not (coordinator_readable b.coordinator && all_issued t b.coordinator)) ∷ [])

  by_size : (z : Bool) → ours z z true ≡ joint z (joined_lines ps bs)
  by_size true =
      unfold full_conditions lines_conditions joined_conditions in
      agreeing (plain_lines ps) (bookkeeping_lines bs) b.coordinator j.lines.plain j.lines.bookkeeping j.lines.agree
  by_size false = unfold refusal_of in refl

  -- they are the same, letters of either case
  pub agreeing_two : refusal_of (two_conditions ps bs b.coordinator) ≡ refusal_of (readable_conditions (joined_sheet ps bs) b.coordinator)
  unfolding two_conditions form_conditions readable_conditions sheet_accepted keys_match as_many
  agreeing_two =
      ap₂ (λ (y z : Bool). ours y z (as_many ps bs)) (size_of plain_bytes ps j.plain j.many) (size_of bookkeeping_bytes bs j.bookkeeping refl)
      ∙ (ap (ours few few) (eq-eqb (length ps / plain_bytes) (length bs / bookkeeping_bytes) j.many)
      ∙ (by_size few ∙ sym (ap₂ joint (size_of record_bytes (joined_sheet ps bs) whole-joined count-joined) front-joined)))

-- sheets that are good alone, of which 13 isn't to be said, are such
pub alone_joinable_two : (b : TwoBytes) → (sized plain_bytes b.plain && plain_alone (plain_lines b.plain)) ≡ true → (sized bookkeeping_bytes b.bookkeeping && bookkeeping_alone (bookkeeping_lines b.bookkeeping)) ≡ true → keys_match b.plain b.bookkeeping ≡ true → JoinableTwo b
unfolding keys_match as_many
alone_joinable_two b p q k =
    let same = same_keys (plain_lines b.plain) (bookkeeping_lines b.bookkeeping) in
    let plain_fits = plain_alone (plain_lines b.plain) in
    let bookkeeping_fits = bookkeeping_alone (bookkeeping_lines b.bookkeeping) in
    record {
      plain = sized-whole plain_bytes b.plain (and_fst (sized plain_bytes b.plain) plain_fits p);
      bookkeeping = sized-whole bookkeeping_bytes b.bookkeeping (and_fst (sized bookkeeping_bytes b.bookkeeping) bookkeeping_fits q);
      many = eqb-true (length b.plain / plain_bytes) (length b.bookkeeping / bookkeeping_bytes) (and_fst (as_many b.plain b.bookkeeping) same k);
      lines =
          alone_joinable (cut_two b) (and_snd (sized plain_bytes b.plain) plain_fits p) (and_snd (sized bookkeeping_bytes b.bookkeeping) bookkeeping_fits q)
          (and_snd (as_many b.plain b.bookkeeping) same k);
    }

-- Sheets that pass.

pub record JoinedTwo (b : TwoBytes) : Type 0 where
  pub lines : JoinableTwo b
  -- the lines before the spares pass by themselves
  pub cut_passes : PassingFull (cut_two b)
  pub readable : Readable (joined_bytes b)

module _ (b : TwoBytes) (h : PassingTwo b) where
  abbrev plain_fits : Bool
  plain_fits = plain_alone (plain_lines b.plain)

  abbrev bookkeeping_fits : Bool
  bookkeeping_fits = bookkeeping_alone (bookkeeping_lines b.bookkeeping)

  abbrev same : Bool
  same = same_keys (plain_lines b.plain) (bookkeeping_lines b.bookkeeping)

  abbrev match : Bool
  match = keys_match b.plain b.bookkeeping

  abbrev joins : Bool
  joins = records_accepted (joined_lines b.plain b.bookkeeping)

  abbrev decides : Bool
  decides = coordinator_fits (bookkeeping_lines b.bookkeeping) b.coordinator

  -- the five conditions
  record Free : Type 0 where
    pub plain : (sized plain_bytes b.plain && plain_fits) ≡ true
    pub bookkeeping : (sized bookkeeping_bytes b.bookkeeping && bookkeeping_fits) ≡ true
    pub joined : (match && not joins) ≡ false
    pub decisions : decides ≡ true
    pub keys : match ≡ true

  free : Free
  unfolding two_conditions form_conditions
  free =
      let c1 = not_first 1 (not (sized plain_bytes b.plain && plain_fits)) _ (omega arith) h in
      let c2 = not_first 1 (not (sized bookkeeping_bytes b.bookkeeping && bookkeeping_fits)) _ (omega arith) c1.1 in
      let c3 = not_first 1 (match && not joins) _ (omega arith) c2.1 in
      let c4 = not_first 2 (not decides) _ (omega arith) c3.1 in
      let c5 = not_first 13 (not match) [] (omega arith) c4.1 in
      record {
        plain = not-false (sized plain_bytes b.plain && plain_fits) c1.0;
        bookkeeping = not-false (sized bookkeeping_bytes b.bookkeeping && bookkeeping_fits) c2.0;
        joined = c3.0;
        decisions = not-false decides c4.0;
        keys = not-false match c5.0;
      }

  matched : same ≡ true
  unfolding keys_match
  matched = and_snd (as_many b.plain b.bookkeeping) same free.keys

  plain_fits_lem : plain_fits ≡ true
  plain_fits_lem = and_snd (sized plain_bytes b.plain) plain_fits free.plain

  bookkeeping_fits_lem : bookkeeping_fits ≡ true
  bookkeeping_fits_lem = and_snd (sized bookkeeping_bytes b.bookkeeping) bookkeeping_fits free.bookkeeping

  joined-fits : joins ≡ true
  joined-fits = go joins (ap (λ (x : Bool). x && not joins) (sym free.keys) ∙ free.joined)
    where
      go : (x : Bool) → not x ≡ false → x ≡ true
      go true e = refl
      go false e = sym e

  joinable : JoinableTwo b
  joinable = alone_joinable_two b free.plain free.bookkeeping free.keys

  passes : PassingFull (cut_two b)
  unfolding full_conditions lines_conditions refusal_of
  passes = rw (plain_fits_lem, bookkeeping_fits_lem, matched, joined-fits, free.decisions)

  pub passing_two : JoinedTwo b
  passing_two = record { lines = joinable; cut_passes = passes; readable = sym (agreeing_two b joinable) ∙ h }

pub passing_two_good : (b : TwoBytes) → PassingTwo b → sheets_good (saying_two b) ≡ true
passing_two_good b h = readable_good (joined_bytes b) (passing_two b h).readable

-- What is said, encoded and split.

-- the bytes of three sheets for it
abbrev pub encoded_two : Sheets → TwoBytes
encoded_two s =
    record {
      plain = plain_part (records_text s.lines) ++ spares_text plain_bytes (s.size - length s.lines);
      bookkeeping = bookkeeping_part (records_text s.lines) ++ spares_text bookkeeping_bytes (s.size - length s.lines);
      coordinator = coordinator_text s.coordinator;
    }

spare_unread_plain : line_set plain_layout (spare_line plain_bytes) ≡ false
unfolding spare_line line_set plain_layout key_layout columns_layout record_layout field_value figure scanned stepped within
spare_unread_plain = refl

spare_unread_bookkeeping : line_set bookkeeping_layout (spare_line bookkeeping_bytes) ≡ false
unfolding spare_line line_set bookkeeping_layout record_layout field_value figure scanned stepped within
spare_unread_bookkeeping = refl

-- Lines of a sheet that can be read, with so many spares behind them.
module _ (w : ℕ) (some : 0 < w) (layout : List Column) (bad : line_set layout (spare_line w) ≡ false) (s : List ℕ) (n : ℕ) (set : lines_set layout w s ≡ true) where
  whole_set : length s ≡ length s / w * w
  unfolding lines_set
  whole_set = eqb-true (length s) (length s / w * w) (and_fst (eqb (length s) (length s / w * w)) (all (line_set layout) (lines_of w s)) set)

  none-spare : all (λ (l : List ℕ). not (is_spare w l)) (lines_of w s) ≡ true
  unfolding lines_set
  none-spare = set_no_spares w some layout bad (lines_of w s) (and_snd (eqb (length s) (length s / w * w)) (all (line_set layout) (lines_of w s)) set)

  lines_are : joined (lines_of w s) ≡ s
  lines_are = bytes-lines w some s whole_set

  pub set_front : front w (s ++ spares_text w n) ≡ s
  set_front =
      ap (λ (t : List ℕ). front w (t ++ spares_text w n)) (sym lines_are)
      ∙ (spared-front w some (lines_of w s) n (wide_lines w some s whole_set) none-spare ∙ lines_are)

  pub set-count : length (s ++ spares_text w n) / w ≡ length s / w + n
  set-count =
      ap (λ (t : List ℕ). length (t ++ spares_text w n) / w) (sym lines_are)
      ∙ (spared-count w some (lines_of w s) n (wide_lines w some s whole_set) none-spare ∙ ap (λ (m : ℕ). m + n) (length-lines w s))

  pub set-whole : length (s ++ spares_text w n) ≡ length (s ++ spares_text w n) / w * w
  set-whole =
      ap (λ (t : List ℕ). length (t ++ spares_text w n)) (sym lines_are)
      ∙ (spared-length w some (lines_of w s) n (wide_lines w some s whole_set) none-spare
      ∙ ap (λ (m : ℕ). m * w) (ap (λ (m : ℕ). m + n) (length-lines w s) ∙ sym set-count))

module _ (s : Sheets) (good : sheets_good s ≡ true) where
  abbrev text : List ℕ
  text = records_text s.lines

  abbrev spares : ℕ
  spares = s.size - length s.lines

  accepted : records_accepted text ≡ true
  accepted = (records_read_written s.lines (good_records s good)).1

  apart : (joined_sheet (plain_part text) (bookkeeping_part text) ≡ text) × ((plain_alone (plain_part text) ≡ true) × ((bookkeeping_alone (bookkeeping_part text) ≡ true) × (same_keys (plain_part text) (bookkeeping_part text) ≡ true)))
  apart = split_accepted text accepted

  plain-set : lines_set plain_layout plain_bytes (plain_part text) ≡ true
  unfolding plain_alone
  plain-set = and_fst _ (records_good (map plain_record (lines_of plain_bytes (plain_part text)))) apart.1.0

  bookkeeping-set : lines_set bookkeeping_layout bookkeeping_bytes (bookkeeping_part text) ≡ true
  unfolding bookkeeping_alone
  bookkeeping-set = and_fst _ (records_good (map bookkeeping_record (lines_of bookkeeping_bytes (bookkeeping_part text)))) apart.1.1.0

  plain-front : plain_lines (encoded_two s).plain ≡ plain_part text
  plain-front = set_front plain_bytes (omega arith) plain_layout spare_unread_plain (plain_part text) spares plain-set

  bookkeeping-front : bookkeeping_lines (encoded_two s).bookkeeping ≡ bookkeeping_part text
  bookkeeping-front = set_front bookkeeping_bytes (omega arith) bookkeeping_layout spare_unread_bookkeeping (bookkeeping_part text) spares bookkeeping-set

  lines_joinable : Joinable (cut_two (encoded_two s))
  lines_joinable =
      alone_joinable (cut_two (encoded_two s)) (ap plain_alone plain-front ∙ apart.1.0) (ap bookkeeping_alone bookkeeping-front ∙ apart.1.1.0)
      (ap₂ same_keys plain-front bookkeeping-front ∙ apart.1.1.1)

  abbrev plain_whole : length (encoded_two s).plain ≡ length (encoded_two s).plain / plain_bytes * plain_bytes
  plain_whole = set-whole plain_bytes (omega arith) plain_layout spare_unread_plain (plain_part text) spares plain-set

  abbrev bookkeeping_whole : length (encoded_two s).bookkeeping ≡ length (encoded_two s).bookkeeping / bookkeeping_bytes * bookkeeping_bytes
  bookkeeping_whole = set-whole bookkeeping_bytes (omega arith) bookkeeping_layout spare_unread_bookkeeping (bookkeeping_part text) spares bookkeeping-set

  -- either part has as many lines as the text
  same_lines : length (plain_part text) / plain_bytes ≡ length (bookkeeping_part text) / bookkeeping_bytes
  same_lines =
      sym (length-lines plain_bytes (plain_part text))
      ∙ (agree-count (lines_of plain_bytes (plain_part text)) (lines_of bookkeeping_bytes (bookkeeping_part text)) (split_agrees text (accepted_whole text accepted))
      ∙ length-lines bookkeeping_bytes (bookkeeping_part text))

  encoded_joinable : JoinableTwo (encoded_two s)
  encoded_joinable =
      record {
        plain = plain_whole;
        bookkeeping = bookkeeping_whole;
        many =
            set-count plain_bytes (omega arith) plain_layout spare_unread_plain (plain_part text) spares plain-set
            ∙ (ap (λ (m : ℕ). m + spares) same_lines
            ∙ sym (set-count bookkeeping_bytes (omega arith) bookkeeping_layout spare_unread_bookkeeping (bookkeeping_part text) spares bookkeeping-set));
        lines = lines_joinable;
      }

  -- joined they are the sheet
  behind : length (encoded_two s).bookkeeping / bookkeeping_bytes - filled_lines bookkeeping_bytes (encoded_two s).bookkeeping ≡ spares
  behind =
      let m : filled_lines bookkeeping_bytes (encoded_two s).bookkeeping ≡ length (bookkeeping_part text) / bookkeeping_bytes =
      sym (front-count bookkeeping_bytes (omega arith) (encoded_two s).bookkeeping bookkeeping_whole) ∙ ap (λ (t : List ℕ). length t / bookkeeping_bytes) bookkeeping-front in
      let n = set-count bookkeeping_bytes (omega arith) bookkeeping_layout spare_unread_bookkeeping (bookkeeping_part text) spares bookkeeping-set in
      omega (arith, m, n)

  pub encoded-joins : joined_bytes (encoded_two s) ≡ encoded s
  unfolding sheet_for
  encoded-joins =
      let j = encoded_joinable in
      let e : joined_sheet (encoded_two s).plain (encoded_two s).bookkeeping ≡ text ++ spares_text record_bytes spares =
      joined-spared (encoded_two s).plain (encoded_two s).bookkeeping j.plain j.bookkeeping j.many (same-filled (encoded_two s) j)
      ∙ ap₂ (λ (t : List ℕ) (n : ℕ). t ++ spares_text record_bytes n) (ap₂ joined_sheet plain-front bookkeeping-front ∙ apart.0) behind in
      λ i. record { records = e i; coordinator = coordinator_text s.coordinator }

  pub encoded_two-says : (saying_two (encoded_two s) ≡ s) × PassingTwo (encoded_two s)
  encoded_two-says =
      let e = encoded_readable s good in (
        ap saying encoded-joins ∙ e.0,
        agreeing_two (encoded_two s) encoded_joinable ∙ (ap (λ (x : Bytes). refusal_of (readable_conditions x.records x.coordinator)) encoded-joins ∙ e.1),
      )

-- Sheets that pass are those of what they say.
pub passing_encoded_two : (b : TwoBytes) → PassingTwo b → encoded_two (saying_two b) ≡ b
passing_encoded_two b h =
    let t = passing_two b h in
    let j = t.lines in
    let f = split_join (cut_two b) j.lines in
    let e : records_text (saying_two b).lines ≡ joined_lines b.plain b.bookkeeping =
    sheet_written_read (record_lines (joined_sheet b.plain b.bookkeeping)) (accepted_lines (joined_sheet b.plain b.bookkeeping) (readable_both (joined_bytes b) t.readable).0)
    ∙ front-joined b j in
    let c : length (saying_two b).lines ≡ filled_lines bookkeeping_bytes b.bookkeeping =
    count-front (joined_sheet b.plain b.bookkeeping) (readable_both (joined_bytes b) t.readable).0
    ∙ joined-filled b.plain b.bookkeeping j.plain j.bookkeeping j.many (same-filled b j) in
    let n : (saying_two b).size - length (saying_two b).lines ≡ length b.bookkeeping / bookkeeping_bytes - filled_lines bookkeeping_bytes b.bookkeeping =
    ap₂ ◌-◌ (count-joined b j) c in
    let m : length b.bookkeeping / bookkeeping_bytes - filled_lines bookkeeping_bytes b.bookkeeping ≡ length b.plain / plain_bytes - filled_lines plain_bytes b.plain =
    ap₂ ◌-◌ (sym j.many) (sym (same-filled b j)) in
    λ i. record {
      plain = (ap₂ (λ (x : List ℕ) (k : ℕ). plain_part x ++ spares_text plain_bytes k) e (n ∙ m) ∙ (ap (λ (x : List ℕ). x ++ spares_text plain_bytes (length b.plain / plain_bytes - filled_lines plain_bytes b.plain)) f.0 ∙ front-spares plain_bytes (omega arith) b.plain j.plain)) i;
      bookkeeping = (ap₂ (λ (x : List ℕ) (k : ℕ). bookkeeping_part x ++ spares_text bookkeeping_bytes k) e n ∙ (ap (λ (x : List ℕ). x ++ spares_text bookkeeping_bytes (length b.bookkeeping / bookkeeping_bytes - filled_lines bookkeeping_bytes b.bookkeeping)) f.1 ∙ front-spares bookkeeping_bytes (omega arith) b.bookkeeping j.bookkeeping)) i;
      coordinator = coordinator_written_read b.coordinator (readable_both (joined_bytes b) t.readable).1.0 i;
    }

-- An operation on sheets that pass is the operation on what they say, and leaves what that leaves, encoded.

pub on_passing_two : {A E : Type 0} (b : TwoBytes) (call : Sheets → Response A E) → PassingTwo b → on_two b call ≡ call (saying_two b)
on_passing_two b call h = unless-free (two_conditions b.plain b.bookkeeping b.coordinator) (call (saying_two b)) h

pub left-two : {A : Type 0} (b : TwoBytes) (r : Response A Sheets) → PassingTwo b → two_left b r ≡ encoded_two (sheets_left (saying_two b) r)
unfolding plain_left bookkeeping_left coordinator_left
left-two b (made a s) h = refl
left-two b (refused n) h = sym (passing_encoded_two b h)
