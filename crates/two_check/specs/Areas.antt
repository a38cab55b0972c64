-- What stands in the area of a call on two sheets, by what was told of them: filled lines where the keys don't agree, else the joined sheet.
use Rattle.std.specs.Prelude.{◌≡◌, ◌*◌, ◌/◌, ◌≤◌, ◌<◌, ◌&&◌, ◌∷◌, ◌++◌}
use Rattle.std.proofs.Common.{◌∙◌}
use Rattle.lists.specs.Basics.{refl, sym, ap, ap₂, ℕ, Bool, true, false, not, cond, true≢false, List, [], map, length}
use Rattle.lists.specs.Basics.{take, drop, take_at, length-take, arith, leb, leb-true, eqb-true, eq-eqb, ne_eqb, all, and_fst, and_snd}
use Rattle.model.specs.Layouts.{record_bytes}
use Rattle.model.specs.Lines.{lines_of}
use Rattle.model.specs.Records.{records, records_accepted}
use Rattle.model.specs.Coordinator.{coordinator_of, coordinator_readable, names_issued}
use Rattle.model.specs.Refusals.{refuse, refusal_of}
use Rattle.model.specs.SheetCalls.{all_issued}
use Rattle.model.specs.TwoSheets.{plain_bytes, bookkeeping_bytes, joined_sheet, bookkeeping_record, plain_alone, bookkeeping_alone, lines_conditions, key_conditions}
use Rattle.model.specs.TwoSheets.{coordinator_fits, full_conditions}
use Rattle.model.specs.FullCalls.{TwoBytes}
use Rattle.two_laws.specs.Deciding.{whole, lines_agree, filled_plain, filled_bookkeeping}
use Rattle.two_laws.specs.FilledSheets.{filled_plain_lem, filled_bookkeeping_lem, filled_bookkeeping-records}
use Rattle.two_laws.specs.JoinedSheets.{issued-joined}
use Rattle.two_join.specs.Agrees.{same_counts}
use Rattle.two_laws.specs.Decision.{lines-joined, lines-apart, keys_bad, keys_past, few_lines, many_plain, many_bookkeeping}

abbrev pub two : List ℕ → List ℕ → List ℕ → TwoBytes
two ps bs cs = record { plain = ps; bookkeeping = bs; coordinator = cs }

-- the bytes that the lines of a sheet have when joined
abbrev pub joined_size : ℕ → List ℕ → ℕ
joined_size width s = length s / width * record_bytes

-- n bytes have room for the lines of a sheet of so many bytes, unless these are too many
abbrev pub RoomFor : ℕ → ℕ → ℕ → Type 0
RoomFor width size n = size / width ≤ 500 → size / width * record_bytes ≤ n

-- and for those of either sheet
abbrev pub RoomsFor : ℕ → ℕ → ℕ → Type 0
RoomsFor plain book n = RoomFor plain_bytes plain n × RoomFor bookkeeping_bytes book n

abbrev pub Room : ℕ → List ℕ → ℕ → Type 0
Room width s n = RoomFor width (length s) n

abbrev pub Rooms : List ℕ → List ℕ → ℕ → Type 0
Rooms ps bs n = RoomsFor (length ps) (length bs) n

-- neither of two sheets of so many bytes has more than n lines
abbrev pub both_within : ℕ → ℕ → ℕ → Bool
both_within n plain book = leb plain (n * plain_bytes) && leb book (n * bookkeeping_bytes)

pub rooms_within : (n size plain book : ℕ) (r : Bool) → r ≡ both_within n plain book → r ≡ true → n * record_bytes ≤ size → RoomsFor plain book size
rooms_within n size plain book r e t fits =
    let w : both_within n plain book ≡ true = sym e ∙ t in
    let p = leb-true plain (n * plain_bytes) (and_fst _ (leb book (n * bookkeeping_bytes)) w) in
    let b = leb-true book (n * bookkeeping_bytes) (and_snd (leb plain (n * plain_bytes)) _ w) in
    (λ l. omega arith, λ l. omega arith)

-- an area for all lines that a sheet may have is large enough for any sheets
pub rooms_most : (plain book size : ℕ) → size ≡ 500 * record_bytes → RoomsFor plain book size
rooms_most plain book size e = (λ l. omega (arith, e), λ l. omega (arith, e))

-- the front of an area that was lent and came back as t
pub front_is : (n : ℕ) (t area : List ℕ) → length t ≡ length (take n area) → n ≤ length area → take n (t ++ drop n area) ≡ t
front_is n t area kept l = take_at t (drop n area) n (kept ∙ simp length-take (omega arith))

-- Either sheet alone.

abbrev pub alone_plain : List ℕ → Bool
alone_plain ps = whole plain_bytes ps && records_accepted (filled_plain ps)

abbrev pub alone_bookkeeping : List ℕ → Bool
alone_bookkeeping bs = whole bookkeeping_bytes bs && records_accepted (filled_bookkeeping bs)

pub plain-cut : (ps : List ℕ) → (length ps ≡ length ps / plain_bytes * plain_bytes → ⊥) → false ≡ alone_plain ps
plain-cut ps z = rw (ne_eqb (length ps) (length ps / plain_bytes * plain_bytes) z)

pub plain_many : (ps : List ℕ) → 500 < length ps / plain_bytes → false ≡ alone_plain ps
plain_many ps l = sym (many_plain ps l) ∙ filled_plain_lem ps

pub plain_filled_lem : (ps : List ℕ) (r : Bool) → length ps ≡ length ps / plain_bytes * plain_bytes → r ≡ records_accepted (filled_plain ps) → r ≡ alone_plain ps
plain_filled_lem ps r w f = f ∙ ap (λ (x : Bool). x && records_accepted (filled_plain ps)) (sym (eq-eqb (length ps) (length ps / plain_bytes * plain_bytes) w))

-- and if it is good it stands filled in the area
pub record BookkeepingIn (bs : List ℕ) (r : Bool) (area : List ℕ) : Type 0 where
  pub told : r ≡ alone_bookkeeping bs
  pub filled : r ≡ true → take (joined_size bookkeeping_bytes bs) area ≡ filled_bookkeeping bs

module _ (bs area : List ℕ) where
  bookkeeping_bad : alone_bookkeeping bs ≡ false → BookkeepingIn bs false area
  bookkeeping_bad e = record { told = sym e; filled = λ t. absurd (true≢false (sym t)) }

  pub bookkeeping-cut : (length bs ≡ length bs / bookkeeping_bytes * bookkeeping_bytes → ⊥) → BookkeepingIn bs false area
  bookkeeping-cut z = bookkeeping_bad (rw (ne_eqb (length bs) (length bs / bookkeeping_bytes * bookkeeping_bytes) z))

  pub bookkeeping_many : 500 < length bs / bookkeeping_bytes → BookkeepingIn bs false area
  bookkeeping_many l = bookkeeping_bad (sym (filled_bookkeeping_lem bs) ∙ many_bookkeeping bs l)

  pub bookkeeping-filled : (r : Bool) → length bs ≡ length bs / bookkeeping_bytes * bookkeeping_bytes → take (joined_size bookkeeping_bytes bs) area ≡ filled_bookkeeping bs
      → r ≡ records_accepted (filled_bookkeeping bs) → BookkeepingIn bs r area
  bookkeeping-filled r w e f =
      record {
        told = f ∙ ap (λ (x : Bool). x && records_accepted (filled_bookkeeping bs)) (sym (eq-eqb (length bs) (length bs / bookkeeping_bytes * bookkeeping_bytes) w));
        filled = λ t. e;
      }

-- Both.

-- lines that name the numbers which the bookkeeping sheet names
pub record Names (bs s : List ℕ) : Type 0 where
  pub accepted : records_accepted s ≡ true
  pub same : (i : ℕ) → all (names_issued i) (records s) ≡ all (names_issued i) (map bookkeeping_record (lines_of bookkeeping_bytes bs))

-- the joined sheet stands in the area
pub record JoinedIn (ps bs area : List ℕ) : Type 0 where
  pub joined : take (joined_size plain_bytes ps) area ≡ joined_sheet ps bs
  pub fits : joined_size plain_bytes ps ≤ length area
  pub same : length bs / bookkeeping_bytes ≡ length ps / plain_bytes

pub record Apart (ps bs : List ℕ) (r : ℕ) (area : List ℕ) : Type 0 where
  pub told : r ≡ refusal_of (refuse 1 (not (plain_alone ps)) ∷ refuse 1 (not (bookkeeping_alone bs)) ∷ refuse 13 true ∷ [])
  pub names : (r ≡ 1 → ⊥) → Names bs (take (joined_size bookkeeping_bytes bs) area)

module _ (ps bs area : List ℕ) where
  pub apart-plain : false ≡ alone_plain ps → Apart ps bs 1 area
  unfolding refusal_of
  apart-plain e = record { told = rw (filled_plain_lem ps ∙ sym e); names = λ z. absurd (z refl) }

  pub apart-bookkeeping : (r : Bool) → true ≡ alone_plain ps → BookkeepingIn bs r area → r ≡ false → Apart ps bs 1 area
  unfolding refusal_of
  apart-bookkeeping r e h f =
      record { told = rw (filled_plain_lem ps ∙ sym e, filled_bookkeeping_lem bs ∙ (sym h.told ∙ f)); names = λ z. absurd (z refl) }

  pub apart_keys : (r : Bool) → true ≡ alone_plain ps → BookkeepingIn bs r area → r ≡ true → Apart ps bs 13 area
  unfolding refusal_of
  apart_keys r e h f =
      let g : alone_bookkeeping bs ≡ true = sym h.told ∙ f in
      let w = and_fst (whole bookkeeping_bytes bs) (records_accepted (filled_bookkeeping bs)) g in
      record {
        told = rw (filled_plain_lem ps ∙ sym e, filled_bookkeeping_lem bs ∙ g);
        names = λ z. record {
          accepted = ap records_accepted (h.filled f) ∙ and_snd (whole bookkeeping_bytes bs) (records_accepted (filled_bookkeeping bs)) g;
          same = λ i. ap (λ (s : List ℕ). all (names_issued i) (records s)) (h.filled f) ∙ ap (all (names_issued i)) (filled_bookkeeping-records bs w);
        };
      }

-- What is told of both sheets, and what stands in the area.
pub record Lines (ps bs : List ℕ) (r : ℕ) (area : List ℕ) : Type 0 where
  pub told : r ≡ refusal_of (key_conditions ps bs)
  pub names : (r ≡ 1 → ⊥) → Names bs (take (joined_size bookkeeping_bytes bs) area)
  pub joined : r ≡ 0 → JoinedIn ps bs area

abbrev pub agrees : List ℕ → List ℕ → Bool
agrees ps bs = whole plain_bytes ps && whole bookkeeping_bytes bs && lines_agree (lines_of plain_bytes ps) (lines_of bookkeeping_bytes bs)

-- which makes the sheets as long as each other
module _ (ps bs : List ℕ) (h : true ≡ agrees ps bs) where
  pub whole_plain : whole plain_bytes ps ≡ true
  whole_plain = and_fst _ _ (and_fst (whole plain_bytes ps && whole bookkeeping_bytes bs) _ (sym h))

  pub whole-bookkeeping : whole bookkeeping_bytes bs ≡ true
  whole-bookkeeping = and_snd (whole plain_bytes ps) _ (and_fst (whole plain_bytes ps && whole bookkeeping_bytes bs) _ (sym h))

  pub keys_agree_lem : lines_agree (lines_of plain_bytes ps) (lines_of bookkeeping_bytes bs) ≡ true
  keys_agree_lem = and_snd (whole plain_bytes ps && whole bookkeeping_bytes bs) _ (sym h)

  pub same_lines : length bs / bookkeeping_bytes ≡ length ps / plain_bytes
  same_lines = sym (same_counts ps bs keys_agree_lem)

  -- so that a target as long as the joined sheet fits both
  pub joined_sizes : (t : List ℕ) → length t ≡ joined_size plain_bytes ps → (length ps ≡ length t / record_bytes * plain_bytes) × ((length bs ≡ length t / record_bytes * bookkeeping_bytes) × (length t ≡ length t / record_bytes * record_bytes))
  joined_sizes t n =
      let p = eqb-true (length ps) (length ps / plain_bytes * plain_bytes) whole_plain in
      let b = eqb-true (length bs) (length bs / bookkeeping_bytes * bookkeeping_bytes) whole-bookkeeping in
      let c = same_lines in
      (omega arith, (omega arith, omega arith))

module _ (ps bs area : List ℕ) where
  pub lines_differ : {r : ℕ} → false ≡ agrees ps bs → Apart ps bs r area → Lines ps bs r area
  lines_differ {r} e h =
      record {
        told = h.told ∙ sym (lines-apart ps bs (sym e));
        names = h.names;
        joined = λ z. absurd (never (plain_alone ps) (bookkeeping_alone bs) (sym z ∙ h.told));
      }
    where
      never : (p b : Bool) → 0 ≡ refusal_of (refuse 1 (not p) ∷ refuse 1 (not b) ∷ refuse 13 true ∷ []) → ⊥
      never true true q = unfold refusal_of in omega (arith, q)
      never true false q = unfold refusal_of in omega (arith, q)
      never false b q = unfold refusal_of in omega (arith, q)

  module _ (h : true ≡ agrees ps bs) where
    bad : refusal_of (key_conditions ps bs) ≡ 1 → Lines ps bs 1 area
    bad e = record { told = sym e; names = λ z. absurd (z refl); joined = λ z. absurd (omega (arith, z)) }

    pub lines_many : 500 < length ps / plain_bytes → Lines ps bs 1 area
    unfolding key_conditions lines_conditions refusal_of
    lines_many l = bad (rw (many_plain ps l))

    pub lines_bad : (r : Bool) → r ≡ records_accepted (joined_sheet ps bs) → r ≡ false → Lines ps bs 1 area
    lines_bad r f g = bad (lines-joined ps bs (whole_plain ps bs h) (whole-bookkeeping ps bs h) (keys_agree_lem ps bs h) ∙ rw (sym f ∙ g))

    pub lines_good : (r : Bool) → joined_size plain_bytes ps ≤ length area → take (joined_size plain_bytes ps) area ≡ joined_sheet ps bs → r ≡ records_accepted (joined_sheet ps bs) → r ≡ true
        → Lines ps bs 0 area
    lines_good r l e f g =
        let a : records_accepted (joined_sheet ps bs) ≡ true = sym f ∙ g in
        let n : joined_size bookkeeping_bytes bs ≡ joined_size plain_bytes ps = ap (λ (x : ℕ). x * record_bytes) (same_lines ps bs h) in
        let t : take (joined_size bookkeeping_bytes bs) area ≡ joined_sheet ps bs = ap (λ (x : ℕ). take x area) n ∙ e in
        record {
          told = sym (lines-joined ps bs (whole_plain ps bs h) (whole-bookkeeping ps bs h) (keys_agree_lem ps bs h) ∙ rw a);
          names = λ z. record {
            accepted = ap records_accepted t ∙ a;
            same = λ i. ap (λ (s : List ℕ). all (names_issued i) (records s)) t ∙ sym (issued-joined ps bs (whole_plain ps bs h) (whole-bookkeeping ps bs h) (keys_agree_lem ps bs h) i);
          };
          joined = λ z. record { joined = e; fits = l; same = same_lines ps bs h };
        }

-- The check of all three: the coordinator sheet comes between 1 and 13.
module _ (ps bs cs area : List ℕ) (r : ℕ) (h : Lines ps bs r area) where
  pub few : (r ≡ 1 → ⊥) → length bs / bookkeeping_bytes ≤ 500
  few z = few_lines ps bs (λ e. z (h.told ∙ e))

  pub check_bad : r ≡ 1 → 1 ≡ refusal_of (full_conditions ps bs cs)
  check_bad e = sym (keys_bad ps bs cs (sym h.told ∙ e))

  module _ (z : r ≡ 1 → ⊥) (f : Bool) (told : f ≡ (coordinator_readable cs && all_issued (take (joined_size bookkeeping_bytes bs) area) cs)) where
    same_test : f ≡ coordinator_fits bs cs
    unfolding coordinator_fits all_issued
    same_test = told ∙ ap (λ (x : Bool). coordinator_readable cs && x) ((h.names z).same (coordinator_of cs).issued)

    past : refusal_of (full_conditions ps bs cs) ≡ cond f r 2
    past = keys_past ps bs cs (λ e. z (h.told ∙ e)) ∙ ap₂ (λ (x : Bool) (n : ℕ). cond x n 2) (sym same_test) (sym h.told)

    pub check_unfit : f ≡ false → 2 ≡ refusal_of (full_conditions ps bs cs)
    check_unfit e = sym (past ∙ rw e)

    pub check_fit : f ≡ true → r ≡ refusal_of (full_conditions ps bs cs)
    check_fit e = sym (past ∙ rw e)
