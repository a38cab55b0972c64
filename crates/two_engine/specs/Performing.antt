-- What a call on both sheets comes to: refused by what is told of them first, or the call on the lines before the spares, which stay behind what it leaves. No call sees how
-- many they are, and none changes how many records.
use Rattle.std.specs.Prelude.{◌≡◌, ◌-◌, ◌*◌, ◌/◌, ◌++◌, Result as Either}
use Rattle.std.proofs.Common.{◌∙◌}
use Rattle.lists.specs.Basics.{refl, sym, ap, ap₂, subst, ℕ, eqb, eqb-true, eqb-false, Bool, true, false, List, length, take, drop, arith}
use Rattle.std.proofs.Math.ListN.{take-append-drop}
use Rattle.model.specs.Types.{Transaction}
use Rattle.model.specs.Layouts.{record_bytes}
use Rattle.model.specs.Records.{records, records_text}
use Rattle.model.specs.Spares.{filled_lines, front, spares_text}
use Rattle.model.specs.Refusals.{refusal_of}
use Rattle.model.specs.Writes.{Sheets}
use Rattle.model.specs.Results.{Answer, Response, refused, made, unless}
use Rattle.model.specs.Operations.{operation_shifts, Operation, response, sheets_left, coordinator_left}
use Rattle.model.specs.TwoSheets.{plain_bytes, bookkeeping_bytes, joined_sheet, plain_part, bookkeeping_part}
use Rattle.model.specs.TwoSpares.{plain_lines, bookkeeping_lines, joined_lines, two_conditions}
use Rattle.model.specs.FullCalls.{TwoBytes, saying_full, full_conditions_of, PassingFull, response_full, full_plain_left, full_bookkeeping_left}
use Rattle.model.specs.TwoCalls.{saying_two, PassingTwo, response_two, plain_left, bookkeeping_left}
use Rattle.sheet_laws.specs.ByIndex.{length-records}
use Rattle.sheet_laws.specs.Fronts.{front_tail, sized-whole, front-count}
use Rattle.sheet_laws.specs.Spared.{accepted_whole}
use Rattle.call_laws.specs.Choices.{unless_of}
use Rattle.call_laws.specs.Accepted.{unless-held, unless-free}
use Rattle.call_laws.specs.Lifting.{with_size, readable_both}
use Rattle.call_laws.specs.Sizes.{resized, response-resized}
use Rattle.call_laws.specs.StandingKeys.{response-count}
use Rattle.engine.specs.Fronts.{Blind}
use Rattle.two_laws.specs.SparedJoin.{joined-filled}
use Rattle.two_laws.specs.TwoEncoding.{cut_two, joined_bytes, same-filled, front-joined, count-joined, passing_two}
use Rattle.answers.specs.declared.Performed.{Performed}
use Rattle.answers.specs.Answers.{to_performed, to_visited}
use Rattle.two_check.specs.Areas.{two}
use Rattle.two_sheets.specs.Performing as full
use Rattle.two_engine.specs.Forms.{Whole, refusal_cut}

-- the answer, made so of a response, and the bytes of all three sheets are those of an operation
abbrev pub GivesAs : {A : Type 0} → (Response Answer Sheets → A) → Operation → List ℕ → List ℕ → List ℕ → A → List ℕ → List ℕ → List ℕ → Type 0
GivesAs to o ps bs cs r ps' bs' cs' =
    (r ≡ to (response_two o (two ps bs cs)))
    × ((ps' ≡ plain_left ps (response_two o (two ps bs cs)))
    × ((bs' ≡ bookkeeping_left bs (response_two o (two ps bs cs))) × (cs' ≡ coordinator_left cs (response_two o (two ps bs cs)))))

-- those of an operation, of a transaction
abbrev pub Gives : Operation → Transaction → List ℕ → List ℕ → List ℕ → Either Performed ℕ → List ℕ → List ℕ → List ℕ → Type 0
Gives o t ps bs cs r ps' bs' cs' = GivesAs (to_performed t) o ps bs cs r ps' bs' cs'

pub visited_blind : Blind to_visited
visited_blind n (refused m) = refl
visited_blind n (made a s) = refl

module _ {A : Type 0} (to : Response Answer Sheets → A) (o : Operation) (ps bs cs : List ℕ) where
  pub forms_refused : {r : A} (n : ℕ) → n ≡ refusal_of (two_conditions ps bs cs) → (n ≡ 0 → ⊥) → r ≡ to (refused n) → GivesAs to o ps bs cs r ps bs cs
  unfolding response_two plain_left bookkeeping_left coordinator_left
  forms_refused n e z h =
      let x : response_two o (two ps bs cs) ≡ refused n = unless-held (two_conditions ps bs cs) (response o (saying_two (two ps bs cs))) n (sym e) z in
      (h ∙ ap to (sym x), (ap (plain_left ps) (sym x), (ap (bookkeeping_left bs) (sym x), ap (coordinator_left cs) (sym x))))

-- Sheets that have their size and as many lines.
module _ (ps bs cs : List ℕ) (w : Whole ps bs) where
  abbrev b : TwoBytes
  b = two ps bs cs

  abbrev pub size : ℕ
  size = length (joined_sheet ps bs) / record_bytes

  abbrev filled : ℕ
  filled = filled_lines bookkeeping_bytes bs

  pub passed : PassingFull (cut_two b) → PassingTwo b
  passed h = sym (refusal_cut ps bs w cs) ∙ h

  pub said : PassingTwo b → saying_two b ≡ with_size size (saying_full (cut_two b))
  said h =
      let e = front-joined b (passing_two b h).lines in
      λ i. record { lines = records (e i); size = size; coordinator = (saying_two b).coordinator }

  -- as many records, and the sheets are those of one size and as many spares
  pub record Kept (s : Sheets) : Type 0 where
    pub lines : length s.lines ≡ filled
    pub many : size ≡ length bs / bookkeeping_bytes
    pub same : filled_lines plain_bytes ps ≡ filled

  pub kept : PassingTwo b → Kept (saying_full (cut_two b))
  kept h =
      let p = passing_two b h in
      let j = p.lines in
      record {
        lines =
            length-records (joined_lines ps bs)
            ∙ (ap (λ (x : List ℕ). length x / record_bytes) (sym (front-joined b j))
            ∙ (front-count record_bytes (omega arith) (joined_sheet ps bs) (accepted_whole (joined_sheet ps bs) (readable_both (joined_bytes b) p.readable).0)
            ∙ joined-filled ps bs j.plain j.bookkeeping j.many (same-filled b j)));
        many = count-joined b j;
        same = same-filled b j;
      }

-- and an operation that adds and removes no line
module _ (ps bs cs : List ℕ) (w : Whole ps bs) (o : Operation) (calm : operation_shifts o ≡ false) where
  abbrev inner : Response Answer Sheets
  inner = response_full o (cut_two (two ps bs cs))

  -- the response is that of the lines before the spares, on sheets of this size
  whole : response_two o (two ps bs cs) ≡ resized (size ps bs cs w) inner
  unfolding response_two response_full
  whole = go (eqb (refusal_of (full_conditions_of (cut_two (two ps bs cs)))) 0) refl
    where
      go : (x : Bool) → eqb (refusal_of (full_conditions_of (cut_two (two ps bs cs)))) 0 ≡ x → unless (two_conditions ps bs cs) (response o (saying_two (two ps bs cs))) ≡ resized (size ps bs cs w) (unless (full_conditions_of (cut_two (two ps bs cs))) (response o (saying_full (cut_two (two ps bs cs)))))
      go true e =
          let h : PassingFull (cut_two (two ps bs cs)) = eqb-true (refusal_of (full_conditions_of (cut_two (two ps bs cs)))) 0 e in
          unless-free (two_conditions ps bs cs) (response o (saying_two (two ps bs cs))) (passed ps bs cs w h)
          ∙ (ap (response o) (said ps bs cs w (passed ps bs cs w h))
          ∙ (response-resized (size ps bs cs w) o (saying_full (cut_two (two ps bs cs))) calm ∙ ap (resized (size ps bs cs w)) (sym (unless-free (full_conditions_of (cut_two (two ps bs cs))) (response o (saying_full (cut_two (two ps bs cs)))) h))))
      go false e =
          let n = refusal_of (full_conditions_of (cut_two (two ps bs cs))) in
          let z : n ≡ 0 → ⊥ = eqb-false n 0 e in
          unless-held (two_conditions ps bs cs) (response o (saying_two (two ps bs cs))) n (sym (refusal_cut ps bs w cs)) z
          ∙ ap (resized (size ps bs cs w)) (sym (unless-held (full_conditions_of (cut_two (two ps bs cs))) (response o (saying_full (cut_two (two ps bs cs)))) n refl z))

  Count : Response Answer Sheets → Type 0
  Count (refused n) = Unit {0}
  Count (made a s) = Kept ps bs cs w s

  count_of : (s : Sheets) (r : Response Answer Sheets) → length (sheets_left s r).lines ≡ length s.lines → Kept ps bs cs w s → Count r
  unfolding Count
  count_of s (refused n) e k = tt
  count_of s (made a z) e k = record { lines = e ∙ k.lines; many = k.many; same = k.same }

  counted : Count inner
  unfolding response_full Count
  counted =
      unless_of Count (full_conditions_of (cut_two (two ps bs cs))) (λ z. tt)
      (λ h. count_of (saying_full (cut_two (two ps bs cs))) (response o (saying_full (cut_two (two ps bs cs)))) (response-count o (saying_full (cut_two (two ps bs cs))) calm) (kept ps bs cs w (passed ps bs cs w h)))

  plain_left_lem : (r : Response Answer Sheets) → Count r → full_plain_left (plain_lines ps) r ++ drop (filled_lines plain_bytes ps * plain_bytes) ps ≡ plain_left ps (resized (size ps bs cs w) r)
  unfolding full_plain_left plain_left Count front
  plain_left_lem (refused n) k = take-append-drop (filled_lines plain_bytes ps * plain_bytes) ps
  plain_left_lem (made a s) k =
      ap (λ (t : List ℕ). plain_part (records_text s.lines) ++ t)
      (front_tail plain_bytes (omega arith) ps (sized-whole plain_bytes ps w.plain)
      ∙ ap (spares_text plain_bytes) (ap₂ ◌-◌ (w.many ∙ sym k.many) (k.same ∙ sym k.lines)))

  bookkeeping_left_lem : (r : Response Answer Sheets) → Count r → full_bookkeeping_left (bookkeeping_lines bs) r ++ drop (filled_lines bookkeeping_bytes bs * bookkeeping_bytes) bs ≡ bookkeeping_left bs (resized (size ps bs cs w) r)
  unfolding full_bookkeeping_left bookkeeping_left Count front
  bookkeeping_left_lem (refused n) k = take-append-drop (filled_lines bookkeeping_bytes bs * bookkeeping_bytes) bs
  bookkeeping_left_lem (made a s) k =
      ap (λ (t : List ℕ). bookkeeping_part (records_text s.lines) ++ t)
      (front_tail bookkeeping_bytes (omega arith) bs (sized-whole bookkeeping_bytes bs w.bookkeeping)
      ∙ ap (spares_text bookkeeping_bytes) (ap₂ ◌-◌ (sym k.many) (sym k.lines)))

  decisions-left : (r : Response Answer Sheets) → coordinator_left cs r ≡ coordinator_left cs (resized (size ps bs cs w) r)
  unfolding coordinator_left
  decisions-left (refused n) = refl
  decisions-left (made a s) = refl

  -- Lent without their spares, from where these begin, and come back.
  module _ {A : Type 0} (to : Response Answer Sheets → A) (blind : Blind to) (p q : ℕ) (at_p : p ≡ filled_lines plain_bytes ps * plain_bytes) (at_b : q ≡ filled_lines bookkeeping_bytes bs * bookkeeping_bytes) where
    pub forms_passed : {r : A} {f g cs' : List ℕ} → full.GivesAs to o (take p ps) (take q bs) cs r f g cs' → GivesAs to o ps bs cs r (f ++ drop p ps) (g ++ drop q bs) cs'
    unfolding front
    forms_passed {r} {f} {g} {cs'} h =
        let cut_p : take p ps ≡ plain_lines ps = ap (λ (n : ℕ). take n ps) at_p in
        let cut_b : take q bs ≡ bookkeeping_lines bs = ap (λ (n : ℕ). take n bs) at_b in
        let i : full.GivesAs to o (plain_lines ps) (bookkeeping_lines bs) cs r f g cs' =
        subst (λ (x : List ℕ). full.GivesAs to o x (bookkeeping_lines bs) cs r f g cs') cut_p (subst (λ (x : List ℕ). full.GivesAs to o (take p ps) x cs r f g cs') cut_b h) in
        let behindP : f ++ drop p ps ≡ f ++ drop (filled_lines plain_bytes ps * plain_bytes) ps = ap (λ (n : ℕ). f ++ drop n ps) at_p in
        let behindB : g ++ drop q bs ≡ g ++ drop (filled_lines bookkeeping_bytes bs * bookkeeping_bytes) bs = ap (λ (n : ℕ). g ++ drop n bs) at_b in
        subst (λ (x : Response Answer Sheets). (r ≡ to x) × ((f ++ drop p ps ≡ plain_left ps x) × ((g ++ drop q bs ≡ bookkeeping_left bs x) × (cs' ≡ coordinator_left cs x)))) (sym whole) (
          i.0 ∙ sym (blind (size ps bs cs w) inner),
          (
            behindP ∙ (ap (λ (x : List ℕ). x ++ drop (filled_lines plain_bytes ps * plain_bytes) ps) i.1.0 ∙ plain_left_lem inner counted),
            (
              behindB ∙ (ap (λ (x : List ℕ). x ++ drop (filled_lines bookkeeping_bytes bs * bookkeeping_bytes) bs) i.1.1.0 ∙ bookkeeping_left_lem inner counted),
              i.1.1.1 ∙ decisions-left inner,
            ),
          ),
        )
