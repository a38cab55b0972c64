-- The first of two calls of a read: it writes nothing and returns its transaction as it came, so that a station that stops between the two leaves nothing behind.
-- It answers the line's columns as they stand, which are the plain sheet's, and 12 is not among its conditions that hold.
use Rattle.std.specs.Prelude.{◌≡◌, ◌||◌, ◌∷◌}
use Rattle.std.proofs.Common.{◌∙◌}
use Rattle.lists.specs.Basics.{refl, sym, ap, ap₂, subst, ℕ, eqb, Bool, true, false, not, cond, true≢false, List, [], map, length, and_fst, and_snd, all}
use Rattle.lists.specs.Basics.{eqb-true, eq-eqb, arith}
use Rattle.lists.specs.All.{map-map, map_equal}
use Rattle.types.specs.declared.Reading.TheVariants.{First}
use Rattle.model.specs.Types.{Key, Columns, Record, Transaction}
use Rattle.model.specs.Layouts.{record_bytes}
use Rattle.model.specs.Lines.{lines_of}
use Rattle.model.specs.Records.{same_key, record_in, records, records_accepted, line_of}
use Rattle.model.specs.Spares.{record_lines}
use Rattle.model.specs.Images.{columns_of}
use Rattle.model.specs.Groups.{is_lower}
use Rattle.model.specs.Refusals.{Condition, refusal_of}
use Rattle.model.specs.Writes.{Sheets}
use Rattle.model.specs.Steps.{units_of}
use Rattle.model.specs.Results.{read, Answer, answered, refusal_in, Response, Result, refused, answer_of}
use Rattle.model.specs.Conditions.{is_new, takes_two, conditions}
use Rattle.model.specs.Calls.{first_read, outcome, result_of}
use Rattle.model.specs.Operations.{once, operation_conditions, settled, response, coordinator_left}
use Rattle.model.specs.TwoSheets.{plain_bytes, plain_line, joined_sheet, plain_record}
use Rattle.model.specs.TwoSpares.{plain_lines, bookkeeping_lines, joined_lines, form_conditions, two_conditions}
use Rattle.model.specs.TwoCalls.{TwoBytes, saying_two, conditions_of, PassingTwo, response_two, all_conditions_two, plain_left, bookkeeping_left, two_left, answer_two, after_two}
use Rattle.call_laws.specs.Choices.{unless_of}
use Rattle.call_laws.specs.Lifting.{apply_nothing, readable_both}
use Rattle.sheet_laws.specs.Spared.{accepted_lines}
use Rattle.two_laws.specs.FilledSheets.{lines_wide}
use Rattle.two_laws.specs.JoinedSheets.{plain_lines_lem}
use Rattle.two_laws.specs.TwoLines.{plain_of}
use Rattle.two_laws.specs.Decision.{accepted_whole}
use Rattle.two_laws.specs.TwoEncoding.{joined_bytes, front-joined, passing_two, encoded_two, passing_encoded_two}
use Rattle.two_turns.specs.Units.{plain-says}
use Rattle.two_turns.specs.Refusals.{refusal_given}

-- the columns of a key's line on the plain sheet, 0 where it has none
abbrev pub plain_columns : Key → List ℕ → Columns
plain_columns k ps = columns_of (line_of k (map plain_record (lines_of plain_bytes (plain_lines ps)))).image

-- what the plain sheet says is what the joined one says, beside fixed fields
plain-records : (b : TwoBytes) → PassingTwo b → map plain_record (lines_of plain_bytes (plain_lines b.plain)) ≡ map (λ (r : Record). plain_of r) (saying_two b).lines
unfolding records
plain-records b h =
    let p = passing_two b h in
    let j = p.lines.lines in
    let joint = joined_lines b.plain b.bookkeeping in
    let ls = lines_of record_bytes joint in
    let front : record_lines (joined_sheet b.plain b.bookkeeping) ≡ joint = front-joined b p.lines in
    let a : records_accepted joint ≡ true = ap records_accepted (sym front) ∙ accepted_lines (joined_sheet b.plain b.bookkeeping) (readable_both (joined_bytes b) p.readable).0 in
    let wide = lines_wide record_bytes joint (accepted_whole joint a) in
    ap (map plain_record) (sym (plain_lines_lem (plain_lines b.plain) (bookkeeping_lines b.bookkeeping) j.plain j.bookkeeping j.agree))
    ∙ (map-map plain_record plain_line ls
    ∙ (map_equal (λ (l : List ℕ). eqb (length l) record_bytes) (λ (l : List ℕ). plain_record (plain_line l)) (λ (l : List ℕ). plain_of (record_in l))
    (λ l e. plain-says l (eqb-true (length l) record_bytes e)) ls wide
    ∙ (sym (map-map (λ (r : Record). plain_of r) record_in ls) ∙ ap (λ (x : List ℕ). map (λ (r : Record). plain_of r) (map record_in (lines_of record_bytes x))) (sym front))))

columns_kept : (k : Key) (rs : List Record) → columns_of (line_of k (map (λ (r : Record). plain_of r) rs)).image ≡ columns_of (line_of k rs).image
unfolding line_of
columns_kept k [] = refl
columns_kept k (r ∷ rs) = go (same_key r.key k) (columns_kept k rs)
  where
    go : (x : Bool) → columns_of (line_of k (map (λ (r : Record). plain_of r) rs)).image ≡ columns_of (line_of k rs).image
        → columns_of (cond x (plain_of r) (line_of k (map (λ (r : Record). plain_of r) rs))).image ≡ columns_of (cond x r (line_of k rs)).image
    go true e = refl
    go false e = e

columns-plain : (k : Key) (b : TwoBytes) → PassingTwo b → columns_of (line_of k (saying_two b).lines).image ≡ plain_columns k b.plain
columns-plain k b h = sym (ap (λ (rs : List Record). columns_of (line_of k rs).image) (plain-records b h) ∙ columns_kept k (saying_two b).lines)

-- a number none of whose conditions holds is not given
not_among : (n : ℕ) (cs : List Condition) → (n ≡ 0 → ⊥) → all (λ (c : Condition). not (eqb c.number n) || not c.holds) cs ≡ true → refusal_of cs ≡ n → ⊥
unfolding all refusal_of
not_among n [] z h e = z (sym e)
not_among n (c ∷ cs) z h e = go c.holds refl e (not_among n cs z (and_snd (not (eqb c.number n) || not c.holds) _ h))
  where
    go : (x : Bool) → c.holds ≡ x → cond x c.number (refusal_of cs) ≡ n → (refusal_of cs ≡ n → ⊥) → ⊥
    go true y e rest =
        let q : (not (eqb c.number n) || not c.holds) ≡ false = ap₂ (λ (u v : Bool). not u || not v) (eq-eqb c.number n e) y in
        true≢false (sym (and_fst (not (eqb c.number n) || not c.holds) _ h) ∙ q)
    go false y e rest = rest e

module _ (t : Transaction) (k : Key) (now : ℕ) (b : TwoBytes) (two : takes_two (units_of (saying_two b)) k t ≡ true) where
  abbrev s : Sheets
  s = saying_two b

  -- what it comes to where it isn't refused
  first-outcome : outcome (read t k now) s ≡ first_read t (line_of k s.lines)
  unfolding outcome
  first-outcome = rw two refl

  -- what is asked of the sheets and of the call first, then what it comes to
  by_first : (P : Response Answer Sheets → Type 0) → ((n : ℕ) → (n ≡ 0 → ⊥) → P (refused n)) → (PassingTwo b → P (settled s (first_read t (line_of k s.lines)))) → P (response_two (once (read t k now)) b)
  unfolding response_two response result_of
  by_first P r m =
      unless_of P (conditions_of b) (λ z. r (refusal_of (conditions_of b)) z)
      (λ p. unless_of (λ (x : Result Answer). P (settled s x)) (conditions (read t k now) s) (λ z. r (refusal_of (conditions (read t k now) s)) z)
      (λ q. subst (λ (x : Result Answer). P (settled s x)) (sym first-outcome) (m p)))

  -- "writes nothing": "A station that stops between the two readings leaves nothing behind."
  pub first-leaves : after_two (read t k now) b ≡ b
  unfolding after_two plain_left bookkeeping_left coordinator_left
  first-leaves = by_first (λ (r : Response Answer Sheets). two_left b r ≡ b) (λ n z. refl) (λ p. ap encoded_two (apply_nothing s) ∙ passing_encoded_two b p)

  -- "answers the plain sheet's columns", and returns the transaction as it came
  pub first_answers : refusal_in (answer_two (read t k now) b) ≡ 0 → answer_two (read t k now) b ≡ answered (First (plain_columns k b.plain)) t
  unfolding answer_two
  first_answers =
      by_first (λ (r : Response Answer Sheets). refusal_in (answer_of r) ≡ 0 → answer_of r ≡ answered (First (plain_columns k b.plain)) t)
      (λ n z e. absurd (z e)) (λ p e. ap (λ (c : Columns). answered (First c) t) (columns-plain k b p))

  -- "The first, never refused with 12"
  pub first-not-12 : refusal_in (answer_two (read t k now) b) ≡ 12 → ⊥
  unfolding answer_two all_conditions_two two_conditions form_conditions operation_conditions conditions all
  first-not-12 e =
      not_among 12 (all_conditions_two (once (read t k now)) b) (λ z. omega (arith, z)) (rw (new, lower) refl) (sym (refusal_given (once (read t k now)) b) ∙ e)
    where
      new : is_new k t ≡ true
      new = and_fst (is_new k t) (is_lower (units_of s) k) two

      lower : is_lower (units_of s) k ≡ true
      lower = and_snd (is_new k t) (is_lower (units_of s) k) two
