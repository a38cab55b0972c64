-- Whether two sheets have their size and as many lines, which is told before anything else, and what is refused where they don't.
use Rattle.std.specs.Prelude.{Result, Ok, Err, ◌≡◌, ◌*◌, ◌/◌, ◌≤◌, ◌&&◌, ◌∷◌}
use Rattle.std.proofs.Common.{◌∙◌}
use Rattle.lists.specs.Basics.{refl, sym, ap, ℕ, Bool, true, false, not, List, [], length, arith, eq-eqb, eqb-true, ne_eqb, eqb, cond, all, joined, pieces, and-false}
use Rattle.model.specs.Spares.{filled_lines, sized}
use Rattle.model.specs.Refusals.{Condition, refuse, refusal_of, refused_with}
use Rattle.model.specs.Told.{ranked_by}
use Rattle.types.specs.declared.Refusal.{Refusal}
use Rattle.model.specs.Types.{Key, Rank, Ranked}
use Rattle.model.specs.Lines.{lines_of, lines_set}
use Rattle.model.specs.Records.{rising, records_good, records, records_accepted, key_in_range}
use Rattle.model.specs.SheetCalls.{told_rank}
use Rattle.model.specs.TwoSheets.{plain_bytes, bookkeeping_bytes, join_lines, joined_sheet, plain_alone, bookkeeping_alone, same_keys, coordinator_fits, lines_conditions, key_conditions, full_conditions}
use Rattle.model.specs.TwoSheets.{rank_full_conditions, rank_full}
use Rattle.model.specs.TwoSpares.{plain_lines, bookkeeping_lines, joined_lines, as_many, keys_match, form_conditions, two_conditions}
use Rattle.sheet_laws.specs.Fronts.{sized-whole, filled_within}

-- both have their size, and as many lines
pub record Whole (ps bs : List ℕ) : Type 0 where
  pub plain : sized plain_bytes ps ≡ true
  pub bookkeeping : sized bookkeeping_bytes bs ≡ true
  pub many : length ps / plain_bytes ≡ length bs / bookkeeping_bytes

-- what is told of them before a call, and before a look-up
pub record Forms (ps bs cs : List ℕ) (r : ℕ) : Type 0 where
  pub refused : (r ≡ 0 → ⊥) → r ≡ refusal_of (two_conditions ps bs cs)
  pub fit : r ≡ 0 → Whole ps bs

abbrev pub keys_asked : List ℕ → List ℕ → List Condition
keys_asked ps bs = refuse 1 (not (sized plain_bytes ps && plain_alone (plain_lines ps))) ∷ refuse 1 (not (sized bookkeeping_bytes bs && bookkeeping_alone (bookkeeping_lines bs))) ∷ refuse 1 (keys_match ps bs && not (records_accepted (joined_lines ps bs))) ∷ refuse 13 (not (keys_match ps bs)) ∷ []

pub record KeyForms (ps bs : List ℕ) (r : ℕ) : Type 0 where
  pub refused : (r ≡ 0 → ⊥) → r ≡ refusal_of (keys_asked ps bs)
  pub fit : r ≡ 0 → Whole ps bs

-- Where the numbers of lines differ, whatever the keys: either sheet alone, the coordinator sheet where it is asked, then 13.
unfoldable pub unequal_conditions : List ℕ → List ℕ → List ℕ → List Condition
unequal_conditions ps bs cs =
    refuse 1 (not (plain_alone ps)) ∷ refuse 1 (not (bookkeeping_alone bs)) ∷ refuse 2 (not (coordinator_fits bs cs)) ∷ refuse 13 true ∷ []

unfoldable pub unequal_keys : List ℕ → List ℕ → List Condition
unequal_keys ps bs = refuse 1 (not (plain_alone ps)) ∷ refuse 1 (not (bookkeeping_alone bs)) ∷ refuse 13 true ∷ []

-- a sheet without lines is good alone, and beside it no key differs and nothing is joined that is refused
plain_empty : plain_alone [] ≡ true
unfolding plain_alone lines_set lines_of records_good rising all pieces
plain_empty = refl

bookkeeping_empty : bookkeeping_alone [] ≡ true
unfolding bookkeeping_alone lines_set lines_of records_good rising all pieces
bookkeeping_empty = refl

none-joined : records_accepted [] ≡ true
unfolding records_accepted records lines_set lines_of records_good rising all pieces
none-joined = refl

joined-plain : (ps : List ℕ) → joined_sheet ps [] ≡ []
unfolding joined_sheet lines_of pieces
joined-plain ps = go (pieces plain_bytes (length ps / plain_bytes) ps)
  where
    go : (ls : List (List ℕ)) → joined (join_lines ls []) ≡ []
    go [] = unfold join_lines joined in refl
    go (l ∷ ls) = unfold join_lines joined in refl

joined-bookkeeping : (bs : List ℕ) → joined_sheet [] bs ≡ []
unfolding joined_sheet lines_of pieces join_lines joined
joined-bookkeeping bs = refl

-- so that the third condition never holds
third-plain : (ps : List ℕ) → (same_keys ps [] && not (records_accepted (joined_sheet ps []))) ≡ false
third-plain ps = ap (λ (x : List ℕ). same_keys ps [] && not (records_accepted x)) (joined-plain ps) ∙ (ap (λ (x : Bool). same_keys ps [] && not x) none-joined ∙ and-false (same_keys ps []))

third-bookkeeping : (bs : List ℕ) → (same_keys [] bs && not (records_accepted (joined_sheet [] bs))) ≡ false
third-bookkeeping bs = ap (λ (x : List ℕ). same_keys [] bs && not (records_accepted x)) (joined-bookkeeping bs) ∙ (ap (λ (x : Bool). same_keys [] bs && not x) none-joined ∙ and-false (same_keys [] bs))

-- Tests of either sheet beside an empty one.

-- a test that is asked with 1, before others that aren't
alone_told : (x : Bool) (cs : List Condition) (n : ℕ) → (refusal_of cs ≡ 1 → ⊥) → n ≡ refusal_of (refuse 1 (not x) ∷ cs) → (n ≡ 1 → x ≡ false) × ((n ≡ 1 → ⊥) → x ≡ true)
unfolding refusal_of
alone_told true cs n k e = (λ z. absurd (k (sym e ∙ z)), λ z. refl)
alone_told false cs n k e = (λ z. refl, λ z. absurd (z e))

never_one : (a b : ℕ) (x y : Bool) → (a ≡ 1 → ⊥) → (b ≡ 1 → ⊥) → refusal_of (refuse 1 false ∷ refuse a x ∷ refuse b y ∷ []) ≡ 1 → ⊥
unfolding refusal_of
never_one a b true y p q e = p e
never_one a b false true p q e = q e
never_one a b false false p q e = omega (arith, e)

second_alone : (b c s : Bool) (n : ℕ) → n ≡ refusal_of (refuse 1 false ∷ refuse 1 (not b) ∷ refuse 1 false ∷ refuse 2 (not c) ∷ refuse 13 (not s) ∷ [])
    → (n ≡ 0 → 13 ≡ refusal_of (refuse 1 (not b) ∷ refuse 2 (not c) ∷ refuse 13 true ∷ [])) × ((n ≡ 0 → ⊥) → n ≡ refusal_of (refuse 1 (not b) ∷ refuse 2 (not c) ∷ refuse 13 true ∷ []))
unfolding refusal_of
second_alone true true true n e = (λ z. refl, λ z. absurd (z e))
second_alone true true false n e = (λ z. refl, λ z. e)
second_alone true false s n e = (λ z. absurd (omega (arith, e, z)), λ z. e)
second_alone false c s n e = (λ z. absurd (omega (arith, e, z)), λ z. e)

module _ (ps bs cs : List ℕ) where
  plain-told : (n : ℕ) → n ≡ refusal_of (full_conditions ps [] cs) → (n ≡ 1 → plain_alone ps ≡ false) × ((n ≡ 1 → ⊥) → plain_alone ps ≡ true)
  unfolding full_conditions lines_conditions refusal_of
  plain-told n e =
      alone_told (plain_alone ps) (refuse 1 false ∷ refuse 2 (not (coordinator_fits [] cs)) ∷ refuse 13 (not (same_keys ps [])) ∷ []) n
      (never_one 2 13 (not (coordinator_fits [] cs)) (not (same_keys ps [])) (λ z. omega (arith, z)) (λ z. omega (arith, z))) (e ∙ rw (bookkeeping_empty, third-plain ps) refl)

  pub unequal_plain : (n : ℕ) → n ≡ refusal_of (full_conditions ps [] cs) → n ≡ 1 → 1 ≡ refusal_of (unequal_conditions ps bs cs)
  unfolding unequal_conditions refusal_of
  unequal_plain n e z = rw ((plain-told n e).0 z)

  module _ (n : ℕ) (e : n ≡ refusal_of (full_conditions ps [] cs)) (z : n ≡ 1 → ⊥) (m : ℕ) (d : m ≡ refusal_of (full_conditions [] bs cs)) where
    rest : (m ≡ 0 → 13 ≡ refusal_of (refuse 1 (not (bookkeeping_alone bs)) ∷ refuse 2 (not (coordinator_fits bs cs)) ∷ refuse 13 true ∷ [])) × ((m ≡ 0 → ⊥) → m ≡ refusal_of (refuse 1 (not (bookkeeping_alone bs)) ∷ refuse 2 (not (coordinator_fits bs cs)) ∷ refuse 13 true ∷ []))
    unfolding full_conditions lines_conditions
    rest = second_alone (bookkeeping_alone bs) (coordinator_fits bs cs) (same_keys [] bs) m (d ∙ rw (plain_empty, third-bookkeeping bs) refl)

    past : refusal_of (unequal_conditions ps bs cs) ≡ refusal_of (refuse 1 (not (bookkeeping_alone bs)) ∷ refuse 2 (not (coordinator_fits bs cs)) ∷ refuse 13 true ∷ [])
    unfolding unequal_conditions refusal_of
    past = rw ((plain-told n e).1 z) refl

    pub unequal_passed : m ≡ 0 → 13 ≡ refusal_of (unequal_conditions ps bs cs)
    unequal_passed y = rest.0 y ∙ sym past

    pub unequal_refused : (m ≡ 0 → ⊥) → m ≡ refusal_of (unequal_conditions ps bs cs)
    unequal_refused y = rest.1 y ∙ sym past

-- the refusal is told as one number
pub ranked-refused : (r : Result Rank Refusal) → (ranked_by r).refusal ≡ refused_with r
ranked-refused (Ok x) = refl
ranked-refused (Err x) = refl

-- the same of a look-up, which asks nothing of a coordinator sheet
module _ (k : Key) where
  told_refusal : (cs : List Condition) (r : Rank) → (told_rank cs r).refusal ≡ refusal_of cs
  told_refusal cs r = go (eqb (refusal_of cs) 0) refl
    where
      go : (x : Bool) → eqb (refusal_of cs) 0 ≡ x → (cond {A = Ranked} x (record { refusal = 0; rank = r }) (record { refusal = refusal_of cs; rank = record { below = 0; present = false } })).refusal ≡ refusal_of cs
      go true e = sym (eqb-true (refusal_of cs) 0 e)
      go false e = refl

  module _ (ps bs : List ℕ) where
    pub keys_plain : (r : Ranked) → r ≡ rank_full ps [] k → (r.refusal ≡ 1 → plain_alone ps ≡ false) × ((r.refusal ≡ 1 → ⊥) → plain_alone ps ≡ true)
    unfolding rank_full rank_full_conditions key_conditions lines_conditions refusal_of
    keys_plain r e =
        alone_told (plain_alone ps) (refuse 1 false ∷ refuse 13 (not (same_keys ps [])) ∷ refuse 5 (not (key_in_range k)) ∷ []) r.refusal
        (never_one 13 5 (not (same_keys ps [])) (not (key_in_range k)) (λ z. omega (arith, z)) (λ z. omega (arith, z)))
        (ap (λ (x : Ranked). x.refusal) e ∙ (told_refusal (rank_full_conditions ps [] k) _ ∙ rw (bookkeeping_empty, third-plain ps) refl))

    pub keys_bookkeeping : (r : Ranked) → r ≡ rank_full [] bs k → (r.refusal ≡ 1 → bookkeeping_alone bs ≡ false) × ((r.refusal ≡ 1 → ⊥) → bookkeeping_alone bs ≡ true)
    unfolding rank_full rank_full_conditions key_conditions lines_conditions refusal_of
    keys_bookkeeping r e =
        alone_told (bookkeeping_alone bs) (refuse 1 false ∷ refuse 13 (not (same_keys [] bs)) ∷ refuse 5 (not (key_in_range k)) ∷ []) r.refusal
        (never_one 13 5 (not (same_keys [] bs)) (not (key_in_range k)) (λ z. omega (arith, z)) (λ z. omega (arith, z)))
        (ap (λ (x : Ranked). x.refusal) e ∙ (told_refusal (rank_full_conditions [] bs k) _ ∙ rw (plain_empty, third-bookkeeping bs) refl))

  pub keys_first : (p b : Bool) → p ≡ false → 1 ≡ refusal_of (refuse 1 (not p) ∷ refuse 1 (not b) ∷ refuse 13 true ∷ [])
  unfolding refusal_of
  keys_first p b e = rw e

  pub keys_second : (p b : Bool) → p ≡ true → b ≡ false → 1 ≡ refusal_of (refuse 1 (not p) ∷ refuse 1 (not b) ∷ refuse 13 true ∷ [])
  unfolding refusal_of
  keys_second p b e f = rw (e, f)

  pub keys_last : (p b : Bool) → p ≡ true → b ≡ true → 13 ≡ refusal_of (refuse 1 (not p) ∷ refuse 1 (not b) ∷ refuse 13 true ∷ [])
  unfolding refusal_of
  keys_last p b e f = rw (e, f)

second_holds : (x : Bool) (cs : List Condition) → 1 ≡ refusal_of (refuse 1 x ∷ refuse 1 true ∷ cs)
unfolding refusal_of
second_holds true cs = refl
second_holds false cs = refl

module _ (ps bs cs : List ℕ) where
  pub plain_unsized : sized plain_bytes ps ≡ false → Forms ps bs cs 1 × KeyForms ps bs 1
  unfolding two_conditions form_conditions refusal_of
  plain_unsized e = (record { refused = λ z. rw e; fit = λ z. absurd (omega (arith, z)) }, record { refused = λ z. rw e; fit = λ z. absurd (omega (arith, z)) })

  module _ (p : sized plain_bytes ps ≡ true) where
    pub bookkeeping_unsized : sized bookkeeping_bytes bs ≡ false → Forms ps bs cs 1 × KeyForms ps bs 1
    unfolding two_conditions form_conditions
    bookkeeping_unsized e = (
      record { refused = λ z. rw e (second_holds (not (sized plain_bytes ps && plain_alone (plain_lines ps))) _); fit = λ z. absurd (omega (arith, z)) },
      record { refused = λ z. rw e (second_holds (not (sized plain_bytes ps && plain_alone (plain_lines ps))) _); fit = λ z. absurd (omega (arith, z)) },
    )

    module _ (b : sized bookkeeping_bytes bs ≡ true) where
      pub as_many_lem : length ps / plain_bytes ≡ length bs / bookkeeping_bytes → Forms ps bs cs 0 × KeyForms ps bs 0
      as_many_lem e = (
        record { refused = λ z. absurd (z refl); fit = λ z. record { plain = p; bookkeeping = b; many = e } },
        record { refused = λ z. absurd (z refl); fit = λ z. record { plain = p; bookkeeping = b; many = e } },
      )

      pub front-plain : filled_lines plain_bytes ps * plain_bytes ≤ length ps
      front-plain = let w = sized-whole plain_bytes ps p in let l = filled_within plain_bytes (omega arith) ps w in omega (arith, w, l)

      pub front-bookkeeping : filled_lines bookkeeping_bytes bs * bookkeeping_bytes ≤ length bs
      front-bookkeeping = let w = sized-whole bookkeeping_bytes bs b in let l = filled_within bookkeeping_bytes (omega arith) bs w in omega (arith, w, l)

      module _ (d : length ps / plain_bytes ≡ length bs / bookkeeping_bytes → ⊥) where
        apart : keys_match ps bs ≡ false
        unfolding keys_match as_many
        apart = ap (λ (x : Bool). x && same_keys (plain_lines ps) (bookkeeping_lines bs)) (ne_eqb (length ps / plain_bytes) (length bs / bookkeeping_bytes) d)

        never : (x y z : Bool) → refusal_of (refuse 1 x ∷ refuse 1 y ∷ refuse 2 z ∷ refuse 13 true ∷ []) ≡ 0 → ⊥
        unfolding refusal_of
        never true y z e = omega (arith, e)
        never false true z e = omega (arith, e)
        never false false true e = omega (arith, e)
        never false false false e = omega (arith, e)

        pub unequal_told : (r : ℕ) → r ≡ refusal_of (unequal_conditions (plain_lines ps) (bookkeeping_lines bs) cs) → Forms ps bs cs r
        unfolding two_conditions form_conditions unequal_conditions refusal_of
        unequal_told r e = record { refused = λ z. e ∙ rw (p, b, apart) refl; fit = λ z. absurd (never (not (plain_alone (plain_lines ps))) (not (bookkeeping_alone (bookkeeping_lines bs))) (not (coordinator_fits (bookkeeping_lines bs) cs)) (sym e ∙ z)) }

        pub apart-told : (r : ℕ) → r ≡ refusal_of (unequal_keys (plain_lines ps) (bookkeeping_lines bs)) → KeyForms ps bs r
        unfolding refusal_of unequal_keys
        apart-told r e = record { refused = λ z. e ∙ rw (p, b, apart) refl; fit = λ z. absurd (never (not (plain_alone (plain_lines ps))) (not (bookkeeping_alone (bookkeeping_lines bs))) false (sym e ∙ z)) }

-- Where they do, the refusals are those of the lines before the spares.
module _ (ps bs : List ℕ) (w : Whole ps bs) where
  abbrev p : sized plain_bytes ps ≡ true
  p = w.plain

  pub many_said : as_many ps bs ≡ true
  unfolding as_many
  many_said = eq-eqb (length ps / plain_bytes) (length bs / bookkeeping_bytes) w.many

  pub refusal_cut : (cs : List ℕ) → refusal_of (full_conditions (plain_lines ps) (bookkeeping_lines bs) cs) ≡ refusal_of (two_conditions ps bs cs)
  unfolding two_conditions form_conditions full_conditions lines_conditions keys_match
  refusal_cut cs = rw (w.plain, w.bookkeeping, many_said) refl

  pub keys_cut : refusal_of (key_conditions (plain_lines ps) (bookkeeping_lines bs)) ≡ refusal_of (keys_asked ps bs)
  unfolding key_conditions lines_conditions keys_match
  keys_cut = rw (w.plain, w.bookkeeping, many_said) refl
