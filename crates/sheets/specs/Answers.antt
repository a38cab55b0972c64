-- What each call answers, case by case in the order of its conditions.
use Rattle.std.specs.Prelude.{◌≡◌, ◌+◌, ◌*◌, ◌≤◌, ◌∷◌}
use Rattle.std.proofs.Common.{◌∙◌}
use Rattle.lists.specs.Basics.{refl, sym, ap, ℕ, Bool, true, false, not, List, [], length, length-take, take, drop, arith}
use Rattle.model.specs.Types.{Key, Record, Rank, Ranked, Found, Some, None}
use Rattle.model.specs.Layouts.{record_bytes}
use Rattle.model.specs.Records.{no_record, records, records_accepted, key_in_range, same_key, found, is_missing, ranked, placed}
use Rattle.model.specs.Spares.{filled_lines, front, record_lines, sheet_accepted}
use Rattle.model.specs.Refusals.{refuse, refusal_of}
use Rattle.model.specs.Coordinator.{coordinator_accepted}
use Rattle.model.specs.SheetCalls.{all_issued, check_conditions, lookup_conditions, line_at, looked_up, rank_conditions, rank_on, line_on, line_among}
use Rattle.sheet_laws.specs.ByIndex.{length-records}
use Rattle.sheet_laws.specs.Search.{first_at}
use Rattle.sheet_laws.specs.Ranks.{found_by_rank, found-ranked, accepted_order}

-- what operations go by is the line of the key
pub is_found : (s : List ℕ) (k : Key) → records_accepted s ≡ true → {f : Found} → f ≡ placed (ranked k (records s)) → found k (records s) ≡ f
is_found s k e told = found_by_rank k (records s) (accepted_order s e) ∙ sym told

-- which line has a key, by what is found
module _ (s : List ℕ) (k : Key) (e : records_accepted s ≡ true) where
  pub line-none : found k (records s) ≡ None → record { refusal = 6; rank = record { below = 0; present = false } } ≡ line_among (records s) k
  unfolding refusal_of is_missing
  line-none f = rw f

  pub line-met : (i : ℕ) → found k (records s) ≡ Some i → record { refusal = 0; rank = record { below = i; present = true } } ≡ line_among (records s) k
  unfolding refusal_of is_missing
  line-met i f = ap (λ (r : Rank). record { refusal = 0; rank = r }) (found-ranked k (records s) (accepted_order s e) i f) ∙ rw f

  -- told without refusal, it is the line found
  pub line_at_lem : (r : Ranked) → r ≡ line_among (records s) k → r.refusal ≡ 0 → found k (records s) ≡ Some r.rank.below
  line_at_lem r t z = go (found k (records s)) refl
    where
      go : (f : Found) → found k (records s) ≡ f → found k (records s) ≡ Some r.rank.below
      go (Some i) h = h ∙ ap (λ (x : Ranked). Some x.rank.below) (line-met i h ∙ sym t)
      go None h = let n : r.refusal ≡ 6 = ap (λ (x : Ranked). x.refusal) (t ∙ sym (line-none h)) in absurd (omega (arith, n, z))

-- The look-up: the part handed back, what its companion tells, and which line it is.
module _ (s : List ℕ) (k : Key) where
  pub record LookedUp (handed : List ℕ) (r : Ranked) : Type 0 where
    pub part : handed ≡ looked_up s k
    pub rank : r ≡ rank_on s k
    pub line : r ≡ line_on s k

  abbrev none : ℕ → Ranked
  none n = record { refusal = n; rank = record { below = 0; present = false } }

  pub lookup_bad : sheet_accepted s ≡ false → LookedUp [] (none 1)
  unfolding looked_up lookup_conditions rank_on line_on rank_conditions refusal_of
  lookup_bad e = record { part = rw e; rank = rw e; line = rw e }

  pub lookup_out : sheet_accepted s ≡ true → key_in_range k ≡ false → LookedUp [] (none 5)
  unfolding looked_up lookup_conditions rank_on line_on rank_conditions refusal_of
  lookup_out e g = record { part = rw (e, g); rank = rw (e, g); line = rw (e, g) }

  module _ (e : sheet_accepted s ≡ true) (g : key_in_range k ≡ true) where
    -- the companion answers of every key in range
    pub told : rank_on s k ≡ record { refusal = 0; rank = ranked k (records (record_lines s)) }
    unfolding rank_on rank_conditions refusal_of
    told = rw (e, g)

    pub lookup_none : found k (records (record_lines s)) ≡ None → [] ≡ looked_up s k
    unfolding looked_up lookup_conditions rank_conditions refusal_of is_missing
    lookup_none f = rw (e, g, f)

    pub line-told : line_among (records (record_lines s)) k ≡ line_on s k
    unfolding line_on lookup_conditions rank_conditions refusal_of
    line-told = rw (e, g)

    pub lookup_met : (i : ℕ) → found k (records (record_lines s)) ≡ Some i → take record_bytes (drop (i * record_bytes) s) ≡ looked_up s k
    unfolding looked_up lookup_conditions rank_conditions refusal_of is_missing line_at
    lookup_met i f = rw (e, g, f)

-- an index that was found is that of a line of the sheet
pub found-fits : (s : List ℕ) (k : Key) (i : ℕ) → found k (records s) ≡ Some i → i * record_bytes + record_bytes ≤ length s
unfolding found
found-fits s k i e =
    let x = first_at (λ (r : Record). same_key r.key k) (records s) no_record i e in
    omega (arith, x.within, length-records s)

-- and so of the whole sheet, where it was found among its front
pub front_fits : (s : List ℕ) (k : Key) (i : ℕ) → found k (records (record_lines s)) ≡ Some i → i * record_bytes + record_bytes ≤ length s
unfolding front
front_fits s k i e =
    let n : length (take (filled_lines record_bytes s * record_bytes) s) ≤ length s = simp length-take (omega arith) in
    let l = found-fits (record_lines s) k i e in
    omega (arith, n, l)

-- A companion that is not refused: the sheet is accepted and the key in range, so that an index that was found is below 500.
module _ (s : List ℕ) (k : Key) where
  pub looked_up_lem : refusal_of (rank_conditions s k) ≡ 0 → (sheet_accepted s ≡ true) × (key_in_range k ≡ true)
  unfolding rank_conditions refusal_of
  looked_up_lem = go (sheet_accepted s) (key_in_range k)
    where
      go : (a b : Bool) → refusal_of (refuse 1 (not a) ∷ refuse 5 (not b) ∷ []) ≡ 0 → (a ≡ true) × (b ≡ true)
      go true true z = (refl, refl)
      go true false z = absurd (omega (arith, z))
      go false b z = absurd (omega (arith, z))

-- The check of both sheets.
module _ (rs cs : List ℕ) where
  abbrev pub Checked : ℕ → Type 0
  Checked r = r ≡ refusal_of (check_conditions rs cs)

  pub check_bad : sheet_accepted rs ≡ false → Checked 1
  unfolding check_conditions refusal_of
  check_bad e = rw e

  pub check_coordinator : sheet_accepted rs ≡ true → coordinator_accepted cs ≡ false → Checked 2
  unfolding check_conditions refusal_of
  check_coordinator e f = rw (e, f)

  pub check_unissued : sheet_accepted rs ≡ true → coordinator_accepted cs ≡ true → all_issued (record_lines rs) cs ≡ false → Checked 2
  unfolding check_conditions refusal_of
  check_unissued e f g = rw (e, f, g)

  pub check_good : sheet_accepted rs ≡ true → coordinator_accepted cs ≡ true → all_issued (record_lines rs) cs ≡ true → Checked 0
  unfolding check_conditions refusal_of
  check_good e f g = rw (e, f, g)
