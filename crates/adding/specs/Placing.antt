-- Where a line goes or goes from, case by case in the order of the conditions; each case is a test of Bool.
use Rattle.std.specs.Prelude.{◌≡◌}
use Rattle.std.proofs.Common.{◌∙◌}
use Rattle.lists.specs.Basics.{refl, sym, ap, ℕ, eqb, Bool, true, false, cond, true≢false, List, length, get_or, eqb-true, eq-eqb}
use Rattle.model.specs.Layouts.{record_bytes}
use Rattle.model.specs.Types.{Key, Record, Rank, Ranked, Some}
use Rattle.model.specs.Records.{key_in_range, has_line, absent_at, line_of, no_record, record_text, rising, found, rank, ranked}
use Rattle.model.specs.Refusals.{Condition, refusal_of}
use Rattle.model.specs.SheetCalls.{told_rank}
use Rattle.model.specs.Conditions.{is_blank, add_conditions, remove_conditions}
use Rattle.sheet_laws.specs.Records.{length-record_text}
use Rattle.sheet_laws.specs.Ranks.{found_by_rank}
use Rattle.call_laws.specs.Ranges.{absent_ranged}
use Rattle.call_laws.specs.ByIndex.{found_at}

-- beside a refusal nothing is told
abbrev untold : ℕ → Ranked
untold n = record { refusal = n; rank = record { below = 0; present = false } }

module _ (k : Key) (rs : List Record) where
  pub add_out : (full : Bool) → key_in_range k ≡ false → untold 5 ≡ told_rank (add_conditions full k rs) (ranked k rs)
  unfolding refusal_of
  add_out full r = rw r

  module _ (is_in_range : key_in_range k ≡ true) where
    pub add_present : (full : Bool) → has_line k rs ≡ true → untold 14 ≡ told_rank (add_conditions full k rs) (ranked k rs)
    unfolding refusal_of
    add_present full h = rw (is_in_range, h)

    module _ (missing : has_line k rs ≡ false) where
      pub add_full : (full : Bool) → full ≡ true → untold 15 ≡ told_rank (add_conditions full k rs) (ranked k rs)
      unfolding refusal_of
      add_full full f = rw (is_in_range, missing, f)

      pub add_told : (full : Bool) (r : Rank) → full ≡ false → r ≡ ranked k rs → record { refusal = 0; rank = r } ≡ told_rank (add_conditions full k rs) (ranked k rs)
      unfolding refusal_of
      add_told full r f e = ap with_rank e ∙ rw (is_in_range, missing, f)
        where
          with_rank : Rank → Ranked
          with_rank x = record { refusal = 0; rank = x }

  pub remove_out : key_in_range k ≡ false → untold 5 ≡ told_rank (remove_conditions k rs) (ranked k rs)
  unfolding refusal_of
  remove_out r = rw r

  module _ (is_in_range : key_in_range k ≡ true) where
    pub remove_missing : has_line k rs ≡ false → untold 6 ≡ told_rank (remove_conditions k rs) (ranked k rs)
    unfolding refusal_of
    remove_missing h = rw (is_in_range, h)

    module _ (present : has_line k rs ≡ true) where
      pub remove_kept : is_blank (line_of k rs) ≡ false → untold 16 ≡ told_rank (remove_conditions k rs) (ranked k rs)
      unfolding refusal_of
      remove_kept b = rw (is_in_range, present, b)

      pub remove_told : (r : Rank) → is_blank (line_of k rs) ≡ true → r ≡ ranked k rs → record { refusal = 0; rank = r } ≡ told_rank (remove_conditions k rs) (ranked k rs)
      unfolding refusal_of
      remove_told r b e = ap with_rank e ∙ rw (is_in_range, present, b)
        where
          with_rank : Rank → Ranked
          with_rank x = record { refusal = 0; rank = x }

-- the record at the rank of a key that has a line is the key's
pub at_rank : (k : Key) (rs : List Record) (i : ℕ) → rising rs ≡ true → has_line k rs ≡ true → i ≡ rank k rs → get_or rs i no_record ≡ line_of k rs
at_rank k rs i order has e =
    let f : found k rs ≡ Some (rank k rs) = found_by_rank k rs order ∙ rw has in
    ap (λ (j : ℕ). get_or rs j no_record) e ∙ (found_at k rs (rank k rs) f).line

-- What is told of a place: refused with a number, or free of every refusal.
module _ (cs : List Condition) (x : Rank) (r : Ranked) (e : r ≡ told_rank cs x) where
  pub told_refused : (r.refusal ≡ 0 → ⊥) → r.refusal ≡ refusal_of cs
  told_refused z = go (eqb (refusal_of cs) 0) refl
    where
      by : Bool → Ranked
      by b = cond b (record { refusal = 0; rank = x }) (untold (refusal_of cs))

      go : (b : Bool) → eqb (refusal_of cs) 0 ≡ b → r.refusal ≡ refusal_of cs
      go true q = absurd (z (ap (λ (y : Ranked). y.refusal) (e ∙ ap by q)))
      go false q = ap (λ (y : Ranked). y.refusal) (e ∙ ap by q)

  pub told_free : r.refusal ≡ 0 → (refusal_of cs ≡ 0) × (r.rank ≡ x)
  told_free z = go (eqb (refusal_of cs) 0) refl
    where
      by : Bool → Ranked
      by b = cond b (record { refusal = 0; rank = x }) (untold (refusal_of cs))

      go : (b : Bool) → eqb (refusal_of cs) 0 ≡ b → (refusal_of cs ≡ 0) × (r.rank ≡ x)
      go true q = (eqb-true (refusal_of cs) 0 q, ap (λ (y : Ranked). y.rank) (e ∙ ap by q))
      go false q =
          let f : r.refusal ≡ refusal_of cs = ap (λ (y : Ranked). y.refusal) (e ∙ ap by q) in
          absurd (true≢false (sym (eq-eqb (refusal_of cs) 0 (sym f ∙ z)) ∙ q))

-- an ABSENT line is as long as any
pub absent_wide : (k : Key) → key_in_range k ≡ true → length (record_text (absent_at k)) ≡ record_bytes
absent_wide k h = length-record_text (absent_at k) (absent_ranged k h)
