-- The look-up on two sheets and its companion, case by case in the order of their conditions.
use Rattle.std.specs.Prelude.{◌≡◌, ◌+◌, ◌*◌, ◌/◌, ◌≤◌, ◌∷◌, ◌++◌}
use Rattle.std.proofs.Common.{◌∙◌}
use Rattle.lists.specs.Basics.{refl, sym, ap, ℕ, eqb, Bool, true, false, not, true≢false, List, [], length, arith}
use Rattle.lists.specs.Basics.{ne_eqb, all, choose_by, cond}
use Rattle.model.specs.Types.{Key, Rank, Ranked, Some}
use Rattle.model.specs.Records.{records, records_accepted, key_in_range, found, is_missing, ranked}
use Rattle.model.specs.Refusals.{Condition, refuse, refusal_of}
use Rattle.model.specs.SheetCalls.{told_rank, line_among}
use Rattle.model.specs.TwoSheets.{plain_bytes, bookkeeping_bytes, joined_sheet, lines_conditions, key_conditions, rank_full_conditions, rank_full, lookup_full_conditions}
use Rattle.model.specs.TwoSheets.{line_full}
use Rattle.sheet_laws.specs.Ranks.{rank-few}
use Rattle.sheets.specs.Answers.{found-fits, line_at_lem}
use Rattle.call_laws.specs.Accepted.{refusal_front, refusal_past}
use Rattle.two_laws.specs.Decision.{joined_accepted}
use Rattle.two_check.specs.Areas.{joined_size}

-- where a key stands or, if its line is asked for, which it is: what is told, and of a line that it is within both sheets
pub record Ranks (line : Bool) (ps bs : List ℕ) (k : Key) (r : Ranked) : Type 0 where
  pub told : r ≡ cond line (line_full ps bs k) (rank_full ps bs k)
  pub few : r.rank.below ≤ 500
  pub at : line ≡ true → r.refusal ≡ 0 → found k (records (joined_sheet ps bs)) ≡ Some r.rank.below
  pub fits : line ≡ true → r.refusal ≡ 0 → (r.rank.below * plain_bytes + plain_bytes ≤ length ps) × (r.rank.below * bookkeeping_bytes + bookkeeping_bytes ≤ length bs)

module _ (ps bs : List ℕ) (k : Key) where
  abbrev without : ℕ → Ranked
  without n = record { refusal = n; rank = record { below = 0; present = false } }

  -- asked last of a line
  abbrev pub missing : List Condition
  missing = refuse 6 (is_missing (found k (records (joined_sheet ps bs)))) ∷ []

  told-not : (n : ℕ) (cs : List Condition) → n ≡ refusal_of cs → (n ≡ 0 → ⊥) → without n ≡ told_rank cs (ranked k (records (joined_sheet ps bs)))
  told-not n cs e z =
      let f : eqb (refusal_of cs) 0 ≡ false = ne_eqb (refusal_of cs) 0 (λ h. z (e ∙ h)) in
      rw (f, e)

  -- refused with a number
  ranks_not : (line : Bool) (n : ℕ) → n ≡ refusal_of (rank_full_conditions ps bs k) → (n ≡ 0 → ⊥) → Ranks line ps bs k (without n)
  unfolding rank_full line_full lookup_full_conditions
  ranks_not line n e z =
      record {
        told =
            choose_by (λ (r : Ranked). without n ≡ r) line
            (λ h. told-not n (rank_full_conditions ps bs k ++ missing) (refusal_front (rank_full_conditions ps bs k) missing n e z) z)
            (λ h. told-not n (rank_full_conditions ps bs k) e z);
        few = omega arith;
        at = λ l h. absurd (z h);
        fits = λ l h. absurd (z h);
      }

  pub ranks_refused : (line : Bool) (n : ℕ) → n ≡ refusal_of (key_conditions ps bs) → (n ≡ 0 → ⊥) → Ranks line ps bs k (without n)
  unfolding rank_full_conditions
  ranks_refused line n e z = ranks_not line n (refusal_front (key_conditions ps bs) (refuse 5 (not (key_in_range k)) ∷ []) n e z) z

  module _ (free : 0 ≡ refusal_of (key_conditions ps bs)) where
    past : refusal_of (rank_full_conditions ps bs k) ≡ refusal_of (refuse 5 (not (key_in_range k)) ∷ [])
    unfolding rank_full_conditions key_conditions lines_conditions all
    past = refusal_past (key_conditions ps bs) (refuse 5 (not (key_in_range k)) ∷ []) refl (sym free)

    pub ranks_out : (line : Bool) → key_in_range k ≡ false → Ranks line ps bs k (without 5)
    unfolding refusal_of
    ranks_out line e = ranks_not line 5 (sym (past ∙ rw e)) (λ h. omega (arith, h))

    -- looked up on the joined sheet
    module _ (g : key_in_range k ≡ true) (s : List ℕ) (joined : s ≡ joined_sheet ps bs) where
      good : records_accepted s ≡ true
      good = ap records_accepted joined ∙ joined_accepted ps bs free

      pass : refusal_of (rank_full_conditions ps bs k) ≡ 0
      unfolding refusal_of
      pass = past ∙ rw g

      pub ranks_told : (r : Rank) → r ≡ ranked k (records s) → Ranks false ps bs k (record { refusal = 0; rank = r })
      unfolding rank_full
      ranks_told r e =
          record {
            told = rw pass (ap with_rank (e ∙ ap (λ (x : List ℕ). ranked k (records x)) joined));
            few = omega (arith, ap (λ (y : Rank). y.below) e, rank-few k s good);
            at = λ l. absurd (true≢false (sym l));
            fits = λ l. absurd (true≢false (sym l));
          }
        where
          with_rank : Rank → Ranked
          with_rank x = record { refusal = 0; rank = x }

      -- a line of the joined sheet is one of both
      pub ranks_line : (r : Ranked) → r ≡ line_among (records s) k → r.rank.below ≤ 500
          → length s ≡ joined_size plain_bytes ps → length bs / bookkeeping_bytes ≡ length ps / plain_bytes → Ranks true ps bs k r
      unfolding line_full lookup_full_conditions rank_full_conditions key_conditions lines_conditions all
      ranks_line r e few n c =
          record {
            told = e ∙ (ap (λ (x : List ℕ). line_among (records x) k) joined ∙ ap (λ (m : ℕ). told_by m) (sym (refusal_past (rank_full_conditions ps bs k) missing refl pass)));
            few = few;
            at = λ l z. ap (λ (x : List ℕ). found k (records x)) (sym joined) ∙ line_at_lem s k good r e z;
            fits = λ l z. let f = found-fits s k r.rank.below (line_at_lem s k good r e z) in (omega arith, omega arith);
          }
        where
          told_by : ℕ → Ranked
          told_by m = cond (eqb m 0) (record { refusal = 0; rank = ranked k (records (joined_sheet ps bs)) }) (without m)
