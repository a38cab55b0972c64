-- The look-up on two sheets and its companion: refused by what is told of the sheets first, or what is found among the lines before the spares.
use Rattle.std.specs.Prelude.{◌≡◌, ◌+◌, ◌*◌, ◌≤◌, ◌∷◌, ◌++◌}
use Rattle.std.proofs.Common.{◌∙◌}
use Rattle.lists.specs.Basics.{refl, sym, ap, ap₂, subst, ℕ, eqb, Bool, true, false, not, List, [], cond, length, length-take, take, drop, arith, eqb-true}
use Rattle.lists.specs.Basics.{eq-eqb, ne_eqb}
use Rattle.model.specs.Types.{Key, Ranked, Some}
use Rattle.model.specs.Records.{records, key_in_range, found, ranked}
use Rattle.model.specs.Spares.{filled_lines, front}
use Rattle.model.specs.Refusals.{Condition, refuse, refusal_of}
use Rattle.model.specs.SheetCalls.{told_rank}
use Rattle.model.specs.TwoSheets.{plain_bytes, bookkeeping_bytes, joined_sheet, lines_conditions, key_conditions, rank_full_conditions, rank_full, lookup_full_conditions, line_full, line_of_sheet}
use Rattle.model.specs.TwoSpares.{plain_lines, bookkeeping_lines, joined_lines, keys_match, form_conditions, rank_two_conditions, rank_two, lookup_two_conditions, line_two, looked_up_two}
use Rattle.call_laws.specs.Accepted.{refusal_front}
use Rattle.two_sheets.specs.Lookups as full
use Rattle.two_engine.specs.Forms.{Whole, keys_asked, many_said}

-- which line has a key: what is told, and that it is within both sheets
pub record Ranks (ps bs : List ℕ) (k : Key) (r : Ranked) : Type 0 where
  pub told : r ≡ line_two ps bs k
  pub few : r.rank.below ≤ 500
  pub at : r.refusal ≡ 0 → found k (records (joined_lines ps bs)) ≡ Some r.rank.below
  pub fits : r.refusal ≡ 0 → (r.rank.below * plain_bytes + plain_bytes ≤ length ps) × (r.rank.below * bookkeeping_bytes + bookkeeping_bytes ≤ length bs)

abbrev without : ℕ → Ranked
without n = record { refusal = n; rank = record { below = 0; present = false } }

module _ (ps bs : List ℕ) (k : Key) where
  told-not : (n : ℕ) (cs : List Condition) → n ≡ refusal_of cs → (n ≡ 0 → ⊥) → without n ≡ told_rank cs (ranked k (records (joined_lines ps bs)))
  told-not n cs e z = rw (ne_eqb (refusal_of cs) 0 (λ h. z (e ∙ h)), e)

  -- refused by what is told first
  module _ (n : ℕ) (e : n ≡ refusal_of (keys_asked ps bs)) (z : n ≡ 0 → ⊥) where
    rank-held : n ≡ refusal_of (rank_two_conditions ps bs k)
    unfolding rank_two_conditions form_conditions
    rank-held = refusal_front (keys_asked ps bs) (refuse 5 (not (key_in_range k)) ∷ []) n e z

    pub rank_refused : without n ≡ rank_two ps bs k
    unfolding rank_two
    rank_refused = told-not n (rank_two_conditions ps bs k) rank-held z

    pub line_refused : Ranks ps bs k (without n)
    unfolding line_two lookup_two_conditions
    line_refused =
        record {
          told = told-not n (rank_two_conditions ps bs k ++ _) (refusal_front (rank_two_conditions ps bs k) _ n rank-held z) z;
          few = omega arith;
          at = λ h. absurd (z h);
          fits = λ h. absurd (z h);
        }

  -- told of the lines before the spares
  module _ (w : Whole ps bs) (p q : ℕ) (at_p : p ≡ filled_lines plain_bytes ps * plain_bytes) (at_b : q ≡ filled_lines bookkeeping_bytes bs * bookkeeping_bytes) where
    abbrev f : List ℕ
    f = plain_lines ps

    abbrev g : List ℕ
    g = bookkeeping_lines bs

    cut_p : take p ps ≡ f
    unfolding front
    cut_p = ap (λ (n : ℕ). take n ps) at_p

    cut_b : take q bs ≡ g
    unfolding front
    cut_b = ap (λ (n : ℕ). take n bs) at_b

    -- the same conditions, one after another
    same_rank : refusal_of (rank_full_conditions f g k) ≡ refusal_of (rank_two_conditions ps bs k)
    unfolding rank_full_conditions key_conditions lines_conditions rank_two_conditions form_conditions keys_match
    same_rank = rw (w.plain, w.bookkeeping, many_said ps bs w) refl

    same_line : refusal_of (lookup_full_conditions f g k) ≡ refusal_of (lookup_two_conditions ps bs k)
    unfolding lookup_full_conditions rank_full_conditions key_conditions lines_conditions lookup_two_conditions rank_two_conditions form_conditions keys_match
    same_line = rw (w.plain, w.bookkeeping, many_said ps bs w) refl

    pub rank-passed : (r : Ranked) → r ≡ rank_full (take p ps) (take q bs) k → r ≡ rank_two ps bs k
    unfolding rank_full rank_two
    rank-passed r e =
        e ∙ (ap₂ (λ (x y : List ℕ). told_rank (rank_full_conditions x y k) (ranked k (records (joined_sheet x y)))) cut_p cut_b
        ∙ ap (λ (n : ℕ). cond (eqb n 0) (record { refusal = 0; rank = ranked k (records (joined_lines ps bs)) }) (without n)) same_rank)

    pub line-passed : (r : Ranked) → full.Ranks true (take p ps) (take q bs) k r → Ranks ps bs k r
    unfolding line_full line_two
    line-passed r h =
        let i : full.Ranks true f g k r = subst (λ (x : List ℕ). full.Ranks true x g k r) cut_p (subst (λ (x : List ℕ). full.Ranks true (take p ps) x k r) cut_b h) in
        let in_p : length (take p ps) ≤ length ps = simp length-take (omega arith) in
        let in_b : length (take q bs) ≤ length bs = simp length-take (omega arith) in
        record {
          told = i.told ∙ ap (λ (n : ℕ). cond (eqb n 0) (record { refusal = 0; rank = ranked k (records (joined_lines ps bs)) }) (without n)) same_line;
          few = i.few;
          at = λ z. i.at refl z;
          fits = λ z. let x = h.fits refl z in (omega (arith, x.0, in_p), omega (arith, x.1, in_b));
        }

-- What is handed back.
module _ (ps bs : List ℕ) (k : Key) (r : Ranked) (p : Ranks ps bs k r) (named : ℕ) where
  -- the refusal told is the look-up's
  refusal_told : r.refusal ≡ refusal_of (lookup_two_conditions ps bs k)
  unfolding line_two
  refusal_told = ap (λ (x : Ranked). x.refusal) p.told ∙ go (eqb (refusal_of (lookup_two_conditions ps bs k)) 0) refl
    where
      go : (b : Bool) → eqb (refusal_of (lookup_two_conditions ps bs k)) 0 ≡ b → (told_rank (lookup_two_conditions ps bs k) (ranked k (records (joined_lines ps bs)))).refusal ≡ refusal_of (lookup_two_conditions ps bs k)
      go true e = rw e (sym (eqb-true (refusal_of (lookup_two_conditions ps bs k)) 0 e))
      go false e = rw e

  pub looked_missing : (r.refusal ≡ 0 → ⊥) → [] ≡ looked_up_two ps bs named k
  unfolding looked_up_two
  looked_missing d = rw (ne_eqb (refusal_of (lookup_two_conditions ps bs k)) 0 (λ h. d (refusal_told ∙ h)))

  module _ (here : r.refusal ≡ 0) where
    free : eqb (refusal_of (lookup_two_conditions ps bs k)) 0 ≡ true
    free = eq-eqb (refusal_of (lookup_two_conditions ps bs k)) 0 (sym refusal_told ∙ here)

    pub looked_plain : named ≡ 0 → take plain_bytes (drop (r.rank.below * plain_bytes) ps) ≡ looked_up_two ps bs named k
    unfolding looked_up_two line_of_sheet
    looked_plain e = rw (free, eq-eqb named 0 e, p.at here)

    pub looked_bookkeeping : (named ≡ 0 → ⊥) → named ≡ 1 → take bookkeeping_bytes (drop (r.rank.below * bookkeeping_bytes) bs) ≡ looked_up_two ps bs named k
    unfolding looked_up_two line_of_sheet
    looked_bookkeeping d e = rw (free, ne_eqb named 0 d, eq-eqb named 1 e, p.at here)

    pub looked_none : (named ≡ 0 → ⊥) → (named ≡ 1 → ⊥) → [] ≡ looked_up_two ps bs named k
    unfolding looked_up_two
    looked_none d e = rw (free, ne_eqb named 0 d, ne_eqb named 1 e)
