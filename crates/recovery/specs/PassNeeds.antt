-- A recovery pass exists only where each undecided number has a reading: the first visit that comes to one of its lines does so at a reading at which the number has
-- expired, and visits before it have neither decided the number nor touched a line of it.
use Rattle.std.specs.Prelude.{◌≡◌, ◌^◌, ◌≤◌, ◌<◌, ◌||◌, ◌∷◌}
use Rattle.std.proofs.Common.{◌∙◌}
use Rattle.lists.specs.Basics.{refl, sym, ap, subst, ℕ, suc, eqb, Bool, true, false, not, cond, true≢false, List, [], map}
use Rattle.lists.specs.Basics.{arith, eqb-true, eq-eqb, all, count, and_fst, and_snd, and_both, choose_by}
use Rattle.model.specs.Types.{Key, Record, Undecided, Aborted, Recovery}
use Rattle.model.specs.Records.{same_key, line_of}
use Rattle.model.specs.Coordinator.{is_undecided, decision}
use Rattle.model.specs.Images.{is_prepared, prepared_by, rolled_forward, rolled_back, line_expired}
use Rattle.model.specs.Writes.{Sheets, Write, nothing, is_of, line_after, decisions_after, apply}
use Rattle.model.specs.Visits.{owner_decision, number_expired, owner_expired, meeting, recovery_write}
use Rattle.model.specs.Results.{visit}
use Rattle.model.specs.Histories.{written, after}
use Rattle.model.specs.RecoveryPass.{Visit, visit_call, line_undecided, times_visited, Expiring, Closing, expirable, leaves_readings}
use Rattle.call_laws.specs.Choices.{by_meeting, by_visit}
use Rattle.sheet_laws.specs.KeyOrder.{same_key_lem, lists_key, has_line_lem}
use Rattle.call_laws.specs.Lines.{all_lines, lines_mapped}
use Rattle.call_laws.specs.Sheets.{GoodSheets}
use Rattle.recovery.specs.Settling.{decided_other, own_line, undecided-committed, undecided_aborted}
use Rattle.recovery.specs.View.{line_after_lem}
use Rattle.recovery.specs.Pass.{visit_visiting, visiting_shifts, visiting_linewise}
use Rattle.recovery.specs.PassExists.{undecided_is}
use Rattle.recovery.specs.Readings.{reading_tells}

-- A write that leaves a number's decision and its prepared lines.
record Spares (n : ℕ) (s : Sheets) (w : Write) : Type 0 where
  undecided : decision n (decisions_after w s.coordinator) ≡ decision n s.coordinator
  lines : (x : Record) → prepared_by n x ≡ true → line_after w x ≡ x

prepared-number : (n : ℕ) (x : Record) → prepared_by n x ≡ true → x.image.txid ≡ n
unfolding prepared_by
prepared-number n x h = eqb-true x.image.txid n (and_snd (is_prepared x) (eqb x.image.txid n) h)

-- rolling another number's lines
rolls_others : (m n : ℕ) (ks : List Key) (f : Record → Record) → (m ≡ n → ⊥) → (x : Record) → prepared_by n x ≡ true → cond (is_of m ks x) (f x) x ≡ x
rolls_others m n ks f d x h =
    choose_by (λ (y : Record). y ≡ x) (is_of m ks x) (λ e. absurd (d (sym (own_line m ks x e).1 ∙ prepared-number n x h))) (λ e. refl)

-- the visit of a line that isn't one of the number's
visit_spares : (s : Sheets) (k : Key) (now n : ℕ) → decision n s.coordinator ≡ Undecided → prepared_by n (line_of k s.lines) ≡ false → Spares n s (written (visit k now) s)
unfolding meeting recovery_write decisions_after line_after prepared_by
visit_spares s k now n u other =
    by_visit (Spares n s) k now s none
    (by_meeting (λ (v : Recovery). Spares n s (recovery_write v r)) r (owner_decision r s.coordinator) (owner_expired now s.lines r)
    (λ p. none)
    (λ p d. record { undecided = refl; lines = rolls_others m n (r.key ∷ []) rolled_forward (λ e. undecided-committed (sym u ∙ (ap (λ (i : ℕ). decision i s.coordinator) (sym e) ∙ d))) })
    (λ p d. record { undecided = refl; lines = rolls_others m n (r.key ∷ []) rolled_back (λ e. undecided_aborted (sym u ∙ (ap (λ (i : ℕ). decision i s.coordinator) (sym e) ∙ d))) })
    (λ p d x. record { undecided = decided_other m n Aborted s.coordinator (λ e. true≢false (sym (and_both p (eq-eqb m n e)) ∙ other)); lines = λ x h. refl })
    (λ p d x. none))
  where
    r : Record
    r = line_of k s.lines

    m : ℕ
    m = r.image.txid

    none : Spares n s nothing
    none = record { undecided = refl; lines = λ x h. refl }

-- a number that has expired after such a write had expired before it
spared_expired : (n now : ℕ) (s : Sheets) (w : Write) → Spares n s w → (rs : List Record) → number_expired now (map (line_after w) rs) n ≡ true → number_expired now rs n ≡ true
unfolding number_expired all
spared_expired n now s w k [] h = refl
spared_expired n now s w k (r ∷ rs) h =
    and_both (go (prepared_by n r) refl (and_fst (HindersNot (line_after w r)) _ h))
    (spared_expired n now s w k rs (and_snd (HindersNot (line_after w r)) _ h))
  where
    HindersNot : Record → Bool
    HindersNot x = not (prepared_by n x) || line_expired now x

    go : (b : Bool) → prepared_by n r ≡ b → HindersNot (line_after w r) ≡ true → (not b || line_expired now r) ≡ true
    go false e q = refl
    go true e q = ap (λ (b : Bool). not b || line_expired now r) (sym e) ∙ (ap HindersNot (sym (k.lines r e)) ∙ q)

-- A reading at which the number has expired.
pub record Reading (n : ℕ) (s : Sheets) : Type 0 where
  pub clock : ℕ
  pub fits : clock < 2 ^ 32
  pub expired : number_expired clock s.lines n ≡ true

-- The first visit that comes to a line of the number.

own_expired : (s : Sheets) (n now : ℕ) (r : Record) → decision n s.coordinator ≡ Undecided → prepared_by n r ≡ true
    → (line_undecided s r ≡ true → owner_expired now s.lines r ≡ true) → number_expired now s.lines n ≡ true
unfolding line_undecided is_undecided prepared_by
own_expired s n now r u e x =
    let m : r.image.txid ≡ n = prepared-number n r e in
    subst (λ (i : ℕ). number_expired now s.lines i ≡ true) m
    (x (and_both (and_fst (is_prepared r) _ e) (ap (λ (i : ℕ). is_undecided (decision i s.coordinator)) m ∙ ap is_undecided u)))

-- visits before it change nothing of the number
module _ (s : Sheets) (v : Visit) (n : ℕ) (k : Key) (u : decision n s.coordinator ≡ Undecided) (p : prepared_by n (line_of k s.lines) ≡ true)
    (other : prepared_by n (line_of v.key s.lines) ≡ false) where
  abbrev w : Write
  w = written (visit_call v) s

  spared : Spares n s w
  spared = visit_spares s v.key v.clock n u other

  still_undecided : decision n (after (visit_call v) s).coordinator ≡ Undecided
  unfolding after apply
  still_undecided = spared.undecided ∙ u

  still_prepared : prepared_by n (line_of k (after (visit_call v) s).lines) ≡ true
  unfolding after
  still_prepared =
      ap (prepared_by n) (line_after_lem s w (visiting_linewise s.lines w (visit_visiting v.key v.clock s)) k ∙ spared.lines (line_of k s.lines) p) ∙ p

  reading-before : Reading n (after (visit_call v) s) → Reading n s
  unfolding after apply
  reading-before x =
      record {
        clock = x.clock;
        fits = x.fits;
        expired = spared_expired n x.clock s w spared s.lines (ap (λ (rs : List Record). number_expired x.clock rs n) (sym (lines_mapped w s.lines (visiting_shifts (visit_visiting v.key v.clock s)))) ∙ x.expired);
      }

  visited_later : (vs : List Visit) → 1 ≤ times_visited k (v ∷ vs) → 1 ≤ times_visited k vs
  unfolding count
  visited_later vs l = go (same_key v.key k) refl l
    where
      go : (b : Bool) → same_key v.key k ≡ b → 1 ≤ cond b (suc (times_visited k vs)) (times_visited k vs) → 1 ≤ times_visited k vs
      go true e m = absurd (true≢false (sym p ∙ (ap (λ (j : Key). prepared_by n (line_of j s.lines)) (sym (same_key_lem v.key k e)) ∙ other)))
      go false e m = m

first-reading : (vs : List Visit) (s : Sheets) (n : ℕ) (k : Key) → decision n s.coordinator ≡ Undecided → prepared_by n (line_of k s.lines) ≡ true
    → 1 ≤ times_visited k vs → Expiring (λ (y : Sheets). y) after vs s → Reading n s
unfolding count
first-reading [] s n k u p l x = absurd (omega (arith, l))
first-reading (v ∷ vs) s n k u p l x =
    go (prepared_by n (line_of v.key s.lines)) refl
    (λ u' p' l'. first-reading vs (after (visit_call v) s) n k u' p' l' x.1.1)
  where
    go : (b : Bool) → prepared_by n (line_of v.key s.lines) ≡ b
        → (decision n (after (visit_call v) s).coordinator ≡ Undecided → prepared_by n (line_of k (after (visit_call v) s).lines) ≡ true → 1 ≤ times_visited k vs
        → Reading n (after (visit_call v) s)) → Reading n s
    go true e rec = record { clock = v.clock; fits = x.0; expired = own_expired s n v.clock (line_of v.key s.lines) u e x.1.0 }
    go false e rec =
        reading-before s v n k u p e (rec (still_undecided s v n k u p e) (still_prepared s v n k u p e) (visited_later s v n k u p e vs l))

-- "A list that leaves an undecided number whose prepare clocks allow no such reading falls outside demand 3"
pub pass_needs : (s : Sheets) → GoodSheets s → (vs : List Visit) → Closing (λ (y : Sheets). y) after vs s → leaves_readings s ≡ true
unfolding leaves_readings line_undecided prepared_by
pass_needs s good vs c =
    all_lines (λ (r : Record). not (line_undecided s r) || expirable r.image.txid s.lines) s.lines good.order (λ r l e. go r l e (line_undecided s r) refl)
  where
    go : (r : Record) → lists_key r.key s.lines ≡ true → line_of r.key s.lines ≡ r → (b : Bool) → line_undecided s r ≡ b → (not b || expirable r.image.txid s.lines) ≡ true
    go r l e false u = refl
    go r l e true u =
        let n = r.image.txid in
        let p : is_prepared r ≡ true = and_fst (is_prepared r) _ u in
        let d : decision n s.coordinator ≡ Undecided = undecided_is (decision n s.coordinator) (and_snd (is_prepared r) _ u) in
        let two : 2 ≤ times_visited r.key vs = c.twice r.key (has_line_lem r.key s.lines ∙ l) in
        let own : prepared_by n (line_of r.key s.lines) ≡ true = ap (prepared_by n) e ∙ and_both p (eq-eqb n n refl) in
        let x : Reading n s = first-reading vs s n r.key d own (omega (arith, two)) c.expiring in
        reading_tells s good x.clock r x.fits l e p x.expired
