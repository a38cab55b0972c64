-- A recovery pass exists where each undecided number has a reading at which it has expired: every line visited twice, at its number's reading. During the pass
-- a number's PREPARED lines are those of the first sheets, or fewer, so that the reading fits them still.
use Rattle.std.specs.Prelude.{◌≡◌, ◌+◌, ◌≤◌, ◌||◌, ◌∷◌, ◌++◌}
use Rattle.std.proofs.Common.{◌∙◌}
use Rattle.lists.specs.Basics.{refl, sym, ap, ℕ, suc, Bool, true, false, not, cond, true≢false, List, [], map}
use Rattle.lists.specs.Basics.{arith, all, any, count, and_fst, and_snd, and_both}
use Rattle.model.specs.Types.{Key, Record, Decision, Undecided, Committed, Aborted}
use Rattle.model.specs.Records.{keys_in, same_key, line_of}
use Rattle.model.specs.Coordinator.{is_undecided, decision}
use Rattle.model.specs.Images.{is_prepared, prepared_by, line_expired}
use Rattle.model.specs.Writes.{Sheets, Write, line_after, apply}
use Rattle.model.specs.Visits.{owner_decision, number_expired, owner_expired}
use Rattle.model.specs.Histories.{written, after}
use Rattle.model.specs.RecoveryPass.{Visit, visit_call, line_undecided, times_visited, Expiring, Closing, Readings}
use Rattle.sheet_laws.specs.KeyOrder.{lists_key, has_line_lem, unlisted}
use Rattle.call_laws.specs.Lines.{lines_mapped}
use Rattle.recovery.specs.View.{line_after_lem}
use Rattle.recovery.specs.Pass.{Visiting, undecided-before, visit_visiting, visiting_shifts, visiting_linewise, prepared-before, visit_lists}

-- a line that isn't prepared doesn't hinder a number
plain_expired : (n now : ℕ) (r : Record) → is_prepared r ≡ false → (not (prepared_by n r) || line_expired now r) ≡ true
unfolding prepared_by
plain_expired n now r p = rw p

-- a number that has expired has expired after a visit: its lines are the same or fewer
expired_later : (w : Write) → Visiting w → (now n : ℕ) (rs : List Record) → number_expired now rs n ≡ true → number_expired now (map (line_after w) rs) n ≡ true
unfolding number_expired all
expired_later w v now n [] h = refl
expired_later w v now n (r ∷ rs) h =
    and_both (go (is_prepared (line_after w r)) refl)
    (expired_later w v now n rs (and_snd (not (prepared_by n r) || line_expired now r) _ h))
  where
    go : (b : Bool) → is_prepared (line_after w r) ≡ b → (not (prepared_by n (line_after w r)) || line_expired now (line_after w r)) ≡ true
    go true e = ap (λ (x : Record). not (prepared_by n x) || line_expired now x) (prepared-before w v r e) ∙ and_fst (not (prepared_by n r) || line_expired now r) _ h
    go false e = plain_expired n now (line_after w r) e

-- During the pass a line that is prepared is the line of the first sheets, who is undecided was so before, and what has expired stays so.
record Same (s s' : Sheets) : Type 0 where
  lists : (k : Key) → lists_key k s'.lines ≡ lists_key k s.lines
  line : (k : Key) → lists_key k s.lines ≡ true → is_prepared (line_of k s'.lines) ≡ true → line_of k s'.lines ≡ line_of k s.lines
  undecided : (n : ℕ) → decision n s'.coordinator ≡ Undecided → decision n s.coordinator ≡ Undecided
  expired : (now n : ℕ) → number_expired now s.lines n ≡ true → number_expired now s'.lines n ≡ true

same_first_lem : (s : Sheets) → Same s s
same_first_lem s = record { lists = λ k. refl; line = λ k h p. refl; undecided = λ n u. u; expired = λ now n h. h }

same_next : (s s' : Sheets) (v : Visit) → Same s s' → Same s (after (visit_call v) s')
unfolding after apply
same_next s s' v x =
    let w = written (visit_call v) s' in
    let y : Visiting w = visit_visiting v.key v.clock s' in
    record {
      lists = λ k. visit_lists v s' k ∙ x.lists k;
      line = λ k h p. let l = line_after_lem s' w (visiting_linewise s'.lines w y) k in
          let e = l ∙ prepared-before w y (line_of k s'.lines) (ap is_prepared (sym l) ∙ p) in
          e ∙ x.line k h (ap is_prepared (sym e) ∙ p);
      undecided = λ n u. x.undecided n (undecided-before w y s' n u);
      expired = λ now n h. ap (λ (rs : List Record). number_expired now rs n) (lines_mapped w s'.lines (visiting_shifts y)) ∙ expired_later w y now n s'.lines (x.expired now n h);
    }

-- the visit of a key at the reading of the number that its line names on the first sheets
abbrev visit_for : (ℕ → ℕ) → Sheets → Key → Visit
visit_for clocks s k = record { key = k; clock = clocks (line_of k s.lines).image.txid }

pub undecided_is : (d : Decision) → is_undecided d ≡ true → d ≡ Undecided
unfolding is_undecided
undecided_is Undecided h = refl
undecided_is Committed h = absurd (true≢false (sym h))
undecided_is Aborted h = absurd (true≢false (sym h))

fits_then : (clocks : ℕ → ℕ) (s s' : Sheets) → Readings clocks s → Same s s' → (k : Key) → line_undecided s' (line_of k s'.lines) ≡ true → owner_expired (clocks (line_of k s.lines).image.txid) s'.lines (line_of k s'.lines) ≡ true
unfolding line_undecided is_undecided
fits_then clocks s s' g x k u = go (lists_key k s.lines) refl
  where
    d : Decision
    d = owner_decision (line_of k s'.lines) s'.coordinator

    p : is_prepared (line_of k s'.lines) ≡ true
    p = and_fst (is_prepared (line_of k s'.lines)) (is_undecided d) u

    go : (b : Bool) → lists_key k s.lines ≡ b → owner_expired (clocks (line_of k s.lines).image.txid) s'.lines (line_of k s'.lines) ≡ true
    go true h =
        let e : line_of k s'.lines ≡ line_of k s.lines = x.line k h p in
        let q : decision (line_of k s.lines).image.txid s.coordinator ≡ Undecided =
        x.undecided _ (ap (λ (r : Record). owner_decision r s'.coordinator) (sym e) ∙ undecided_is d (and_snd (is_prepared (line_of k s'.lines)) (is_undecided d) u)) in
        ap (λ (r : Record). number_expired (clocks (line_of k s.lines).image.txid) s'.lines r.image.txid) e
        ∙ x.expired _ _ (g.expired k (and_both (ap is_prepared (sym e) ∙ p) (ap is_undecided q)))
    go false h = absurd (true≢false (sym p ∙ ap is_prepared (unlisted k s'.lines (x.lists k ∙ h))))

expiring_for : (clocks : ℕ → ℕ) (ks : List Key) (s s' : Sheets) → Readings clocks s → Same s s' → Expiring (λ (y : Sheets). y) after (map (visit_for clocks s) ks) s'
expiring_for clocks [] s s' g x = tt
expiring_for clocks (k ∷ ks) s s' g x =
    (g.fits _, (fits_then clocks s s' g x k, expiring_for clocks ks s (after (visit_call (visit_for clocks s k)) s') g (same_next s s' (visit_for clocks s k) x)))

-- Every key twice.
times_for : (clocks : ℕ → ℕ) (s : Sheets) (k : Key) (ks : List Key) → times_visited k (map (visit_for clocks s) ks) ≡ count (λ (j : Key). same_key j k) ks
unfolding count
times_for clocks s k [] = refl
times_for clocks s k (j ∷ ks) = ap (λ (n : ℕ). cond (same_key j k) (suc n) n) (times_for clocks s k ks)

count-append : (p : Key → Bool) (xs ys : List Key) → count p (xs ++ ys) ≡ count p xs + count p ys
unfolding count
count-append p [] ys = omega arith
count-append p (x ∷ xs) ys = go (p x) (count-append p xs ys)
  where
    go : (b : Bool) → count p (xs ++ ys) ≡ count p xs + count p ys → cond b (suc (count p (xs ++ ys))) (count p (xs ++ ys)) ≡ cond b (suc (count p xs)) (count p xs) + count p ys
    go true e = omega arith
    go false e = e

counted_once : (k : Key) (rs : List Record) → lists_key k rs ≡ true → 1 ≤ count (λ (j : Key). same_key j k) (keys_in rs)
unfolding any count
counted_once k [] h = absurd (true≢false (sym h))
counted_once k (r ∷ rs) h = go (same_key r.key k) h (counted_once k rs)
  where
    go : (b : Bool) → (b || lists_key k rs) ≡ true → (lists_key k rs ≡ true → 1 ≤ count (λ (j : Key). same_key j k) (keys_in rs)) → 1 ≤ cond b (suc (count (λ (j : Key). same_key j k) (keys_in rs))) (count (λ (j : Key). same_key j k) (keys_in rs))
    go true g f = omega arith
    go false g f = f g

-- the visits of every line, twice
unfoldable pub recovery_pass : (ℕ → ℕ) → Sheets → List Visit
recovery_pass clocks s = map (visit_for clocks s) (keys_in s.lines ++ keys_in s.lines)

pub pass_exists : (clocks : ℕ → ℕ) (s : Sheets) → Readings clocks s → Closing (λ (y : Sheets). y) after (recovery_pass clocks s) s
unfolding recovery_pass
pass_exists clocks s g =
    record {
      twice = λ k h. let l : lists_key k s.lines ≡ true = sym (has_line_lem k s.lines) ∙ h in
          let one : 1 ≤ count (λ (j : Key). same_key j k) (keys_in s.lines) = counted_once k s.lines l in
          let sum = count-append (λ (j : Key). same_key j k) (keys_in s.lines) (keys_in s.lines) in
          let all = times_for clocks s k (keys_in s.lines ++ keys_in s.lines) in
          omega (arith, one, sum, all);
      expiring = expiring_for clocks (keys_in s.lines ++ keys_in s.lines) s s g (same_first_lem s);
    }
