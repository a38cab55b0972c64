-- Where the prepare clocks of a number allow a reading at all, one stands 15000 ticks after one of them: after that of the line prepared last, as seen from the
-- reading. At its own reading that line shows 15000 ticks, and every other line as many more as it did before.
use Rattle.std.specs.Prelude.{◌≡◌, ◌+◌, ◌-◌, ◌%◌, ◌^◌, ◌≤◌, ◌<◌, ◌&&◌, ◌||◌, ◌∷◌}
use Rattle.std.proofs.Common.{◌∙◌}
use Rattle.lists.specs.Basics.{refl, sym, ap, ℕ, leb, Bool, true, false, not, cond, true≢false, List, []}
use Rattle.lists.specs.Basics.{arith, leb-true, leb-false, le-leb, all, any, or_left, or_right, or_fst, or_snd, and_fst, and_snd, and_both, subst, choose_by, eq-eqb}
use Rattle.model.specs.Types.{Key, Record}
use Rattle.model.specs.Records.{same_key, line_of}
use Rattle.model.specs.Images.{is_prepared, prepared_by, elapsed, line_expired}
use Rattle.model.specs.Writes.{Sheets}
use Rattle.model.specs.Visits.{number_expired}
use Rattle.model.specs.RecoveryPass.{line_undecided, Readings, reading_after, expires_all, expirable, leaves_readings, reading_in, readings_of}
use Rattle.sheet_laws.specs.KeyOrder.{lists_key, unlisted}
use Rattle.call_laws.specs.Lines.{all_lines, line_passes}
use Rattle.call_laws.specs.Sheets.{GoodSheets, listed_good}

shifted : (now c d : ℕ) → now < 2 ^ 32 → c < 2 ^ 32 → d < 2 ^ 32 → 15000 ≤ (now + (2 ^ 32 - c)) % 2 ^ 32 → (now + (2 ^ 32 - c)) % 2 ^ 32 ≤ (now + (2 ^ 32 - d)) % 2 ^ 32 → (now + (2 ^ 32 - d)) % 2 ^ 32 ≤ 2147483647 → (15000 ≤ ((c + 15000) % 2 ^ 32 + (2 ^ 32 - d)) % 2 ^ 32) × (((c + 15000) % 2 ^ 32 + (2 ^ 32 - d)) % 2 ^ 32 ≤ 2147483647)
shifted now c d a b e f g h = (omega arith, omega arith)

-- the line of the number that was prepared last, seen from a reading
record Least (n now : ℕ) (rs : List Record) : Type 0 where
  line : Record
  by : prepared_by n line ≡ true
  among : (p : Record → Bool) → p line ≡ true → any p rs ≡ true
  passes : (p : Record → Bool) → all p rs ≡ true → p line ≡ true
  least : (x : Record → Bool) → all (λ (r : Record). not (prepared_by n r) || leb (elapsed now line.clock) (elapsed now r.clock)) rs ≡ true

hinders_not : (n now c : ℕ) (r : Record) → prepared_by n r ≡ false → (not (prepared_by n r) || leb c (elapsed now r.clock)) ≡ true
hinders_not n now c r e = ap (λ (b : Bool). not b || leb c (elapsed now r.clock)) e

within : (n now c : ℕ) (r : Record) → c ≤ elapsed now r.clock → (not (prepared_by n r) || leb c (elapsed now r.clock)) ≡ true
within n now c r l = or_right (not (prepared_by n r)) (leb c (elapsed now r.clock)) (le-leb c (elapsed now r.clock) l)

lower : (n now c d : ℕ) → c ≤ d → (rs : List Record) → all (λ (r : Record). not (prepared_by n r) || leb d (elapsed now r.clock)) rs ≡ true → all (λ (r : Record). not (prepared_by n r) || leb c (elapsed now r.clock)) rs ≡ true
unfolding all
lower n now c d l [] h = refl
lower n now c d l (r ∷ rs) h =
    and_both (go (not (prepared_by n r)) (and_fst (not (prepared_by n r) || leb d (elapsed now r.clock)) _ h)) (lower n now c d l rs (and_snd (not (prepared_by n r) || leb d (elapsed now r.clock)) _ h))
  where
    go : (b : Bool) → (b || leb d (elapsed now r.clock)) ≡ true → (b || leb c (elapsed now r.clock)) ≡ true
    go true e = refl
    go false e = le-leb c (elapsed now r.clock) (let x = leb-true d (elapsed now r.clock) e in omega (arith, x, l))

last_prepared : (n now : ℕ) (rs : List Record) → any (prepared_by n) rs ≡ true → Least n now rs
unfolding any all
last_prepared n now [] h = absurd (true≢false (sym h))
last_prepared n now (r ∷ rs) h = go (prepared_by n r) refl (any (prepared_by n) rs) refl (last_prepared n now rs)
  where
    here : prepared_by n r ≡ true → all (λ (x : Record). not (prepared_by n x) || leb (elapsed now r.clock) (elapsed now x.clock)) rs ≡ true → Least n now (r ∷ rs)
    here e a = record { line = r; by = e; among = λ p q. or_left (p r) (any p rs) q; passes = λ p q. and_fst (p r) (all p rs) q; least = λ x. and_both (within n now (elapsed now r.clock) r (omega arith)) a }

    there : (l : Least n now rs) → (not (prepared_by n r) || leb (elapsed now l.line.clock) (elapsed now r.clock)) ≡ true → Least n now (r ∷ rs)
    there l e = record { line = l.line; by = l.by; among = λ p q. or_right (p r) (any p rs) (l.among p q); passes = λ p q. l.passes p (and_snd (p r) (all p rs) q); least = λ x. and_both e (l.least x) }

    none_else : (xs : List Record) → any (prepared_by n) xs ≡ false → all (λ (x : Record). not (prepared_by n x) || leb (elapsed now r.clock) (elapsed now x.clock)) xs ≡ true
    none_else [] e = refl
    none_else (x ∷ xs) e = and_both (hinders_not n now (elapsed now r.clock) x (or_fst (prepared_by n x) (any (prepared_by n) xs) e)) (none_else xs (or_snd (prepared_by n x) (any (prepared_by n) xs) e))

    compare : (l : Least n now rs) → prepared_by n r ≡ true → (b : Bool) → leb (elapsed now r.clock) (elapsed now l.line.clock) ≡ b → Least n now (r ∷ rs)
    compare l e true c = here e (lower n now (elapsed now r.clock) (elapsed now l.line.clock) (leb-true (elapsed now r.clock) (elapsed now l.line.clock) c) rs (l.least (prepared_by n)))
    compare l e false c = there l (within n now (elapsed now l.line.clock) r (let x = leb-false (elapsed now r.clock) (elapsed now l.line.clock) c in omega (arith, x)))

    go : (b : Bool) → prepared_by n r ≡ b → (c : Bool) → any (prepared_by n) rs ≡ c → (any (prepared_by n) rs ≡ true → Least n now rs) → Least n now (r ∷ rs)
    go true e true f rec = compare (rec f) e (leb (elapsed now r.clock) (elapsed now (rec f).line.clock)) refl
    go true e false f rec = here e (none_else rs f)
    go false e c f rec = there (rec (sym (ap (λ (b : Bool). b || any (prepared_by n) rs) e) ∙ h)) (hinders_not n now _ r e)

-- every line expired then is expired at the last one's own reading
moved-reading : (n now : ℕ) → now < 2 ^ 32 → (l : Record) → l.clock < 2 ^ 32 → 15000 ≤ elapsed now l.clock → (rs : List Record) → all (λ (r : Record). leb r.clock 4294967295) rs ≡ true → all (λ (r : Record). not (prepared_by n r) || leb (elapsed now l.clock) (elapsed now r.clock)) rs ≡ true → number_expired now rs n ≡ true → number_expired (reading_after l) rs n ≡ true
unfolding number_expired all line_expired elapsed
moved-reading n now fits l lf le [] a b c = refl
moved-reading n now fits l lf le (r ∷ rs) a b c =
    and_both (go (not (prepared_by n r)) (and_fst (not (prepared_by n r) || leb (elapsed now l.clock) (elapsed now r.clock)) _ b) (and_fst (not (prepared_by n r) || line_expired now r) _ c))
    (moved-reading n now fits l lf le rs (and_snd (leb r.clock 4294967295) _ a) (and_snd (not (prepared_by n r) || leb (elapsed now l.clock) (elapsed now r.clock)) _ b) (and_snd (not (prepared_by n r) || line_expired now r) _ c))
  where
    go : (b : Bool) → (b || leb (elapsed now l.clock) (elapsed now r.clock)) ≡ true → (b || line_expired now r) ≡ true → (b || line_expired (reading_after l) r) ≡ true
    go true e f = refl
    go false e f =
        let rf : r.clock ≤ 4294967295 = leb-true r.clock 4294967295 (and_fst (leb r.clock 4294967295) _ a) in
        let x = leb-true (elapsed now l.clock) (elapsed now r.clock) e in
        let y = leb-true (elapsed now r.clock) 2147483647 (and_snd (leb 15000 (elapsed now r.clock)) _ f) in
        let z = shifted now l.clock r.clock fits lf (omega (arith, rf)) le x y in
        and_both (le-leb 15000 (elapsed (reading_after l) r.clock) z.0) (le-leb (elapsed (reading_after l) r.clock) 2147483647 z.1)

-- where a reading exists, one exists 15000 ticks after a prepare clock
pub reading_exists : (n now : ℕ) (rs : List Record) → now < 2 ^ 32 → all (λ (r : Record). leb r.clock 4294967295) rs ≡ true → any (prepared_by n) rs ≡ true → number_expired now rs n ≡ true → expirable n rs ≡ true
unfolding expirable number_expired line_expired
reading_exists n now rs fits a h e =
    let l : Least n now rs = last_prepared n now rs h in
    let lf : l.line.clock ≤ 4294967295 = leb-true l.line.clock 4294967295 (l.passes (λ (r : Record). leb r.clock 4294967295) a) in
    let q : (not (prepared_by n l.line) || line_expired now l.line) ≡ true = l.passes (λ (r : Record). not (prepared_by n r) || line_expired now r) e in
    let f : line_expired now l.line ≡ true = ap (λ (b : Bool). not b || line_expired now l.line) (sym l.by) ∙ q in
    let le : 15000 ≤ elapsed now l.line.clock = leb-true 15000 (elapsed now l.line.clock) (and_fst (leb 15000 (elapsed now l.line.clock)) _ f) in
    l.among (λ (r : Record). prepared_by n r && number_expired (reading_after r) rs n)
    (and_both l.by (moved-reading n now fits l.line (omega (arith, lf)) le rs a (l.least (prepared_by n)) e))

-- The reading of a line that expires all of them.

reading-found : (rs rest : List Record) (n : ℕ) → any (expires_all n rs) rest ≡ true → number_expired (reading_in rs rest n) rs n ≡ true
unfolding any reading_in
reading-found rs [] n h = absurd (true≢false (sym h))
reading-found rs (r ∷ rest) n h = go (expires_all n rs r) refl h (reading-found rs rest n)
  where
    go : (b : Bool) → expires_all n rs r ≡ b → (b || any (expires_all n rs) rest) ≡ true
        → (any (expires_all n rs) rest ≡ true → number_expired (reading_in rs rest n) rs n ≡ true)
        → number_expired (cond b (reading_after r) (reading_in rs rest n)) rs n ≡ true
    go true e q rec = and_snd (prepared_by n r) (number_expired (reading_after r) rs n) e
    go false e q rec = rec q

reading-fits : (rs rest : List Record) (n : ℕ) → reading_in rs rest n < 2 ^ 32
unfolding reading_in
reading-fits rs [] n = omega arith
reading-fits rs (r ∷ rest) n = choose_by (λ (c : ℕ). c < 2 ^ 32) (expires_all n rs r) (λ e. omega arith) (λ e. reading-fits rs rest n)

-- where each undecided number has such a line, there are readings for all
pub readings_exist : (s : Sheets) → leaves_readings s ≡ true → Readings (readings_of s) s
unfolding leaves_readings expirable line_undecided
readings_exist s h =
    record { fits = λ n. reading-fits s.lines s.lines n; expired = λ k u. go k u (lists_key k s.lines) refl }
  where
    go : (k : Key) → line_undecided s (line_of k s.lines) ≡ true → (b : Bool) → lists_key k s.lines ≡ b
        → number_expired (readings_of s (line_of k s.lines).image.txid) s.lines (line_of k s.lines).image.txid ≡ true
    go k u true l =
        let r = line_of k s.lines in
        let p = line_passes (λ (x : Record). not (line_undecided s x) || any (expires_all x.image.txid s.lines) s.lines) k s.lines h l in
        reading-found s.lines s.lines r.image.txid (ap (λ (b : Bool). not b || any (expires_all r.image.txid s.lines) s.lines) (sym u) ∙ p)
    go k u false l = absurd (plain-decided (line_of k s.lines) (ap is_prepared (unlisted k s.lines l)) u)
      where
        plain-decided : (r : Record) → is_prepared r ≡ false → line_undecided s r ≡ true → ⊥
        plain-decided r p q = true≢false (sym (and_fst (is_prepared r) _ q) ∙ p)

-- what the line of a key has, some line has
among : (p : Record → Bool) (r : Record) → p r ≡ true → (rs : List Record) → lists_key r.key rs ≡ true → line_of r.key rs ≡ r → any p rs ≡ true
unfolding any line_of
among p r o [] h q = absurd (true≢false (sym h))
among p r o (y ∷ rs) h q = go (same_key y.key r.key) h q (among p r o rs)
  where
    go : (b : Bool) → (b || lists_key r.key rs) ≡ true → cond b y (line_of r.key rs) ≡ r
        → (lists_key r.key rs ≡ true → line_of r.key rs ≡ r → any p rs ≡ true) → (p y || any p rs) ≡ true
    go true h q rec = or_left (p y) (any p rs) (ap p q ∙ o)
    go false h q rec = or_right (p y) (any p rs) (rec h q)

-- and where there is any reading for an undecided number, it has such a line
module _ (s : Sheets) (good : GoodSheets s) where
  clocks_fit : all (λ (r : Record). leb r.clock 4294967295) s.lines ≡ true
  clocks_fit = all_lines (λ (r : Record). leb r.clock 4294967295) s.lines good.order
      (λ r l e. le-leb r.clock 4294967295 (subst (λ (x : Record). x.clock ≤ 4294967295) e (listed_good s good r.key l).clock))

  pub reading_tells : (now : ℕ) (r : Record) → now < 2 ^ 32 → lists_key r.key s.lines ≡ true → line_of r.key s.lines ≡ r → is_prepared r ≡ true
      → number_expired now s.lines r.image.txid ≡ true → expirable r.image.txid s.lines ≡ true
  unfolding prepared_by
  reading_tells now r fits l e p x =
      reading_exists r.image.txid now s.lines fits clocks_fit (among (prepared_by r.image.txid) r own s.lines l e) x
    where
      own : prepared_by r.image.txid r ≡ true
      own = and_both p (eq-eqb r.image.txid r.image.txid refl)

  pub readings_needed : (clocks : ℕ → ℕ) → Readings clocks s → leaves_readings s ≡ true
  unfolding leaves_readings line_undecided
  readings_needed clocks g =
      all_lines (λ (r : Record). not (line_undecided s r) || expirable r.image.txid s.lines) s.lines good.order (λ r l e. go r l e (line_undecided s r) refl)
    where
      prepared-one : (r : Record) → line_undecided s r ≡ true → is_prepared r ≡ true
      prepared-one r u = and_fst (is_prepared r) _ u

      go : (r : Record) → lists_key r.key s.lines ≡ true → line_of r.key s.lines ≡ r → (b : Bool) → line_undecided s r ≡ b → (not b || expirable r.image.txid s.lines) ≡ true
      go r l e false u = refl
      go r l e true u =
          let x = g.expired r.key (ap (line_undecided s) e ∙ u) in
          reading_tells (clocks r.image.txid) r (g.fits r.image.txid) l e (prepared-one r u)
          (subst (λ (y : Record). number_expired (clocks y.image.txid) s.lines y.image.txid ≡ true) e x)
