-- Figures of one width order as their bytes do. Two scans that stand alike part at the first byte in which the fields differ, and the one
-- that leads then leads to the end, since one digit more never makes up for a lower figure.
use Rattle.std.specs.Prelude.{◌≡◌, ◌+◌, ◌-◌, ◌*◌, ◌≤◌, ◌<◌, ◌∷◌}
use Rattle.std.proofs.Common.{◌∙◌}
use Rattle.lists.specs.Basics.{refl, sym, ap, ap₂, ℕ, suc, eqb, ltb, Bool, true, false, List, [], length, arith}
use Rattle.lists.specs.Basics.{eqb-true, eqb-false, ltb-true, ltb-false, lt-ltb, le-ltb, less, choose_by}
use Rattle.lists.specs.Order.{less_cons}
use Rattle.decimal.specs.Scan.{Scan}
use Rattle.decimal.specs.Scan.Scan.{Blank, Number, Wrong}
use Rattle.decimal.specs.Field.{stepped, scanned, field_text}
use Rattle.decimal.specs.Laws.{Step, step_kind, scan_wrong, scan_written}
use Rattle.decimal.specs.Laws.Step.{space, first, next, wrong}

-- how far a scan is on: nothing while it has met spaces alone, else one more than the figure
abbrev rank : Scan → ℕ
rank Blank = 0
rank (Number v) = suc v
rank Wrong = 0

-- what a byte b does to the rank of a scan that goes on to a figure: a space adds 0 and the digit d adds d + 1, which `b - 47` is for both, and
-- a byte above a space, or behind a digit, is a digit
record Ranked (r b r' : ℕ) : Type 0 where
  grows : r' ≡ (r - 1) * 10 + (b - 47)
  unended : r ≡ 1 → ⊥
  low : 32 ≤ b
  high : b ≤ 57
  digit : 32 < b + r → 48 ≤ b

ranked : {b : ℕ} {st st' : Scan} (s : List ℕ) (a : ℕ) → Step b st st' → scanned st' s ≡ Number a → Ranked (rank st) b (rank st')
ranked s a (space e) q = omega arith
ranked s a (first d l e) q = omega arith
ranked s a (next v d n l e) q = omega arith
ranked s a wrong q = let z : ◌≡◌ {A = ℕ} 0 1 = cc (scan_wrong s) in absurd (omega arith)

-- the scan that leads still leads after one byte more
lead_kept : {r c r' q d q' : ℕ} → Ranked r c r' → Ranked q d q' → r < q → r' < q'
lead_kept {r} {c} {r'} {q} {d} {q'} f g l =
    by_numbers f.grows f.high g.grows g.unended (g.digit (omega arith))
  where
    by_numbers : r' ≡ (r - 1) * 10 + (c - 47) → c ≤ 57 → q' ≡ (q - 1) * 10 + (d - 47) → (q ≡ 1 → ⊥) → 48 ≤ d → r' < q'
    by_numbers e h i u k = omega arith

-- of two scans that stand alike the one with the higher byte leads
lead_taken : {r c r' d q' : ℕ} → Ranked r c r' → Ranked r d q' → c < d → r' < q'
lead_taken f g l = let h = g.digit (omega arith) in omega arith

-- the scan that leads ends at the higher figure
lead_ends : (s t : List ℕ) (x y : Scan) (a b : ℕ) → rank x < rank y → scanned x s ≡ Number a → scanned y t ≡ Number b → length s ≡ length t → a < b
unfolding scanned
lead_ends [] [] x y a b l p q n = omega (arith, ap rank p, ap rank q)
lead_ends [] (d ∷ t) x y a b l p q n = absurd (omega arith)
lead_ends (c ∷ s) [] x y a b l p q n = absurd (omega arith)
lead_ends (c ∷ s) (d ∷ t) x y a b l p q n =
    let h = lead_kept (ranked s a (step_kind x c) p) (ranked t b (step_kind y d) q) l in
    lead_ends s t (stepped x c) (stepped y d) a b h p q (omega arith)

-- scans that stand alike and part: the higher byte leads to the higher figure
apart : (x : Scan) (c d : ℕ) (s t : List ℕ) (a b : ℕ) → scanned (stepped x c) s ≡ Number a → scanned (stepped x d) t ≡ Number b → length s ≡ length t → c < d → a < b
apart x c d s t a b p q n l =
    let h = lead_taken (ranked s a (step_kind x c) p) (ranked t b (step_kind x d) q) l in
    lead_ends s t (stepped x c) (stepped x d) a b h p q n

-- scans that stand alike go on to figures that order as the bytes to come do
order_after : (s t : List ℕ) (x : Scan) (a b : ℕ) → scanned x s ≡ Number a → scanned x t ≡ Number b → length s ≡ length t → less s t ≡ ltb a b
unfolding scanned less
order_after [] [] x a b p q n = sym (le-ltb a b (omega (arith, ap rank p, ap rank q)))
order_after [] (d ∷ t) x a b p q n = absurd (omega arith)
order_after (c ∷ s) [] x a b p q n = absurd (omega arith)
order_after (c ∷ s) (d ∷ t) x a b p q n =
    less_cons c d s t
    ∙ choose_by
    (λ (r : Bool). r ≡ ltb a b)
    (eqb c d)
    {x = less s t}
    {y = ltb c d}
    (λ e. order_after s t (stepped x c) a b p (rw (eqb-true c d e) q) m)
    (λ e. parted (eqb-false c d e) (ltb c d) refl)
  where
    m : length s ≡ length t
    m = omega arith

    parted : (c ≡ d → ⊥) → (r : Bool) → ltb c d ≡ r → r ≡ ltb a b
    parted u true e = sym (lt-ltb a b (apart x c d s t a b p q m (ltb-true c d e)))
    parted u false e =
        let l = ltb-false c d e in
        let h = apart x d c t s b a q p (sym m) (omega arith) in
        sym (le-ltb a b (omega arith))

-- of two fields of one width that hold figures, the lower figure's bytes come first
pub order_bytes : (s t : List ℕ) (a b : ℕ) → scanned Blank s ≡ Number a → scanned Blank t ≡ Number b → length s ≡ length t → less s t ≡ ltb a b
order_bytes s t a b p q n = order_after s t Blank a b p q n

-- and equal figures have equal bytes
pub same_bytes : (s t : List ℕ) (a b : ℕ) → scanned Blank s ≡ Number a → scanned Blank t ≡ Number b → length s ≡ length t → a ≡ b → s ≡ t
same_bytes s t a b p q n e = (scan_written s a p).0 ∙ (ap₂ field_text n e ∙ sym (scan_written t b q).0)
