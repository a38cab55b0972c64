-- From one limit to the next: nothing more, or one more write within one unit. Both closes make the same steps until the lower limit is used up; from there on
-- the lower one stops before a step that writes, and the higher one makes it and writes no more.
use Rattle.std.specs.Prelude.{◌≡◌, ◌+◌, ◌-◌, ◌&&◌, ◌||◌}
use Rattle.std.proofs.Common.{◌∙◌}
use Rattle.lists.specs.Basics.{refl, sym, ap, ap₂, subst, ℕ, zero, suc, eqb, Bool, true, false, cond, true≢false, arith}
use Rattle.lists.specs.Basics.{eqb-true, eqb-false, ne_eqb}
use Rattle.model.specs.Types.{Transaction}
use Rattle.model.specs.Transactions.{done_phase}
use Rattle.model.specs.Writes.{Sheets, Write, apply}
use Rattle.model.specs.Steps.{step}
use Rattle.model.specs.Closing.{Run, step_writes, turn, closing}
use Rattle.call_laws.specs.SingleUnit.{SingleUnit, step_single}
use Rattle.closing_laws.specs.Steps.{stays_stopped}
use Rattle.closing_laws.specs.Writes.{no_change}

-- where the limit is used up nothing more is written
spent : (n now : ℕ) (x : Run) → x.left ≡ 0 → ((closing n now x).sheets ≡ x.sheets) × ((closing n now x).writes ≡ x.writes)
unfolding closing turn
spent zero now x z = (refl, refl)
spent (suc n) now x z = go (eqb x.transaction.phase done_phase) (step_writes now x) refl (eqb x.left 0) (ap (λ (k : ℕ). eqb k 0) z) (λ y e. spent n now y e)
  where
    NothingMore : Run → Run → Type 0
    NothingMore y z = (z.sheets ≡ y.sheets) × (z.writes ≡ y.writes)

    next : Bool → Bool → Bool → Run
    next d w e =
        cond (d || w && e) x
        (record {
          transaction = (step x.transaction now x.sheets).transaction;
          sheets = apply (step x.transaction now x.sheets).write x.sheets;
          left = cond w (x.left - 1) x.left;
          writes = cond w (x.writes + 1) x.writes;
        })

    go : (d w : Bool) → step_writes now x ≡ w → (e : Bool) → e ≡ true → ((y : Run) → y.left ≡ 0 → NothingMore y (closing n now y))
        → NothingMore x (closing n now (next d w e))
    go true w q e f rec = rec x z
    go false true q true f rec = rec x z
    go false true q false f rec = absurd (true≢false (sym f))
    go false false q e f rec =
        let y = rec (next false false e) z in
        (y.0 ∙ no_change (step x.transaction now x.sheets).write x.sheets q, y.1)

-- a limit higher by one
abbrev pub further : Run → Run
further x = record { transaction = x.transaction; sheets = x.sheets; left = x.left + 1; writes = x.writes }

-- the same, or one more write within one unit
pub data OneMore (x y : Run) : Type 0 where
  no_more : y.transaction ≡ x.transaction → y.sheets ≡ x.sheets → y.writes ≡ x.writes → OneMore x y
  one_more : (w : Write) → SingleUnit x.sheets.coordinator.units w → y.sheets ≡ apply w x.sheets → y.writes ≡ x.writes + 1 → OneMore x y

-- "demand 2's single unit holds for each write in it, from one limit to the next, instead of for the call"
pub limit_by_limit : (n now : ℕ) (x : Run) → OneMore (closing n now x) (closing n now (further x))
unfolding closing turn
limit_by_limit zero now x = no_more refl refl refl
limit_by_limit (suc n) now x =
    go (eqb t.phase done_phase) refl (step_writes now x) refl (eqb x.left 0) refl (λ y. limit_by_limit n now y)
  where
    t : Transaction
    t = x.transaction

    s : Sheets
    s = x.sheets

    no_room : eqb (x.left + 1) 0 ≡ false
    no_room = ne_eqb (x.left + 1) 0 (λ q. omega (arith, q))

    step-to : ℕ → ℕ → Run
    step-to l w = record { transaction = (step t now s).transaction; sheets = apply (step t now s).write s; left = l; writes = w }

    next : Bool → Bool → Bool → ℕ → Run → Run
    next d w e l y = cond (d || w && e) y (step-to (cond w (l - 1) l) (cond w (x.writes + 1) x.writes))

    -- the higher limit's step, where the lower one's is y
    Higher : Run → Bool → ℕ → Type 0
    Higher y b l = OneMore y (closing n now (cond b (further x) (step-to l (x.writes + 1))))

    go : (d : Bool) → eqb t.phase done_phase ≡ d → (w : Bool) → step_writes now x ≡ w → (e : Bool) → eqb x.left 0 ≡ e
        → ((y : Run) → OneMore (closing n now y) (closing n now (further y)))
        → OneMore (closing n now (next d w e x.left x)) (closing n now (next d w (eqb (x.left + 1) 0) (x.left + 1) (further x)))
    go true d w q e f rec = rec x
    go false d false q e f rec = rec (step-to x.left x.writes)
    go false d true q true f rec =
        let a = spent n now (step-to (x.left + 1 - 1) (x.writes + 1)) (omega (arith, eqb-true x.left 0 f)) in
        let b : closing n now x ≡ x = stays_stopped n now x (ap₂ (λ (p r : Bool). p || r && eqb x.left 0) d q ∙ f) in
        subst (λ (y : Run). Higher y (eqb (x.left + 1) 0) (x.left + 1 - 1)) (sym b)
        (subst (λ (c : Bool). Higher x c (x.left + 1 - 1)) (sym no_room)
        (one_more (step t now s).write (step_single t now s) a.0 a.1))
    go false d true q false f rec =
        let lower : Run = closing n now (step-to (x.left - 1) (x.writes + 1)) in
        let z : x.left + 1 - 1 ≡ x.left - 1 + 1 = omega (arith, eqb-false x.left 0 f) in
        subst (λ (c : Bool). Higher lower c (x.left + 1 - 1)) (sym no_room)
        (subst (Higher lower false) (sym z) (rec (step-to (x.left - 1) (x.writes + 1))))
