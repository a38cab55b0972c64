-- A transaction gets its position, by its last prepare or on leaving open without puts: it comes last in the order. Its puts are fresh, as when they were
-- prepared, and no one in doubt puts to their lines, which it has prepared itself.
use Rattle.std.specs.Prelude.{◌≡◌, ◌≤◌, ◌∷◌}
use Rattle.std.proofs.Common.{◌∙◌}
use Rattle.lists.specs.Basics.{refl, sym, ap, subst, ℕ, true, false, true≢false, List, none, inl, inr, arith}
use Rattle.lists.specs.Members.{Mem, here, there, mem_none}
use Rattle.model.specs.Types.{Key, Record, Undecided, Entry, Transaction}
use Rattle.model.specs.Coordinator.{decision}
use Rattle.model.specs.Transactions.{held, is_put, puts, to_validate, is_empty, moved}
use Rattle.model.specs.Writes.{Sheets, Write, apply}
use Rattle.model.specs.Steps.{units_of}
use Rattle.model.specs.Histories.{Event, Available}
use Rattle.model.specs.SequentialModel.{Model, overwritten, is_committed}
use Rattle.call_laws.specs.Transactions.{well_formed-parts}
use Rattle.recovery.specs.Memory.{put_in}
use Rattle.serial.specs.Runs.{Placing, wrote, Fresh}
use Rattle.serial.specs.Order.{enters}
use Rattle.serial.specs.Entries.{put_there, only_put}
use Rattle.serial.specs.InDoubt.{Facts, InDoubt, all-prepared, uncommitted, two-in_doubt}
use Rattle.serial.specs.Invariant.{placing, ValidatedIn, Validated, ConsistentAt, Ordered, own_position}
use Rattle.serial.specs.Handover.{same_validated, Handover, own_state, was_in_doubt, one_placed, ordered_handover}

-- a state up to prepare has no position yet
pub no_position_yet : {first : Key → Record} {s : Sheets} {es : List Event} {m : Model} {ps : List Placing} → Facts s es m → Ordered first s es m ps
    → (t : Transaction) → Available t es → t.phase ≤ 1 → (q : Placing) → Mem q ps → t.number ≡ q.number → ⊥
no_position_yet f o t a ph q n d = let l : 2 ≤ t.phase = (own_position f o q n t a d).1 in omega (arith, l, ph)

module _ {first : Key → Record} {s : Sheets} {w : Write} {es : List Event} {e : Event} {m : Model} {t : Transaction} {ps : List Placing} (p v : ℕ) where
  pub gets_position_lem : Handover s w es e m m t (moved p 0 v t) → Ordered first s es m ps → t.phase ≤ 1 → 2 ≤ p → p ≤ 3
      → (decision t.number (apply w s).coordinator ≡ Undecided → (x : Entry) → Mem x (held t) → is_put x ≡ true → Fresh m.line x)
      → (p ≡ 3 → (x : Entry) → Mem x (held t) → is_put x ≡ true) → (is_empty (puts t) ≡ true → decision t.number (apply w s).coordinator ≡ Undecided)
      → Ordered first (apply w s) (e ∷ es) m (placing t ∷ ps)
  unfolding held puts to_validate was_in_doubt overwritten
  gets_position_lem h o ph lo hi fresh all_put calm =
      ordered_handover h o
      (record {
        consistent = consistent;
        commits = λ k. none;
        lines = λ k. refl;
        clear = λ x y d l z k c g. refl;
        aged = o.aged t a;
        prepared_fresh = λ l u x n c g. fresh u x n
            (only_put (held t) (well_formed-parts s t (f.known t a).formed).0.distinct x n c
            (sym (all-prepared (units_of s) (moved p 0 v t) lo hi x.key) ∙ g));
        member = λ l z. here;
        own_position = own;
        calm = λ l. calm;
        checked = o.checked t a;
        room = o.room t a;
        extends = one_placed;
        placed = λ n y. inl y;
      })
    where
      f : Facts s es m
      f = h.before

      a : Available t es
      a = h.available

      new : (q : Placing) → Mem q ps → t.number ≡ q.number → ⊥
      new = no_position_yet f o t a ph

      own : (q : Placing) → Mem q (placing t ∷ ps) → t.number ≡ q.number → (placing t ≡ q) × (2 ≤ p)
      own q here d = (refl, lo)
      own q (there n) d = absurd (new q n d)

      not_yet : is_committed t.number m ≡ false
      not_yet = uncommitted f t a (omega (arith, ph))

      doubt : (q : Placing) → Mem q ps → InDoubt (apply w s) (e ∷ es) q.number → InDoubt s es q.number
      doubt q n x = was_in_doubt h x (λ d. new q n (sym d))

      validated : (q : Placing) → Mem q ps → (x : Entry) → Validated (apply w s) (e ∷ es) m.committed q x → Validated s es m.committed q x
      validated q n x (inl y) = inl y
      validated q n x (inr y) = inr (record { doubt = doubt q n y.doubt; validated = same_validated s w y.doubt.state x y.validated })

      -- what it has validated so far is what it has put
      own_doubt : (x : Entry) → Validated (apply w s) (e ∷ es) m.committed (placing t) x → InDoubt (apply w s) (e ∷ es) t.number
      own_doubt x (inl y) = absurd (true≢false (sym y ∙ not_yet))
      own_doubt x (inr y) = y.doubt

      is_put_lem : (x : Entry) → Mem x (held t) → ValidatedIn (units_of s) (moved p 0 v t) x → is_put x ≡ true
      is_put_lem x n (inl y) = all_put y x n
      is_put_lem x n (inr (inl y)) = y
      is_put_lem x n (inr (inr y)) = absurd (mem_none y)

      put : (x : Entry) → Mem x (held t) → Validated (apply w s) (e ∷ es) m.committed (placing t) x → is_put x ≡ true
      put x n (inl y) = absurd (true≢false (sym y ∙ not_yet))
      put x n (inr y) =
          is_put_lem x n (subst (λ (u : Transaction). ValidatedIn (units_of s) u x) (own_state h y.doubt.state y.doubt.available y.doubt.number)
          (same_validated s w y.doubt.state x y.validated))

      safe : (x : Entry) → Mem x (held t) → is_put x ≡ true → InDoubt (apply w s) (e ∷ es) t.number → (q : Placing) → Mem q ps
          → InDoubt (apply w s) (e ∷ es) q.number → wrote x.key q ≡ none
      safe x n i y q l z =
          let c = put_there x (held t) n i in
          let d : InDoubt s es q.number = doubt q l z in
          ap (λ (r : Placing). wrote x.key r) (sym (own_position f o q l z.state d.available z.number).0)
          ∙ two-in_doubt h.after y z (new q l) x.key c.0
          (ap (λ (u : Transaction). put_in x.key (held u)) (own_state h y.state y.available y.number) ∙ c.1)

      consistent : ConsistentAt first (apply w s) (e ∷ es) m.line m.committed (placing t ∷ ps)
      consistent =
          enters ps (placing t) o.consistent new not_yet doubt validated
          (λ x n y. fresh (own_doubt x y).undecided x n (put x n y))
          (λ x n y q l z. safe x n (put x n y) (own_doubt x y) q l z)
