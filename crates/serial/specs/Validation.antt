-- One more entry validated: its condition holds, so that it is fresh and no one in doubt puts to its line, and the order is consistent with it among what is
-- validated.
use Rattle.std.specs.Prelude.{◌≡◌, ◌+◌, ◌≤◌, ◌∷◌, ◌⊎◌}
use Rattle.std.proofs.Common.{◌∙◌}
use Rattle.lists.specs.Basics.{refl, sym, ap, subst, ℕ, suc, eqb, Bool, true, false, List, length, take, get_or, take_all, none}
use Rattle.lists.specs.Basics.{inl, inr, arith, add-one, eqb-true, eqb-false, any}
use Rattle.lists.specs.Members.{Mem, mem_next}
use Rattle.model.specs.Types.{Key, Record, Undecided, Entry, Transaction}
use Rattle.model.specs.Coordinator.{decision}
use Rattle.model.specs.Transactions.{validate_phase, held, is_put, puts, to_validate, no_entry, is_serializable, moved}
use Rattle.model.specs.Writes.{Sheets, nothing, decisions_after, apply}
use Rattle.model.specs.Steps.{holds, units_of}
use Rattle.model.specs.Histories.{Event, Available}
use Rattle.model.specs.SequentialModel.{Model, overwritten}
use Rattle.serial.specs.Runs.{Placing, wrote}
use Rattle.serial.specs.Order.{Consistent, weaker, Found, finds}
use Rattle.serial.specs.Entries.{put_or_validated}
use Rattle.serial.specs.InDoubt.{Facts, InDoubt, in_doubt, all-prepared, uncommitted, holds_fresh, holds-free}
use Rattle.serial.specs.Invariant.{placing, ValidatedIn, Validated, Ordered, own_position, aged_in_doubt}
use Rattle.serial.specs.Handover.{Handover, own_state, was_in_doubt, as_it_is, ordered_handover}

-- an entry that was validated before, or whose condition holds now
abbrev pub ValidatedNow : Sheets → Transaction → Entry → Type 0
ValidatedNow s t x = ValidatedIn (units_of s) t x ⊎ (holds s x ≡ true)

-- the same of an entry in the order, where t is the one that validates
abbrev pub OrHolds : Sheets → List Event → List ℕ → Transaction → Placing → Entry → Type 0
OrHolds s es committed t q x = Validated s es committed q x ⊎ ((q.number ≡ t.number) × (holds s x ≡ true))

-- entries of a state in validate whose conditions hold
pub entries_validated : {first : Key → Record} {s : Sheets} {es : List Event} {m : Model} {ps : List Placing} → Facts s es m → Ordered first s es m ps
    → (t : Transaction) → Available t es → t.phase ≡ 2 → decision t.number s.coordinator ≡ Undecided → (valid' : Placing → Entry → Type 0)
    → ((q : Placing) → Mem q ps → (x : Entry) → Mem x q.entries → valid' q x → OrHolds s es m.committed t q x)
    → Consistent first m.line (λ (n : ℕ). any (eqb n) m.committed) (InDoubt s es) valid' ps
entries_validated {first} {s} {es} {m} {ps} f o t a ph u valid' new =
    finds ps o.consistent (λ q n x i w. go q n x i (new q n x i w))
  where
    go : (q : Placing) → Mem q ps → (x : Entry) → Mem x q.entries → OrHolds s es m.committed t q x
        → Validated s es m.committed q x ⊎ Found m.line (λ (n : ℕ). any (eqb n) m.committed) (InDoubt s es) ps q x
    go q n x i (inl w) = inl w
    go q n x i (inr w) =
        let d : InDoubt s es q.number = in_doubt s es t a (omega (arith, ph)) (omega (arith, ph)) u q.number w.0 in
        inr (record {
          in_doubt = d;
          uncommitted = ap (λ (j : ℕ). any (eqb j) m.committed) w.0 ∙ uncommitted f t a (omega (arith, ph));
          fresh = holds_fresh f x w.1 (aged_in_doubt f o q n d x i);
          alone = λ r l y z. ap (λ (p : Placing). wrote x.key p) (sym (own_position f o r l y.state y.available y.number).0) ∙ holds-free f x w.1 y;
        })

-- The entry at the place has been found unchanged.
module _ (s : Sheets) (t : Transaction) (c : holds s (get_or (to_validate (units_of s) t) t.place no_entry) ≡ true) where
  next_or_before : (x : Entry) → Mem x (take (suc t.place) (to_validate (units_of s) t)) → ValidatedNow s t x
  next_or_before x n = go (mem_next no_entry t.place (to_validate (units_of s) t) n)
    where
      go : Mem x (take t.place (to_validate (units_of s) t)) ⊎ (x ≡ get_or (to_validate (units_of s) t) t.place no_entry) → ValidatedNow s t x
      go (inl m) = inl (inr (inr m))
      go (inr e) = inr (ap (holds s) e ∙ c)

  -- on to the next
  pub next_validated : (v : ℕ) (x : Entry) → ValidatedIn (units_of s) (moved validate_phase (t.place + 1) v t) x → ValidatedNow s t x
  unfolding to_validate held
  next_validated v x (inl e) = absurd (omega (arith, e))
  next_validated v x (inr (inl e)) = inl (inr (inl e))
  next_validated v x (inr (inr e)) = next_or_before x (subst (λ (i : ℕ). Mem x (take i (to_validate (units_of s) t))) (add-one t.place) e)

  -- it was the last
  pub last_validated : is_serializable t ≡ true → length (to_validate (units_of s) t) ≤ t.place + 1 → (x : Entry) → Mem x (held t) → ValidatedNow s t x
  last_validated checked l x n = go (put_or_validated (units_of s) t checked x n)
    where
      go : (is_put x ≡ true) ⊎ Mem x (to_validate (units_of s) t) → ValidatedNow s t x
      go (inl e) = inl (inr (inl e))
      go (inr e) = next_or_before x (subst (Mem x) (sym (take_all (suc t.place) (to_validate (units_of s) t) (omega (arith, l)))) e)

-- The step: on in validate, or to decide.
module _ {first : Key → Record} {s : Sheets} {es : List Event} {e : Event} {m : Model} {t : Transaction} {ps : List Placing} (p i v : ℕ) where
  pub validates : Handover s nothing es e m m t (moved p i v t) → Ordered first s es m ps → t.phase ≡ 2 → decision t.number s.coordinator ≡ Undecided
      → 2 ≤ p → p ≤ 3 → ((x : Entry) → Mem x (held t) → ValidatedIn (units_of s) (moved p i v t) x → ValidatedNow s t x)
      → Ordered first (apply nothing s) (e ∷ es) m ps
  unfolding held puts decisions_after apply was_in_doubt overwritten
  validates h o ph u lo hi newly =
      ordered_handover h o
      (record {
        consistent = weaker ps (λ q n x. doubt q x (eqb q.number t.number) refl) (λ q n x y. y)
            (entries_validated f o t a ph u (Validated (apply nothing s) (e ∷ es) m.committed)
            (λ q n x j y. validated q n x j y (eqb q.number t.number) refl));
        commits = λ k. none;
        lines = λ k. refl;
        clear = λ x y d l z k c g. refl;
        aged = o.aged t a;
        prepared_fresh = λ l z x n c g. o.prepared_fresh t a (omega (arith, ph)) u x n c
            (all-prepared (units_of s) t (omega (arith, ph)) (omega (arith, ph)) x.key ∙ (sym (all-prepared (units_of s) (moved p i v t) lo hi x.key) ∙ g));
        member = λ l z. position;
        own_position = λ q n z. ((own_position f o q n t a z).0, lo);
        calm = λ l z. u;
        checked = o.checked t a;
        room = o.room t a;
        extends = as_it_is;
        placed = λ n y. inl y;
      })
    where
      f : Facts s es m
      f = h.before

      a : Available t es
      a = h.available

      position : Mem (placing t) ps
      position = o.member t a (omega (arith, ph)) (omega (arith, ph))

      own : (n : ℕ) → n ≡ t.number → InDoubt s es n
      own n q = in_doubt s es t a (omega (arith, ph)) (omega (arith, ph)) u n q

      doubt : (q : Placing) → InDoubt (apply nothing s) (e ∷ es) q.number → (b : Bool) → eqb q.number t.number ≡ b → InDoubt s es q.number
      doubt q x true d = own q.number (eqb-true q.number t.number d)
      doubt q x false d = was_in_doubt h x (eqb-false q.number t.number d)

      validated : (q : Placing) → Mem q ps → (x : Entry) → Mem x q.entries → Validated (apply nothing s) (e ∷ es) m.committed q x → (b : Bool)
          → eqb q.number t.number ≡ b → OrHolds s es m.committed t q x
      validated q n x j (inl y) b d = inl (inl y)
      validated q n x j (inr y) false d =
          inl (inr (record { doubt = was_in_doubt h y.doubt (eqb-false q.number t.number d); validated = y.validated }))
      validated q n x j (inr y) true d =
          by (newly x (subst (λ (r : Placing). Mem x r.entries) (sym (own_position f o q n t a (sym same)).0) j)
          (subst (λ (r : Transaction). ValidatedIn (units_of s) r x) (own_state h y.doubt.state y.doubt.available (y.doubt.number ∙ same)) y.validated))
        where
          same : q.number ≡ t.number
          same = eqb-true q.number t.number d

          by : ValidatedNow s t x → OrHolds s es m.committed t q x
          by (inl z) = inl (inr (record { doubt = own q.number same; validated = z }))
          by (inr z) = inr (same, z)
