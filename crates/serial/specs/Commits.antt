-- The commit of a transaction, by its decision or, without puts, by its last step: all its entries are validated by then, so that it commits at its position in
-- the order (OrderCommits). Where another has prepared it has put nothing, so that what is prepared stays fresh.
use Rattle.std.specs.Prelude.{◌≡◌, ◌≤◌, ◌∷◌, ◌⊎◌}
use Rattle.std.proofs.Common.{◌∙◌}
use Rattle.lists.specs.Basics.{refl, sym, ap, subst, ℕ, eqb, true, false, List, Option, none, some, none-ne-some, inl, inr}
use Rattle.lists.specs.Basics.{arith, eqb-true, eq-eqb, ne_eqb, any, or_else, or_left}
use Rattle.lists.specs.Members.{Mem, here}
use Rattle.model.specs.Types.{Key, Record, Undecided, Committed, Entry, Transaction}
use Rattle.model.specs.Records.{line_of}
use Rattle.model.specs.Coordinator.{decision}
use Rattle.model.specs.Images.{Change}
use Rattle.model.specs.Transactions.{held, puts, is_empty, moved}
use Rattle.model.specs.Writes.{Sheets, Write, nothing, decide, apply}
use Rattle.model.specs.Steps.{units_of}
use Rattle.model.specs.Histories.{Event, Available}
use Rattle.model.specs.SequentialModel.{Model, overwritten, model_commit, is_committed}
use Rattle.recovery.specs.Memory.{put_in}
use Rattle.recovery.specs.Puts.{put_in_empty}
use Rattle.serial.specs.Runs.{Placing, Fresh, NotAhead, no_newer_after}
use Rattle.serial.specs.Order.{Consistent, weaker, enters}
use Rattle.serial.specs.OrderCommits.{FreshPut, commits}
use Rattle.serial.specs.Entries.{put_entry}
use Rattle.serial.specs.InDoubt.{Facts, InDoubt, in_doubt, all-prepared, uncommitted, owns, puts_elsewhere}
use Rattle.serial.specs.Invariant.{placing, Validated, ConsistentAt, Ordered, own_position, aged_in_doubt}
use Rattle.serial.specs.Handover.{Handover, doubt_before, validated_before, Extends, as_it_is, one_placed, extends_back, ordered_handover}
use Rattle.serial.specs.Validation.{ValidatedNow, OrHolds, entries_validated}
use Rattle.serial.specs.Entering.{no_position_yet}

-- the transaction counts as in doubt, and all its entries as validated
abbrev OrOwn : Transaction → (ℕ → Type 0) → ℕ → Type 0
OrOwn t doubt n = doubt n ⊎ (n ≡ t.number)

abbrev OrOwnEntry : Transaction → (Placing → Entry → Type 0) → Placing → Entry → Type 0
OrOwnEntry t valid p x = valid p x ⊎ (p.number ≡ t.number)

or-own : {doubt : ℕ → Type 0} (t : Transaction) → ((n : ℕ) → n ≡ t.number → doubt n) → (n : ℕ) → OrOwn t doubt n → doubt n
or-own t own n (inl x) = x
or-own t own n (inr q) = own n q

-- the order is consistent with that
abbrev ReadyAt : (Key → Record) → Sheets → List Event → Model → Transaction → List Placing → Type 0
ReadyAt first s es m t ps =
    Consistent first m.line (λ (n : ℕ). any (eqb n) m.committed) (OrOwn t (InDoubt s es)) (OrOwnEntry t (Validated s es m.committed)) ps

module _ {first : Key → Record} {s : Sheets} {w : Write} {es : List Event} {e : Event} {m : Model} {t : Transaction} {ps : List Placing} (p i v : ℕ) where
  commits_kept : Handover s w es e m (model_commit t.number m) t (moved p i v t) → Ordered first s es m ps → (ps' : List Placing)
      → Extends (placing t) ps ps' → Mem (placing t) ps' → t.phase ≤ 4 → 4 ≤ p → ReadyAt first s es m t ps'
      → ((x : Entry) → Mem x (held t) → (c : Change) → put_in x.key (held t) ≡ some c → Fresh m.line x)
      → ((n : ℕ) → (n ≡ t.number → ⊥) → (k : Key) → (line_of k s.lines).image.txid ≡ n → put_in k (held t) ≡ none)
      → Ordered first (apply w s) (e ∷ es) (model_commit t.number m) ps'
  unfolding held model_commit any
  commits_kept h o ps' ext position early late ready fresh elsewhere =
      ordered_handover h o
      (record {
        consistent = consistent;
        commits = m.writes t.number;
        lines = λ k. refl;
        clear = λ u b d l z k c g. sets k ∙ elsewhere u.number d k (owns f u b l z k c g);
        aged = λ x n. no_newer_after m.line (model_commit t.number m).line x t.number _ (m.writes t.number x.key) refl (o.aged t a x n);
        prepared_fresh = λ l. absurd (omega (arith, l, late));
        member = λ l z. absurd (omega (arith, z, late));
        own_position = λ q n z. (own q z (extends_back ext q n), omega (arith, late));
        calm = λ l. absurd (omega (arith, l, late));
        checked = o.checked t a;
        room = o.room t a;
        extends = ext;
        placed = λ n y. or_else (eqb n t.number) (is_committed n m) y
            (λ d. inr (record { position = placing t; member = position; number = sym (eqb-true n t.number d) })) (λ d z. inl z);
      })
    where
      f : Facts s es m
      f = h.before

      a : Available t es
      a = h.available

      sets : (k : Key) → m.writes t.number k ≡ put_in k (held t)
      sets = (f.known t a).sets

      own : (q : Placing) → t.number ≡ q.number → Mem q ps ⊎ (q ≡ placing t) → placing t ≡ q
      own q z (inl n) = (own_position f o q n t a z).0
      own q z (inr d) = sym d

      out : 2 ≤ p → p ≤ 3 → decision t.number (apply w s).coordinator ≡ Undecided → ⊥
      out l z u = omega (arith, z, late)

      known : (q : Placing) → Mem q ps ⊎ (q ≡ placing t) → InDoubt s es q.number → (x : Entry) → Mem x q.entries → NotAhead m.line x
      known q (inl n) y x j = (aged_in_doubt f o q n y x j).0
      known q (inr d) y x j = (o.aged t a x (subst (λ (r : Placing). Mem x r.entries) d j)).0

      validated : (q : Placing) (x : Entry) → Validated (apply w s) (e ∷ es) (model_commit t.number m).committed q x
          → OrOwnEntry t (Validated s es m.committed) q x
      validated q x (inl y) =
          or_else (eqb q.number t.number) (is_committed q.number m) y (λ d. inr (eqb-true q.number t.number d)) (λ d z. inl (inl z))
      validated q x (inr y) = inl (inr (validated_before h out q x y))

      fresh_put : (k : Key) (c : Change) → put_in k (held t) ≡ some c → FreshPut m.line (placing t) k
      fresh_put k c y =
          let x = put_entry k (held t) c y in
          record {
            entry = x.entry;
            member = x.member;
            key = x.key;
            fresh = fresh x.entry x.member c (ap (λ (j : Key). put_in j (held t)) x.key ∙ y);
          }

      consistent : ConsistentAt first (apply w s) (e ∷ es) (model_commit t.number m).line (model_commit t.number m).committed ps'
      consistent =
          commits
          (record {
            consistent = ready;
            member = position;
            in_doubt = inr refl;
            committing =
                record {
                  before = uncommitted f t a early;
                  after = or_left (eqb t.number t.number) (is_committed t.number m) (eq-eqb t.number t.number refl);
                  others = λ j d. let x : eqb j t.number ≡ false = ne_eqb j t.number d in rw x refl;
                };
            lines = λ k. ap (λ (c : Option Change). overwritten t.number c (m.line k)) (sets k);
            puts = fresh_put;
            fewer = λ q n y. inl (doubt_before h out y);
            known = λ q n y. known q (extends_back ext q n) (doubt_before h out y);
            validated = λ q n x j y. validated q x y;
          })

-- With puts, by its decision.
pub decides : {first : Key → Record} {s : Sheets} {es : List Event} {e : Event} {m : Model} {t : Transaction} {ps : List Placing} (p i v : ℕ)
    → Handover s (decide t.number Committed) es e m (model_commit t.number m) t (moved p i v t) → Ordered first s es m ps → t.phase ≡ 3
    → decision t.number s.coordinator ≡ Undecided → 4 ≤ p
    → Ordered first (apply (decide t.number Committed) s) (e ∷ es) (model_commit t.number m) ps
decides {first} {s} {es} {e} {m} {t} {ps} p i v h o ph u late =
    commits_kept p i v h o ps as_it_is (o.member t a lo hi) (omega (arith, ph)) late
    (weaker ps (λ q n x. or-own t (in_doubt s es t a lo hi u) q.number x) (λ q n x y. validated q x y) o.consistent)
    (λ x n c g. o.prepared_fresh t a hi u x n c (all-prepared (units_of s) t lo hi x.key ∙ g))
    (puts_elsewhere h.before (in_doubt s es t a lo hi u t.number refl))
  where
    a : Available t es
    a = h.available

    lo : 2 ≤ t.phase
    lo = omega (arith, ph)

    hi : t.phase ≤ 3
    hi = omega (arith, ph)

    validated : (q : Placing) (x : Entry) → OrOwnEntry t (Validated s es m.committed) q x → Validated s es m.committed q x
    validated q x (inl y) = y
    validated q x (inr y) = inr (record { doubt = in_doubt s es t a lo hi u q.number y; validated = inl ph })

-- Without puts.
module _ {first : Key → Record} {s : Sheets} {es : List Event} {e : Event} {m : Model} {t : Transaction} {ps : List Placing} (p i v : ℕ)
    (h : Handover s nothing es e m (model_commit t.number m) t (moved p i v t)) (o : Ordered first s es m ps) (late : 4 ≤ p)
    (no_puts : is_empty (puts t) ≡ true) where
  nothing_put : (k : Key) → put_in k (held t) ≡ none
  unfolding puts
  nothing_put k = put_in_empty k (held t) no_puts

  reads_kept : (ps' : List Placing) → Extends (placing t) ps ps' → Mem (placing t) ps' → t.phase ≤ 4 → ReadyAt first s es m t ps'
      → Ordered first (apply nothing s) (e ∷ es) (model_commit t.number m) ps'
  reads_kept ps' ext position early ready =
      commits_kept p i v h o ps' ext position early late ready
      (λ x n c g. absurd (none-ne-some c (sym (nothing_put x.key) ∙ g)))
      (λ n d k q. nothing_put k)

  -- from validate, where the last entry has been found unchanged
  pub reads_validated : t.phase ≡ 2 → ((x : Entry) → Mem x (held t) → ValidatedNow s t x)
      → Ordered first (apply nothing s) (e ∷ es) (model_commit t.number m) ps
  reads_validated ph all_valid =
      reads_kept ps as_it_is (o.member t a lo hi) (omega (arith, ph))
      (weaker ps (λ q n x. or-own t (in_doubt s es t a lo hi u) q.number x) (λ q n x y. y)
      (entries_validated h.before o t a ph u (OrOwnEntry t (Validated s es m.committed)) valid))
    where
      a : Available t es
      a = h.available

      lo : 2 ≤ t.phase
      lo = omega (arith, ph)

      hi : t.phase ≤ 3
      hi = omega (arith, ph)

      u : decision t.number s.coordinator ≡ Undecided
      u = o.calm t a hi no_puts

      valid : (q : Placing) → Mem q ps → (x : Entry) → Mem x q.entries → OrOwnEntry t (Validated s es m.committed) q x
          → OrHolds s es m.committed t q x
      valid q n x j (inl y) = inl y
      valid q n x j (inr d) = by (all_valid x (subst (λ (r : Placing). Mem x r.entries) (sym (own_position h.before o q n t a (sym d)).0) j))
        where
          by : ValidatedNow s t x → OrHolds s es m.committed t q x
          by (inl y) = inl (inr (record { doubt = in_doubt s es t a lo hi u q.number d; validated = y }))
          by (inr y) = inr (d, y)

  -- from open at once, if nothing was read: it gets its position by the same step
  pub reads_nothing : t.phase ≡ 0 → ((x : Entry) → Mem x (held t) → ⊥)
      → Ordered first (apply nothing s) (e ∷ es) (model_commit t.number m) (placing t ∷ ps)
  reads_nothing ph empty =
      reads_kept (placing t ∷ ps) one_placed here (omega (arith, ph))
      (enters ps (placing t) o.consistent new (uncommitted h.before t h.available (omega (arith, ph)))
      (λ q n x. doubt q n x) (λ q n x y. valid q n x y)
      (λ x n y. absurd (empty x n)) (λ x n y. absurd (empty x n)))
    where
      new : (q : Placing) → Mem q ps → t.number ≡ q.number → ⊥
      new = no_position_yet h.before o t h.available (omega (arith, ph))

      doubt : (q : Placing) → Mem q ps → OrOwn t (InDoubt s es) q.number → InDoubt s es q.number
      doubt q n (inl x) = x
      doubt q n (inr d) = absurd (new q n (sym d))

      valid : (q : Placing) → Mem q ps → (x : Entry) → OrOwnEntry t (Validated s es m.committed) q x → Validated s es m.committed q x
      valid q n x (inl y) = y
      valid q n x (inr d) = absurd (new q n (sym d))
