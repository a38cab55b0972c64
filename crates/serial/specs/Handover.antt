-- A call that takes a state and returns another keeps the invariant of the order, once its own case is shown: the states of other numbers are as they were, and
-- its write keeps what is remembered of them.
use Rattle.std.specs.Prelude.{◌≡◌, ◌≤◌, ◌∷◌, ◌⊎◌}
use Rattle.std.proofs.Common.{◌∙◌}
use Rattle.lists.specs.Basics.{refl, sym, ap, subst, ℕ, eqb, Bool, true, false, List, length, Option, none, some, some-injective}
use Rattle.lists.specs.Basics.{inl, inr, eqb-true, eqb-false}
use Rattle.lists.specs.Members.{Mem, here, there}
use Rattle.model.specs.Types.{Key, Record, Undecided, Entry, Transaction}
use Rattle.model.specs.Results.{returns}
use Rattle.model.specs.Coordinator.{Letter, decision}
use Rattle.model.specs.Images.{Change}
use Rattle.model.specs.Transactions.{held, puts, is_empty, is_serializable}
use Rattle.model.specs.Writes.{Sheets, Write, apply}
use Rattle.model.specs.Steps.{units_of}
use Rattle.model.specs.Histories.{Event, Available, taken}
use Rattle.model.specs.SequentialModel.{Model, overwritten, is_committed}
use Rattle.call_laws.specs.Keeping.{units_kept}
use Rattle.recovery.specs.Memory.{done_at, Away, away_stood, abort_undecided, undecided_kept}
use Rattle.recovery.specs.OwnWrites.{no_put}
use Rattle.recovery.specs.Puts.{put_in_empty}
use Rattle.serial.specs.Runs.{Placing, overwritten-none, sight_in, Fresh, no_newer_after}
use Rattle.serial.specs.InDoubt.{Facts, InDoubt}
use Rattle.serial.specs.Invariant.{placing, ValidatedIn, ValidatedInDoubt, ConsistentAt, Holder, InOrder, Aged, PreparedFresh, HasPosition, Calm, Ordered}

-- a number that is undecided after a write away from it was so before
pub stood_undecided : (s : Sheets) (w : Write) (j : ℕ) → Away s j w → decision j (apply w s).coordinator ≡ Undecided
    → decision j s.coordinator ≡ Undecided
unfolding apply
stood_undecided s w j a u = away_stood Undecided s j w (λ i x. abort_undecided s.coordinator i j x) a u

-- a write leaves the letters, and so what is done, what is validated and what is no newer

pub same_done : (s : Sheets) (w : Write) (t : Transaction) (k : Key) → done_at (units_of s) t k ≡ done_at (units_of (apply w s)) t k
unfolding apply
same_done s w t k = ap (λ (us : List Letter). done_at us t k) (sym (units_kept w s.coordinator))

pub same_validated : (s : Sheets) (w : Write) (t : Transaction) (x : Entry) → ValidatedIn (units_of (apply w s)) t x → ValidatedIn (units_of s) t x
unfolding apply
same_validated s w t x = subst (λ (us : List Letter). ValidatedIn us t x) (units_kept w s.coordinator)

pub same_aged : (s : Sheets) (w : Write) (line : Key → Record) (t : Transaction) → Aged (units_of s) line t → Aged (units_of (apply w s)) line t
unfolding apply
same_aged s w line t = subst (λ (us : List Letter). Aged us line t) (sym (units_kept w s.coordinator))

-- nobody aborts a state without puts, since it has prepared nothing
pub calm_kept : {first : Key → Record} {s : Sheets} {es : List Event} {m : Model} {ps : List Placing} → Facts s es m → Ordered first s es m ps
    → (w : Write) (t : Transaction) → Available t es → Away s t.number w → t.phase ≤ 3 → is_empty (puts t) ≡ true
    → decision t.number (apply w s).coordinator ≡ Undecided
unfolding apply done_at puts
calm_kept {s = s} f o w t a away l z =
    undecided_kept s t.number w away
    (λ k. ((f.known t a).memory l).changes (o.calm t a l z) k ∙ no_put (units_of s) t _ k (put_in_empty k (held t) z))
    (o.calm t a l z)

-- the call: the state t is taken and t' returned, with the write w
pub record Handover (s : Sheets) (w : Write) (es : List Event) (e : Event) (m m' : Model) (t t' : Transaction) : Type 0 where
  pub before : Facts s es m
  pub after : Facts (apply w s) (e ∷ es) m'
  pub available : Available t es
  pub takes : taken e ≡ some t
  pub gives : returns e.answer ≡ some t'
  pub number : t'.number ≡ t.number
  pub away : (j : ℕ) → (j ≡ t.number → ⊥) → Away s j w

module _ {s : Sheets} {w : Write} {es : List Event} {e : Event} {m m' : Model} {t t' : Transaction} (h : Handover s w es e m m' t t') where
  pub now_available : Available t' (e ∷ es)
  now_available = inl h.gives

  -- the states of other numbers
  pub was_available : (u : Transaction) → Available u (e ∷ es) → (u.number ≡ t.number → ⊥) → Available u es
  was_available u (inl q) d = absurd (d (ap (λ (x : Transaction). x.number) (some-injective u t' (sym q ∙ h.gives)) ∙ h.number))
  was_available u (inr b) d = b.1

  pub still_available : (u : Transaction) → Available u es → (u.number ≡ t.number → ⊥) → Available u (e ∷ es)
  still_available u a d = inr (λ q. d (ap (λ (x : Transaction). x.number) (some-injective u t (sym q ∙ h.takes))), a)

  -- and of this one
  pub own_state : (u : Transaction) → Available u (e ∷ es) → u.number ≡ t.number → u ≡ t'
  own_state u b d = h.after.unique u t' b now_available (d ∙ sym h.number)

  -- a fact about every state, from the fact about the one returned and about those of other numbers
  pub by_number : (P : Transaction → Type 0) (u : Transaction) → Available u (e ∷ es) → P t' → (Available u es → (u.number ≡ t.number → ⊥) → P u) → P u
  by_number P u b f g = go (eqb u.number t.number) refl
    where
      go : (c : Bool) → eqb u.number t.number ≡ c → P u
      go true q = subst P (sym (own_state u b (eqb-true u.number t.number q))) f
      go false q = let d = eqb-false u.number t.number q in g (was_available u b d) d

  -- another in doubt was so before
  unfoldable pub was_in_doubt : {n : ℕ} → InDoubt (apply w s) (e ∷ es) n → (n ≡ t.number → ⊥) → InDoubt s es n
  was_in_doubt x d =
      record {
        state = x.state;
        available = was_available x.state x.available (λ q. d (sym x.number ∙ q));
        number = x.number;
        from = x.from;
        to = x.to;
        undecided = stood_undecided s w _ (h.away _ d) x.undecided;
      }

  -- If the state that is returned is not in doubt, all in doubt and all that is validated was so before.
  module _ (out : 2 ≤ t'.phase → t'.phase ≤ 3 → decision t.number (apply w s).coordinator ≡ Undecided → ⊥) where
    pub doubt_before : {n : ℕ} → InDoubt (apply w s) (e ∷ es) n → InDoubt s es n
    doubt_before x = was_in_doubt x (λ q. own x q (own_state x.state x.available (x.number ∙ q)))
      where
        own : {n : ℕ} (x : InDoubt (apply w s) (e ∷ es) n) → n ≡ t.number → x.state ≡ t' → ⊥
        own x q y =
            out (subst (λ (u : Transaction). 2 ≤ u.phase) y x.from) (subst (λ (u : Transaction). u.phase ≤ 3) y x.to)
            (ap (λ (j : ℕ). decision j (apply w s).coordinator) (sym q) ∙ x.undecided)

    pub validated_before : (q : Placing) (x : Entry) → ValidatedInDoubt (apply w s) (e ∷ es) q x → ValidatedInDoubt s es q x
    unfolding was_in_doubt doubt_before
    validated_before q x y = record { doubt = doubt_before y.doubt; validated = same_validated s w y.doubt.state x y.validated }

-- the order as it is, or with one more at its end
pub data Extends (p : Placing) (ps : List Placing) : List Placing → Type 0 where
  as_it_is : Extends p ps ps
  one_placed : Extends p ps (p ∷ ps)

pub extends_more : {p : Placing} {ps ps' : List Placing} → Extends p ps ps' → (q : Placing) → Mem q ps → Mem q ps'
extends_more as_it_is q n = n
extends_more one_placed q n = there n

pub extends_back : {p : Placing} {ps ps' : List Placing} → Extends p ps ps' → (q : Placing) → Mem q ps' → Mem q ps ⊎ (q ≡ p)
extends_back as_it_is q n = inl n
extends_back one_placed q here = inr refl
extends_back one_placed q (there n) = inl n

-- What is owed for the state that is returned.
pub record OwnCase (first : Key → Record) (s : Sheets) (w : Write) (es : List Event) (e : Event) (m m' : Model) (t t' : Transaction)
    (ps ps' : List Placing) : Type 0 where
  pub consistent : ConsistentAt first (apply w s) (e ∷ es) m'.line m'.committed ps'
  -- what the call commits to the line of a key: nothing where another has prepared
  pub commits : Key → Option Change
  pub lines : (k : Key) → m'.line k ≡ overwritten t.number (commits k) (m.line k)
  pub clear : (u : Transaction) → Available u es → (u.number ≡ t.number → ⊥) → u.phase ≤ 3 → decision u.number s.coordinator ≡ Undecided
      → (k : Key) (c : Change) → done_at (units_of s) u k ≡ some c → commits k ≡ none
  pub aged : Aged (units_of s) m'.line t'
  pub prepared_fresh : PreparedFresh (units_of s) (apply w s).coordinator m'.line t'
  pub member : HasPosition ps' t'
  -- a position of its number is its own
  pub own_position : (p : Placing) → Mem p ps' → t.number ≡ p.number → (placing t' ≡ p) × (2 ≤ t'.phase)
  pub calm : Calm (apply w s).coordinator t'
  pub checked : is_serializable t' ≡ true
  pub room : length t'.entries ≡ 8
  pub extends : Extends (placing t) ps ps'
  pub placed : (n : ℕ) → is_committed n m' ≡ true → (is_committed n m ≡ true) ⊎ InOrder n ps'

pub ordered_handover : {first : Key → Record} {s : Sheets} {w : Write} {es : List Event} {e : Event} {m m' : Model} {t t' : Transaction} {ps ps' : List Placing}
    → Handover s w es e m m' t t' → Ordered first s es m ps → OwnCase first s w es e m m' t t' ps ps' → Ordered first (apply w s) (e ∷ es) m' ps'
ordered_handover {first} {s} {w} {es} {e} {m} {m'} {t} {t'} {ps} {ps'} h o c =
    record {
      consistent = c.consistent;
      aged = λ u b. same_aged s w m'.line u
          (by_number h (Aged (units_of s) m'.line) u b c.aged
          (λ a d y n. no_newer_after m.line m'.line y t.number _ (c.commits y.key) (c.lines y.key) (o.aged u a y n)));
      prepared_fresh = λ u b. by_number h (PreparedFresh (units_of (apply w s)) (apply w s).coordinator m'.line) u b
          (λ l v y n z g. c.prepared_fresh l v y n z (same_done s w t' y.key ∙ g))
          (λ a d l v y n z g. fresh_kept u a d l (stood_undecided s w u.number (h.away u.number d) v) y n z (same_done s w u y.key ∙ g));
      member = λ u b. by_number h (HasPosition ps') u b c.member
          (λ a d l i. extends_more c.extends (placing u) (o.member u a l i));
      holder = λ p n. held_by p n (eqb t.number p.number) refl;
      calm = λ u b. by_number h (Calm (apply w s).coordinator) u b c.calm
          (λ a d l z. calm_kept h.before o w u a (h.away u.number d) l z);
      checked = λ u b. by_number h (λ (x : Transaction). is_serializable x ≡ true) u b c.checked (λ a d. o.checked u a);
      room = λ u b. by_number h (λ (x : Transaction). length x.entries ≡ 8) u b c.room (λ a d. o.room u a);
      placed = λ n q. in_order_lem n (c.placed n q);
    }
  where
    fresh_kept : (u : Transaction) → Available u es → (u.number ≡ t.number → ⊥) → u.phase ≤ 3 → decision u.number s.coordinator ≡ Undecided
        → (y : Entry) → Mem y (held u) → (z : Change) → done_at (units_of s) u y.key ≡ some z → Fresh m'.line y
    fresh_kept u a d l v y n z g =
        o.prepared_fresh u a l v y n z g
        ∙ ap sight_in
        (sym (c.lines y.key ∙ overwritten-none t.number (c.commits y.key) (m.line y.key) (c.clear u a d l v y.key z g)))

    held_by : (p : Placing) → Mem p ps' → (b : Bool) → eqb t.number p.number ≡ b → Holder (e ∷ es) p
    held_by p n true q =
        let x = c.own_position p n (eqb-true t.number p.number q) in
        record { state = t'; available = now_available h; same = x.0; late = x.1 }
    held_by p n false q = other (extends_back c.extends p n)
      where
        other : Mem p ps ⊎ (p ≡ placing t) → Holder (e ∷ es) p
        other (inl i) =
            let x = o.holder p i in
            record {
              state = x.state;
              available = still_available h x.state x.available
                  (λ z. eqb-false t.number p.number q (sym z ∙ ap (λ (y : Placing). y.number) x.same));
              same = x.same;
              late = x.late;
            }
        other (inr i) = absurd (eqb-false t.number p.number q (ap (λ (y : Placing). y.number) (sym i)))

    in_order_lem : (n : ℕ) → (is_committed n m ≡ true) ⊎ InOrder n ps' → InOrder n ps'
    in_order_lem n (inl q) =
        let x = o.placed n q in
        record { position = x.position; member = extends_more c.extends x.position x.member; number = x.number }
    in_order_lem n (inr x) = x
