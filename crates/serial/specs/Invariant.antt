-- The invariant of the order of a history, beside recovery's: the order is consistent, no entry is newer than its line, what is prepared is fresh, and each
-- position belongs to an available state.
use Rattle.std.specs.Prelude.{◌≡◌, ◌≤◌, ◌&&◌, ◌||◌, ◌∷◌, ◌⊎◌}
use Rattle.std.proofs.Common.{◌∙◌}
use Rattle.lists.specs.Basics.{sym, ap, subst, ℕ, eqb, true, false, cond, and-false, List, [], length, take, Option, none, some}
use Rattle.lists.specs.Basics.{any}
use Rattle.lists.specs.Members.{Mem}
use Rattle.model.specs.Types.{Key, Record, Undecided, Entry, Transaction}
use Rattle.model.specs.Results.{returns}
use Rattle.model.specs.Coordinator.{Letter, Coordinator, decision}
use Rattle.model.specs.Groups.{is_lower}
use Rattle.model.specs.Images.{Change}
use Rattle.model.specs.Transactions.{open_phase, prepare_phase, validate_phase, decide_phase, done_phase, held, is_put, puts, to_validate, is_empty, is_serializable}
use Rattle.model.specs.Writes.{Sheets}
use Rattle.model.specs.Steps.{units_of}
use Rattle.model.specs.Histories.{Event, Available, taken}
use Rattle.model.specs.SequentialModel.{Model, is_committed}
use Rattle.model.specs.SerialOrder.{gets_position}
use Rattle.recovery.specs.Memory.{done_at}
use Rattle.serial.specs.Runs.{Placing, Fresh, NoNewer}
use Rattle.serial.specs.Order.{Consistent}
use Rattle.serial.specs.InDoubt.{Facts, InDoubt}

abbrev pub placing : Transaction → Placing
placing t = record { number = t.number; entries = held t }

-- the order, as serial_order has it by numbers: after a call that took the first and returned the second, and after events
abbrev pub placed_as : Option Transaction → Option Transaction → List Placing → List Placing
placed_as (some t) (some t') ps = cond (gets_position t t') (placing t ∷ ps) ps
placed_as (some t) none ps = ps
placed_as none u ps = ps

-- nobody gets a position by a call that returns a state in open, prepare or withdraw
pub unplaced : (t t' : Transaction) (ps : List Placing) (p : ℕ) → t'.phase ≡ p → (eqb p validate_phase || eqb p decide_phase) ≡ false
    → (eqb p validate_phase || eqb p done_phase) ≡ false → placed_as (some t) (some t') ps ≡ ps
unplaced t t' ps p e x y = rw (e, x, y, and-false (eqb t.phase prepare_phase), and-false (eqb t.phase open_phase && is_empty (puts t)))

unfoldable pub placings : List Event → List Placing
placings [] = []
placings (e ∷ es) = placed_as (taken e) (returns e.answer) (placings es)

-- an entry whose condition has held since the position was given: in decide every one, in validate the puts and those before the place
abbrev pub ValidatedIn : List Letter → Transaction → Entry → Type 0
ValidatedIn us t e = (t.phase ≡ decide_phase) ⊎ ((is_put e ≡ true) ⊎ Mem e (take t.place (to_validate us t)))

pub record ValidatedInDoubt (s : Sheets) (es : List Event) (p : Placing) (e : Entry) : Type 0 where
  pub doubt : InDoubt s es p.number
  pub validated : ValidatedIn (units_of s) doubt.state e

-- and every entry of a committed one
abbrev pub Validated : Sheets → List Event → List ℕ → Placing → Entry → Type 0
Validated s es committed p e = (any (eqb p.number) committed ≡ true) ⊎ ValidatedInDoubt s es p e

-- consistent with these lines and committed numbers
abbrev pub ConsistentAt : (Key → Record) → Sheets → List Event → (Key → Record) → List ℕ → List Placing → Type 0
ConsistentAt first s es line committed ps = Consistent first line (λ (n : ℕ). any (eqb n) committed) (InDoubt s es) (Validated s es committed) ps

-- the same order with a model of the same lines and committed numbers
pub same_model : {first : Key → Record} {s : Sheets} {es : List Event} {ps : List Placing} (m m' : Model) → m'.line ≡ m.line → m'.committed ≡ m.committed
    → ConsistentAt first s es m.line m.committed ps → ConsistentAt first s es m'.line m'.committed ps
same_model {first} {s} {es} {ps} m m' p q o =
    subst (λ (l : Key → Record). ConsistentAt first s es l m'.committed ps) (sym p)
    (subst (λ (c : List ℕ). ConsistentAt first s es m.line c ps) (sym q) o)

-- a placing and the state that has it now
pub record Holder (es : List Event) (p : Placing) : Type 0 where
  pub state : Transaction
  pub available : Available state es
  pub same : placing state ≡ p
  pub late : 2 ≤ state.phase

-- a number that has its position
pub record InOrder (n : ℕ) (ps : List Placing) : Type 0 where
  pub position : Placing
  pub member : Mem position ps
  pub number : position.number ≡ n

-- What is known of an available state.

-- none of its entries is newer than its line; where a storage can't be read consistently, columns may have been brought
abbrev pub Aged : List Letter → (Key → Record) → Transaction → Type 0
Aged us line t = (e : Entry) → Mem e (held t) → NoNewer (is_lower us e.key) line e

-- the entries of the keys that it has prepared are fresh, while its own line is `-`
abbrev pub PreparedFresh : List Letter → Coordinator → (Key → Record) → Transaction → Type 0
PreparedFresh us c line t =
    t.phase ≤ 3
    → decision t.number c ≡ Undecided
    → (e : Entry) → Mem e (held t) → (x : Change) → done_at us t e.key ≡ some x → Fresh line e

-- in validate and decide it has its position
abbrev pub HasPosition : List Placing → Transaction → Type 0
HasPosition ps t = 2 ≤ t.phase → t.phase ≤ 3 → Mem (placing t) ps

-- nobody aborts it up to decide if it has put nothing
abbrev pub Calm : Coordinator → Transaction → Type 0
Calm c t = t.phase ≤ 3 → is_empty (puts t) ≡ true → decision t.number c ≡ Undecided

pub record Ordered (first : Key → Record) (s : Sheets) (es : List Event) (m : Model) (ps : List Placing) : Type 0 where
  pub consistent : ConsistentAt first s es m.line m.committed ps
  pub aged : (t : Transaction) → Available t es → Aged (units_of s) m.line t
  pub prepared_fresh : (t : Transaction) → Available t es → PreparedFresh (units_of s) s.coordinator m.line t
  pub member : (t : Transaction) → Available t es → HasPosition ps t
  pub holder : (p : Placing) → Mem p ps → Holder es p
  pub calm : (t : Transaction) → Available t es → Calm s.coordinator t
  pub checked : (t : Transaction) → Available t es → is_serializable t ≡ true
  -- as begin gave it, it has room for eight entries
  pub room : (t : Transaction) → Available t es → length t.entries ≡ 8
  -- every committed number has its position
  pub placed : (n : ℕ) → is_committed n m ≡ true → InOrder n ps

module _ {first : Key → Record} {s : Sheets} {es : List Event} {m : Model} {ps : List Placing} (f : Facts s es m) (o : Ordered first s es m ps) where
  -- the position of a state is its own
  pub own_position : (p : Placing) → Mem p ps → (t : Transaction) → Available t es → t.number ≡ p.number → (placing t ≡ p) × (2 ≤ t.phase)
  own_position p n t a q =
      let h = o.holder p n in
      let e : t ≡ h.state = f.unique t h.state a h.available (q ∙ sym (ap (λ (x : Placing). x.number) h.same)) in
      (ap placing e ∙ h.same, subst (λ (x : Transaction). 2 ≤ x.phase) (sym e) h.late)

  -- entries of one in doubt are no newer than their lines
  pub aged_in_doubt : (p : Placing) → Mem p ps → InDoubt s es p.number → (e : Entry) → Mem e p.entries → NoNewer (is_lower (units_of s) e.key) m.line e
  aged_in_doubt p n x e i =
      o.aged x.state x.available e (subst (λ (y : Placing). Mem e y.entries) (sym (own_position p n x.state x.available x.number).0) i)
