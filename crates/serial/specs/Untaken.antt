-- A call that takes no state keeps the invariant of the order: its write is away from every number, and a state that it returns is new and holds nothing.
use Rattle.std.specs.Prelude.{◌≡◌, ◌≤◌, ◌<◌, ◌∷◌}
use Rattle.std.proofs.Common.{◌∙◌}
use Rattle.lists.specs.Basics.{sym, ap, subst, ℕ, eqb, true, List, [], length, none, some, none-ne-some, inl, inr, arith, any}
use Rattle.lists.specs.Members.{Mem}
use Rattle.model.specs.Types.{Key, Record, Undecided, Entry, Transaction}
use Rattle.model.specs.Results.{returns}
use Rattle.model.specs.Records.{line_of}
use Rattle.model.specs.Coordinator.{decision}
use Rattle.model.specs.Transactions.{held, is_empty, is_serializable}
use Rattle.model.specs.Groups.{is_lower}
use Rattle.model.specs.Steps.{units_of}
use Rattle.model.specs.Writes.{Sheets, Write, apply}
use Rattle.model.specs.Histories.{Event, Available, taken}
use Rattle.model.specs.SequentialModel.{Model}
use Rattle.call_laws.specs.Sheets.{GoodSheets}
use Rattle.recovery.specs.View.{own_txid}
use Rattle.recovery.specs.Memory.{other_owner, Away, undecided_kept}
use Rattle.recovery.specs.Calls.{above_undecided}
use Rattle.serial.specs.Runs.{Placing, Fresh, NoNewer}
use Rattle.serial.specs.Order.{weaker}
use Rattle.serial.specs.Entries.{none_in}
use Rattle.serial.specs.InDoubt.{Facts, InDoubt}
use Rattle.serial.specs.Invariant.{Validated, same_model, Ordered}
use Rattle.serial.specs.Handover.{stood_undecided, same_done, same_validated, same_aged, calm_kept}

-- the state of a new number, as begin gives it
pub record New (s : Sheets) (t : Transaction) : Type 0 where
  pub number : s.coordinator.issued < t.number
  pub in_open : t.phase ≡ 0
  pub empty : held t ≡ []
  pub checked : is_serializable t ≡ true
  pub room : length t.entries ≡ 8

pub record Untaken (s : Sheets) (w : Write) (es : List Event) (e : Event) (m m' : Model) : Type 0 where
  pub before : Facts s es m
  pub away : (j : ℕ) → Away s j w
  pub takes : taken e ≡ none
  pub gives : (t : Transaction) → returns e.answer ≡ some t → New s t
  pub lines : m'.line ≡ m.line
  pub committed : m'.committed ≡ m.committed

pub still_there : {s : Sheets} {w : Write} {es : List Event} {e : Event} {m m' : Model} → Untaken s w es e m m' → (t : Transaction) → Available t es
    → Available t (e ∷ es)
still_there u t a = inr (λ q. none-ne-some t (sym u.takes ∙ q), a)

-- nobody has prepared a line under a new number, and so nobody aborts it
new_undecided : (s : Sheets) → GoodSheets s → (w : Write) (n : ℕ) → Away s n w → s.coordinator.issued < n → decision n (apply w s).coordinator ≡ Undecided
unfolding apply
new_undecided s g w n a l =
    undecided_kept s n w a
    (λ k. let x : (line_of k s.lines).image.txid ≤ s.coordinator.issued = own_txid s g k in
    other_owner n (line_of k s.lines) (λ q. omega (arith, x, q, l)))
    (above_undecided s.coordinator g.decisions n l)

pub ordered_untaken : {first : Key → Record} {s : Sheets} {w : Write} {es : List Event} {e : Event} {m m' : Model} {ps : List Placing} → Untaken s w es e m m'
    → Ordered first s es m ps → Ordered first (apply w s) (e ∷ es) m' ps
ordered_untaken {first} {s} {w} {es} {e} {m} {m'} {ps} u o =
    record {
      consistent = same_model m m' u.lines u.committed (weaker ps (λ q n x. was_in_doubt x) was_validated o.consistent);
      aged = λ t b. same_aged s w m'.line t
          (λ x n. subst (λ (l : Key → Record). NoNewer (is_lower (units_of s) x.key) l x) (sym u.lines) (by t b (λ a. o.aged t a x n) (λ c. absurd (holds-none c x n))));
      prepared_fresh = λ t b l v x n c d. subst (λ (k : Key → Record). Fresh k x) (sym u.lines)
          (by t b (λ a. o.prepared_fresh t a l (stood t v) x n c (same_done s w t x.key ∙ d)) (λ z. absurd (holds-none z x n)));
      member = λ t b l i. by t b (λ a. o.member t a l i) (λ c. let q = c.in_open in absurd (omega (arith, l, q)));
      holder = λ p n. let h = o.holder p n in record { state = h.state; available = still_there u h.state h.available; same = h.same; late = h.late };
      calm = λ t b l z. by t b (λ a. calm_kept u.before o w t a (u.away t.number) l z)
          (λ c. new_undecided s u.before.good w t.number (u.away t.number) c.number);
      checked = λ t b. by t b (o.checked t) (λ c. c.checked);
      room = λ t b. by t b (o.room t) (λ c. c.room);
      placed = λ n c. o.placed n (ap (any (eqb n)) (sym u.committed) ∙ c);
    }
  where
    by : {P : Type 0} (t : Transaction) → Available t (e ∷ es) → (Available t es → P) → (New s t → P) → P
    by t (inl q) f g = g (u.gives t q)
    by t (inr b) f g = f b.1

    stood : (t : Transaction) → decision t.number (apply w s).coordinator ≡ Undecided → decision t.number s.coordinator ≡ Undecided
    stood t v = stood_undecided s w t.number (u.away t.number) v

    holds-none : {t : Transaction} → New s t → (x : Entry) → Mem x (held t) → ⊥
    holds-none {t} c x n = none_in (held t) n (ap is_empty c.empty)

    was_in_doubt : {n : ℕ} → InDoubt (apply w s) (e ∷ es) n → InDoubt s es n
    was_in_doubt x =
        record {
          state = x.state;
          available = by x.state x.available (λ a. a) (λ c. let l = x.from in let q = c.in_open in absurd (omega (arith, l, q)));
          number = x.number;
          from = x.from;
          to = x.to;
          undecided = stood_undecided s w _ (u.away _) x.undecided;
        }

    was_validated : (q : Placing) → Mem q ps → (x : Entry) → Validated (apply w s) (e ∷ es) m.committed q x → Validated s es m.committed q x
    was_validated q n x (inl c) = inl c
    was_validated q n x (inr c) = inr (record { doubt = was_in_doubt c.doubt; validated = same_validated s w c.doubt.state x c.validated })
