-- Calls that commit nothing and return a state that is not in doubt: in open, in prepare, past decide, or aborted by a visitor. The order stays as it is, and who
-- is in doubt and what is validated afterwards was so before.
use Rattle.std.specs.Prelude.{◌≡◌, ◌≤◌, ◌∷◌}
use Rattle.std.proofs.Common.{◌∙◌}
use Rattle.lists.specs.Basics.{refl, sym, ap, subst, ℕ, eqb, true, false, true≢false, List, length, none, none-ne-some, inl, inr}
use Rattle.lists.specs.Basics.{arith, any}
use Rattle.lists.specs.Members.{Mem}
use Rattle.model.specs.Types.{Key, Record, Undecided, Aborted, Entry, Transaction}
use Rattle.model.specs.Coordinator.{decision}
use Rattle.model.specs.Transactions.{held, puts, is_empty, is_serializable, moved}
use Rattle.model.specs.Groups.{is_lower}
use Rattle.model.specs.Writes.{Sheets, Write, nothing, decisions_after, apply}
use Rattle.model.specs.Steps.{units_of}
use Rattle.model.specs.Histories.{Event}
use Rattle.model.specs.SequentialModel.{Model, overwritten}
use Rattle.recovery.specs.Settling.{undecided_aborted}
use Rattle.recovery.specs.Memory.{Away, undecided_kept}
use Rattle.recovery.specs.Stages.{done_in_open}
use Rattle.recovery.specs.Invariant.{open_unprepared}
use Rattle.serial.specs.Runs.{Placing, Fresh, NoNewer}
use Rattle.serial.specs.Order.{weaker}
use Rattle.serial.specs.Invariant.{placing, Validated, same_model, Aged, PreparedFresh, HasPosition, Calm, Ordered, own_position}
use Rattle.serial.specs.Handover.{Handover, doubt_before, validated_before, as_it_is, ordered_handover}

pub record OutOfDoubt (s : Sheets) (w : Write) (m : Model) (t t' : Transaction) (ps : List Placing) : Type 0 where
  pub out : 2 ≤ t'.phase → t'.phase ≤ 3 → decision t.number (apply w s).coordinator ≡ Undecided → ⊥
  pub aged : Aged (units_of s) m.line t'
  pub prepared_fresh : PreparedFresh (units_of s) (apply w s).coordinator m.line t'
  pub member : HasPosition ps t'
  pub position : 2 ≤ t.phase → (placing t' ≡ placing t) × (2 ≤ t'.phase)
  pub calm : Calm (apply w s).coordinator t'
  pub checked : is_serializable t' ≡ true
  pub room : length t'.entries ≡ 8

module _ {first : Key → Record} {s : Sheets} {w : Write} {es : List Event} {e : Event} {m m' : Model} {t t' : Transaction} {ps : List Placing} where
  pub quiet : Handover s w es e m m' t t' → Ordered first s es m ps
      → m'.line ≡ m.line → m'.committed ≡ m.committed → OutOfDoubt s w m t t' ps → Ordered first (apply w s) (e ∷ es) m' ps
  unfolding overwritten
  quiet h o lines committed q =
      ordered_handover h o
      (record {
        consistent = same_model m m' lines committed (weaker ps (λ p n x. doubt_before h q.out x) was_validated o.consistent);
        commits = λ k. none;
        lines = λ k. ap (λ (l : Key → Record). l k) lines;
        clear = λ u a d l v k c g. refl;
        aged = λ x n. subst (λ (l : Key → Record). NoNewer (is_lower (units_of s) x.key) l x) (sym lines) (q.aged x n);
        prepared_fresh = λ l v x n c g. subst (λ (k : Key → Record). Fresh k x) (sym lines) (q.prepared_fresh l v x n c g);
        member = q.member;
        own_position = λ p n z. let x = own_position h.before o p n t h.available z in let y = q.position x.1 in (y.0 ∙ x.0, y.1);
        calm = q.calm;
        checked = q.checked;
        room = q.room;
        extends = as_it_is;
        placed = λ n y. inl (ap (any (eqb n)) (sym committed) ∙ y);
      })
    where
      was_validated : (p : Placing) → Mem p ps → (x : Entry) → Validated (apply w s) (e ∷ es) m.committed p x → Validated s es m.committed p x
      was_validated p n x (inl c) = inl c
      was_validated p n x (inr c) = inr (validated_before h q.out p x c)

  -- In open, before and after: a read or a put.
  pub open_kept : Handover s w es e m m' t t' → Ordered first s es m ps → Away s t.number w → t.phase ≡ 0 → t'.phase ≡ 0 → m'.line ≡ m.line
      → m'.committed ≡ m.committed → is_serializable t' ≡ true → length t'.entries ≡ 8 → Aged (units_of s) m.line t'
      → Ordered first (apply w s) (e ∷ es) m' ps
  unfolding apply
  open_kept h o away ph ph' lines committed checked room aged =
      quiet h o lines committed
      (record {
        out = λ l i u. omega (arith, l, ph');
        aged = aged;
        prepared_fresh = λ l v x n c g. absurd (none-ne-some c (sym (done_in_open (units_of s) t' ph' x.key) ∙ g));
        member = λ l i. absurd (omega (arith, l, ph'));
        position = λ l. absurd (omega (arith, l, ph));
        calm = λ l z. let known = h.before.known t h.available in
            ap (λ (j : ℕ). decision j (decisions_after w s.coordinator)) h.number
            ∙ undecided_kept s t.number w away (open_unprepared s m t known ph) (known.open_undecided ph);
        checked = checked;
        room = room;
      })

-- Steps to another stage.
module _ {first : Key → Record} {s : Sheets} {es : List Event} {e : Event} {m : Model} {t : Transaction} {ps : List Placing} (p i v : ℕ) where
  -- past decide
  pub ended : {w : Write} {m' : Model} → Handover s w es e m m' t (moved p i v t) → Ordered first s es m ps → m' ≡ m → 4 ≤ p
      → Ordered first (apply w s) (e ∷ es) m' ps
  unfolding held
  ended h o q late =
      quiet h o (ap (λ (x : Model). x.line) q) (ap (λ (x : Model). x.committed) q)
      (record {
        out = λ l j u. omega (arith, late, j);
        aged = o.aged t h.available;
        prepared_fresh = λ l. absurd (omega (arith, late, l));
        member = λ l j. absurd (omega (arith, late, j));
        position = λ l. (refl, omega (arith, late));
        calm = λ l. absurd (omega (arith, late, l));
        checked = o.checked t h.available;
        room = o.room t h.available;
      })

  -- to prepare, or to its next group
  pub to_prepare : {w : Write} → Handover s w es e m m t (moved p i v t) → Ordered first s es m ps → t.phase ≤ 1 → p ≡ 1 → is_empty (puts t) ≡ false
      → PreparedFresh (units_of s) (apply w s).coordinator m.line (moved p i v t)
      → Ordered first (apply w s) (e ∷ es) m ps
  unfolding held puts
  to_prepare h o ph one some_put fresh =
      quiet h o refl refl
      (record {
        out = λ l j u. omega (arith, one, l);
        aged = o.aged t h.available;
        prepared_fresh = fresh;
        member = λ l j. absurd (omega (arith, one, l));
        position = λ l. absurd (omega (arith, ph, l));
        calm = λ l z. absurd (true≢false (sym z ∙ some_put));
        checked = o.checked t h.available;
        room = o.room t h.available;
      })

  -- on in validate or to decide with the own line ABORTED: it has its position, but may not commit any more
  pub aborted_goes_on : Handover s nothing es e m m t (moved p i v t) → Ordered first s es m ps → t.phase ≡ 2 → 2 ≤ p
      → decision t.number s.coordinator ≡ Aborted → Ordered first (apply nothing s) (e ∷ es) m ps
  unfolding held puts apply decisions_after
  aborted_goes_on h o ph lo u =
      quiet h o refl refl
      (record {
        out = λ l j z. undecided_aborted (sym z ∙ u);
        aged = o.aged t h.available;
        prepared_fresh = λ l z. absurd (undecided_aborted (sym z ∙ u));
        member = λ l j. o.member t h.available (omega (arith, ph)) (omega (arith, ph));
        position = λ l. (refl, lo);
        calm = λ l z. o.calm t h.available (omega (arith, ph)) z;
        checked = o.checked t h.available;
        room = o.room t h.available;
      })
