-- The invariant of a history: the sheets are good, the settled lines are the model's, and of every state that may be handed on it is remembered what it has
-- put and prepared; one such state for each number. A call keeps it if its own state and the states of others do.
use Rattle.std.specs.Prelude.{◌≡◌, ◌≤◌, ◌<◌, ◌||◌, ◌∷◌}
use Rattle.std.proofs.Common.{◌∙◌}
use Rattle.lists.specs.Basics.{refl, sym, ap, subst, ℕ, Bool, true, true≢false, List, length, none, some, none-ne-some}
use Rattle.lists.specs.Basics.{some-injective, inl, inr, arith, eqb-true, eq-eqb, or_else}
use Rattle.model.specs.Types.{Key, Undecided, Transaction}
use Rattle.model.specs.Results.{returns}
use Rattle.model.specs.Records.{line_of}
use Rattle.model.specs.Coordinator.{decision}
use Rattle.model.specs.Transactions.{held}
use Rattle.model.specs.Writes.{Sheets, Write, commit, decisions_after, apply, is_one_phase}
use Rattle.model.specs.WellFormed.{well_formed}
use Rattle.model.specs.Histories.{Event, taken, Available}
use Rattle.model.specs.SequentialModel.{Model}
use Rattle.call_laws.specs.Sheets.{GoodSheets}
use Rattle.call_laws.specs.Transactions.{well_formed-parts}
use Rattle.call_laws.specs.Keeping.{formed-after}
use Rattle.sheet_laws.specs.Coordinator.{bounds}
use Rattle.recovery.specs.Settling.{Gentle}
use Rattle.recovery.specs.View.{View, gentle_view}
use Rattle.recovery.specs.Counted.{one_after, Silent, silent_kept, Why, by_its_decision, by_one_phase, by_nothing, Effect, quiet, commits, gentle_one, Counted}
use Rattle.recovery.specs.Counted.{counted_taken, counted_free, counted_begun}
use Rattle.recovery.specs.Stages.{done_in_open}
use Rattle.recovery.specs.Memory.{put_in, prepared_change, Memory, Away, memory_kept, undecided_kept}

-- what is remembered of a state that may be handed on
pub record Remembered (s : Sheets) (m : Model) (t : Transaction) : Type 0 where
  pub formed : well_formed s t ≡ true
  -- its puts are the model's write set
  pub sets : (k : Key) → m.writes t.number k ≡ put_in k (held t)
  -- up to decide
  pub memory : t.phase ≤ 3 → Memory s t
  -- in open
  pub open_undecided : t.phase ≡ 0 → decision t.number s.coordinator ≡ Undecided

-- a number that has committed in one phase is silent for ever, and its state is done
pub record Finished (n : ℕ) (s : Sheets) (es : List Event) : Type 0 where
  pub silent : Silent n s
  pub done : (t : Transaction) → Available t es → t.number ≡ n → t.phase ≡ 7

pub record Inv (base : ℕ) (one : ℕ → Bool) (s : Sheets) (es : List Event) (m : Model) : Type 0 where
  pub good : GoodSheets s
  pub view : View s m
  pub known : (t : Transaction) → Available t es → Remembered s m t
  pub unique : (t u : Transaction) → Available t es → Available u es → t.number ≡ u.number → t ≡ u
  pub counted : Counted base one s es m
  pub finished : (n : ℕ) → one n ≡ true → Finished n s es

-- A call that takes the state t and returns the state t'.
pub record Moves (s : Sheets) (m : Model) (t : Transaction) (w : Write) (m' : Model) (t' : Transaction) : Type 0 where
  pub view : View (apply w s) m'
  pub number : t'.number ≡ t.number
  pub sets : (k : Key) → m'.writes t.number k ≡ put_in k (held t')
  pub memory : t'.phase ≤ 3 → Memory (apply w s) t'
  pub open_undecided : t'.phase ≡ 0 → decision t'.number (decisions_after w s.coordinator) ≡ Undecided
  -- others
  pub away : (j : ℕ) → (j ≡ t.number → ⊥) → Away s j w
  pub others : (j : ℕ) (k : Key) → (j ≡ t.number → ⊥) → m'.writes j k ≡ m.writes j k
  pub effect : Effect s m t w m' t'

-- the number of a state has a line
number_fits : (s : Sheets) → GoodSheets s → (t : Transaction) → well_formed s t ≡ true → (1 ≤ t.number) × (t.number ≤ s.coordinator.issued) × (s.coordinator.issued ≤ length s.coordinator.decisions)
number_fits s g t f =
    let b = (well_formed-parts s t f).0 in
    (b.number, b.known, (bounds s.coordinator g.decisions).issued)

-- in open nothing is prepared
pub open_unprepared : (s : Sheets) (m : Model) (t : Transaction) → Remembered s m t → t.phase ≡ 0 → (k : Key) → prepared_change t.number (line_of k s.lines) ≡ none
open_unprepared s m t r e k = (r.memory (omega (arith, e))).changes (r.open_undecided e) k ∙ done_in_open s.coordinator.units t e k

-- the state of another number
other_kept : (s : Sheets) (w : Write) (m m' : Model) (u : Transaction) → GoodSheets s → Away s u.number w → ((k : Key) → m'.writes u.number k ≡ m.writes u.number k) → Remembered s m u → Remembered (apply w s) m' u
unfolding apply
other_kept s w m m' u g a e r =
    let p = well_formed-parts s u r.formed in
    record {
      formed = formed-after s w u p.0 p.1;
      sets = λ k. e k ∙ r.sets k;
      memory = λ l. memory_kept s u w a (r.memory l);
      open_undecided = λ e. undecided_kept s u.number w a (open_unprepared s m u r e) (r.open_undecided e);
    }

pub inv_taken : {base : ℕ} {one : ℕ → Bool} (s : Sheets) (es : List Event) (m m' : Model) (t t' : Transaction) (w : Write) (e : Event) → Inv base one s es m → Available t es → taken e ≡ some t → returns e.answer ≡ some t' → t.phase ≤ 6 → GoodSheets (apply w s) → well_formed (apply w s) t' ≡ true → Moves s m t w m' t' → Inv base (one_after w one) (apply w s) (e ∷ es) m'
unfolding apply is_one_phase
inv_taken {base} {one} s es m m' t t' w e inv a tk rt live g f mv =
    record {
      good = g;
      view = mv.view;
      known = known;
      unique = unique;
      counted = counted_taken s es m m' t t' w e inv.counted a rt apart (number_fits s inv.good t (inv.known t a).formed) mv.others mv.number mv.effect;
      finished = finished;
    }
  where
    own : Remembered (apply w s) m' t'
    own =
        record {
          formed = f;
          sets = λ k. ap (λ (n : ℕ). m'.writes n k) mv.number ∙ mv.sets k;
          memory = mv.memory;
          open_undecided = mv.open_undecided;
        }

    -- a state that was not taken has another number
    apart : (u : Transaction) → (taken e ≡ some u → ⊥) → Available u es → u.number ≡ t.number → ⊥
    apart u n b q = n (tk ∙ ap some (sym (inv.unique u t b a q)))

    known : (u : Transaction) → Available u (e ∷ es) → Remembered (apply w s) m' u
    known u (inl q) = subst (Remembered (apply w s) m') (some-injective t' u (sym rt ∙ q)) own
    known u (inr b) =
        other_kept s w m m' u inv.good (mv.away u.number (apart u b.0 b.1))
        (λ k. mv.others u.number k (apart u b.0 b.1)) (inv.known u b.1)

    unique : (u v : Transaction) → Available u (e ∷ es) → Available v (e ∷ es) → u.number ≡ v.number → u ≡ v
    unique u v (inl p) (inl q) n = some-injective u v (sym p ∙ q)
    unique u v (inl p) (inr b) n =
        let x : t' ≡ u = some-injective t' u (sym rt ∙ p) in
        absurd (apart v b.0 b.1 (sym n ∙ (ap (λ (y : Transaction). y.number) (sym x) ∙ mv.number)))
    unique u v (inr b) (inl p) n =
        let x : t' ≡ v = some-injective t' v (sym rt ∙ p) in
        absurd (apart u b.0 b.1 (n ∙ (ap (λ (y : Transaction). y.number) (sym x) ∙ mv.number)))
    unique u v (inr b) (inr c) n = inv.unique u v b.1 c.1 n

    -- a number that has finished is not the one taken
    still : (n : ℕ) → one n ≡ true → Finished n (apply w s) (e ∷ es)
    still n h =
        record { silent = silent_kept n s w (mv.away n apart_n) (inv.finished n h).silent; done = done }
      where
        apart_n : n ≡ t.number → ⊥
        apart_n q = let p : t.phase ≡ 7 = (inv.finished n h).done t a (sym q) in omega (arith, live, p)

        done : (u : Transaction) → Available u (e ∷ es) → u.number ≡ n → u.phase ≡ 7
        done u (inl p) q =
            let x : t' ≡ u = some-injective t' u (sym rt ∙ p) in
            absurd (apart_n (sym q ∙ (ap (λ (y : Transaction). y.number) (sym x) ∙ mv.number)))
        done u (inr b) q = (inv.finished n h).done u b.1 q

    newly : (n : ℕ) → is_one_phase n w ≡ true → Effect s m t w m' t' → Finished n (apply w s) (e ∷ es)
    newly n h (quiet gentle c x) = absurd (true≢false (sym h ∙ gentle_one s w gentle n))
    newly n h (commits c late seven why) = by_why w why h seven
      where
        by_why : (w' : Write) → Why s m t.number w' → is_one_phase n w' ≡ true → (is_one_phase t.number w' ≡ true → t'.phase ≡ 7) → Finished n (apply w' s) (e ∷ es)
        by_why w' by_its_decision q z = absurd (true≢false (sym q))
        by_why w' (by_nothing k) q z = absurd (true≢false (sym q))
        by_why w' (by_one_phase gs aw si) q z =
            let p : n ≡ t.number = eqb-true n t.number q in
            subst (λ (i : ℕ). Finished i (apply w' s) (e ∷ es)) (sym p)
            (record { silent = silent_kept t.number s (commit t.number gs) aw si; done = λ u b r. own_done u b r (z (eq-eqb t.number t.number refl)) })
          where
            own_done : (u : Transaction) → Available u (e ∷ es) → u.number ≡ t.number → t'.phase ≡ 7 → u.phase ≡ 7
            own_done u (inl p) r y = subst (λ (x : Transaction). x.phase ≡ 7) (some-injective t' u (sym rt ∙ p)) y
            own_done u (inr b) r y = absurd (apart u b.0 b.1 r)

    finished : (n : ℕ) → one_after w one n ≡ true → Finished n (apply w s) (e ∷ es)
    finished n h = or_else (is_one_phase n w) (one n) h (λ q. newly n q mv.effect) (λ q k. still n k)

-- A call that neither takes nor returns a state.
pub inv_free : {base : ℕ} {one : ℕ → Bool} (s : Sheets) (es : List Event) (m : Model) (w : Write) (e : Event) → Inv base one s es m → returns e.answer ≡ none → GoodSheets (apply w s) → Gentle s w → ((j : ℕ) → Away s j w) → Inv base (one_after w one) (apply w s) (e ∷ es) m
inv_free {base} {one} s es m w e inv rt g v a =
    record {
      good = g;
      view = gentle_view s m w inv.good v inv.view;
      known = known;
      unique = unique;
      counted = counted_free s es m w e inv.counted rt v;
      finished = finished;
    }
  where
    before : (u : Transaction) → Available u (e ∷ es) → Available u es
    before u (inl q) = absurd (none-ne-some u (sym rt ∙ q))
    before u (inr b) = b.1

    known : (u : Transaction) → Available u (e ∷ es) → Remembered (apply w s) m u
    known u b = other_kept s w m m u inv.good (a u.number) (λ k. refl) (inv.known u (before u b))

    unique : (u x : Transaction) → Available u (e ∷ es) → Available x (e ∷ es) → u.number ≡ x.number → u ≡ x
    unique u x b c n = inv.unique u x (before u b) (before x c) n

    finished : (n : ℕ) → one_after w one n ≡ true → Finished n (apply w s) (e ∷ es)
    finished n h =
        let o : one n ≡ true = ap (λ (b : Bool). b || one n) (sym (gentle_one s w v n)) ∙ h in
        record { silent = silent_kept n s w (a n) (inv.finished n o).silent; done = λ u b q. (inv.finished n o).done u (before u b) q }

-- A call that returns the state of a new number.
pub inv_begun : {base : ℕ} {one : ℕ → Bool} (s : Sheets) (es : List Event) (m m' : Model) (t' : Transaction) (w : Write) (e : Event) → Inv base one s es m → s.coordinator.issued < t'.number → returns e.answer ≡ some t' → GoodSheets (apply w s) → Gentle s w → View (apply w s) m' → ((j : ℕ) → Away s j w) → ((j : ℕ) (k : Key) → (j ≡ t'.number → ⊥) → m'.writes j k ≡ m.writes j k) → m'.committed ≡ m.committed → Remembered (apply w s) m' t' → Inv base (one_after w one) (apply w s) (e ∷ es) m'
inv_begun {base} {one} s es m m' t' w e inv new rt g gentle v a o c own =
    record {
      good = g;
      view = v;
      known = known;
      unique = unique;
      counted = counted_begun s es m m' t' w e inv.counted new rt gentle o c;
      finished = finished;
    }
  where
    apart : (u : Transaction) → Available u es → u.number ≡ t'.number → ⊥
    apart u b q =
        let k : u.number ≤ s.coordinator.issued = (well_formed-parts s u (inv.known u b).formed).0.known in
        omega (arith, k, q, new)

    known : (u : Transaction) → Available u (e ∷ es) → Remembered (apply w s) m' u
    known u (inl q) = subst (Remembered (apply w s) m') (some-injective t' u (sym rt ∙ q)) own
    known u (inr b) = other_kept s w m m' u inv.good (a u.number) (λ k. o u.number k (apart u b.1)) (inv.known u b.1)

    unique : (u x : Transaction) → Available u (e ∷ es) → Available x (e ∷ es) → u.number ≡ x.number → u ≡ x
    unique u x (inl p) (inl q) n = some-injective u x (sym p ∙ q)
    unique u x (inl p) (inr b) n =
        let y : t' ≡ u = some-injective t' u (sym rt ∙ p) in
        absurd (apart x b.1 (sym n ∙ ap (λ (z : Transaction). z.number) (sym y)))
    unique u x (inr b) (inl p) n =
        let y : t' ≡ x = some-injective t' x (sym rt ∙ p) in
        absurd (apart u b.1 (n ∙ ap (λ (z : Transaction). z.number) (sym y)))
    unique u x (inr b) (inr c) n = inv.unique u x b.1 c.1 n

    finished : (n : ℕ) → one_after w one n ≡ true → Finished n (apply w s) (e ∷ es)
    finished n h =
        record { silent = silent_kept n s w (a n) (inv.finished n q).silent; done = done }
      where
        q : one n ≡ true
        q = ap (λ (b : Bool). b || one n) (sym (gentle_one s w gentle n)) ∙ h

        done : (u : Transaction) → Available u (e ∷ es) → u.number ≡ n → u.phase ≡ 7
        done u (inl p) r =
            let x : t' ≡ u = some-injective t' u (sym rt ∙ p) in
            let k : n ≤ s.coordinator.issued = inv.counted.bound n (inv.counted.one_phased n q) in
            let y : t'.number ≡ n = ap (λ (z : Transaction). z.number) x ∙ r in
            absurd (omega (arith, k, y, new))
        done u (inr b) r = (inv.finished n q).done u b.1 r
