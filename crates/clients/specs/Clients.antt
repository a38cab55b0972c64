-- Clients that keep their transactions in lists make a legal history. Whatever was done, each transaction held is available or unused, no two hold one number,
-- and no number held is above the issued count. So a call takes an available one, what it returns stands where that stood, and begin gives a number that
-- nobody holds.
use Rattle.std.specs.Prelude.{◌≡◌, ◌^◌, ◌≤◌, ◌<◌, ◌∷◌, ◌⊎◌}
use Rattle.std.proofs.Common.{◌∙◌}
use Rattle.lists.specs.Basics.{refl, sym, ap, subst, ℕ, zero, suc, eqb, ltb, Bool, true, false, cond, List, [], none, some}
use Rattle.lists.specs.Basics.{none-ne-some, some-injective, inl, inr, arith, eqb-true, eqb-false, eq-eqb, ltb-true, all, and_fst, and_snd}
use Rattle.lists.specs.Basics.{choose_by}
use Rattle.model.specs.Types.{Transaction, Request}
use Rattle.types.specs.declared.Request.TheVariants as asked
use Rattle.model.specs.Coordinator.{Coordinator}
use Rattle.model.specs.Writes.{Sheets}
use Rattle.model.specs.Results.{Call, begin, visit, add, remove, Answer, turned_away, returned, answered, visited, reported, acknowledged, Response, answer_of}
use Rattle.model.specs.Operations.{once, stands_for, sheets_left}
use Rattle.model.specs.Requests.{operation_of}
use Rattle.model.specs.CallByPlace.{named, call_at, response_at, response_at_on, list_after}
use Rattle.model.specs.Histories.{Event, given, taken_by, taken, Available, ClockFits, Permitted}
use Rattle.model.specs.ByteHistories.{Bytes, saying, Passing}
use Rattle.model.specs.Turns.{Turn, single, by_place, turn_call, turn_response, turn_after, turn_response_on, turn_event_on, turn_after_on, turns_left, LegalTurns}
use Rattle.model.specs.Clients.{Act, asks, loses, visits, begins, adds, removes, World, unused, Unused, with_list, turns_in, lists_after, world_after, turns_of, clock_asked, clock_fits}
use Rattle.call_laws.specs.Keeping.{issued_grows}
use Rattle.call_laws.specs.Lifting.{on_passing}
use Rattle.call_laws.specs.ByPlace.{left_with, others_stay}
use Rattle.clients.specs.Handed.{Handed, stays, begun, moves, place_hands, left_at_place}
use Rattle.turns.specs.Turns.{turn-keeps, turn_stays_passing}

-- a place in a client's list
record Slot : Type 0 where
  client : ℕ
  place : ℕ

abbrev held_in : (ℕ → List Transaction) → Slot → Transaction
held_in lists x = named (lists x.client) x.place

same_or_not : (x y : Slot) → (x ≡ y) ⊎ (x ≡ y → ⊥)
same_or_not x y = go (eqb x.client y.client) (eqb x.place y.place) refl refl
  where
    go : (a b : Bool) → eqb x.client y.client ≡ a → eqb x.place y.place ≡ b → (x ≡ y) ⊎ (x ≡ y → ⊥)
    go true true e f = inl (λ i. record { client = eqb-true x.client y.client e i; place = eqb-true x.place y.place f i })
    go true false e f = inr (λ q. eqb-false x.place y.place f (ap (λ (z : Slot). z.place) q))
    go false b e f = inr (λ q. eqb-false x.client y.client e (ap (λ (z : Slot). z.client) q))

-- What holds of the lists after any acts, by the numbers issued and the events so far.
record Kept (lists : ℕ → List Transaction) (issued : ℕ) (es : List Event) : Type 0 where
  available : (x : Slot) → 1 ≤ (held_in lists x).number → Available (held_in lists x) es
  alone : (x y : Slot) → 1 ≤ (held_in lists x).number → (held_in lists x).number ≡ (held_in lists y).number → x ≡ y
  known : (x : Slot) → (held_in lists x).number ≤ issued

-- Lists that differ in one slot only, where they now hold t.
record Replaced (lists lists' : ℕ → List Transaction) (x : Slot) (t : Transaction) : Type 0 where
  own : held_in lists' x ≡ t
  others : (y : Slot) → (y ≡ x → ⊥) → held_in lists' y ≡ held_in lists y

by_slot : {lists lists' : ℕ → List Transaction} {x : Slot} {t : Transaction} (P : Slot → Transaction → Type 0)
    → Replaced lists lists' x t → P x t → ((y : Slot) → (y ≡ x → ⊥) → P y (held_in lists y)) → (y : Slot) → P y (held_in lists' y)
by_slot {lists} {lists'} {x} {t} P r p f y = go (same_or_not y x)
  where
    go : (y ≡ x) ⊎ (y ≡ x → ⊥) → P y (held_in lists' y)
    go (inl e) = subst (λ (z : Slot). P z (held_in lists' z)) (sym e) (subst (P x) (sym r.own) p)
    go (inr d) = subst (P y) (sym (r.others y d)) (f y d)

-- What an event owes by which a slot comes to hold t: t is available, under a number that no other slot holds, and no other slot's was taken.
record Enters (lists : ℕ → List Transaction) (issued : ℕ) (es : List Event) (e : Event) (x : Slot) (t : Transaction) : Type 0 where
  here : 1 ≤ t.number → Available t (e ∷ es)
  untaken : (y : Slot) → (y ≡ x → ⊥) → 1 ≤ (held_in lists y).number → taken e ≡ some (held_in lists y) → ⊥
  differs : (y : Slot) → (y ≡ x → ⊥) → 1 ≤ (held_in lists y).number → (held_in lists y).number ≡ t.number → ⊥
  bound : t.number ≤ issued

kept_replaced : {lists lists' : ℕ → List Transaction} {issued issued' : ℕ} {es : List Event} {e : Event} {x : Slot} {t : Transaction}
    → Kept lists issued es → issued ≤ issued' → Replaced lists lists' x t → Enters lists issued' es e x t → Kept lists' issued' (e ∷ es)
kept_replaced {lists} {lists'} {issued} {issued'} {es} {e} {x} {t} k grows r n =
    record {
      available = by_slot (λ (y : Slot) (u : Transaction). 1 ≤ u.number → Available u (e ∷ es)) r n.here (λ y d l. inr (n.untaken y d l, k.available y l));
      alone = by_slot (λ (y : Slot) (u : Transaction). (z : Slot) → 1 ≤ u.number → u.number ≡ (held_in lists' z).number → y ≡ z) r own_alone other_alone;
      known = by_slot (λ (y : Slot) (u : Transaction). u.number ≤ issued') r n.bound
          (λ y d. let l : (held_in lists y).number ≤ issued = k.known y in omega arith);
    }
  where
    own_alone : (z : Slot) → 1 ≤ t.number → t.number ≡ (held_in lists' z).number → x ≡ z
    own_alone =
        by_slot (λ (z : Slot) (v : Transaction). 1 ≤ t.number → t.number ≡ v.number → x ≡ z) r (λ l q. refl)
        (λ z d l q. absurd (n.differs z d (subst (λ (m : ℕ). 1 ≤ m) q l) (sym q)))

    other_alone : (y : Slot) → (y ≡ x → ⊥) → (z : Slot) → 1 ≤ (held_in lists y).number → (held_in lists y).number ≡ (held_in lists' z).number → y ≡ z
    other_alone y d =
        by_slot (λ (z : Slot) (v : Transaction). 1 ≤ (held_in lists y).number → (held_in lists y).number ≡ v.number → y ≡ z) r
        (λ l q. absurd (n.differs y d l q)) (λ z d' l q. k.alone y z l q)

-- no list changes and nothing is taken
kept_same : {lists : ℕ → List Transaction} {issued issued' : ℕ} {es : List Event} (e : Event)
    → Kept lists issued es → issued ≤ issued' → taken e ≡ none → Kept lists issued' (e ∷ es)
kept_same {lists} {issued} {issued'} e k grows z =
    record {
      available = λ x l. inr (λ q. none-ne-some _ (sym z ∙ q), k.available x l);
      alone = k.alone;
      known = λ x. let l : (held_in lists x).number ≤ issued = k.known x in omega arith;
    }

-- each slot holds what it held, or an unused one
kept_lost : {lists lists' : ℕ → List Transaction} {issued : ℕ} {es : List Event}
    → Kept lists issued es → ((x : Slot) → ((held_in lists' x).number ≡ 0) ⊎ (held_in lists' x ≡ held_in lists x)) → Kept lists' issued es
kept_lost {lists} {lists'} {issued} {es} k h = record { available = available; alone = alone; known = known }
  where
    by_loss : (P : Transaction → Type 0) (x : Slot) → ((held_in lists' x).number ≡ 0 → P (held_in lists' x)) → P (held_in lists x) → P (held_in lists' x)
    by_loss P x a b = go (h x)
      where
        go : ((held_in lists' x).number ≡ 0) ⊎ (held_in lists' x ≡ held_in lists x) → P (held_in lists' x)
        go (inl z) = a z
        go (inr q) = subst P (sym q) b

    available : (x : Slot) → 1 ≤ (held_in lists' x).number → Available (held_in lists' x) es
    available x = by_loss (λ (u : Transaction). 1 ≤ u.number → Available u es) x (λ z l. absurd (omega (arith, z, l))) (k.available x)

    alone : (x y : Slot) → 1 ≤ (held_in lists' x).number → (held_in lists' x).number ≡ (held_in lists' y).number → x ≡ y
    alone x y =
        by_loss (λ (u : Transaction). 1 ≤ u.number → u.number ≡ (held_in lists' y).number → x ≡ y) x (λ z l q. absurd (omega (arith, z, l)))
        (by_loss (λ (v : Transaction). 1 ≤ (held_in lists x).number → (held_in lists x).number ≡ v.number → x ≡ y) y
        (λ z l q. absurd (omega (arith, z, l, q))) (k.alone x y))

    known : (x : Slot) → (held_in lists' x).number ≤ issued
    known x = by_loss (λ (u : Transaction). u.number ≤ issued) x (λ z. omega (arith, z)) (k.known x)

-- An act of a client: a call on the transaction at a place of its list, by what it takes and leaves.
module _ (lists : ℕ → List Transaction) (client place : ℕ) (q : Request) (s : Sheets) (es : List Event) (k : Kept lists s.coordinator.issued es) where
  abbrev list : List Transaction
  list = lists client

  abbrev slot : Slot
  slot = record { client = client; place = place }

  abbrev event_of : Response Answer Sheets → Event
  event_of r = record { call = call_at list place q; answer = answer_of r }

  abbrev Hands : Response Answer Sheets → Type 0
  Hands r = Handed (call_at list place q) (named list place) s r

  replaced : (r : Response Answer Sheets) (t : Transaction) → named (list_after list place r) place ≡ t
      → Replaced lists (with_list client (list_after list place r) lists) slot t
  replaced r t left =
      record {
        own = ap (λ (b : Bool). named (cond b (list_after list place r) list) place) (eq-eqb client client refl) ∙ left;
        others = λ y d. choose_by (λ (l : List Transaction). named l y.place ≡ held_in lists y) (eqb y.client client)
            (λ e. let c : y.client ≡ client = eqb-true y.client client e in
            others_stay list place y.place (λ p. d (λ i. record { client = c i; place = p i })) r
            ∙ ap (λ (j : ℕ). named (lists j) y.place) (sym c))
            (λ e. refl);
      }

  asks_kept : (r : Response Answer Sheets) → s.coordinator.issued ≤ (sheets_left s r).coordinator.issued → Hands r → named (list_after list place r) place ≡ left_with (named list place) r
      → Kept (with_list client (list_after list place r) lists) (sheets_left s r).coordinator.issued (event_of r ∷ es)
  asks_kept r grows (stays z e) left =
      let known : (named list place).number ≤ s.coordinator.issued = k.known slot in
      kept_replaced k grows (replaced r (named list place) (left ∙ e))
      (record {
        here = λ l. inr (λ p. none-ne-some _ (sym z ∙ p), k.available slot l);
        untaken = λ y d l p. none-ne-some _ (sym z ∙ p);
        differs = λ y d l p. d (k.alone y slot l p);
        bound = omega arith;
      })
  asks_kept r grows (begun z e new bound) left =
      kept_replaced k grows (replaced r (left_with (named list place) r) left)
      (record {
        here = λ l. inl e;
        untaken = λ y d l p. none-ne-some _ (sym z ∙ p);
        differs = λ y d l p. let known : (held_in lists y).number ≤ s.coordinator.issued = k.known y in omega (arith, known, p, new);
        bound = bound;
      })
  asks_kept r grows (moves z formed e n) left =
      let known : (named list place).number ≤ s.coordinator.issued = k.known slot in
      kept_replaced k grows (replaced r (left_with (named list place) r) left)
      (record {
        here = λ l. inl e;
        untaken = λ y d l p. let t : named list place ≡ held_in lists y = some-injective (named list place) (held_in lists y) (sym z ∙ p) in
            d (k.alone y slot l (ap (λ (u : Transaction). u.number) (sym t)));
        differs = λ y d l p. d (k.alone y slot l (p ∙ n));
        bound = omega (arith, n, known, grows);
      })

  -- what is taken is available
  asks_state : (r : Response Answer Sheets) → Hands r → (t : Transaction) → taken_by (call_at list place q) (answer_of r) ≡ some t → Available t es
  asks_state r (stays z e) t p = absurd (none-ne-some t (sym z ∙ p))
  asks_state r (begun z e new bound) t p = absurd (none-ne-some t (sym z ∙ p))
  asks_state r (moves z formed e n) t p =
      subst (λ (u : Transaction). Available u es) (some-injective (named list place) t (sym z ∙ p)) (k.available slot formed)

-- a client that begins again holds nothing
pub unused-number : (size place : ℕ) → (named (unused size) place).number ≡ 0
unused-number zero place = refl
unused-number (suc n) zero = refl
unused-number (suc n) (suc i) = unused-number n i

lost : (lists : ℕ → List Transaction) (client size : ℕ) (x : Slot)
    → ((held_in (with_list client (unused size) lists) x).number ≡ 0) ⊎ (held_in (with_list client (unused size) lists) x ≡ held_in lists x)
lost lists client size x =
    choose_by (λ (l : List Transaction). ((named l x.place).number ≡ 0) ⊎ (named l x.place ≡ held_in lists x)) (eqb x.client client)
    (λ e. inl (unused-number size x.place))
    (λ e. inr refl)

-- The clock, and the issued count.

asked-fits : (q : Request) (t : Transaction) → clock_asked q < 2 ^ 32 → ClockFits (stands_for (operation_of q t))
unfolding clock_asked operation_of stands_for
asked-fits (asked.Begin b) t l = tt
asked-fits (asked.Read k now) t l = l
asked-fits (asked.Second k now c) t l = l
asked-fits (asked.Put k c) t l = tt
asked-fits (asked.Advance now) t l = l
asked-fits asked.Abort t l = tt
asked-fits (asked.Visit k now) t l = l
asked-fits (asked.Close now limit) t l = l

turn-issued : (x : Turn) (s : Sheets) → s.coordinator.issued ≤ (turn_after x s).coordinator.issued
turn-issued x s =
    turn-keeps (λ (c : Coordinator). s.coordinator.issued ≤ c.issued) (λ w c l. let g = issued_grows w c in omega (arith, g, l)) x s (omega arith)

abbrev issued_in : Bytes → ℕ
issued_in b = (saying b).coordinator.issued

-- a call that takes nothing, by anyone
module _ (c : Call) (b : Bytes) (es : List Event) (p : Passing b) (fits : ClockFits c) (none-given : given c ≡ none) where
  takes_none : (a : Answer) → taken_by c a ≡ none
  takes_none (turned_away n) = refl
  takes_none (returned t) = none-given
  takes_none (answered v t) = none-given
  takes_none (visited v) = none-given
  takes_none (reported n t) = none-given
  takes_none acknowledged = none-given

  abbrev free : Turn
  free = single (once c)

  free_permitted : Permitted (turn_event_on free b).call (turn_event_on free b).answer es
  unfolding turn_event_on turn_call stands_for
  free_permitted = record { clock = fits; state = λ t e. absurd (none-ne-some t (sym (takes_none (turn_event_on free b).answer) ∙ e)) }

  free_kept : (lists : ℕ → List Transaction) → Kept lists (issued_in b) es
      → Passing (turn_after_on free b) × Kept lists (issued_in (turn_after_on free b)) (turn_event_on free b ∷ es)
  unfolding turn_event_on turn_call stands_for
  free_kept lists k =
      let q = turn_stays_passing free b fits p in
      let grows : issued_in b ≤ issued_in (turn_after_on free b) =
      subst (λ (s : Sheets). issued_in b ≤ s.coordinator.issued) (sym q.0) (turn-issued free (saying b)) in
      (q.1, kept_same (turn_event_on free b) k grows (takes_none (turn_event_on free b).answer))

  -- and whatever is legal after it
  free_legal : (lists : ℕ → List Transaction) → Kept lists (issued_in b) es → (xs : List Turn)
      → (Passing (turn_after_on free b) → Kept lists (issued_in (turn_after_on free b)) (turn_event_on free b ∷ es) → LegalTurns turn_after_on turn_event_on xs (turn_after_on free b) (turn_event_on free b ∷ es))
      → LegalTurns turn_after_on turn_event_on (free ∷ xs) b es
  free_legal lists k xs f = let n = free_kept lists k in (free_permitted, f n.0 n.1)

-- a call by place
module _ (lists : ℕ → List Transaction) (client place : ℕ) (q : Request) (b : Bytes) (es : List Event)
    (p : Passing b) (fits : clock_asked q < 2 ^ 32) (k : Kept lists (issued_in b) es) where
  abbrev turn : Turn
  turn = by_place (lists client) place q

  abbrev response_in : Response Answer Sheets
  response_in = response_at_on (lists client) place q b.records b.coordinator

  said : response_in ≡ response_at (lists client) place q (saying b)
  unfolding response_at_on
  said = on_passing b (response_at (lists client) place q) p

  place_permitted : Permitted (turn_event_on turn b).call (turn_event_on turn b).answer es
  unfolding turn_event_on turn_call turn_response_on
  place_permitted =
      subst (λ (r : Response Answer Sheets). Permitted (call_at (lists client) place q) (answer_of r) es) (sym said)
      (record {
        clock = asked-fits q (named (lists client) place) fits;
        state = asks_state lists client place q (saying b) es k (response_at (lists client) place q (saying b)) (place_hands (lists client) place q (saying b));
      })

  abbrev KeptBy : Response Answer Sheets → ℕ → Type 0
  KeptBy r issued = Kept (with_list client (list_after (lists client) place r) lists) issued (event_of lists client place q (saying b) es k r ∷ es)

  place_kept : Passing (turn_after_on turn b)
      × Kept (with_list client (list_after (lists client) place response_in) lists) (issued_in (turn_after_on turn b)) (turn_event_on turn b ∷ es)
  unfolding turn_event_on turn_call turn_response_on turn_after turn_response
  place_kept =
      let c = turn_stays_passing turn b (asked-fits q (named (lists client) place) fits) p in
      let r = response_at (lists client) place q (saying b) in
      let kept : KeptBy r (sheets_left (saying b) r).coordinator.issued =
      asks_kept lists client place q (saying b) es k r (turn-issued turn (saying b)) (place_hands (lists client) place q (saying b)) (left_at_place (lists client) place q (saying b)) in (
        c.1,
        subst (λ (s : Sheets). KeptBy response_in s.coordinator.issued) (sym c.0)
            (subst (λ (x : Response Answer Sheets). KeptBy x (sheets_left (saying b) r).coordinator.issued) (sym said) kept),
      )

-- The history.

legal_from : (acts : List Act) (w : World) (es : List Event) → Passing w.bytes → Kept w.lists (issued_in w.bytes) es → all clock_fits acts ≡ true
    → LegalTurns turn_after_on turn_event_on (turns_of acts w) w.bytes es
unfolding turns_of turns_in world_after lists_after turns_left all clock_fits given
legal_from [] w es p k f = tt
legal_from (asks client place q ∷ acts) w es p k f =
    let l : clock_asked q < 2 ^ 32 = ltb-true (clock_asked q) (2 ^ 32) (and_fst (ltb (clock_asked q) (2 ^ 32)) (all clock_fits acts) f) in
    let n = place_kept w.lists client place q w.bytes es p l k in (
      place_permitted w.lists client place q w.bytes es p l k,
      legal_from acts (world_after (asks client place q) w) (turn_event_on (by_place (w.lists client) place q) w.bytes ∷ es) n.0 n.1
          (and_snd (ltb (clock_asked q) (2 ^ 32)) (all clock_fits acts) f),
    )
legal_from (loses client size ∷ acts) w es p k f = legal_from acts (world_after (loses client size) w) es p (kept_lost k (lost w.lists client size)) f
legal_from (visits key now ∷ acts) w es p k f =
    let l : now < 2 ^ 32 = ltb-true now (2 ^ 32) (and_fst (ltb now (2 ^ 32)) (all clock_fits acts) f) in
    free_legal (visit key now) w.bytes es p l refl w.lists k (turns_of acts (world_after (visits key now) w))
    (λ q k'. legal_from acts (world_after (visits key now) w) _ q k' (and_snd (ltb now (2 ^ 32)) (all clock_fits acts) f))
legal_from (begins b ∷ acts) w es p k f =
    free_legal (begin b) w.bytes es p tt refl w.lists k (turns_of acts (world_after (begins b) w)) (λ q k'. legal_from acts (world_after (begins b) w) _ q k' f)
legal_from (adds key ∷ acts) w es p k f =
    free_legal (add key) w.bytes es p tt refl w.lists k (turns_of acts (world_after (adds key) w)) (λ q k'. legal_from acts (world_after (adds key) w) _ q k' f)
legal_from (removes key ∷ acts) w es p k f =
    free_legal (remove key) w.bytes es p tt refl w.lists k (turns_of acts (world_after (removes key) w)) (λ q k'. legal_from acts (world_after (removes key) w) _ q k' f)

pub clients_legal : (acts : List Act) (w : World) → Passing w.bytes → Unused w.lists → all clock_fits acts ≡ true
    → LegalTurns turn_after_on turn_event_on (turns_of acts w) w.bytes []
clients_legal acts w p u f = legal_from acts w [] p first f
  where
    nothing : (x : Slot) → (held_in w.lists x).number ≡ 0
    nothing x = u x.client x.place

    first : Kept w.lists (issued_in w.bytes) []
    first =
        record {
          available = λ x l. absurd (omega (arith, nothing x, l));
          alone = λ x y l e. absurd (omega (arith, nothing x, l));
          known = λ x. omega (arith, nothing x);
        }
