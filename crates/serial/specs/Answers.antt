-- What reads answered: of every read that gave a value, in one call or by the second of two, the transaction still holds what it then had as first read, since
-- calls add entries and put to them, and none takes an entry away or changes what it has as first read.
use Rattle.std.specs.Prelude.{◌≡◌, ◌∷◌}
use Rattle.std.proofs.Common.{◌∙◌}
use Rattle.lists.specs.Basics.{refl, sym, subst, eqb, Bool, true, false, List, [], eqb-true, eqb-false}
use Rattle.lists.specs.Members.{Mem, here, there}
use Rattle.model.specs.Types.{Key, Transaction, Reading}
use Rattle.model.specs.Transactions.{held, reading}
use Rattle.serial.specs.Runs.{sight_of}
use Rattle.model.specs.Writes.{Sheets, Write}
use Rattle.model.specs.Results.{Call, begin, read, second, put, advance, abort, visit, add, remove, Answer, turned_away, returned, answered, visited, reported, acknowledged}
use Rattle.model.specs.Conditions.{is_new, held_entry}
use Rattle.model.specs.Histories.{Event, Available}
use Rattle.model.specs.SequentialModel.{Model}
use Rattle.model.specs.SerialOrder.{counts_as_read}
use Rattle.serial.specs.Handover.{Handover, now_available, still_available}
use Rattle.serial.specs.Untaken.{Untaken, still_there}
use Rattle.serial.specs.Holding.{Seen, HoldsOn, held_entry_lem}

-- a state of the same number holds now what t' then had for the key
pub record StillHolds (es : List Event) (t' : Transaction) (k : Key) : Type 0 where
  pub state : Transaction
  pub available : Available state es
  pub number : state.number ≡ t'.number
  pub seen : Seen k (sight_of (held_entry k t')) (held state)

-- the read of the key by t answered v and returned t'
pub record ReadHeld (es : List Event) (t : Transaction) (k : Key) (v : Reading) (t' : Transaction) : Type 0 where
  pub number : t'.number ≡ t.number
  pub answer : v ≡ reading (held_entry k t')
  pub holds : StillHolds es t' k

-- of a read that gave a value
abbrev pub ToldRead : List Event → Transaction → Key → Answer → Type 0
ToldRead es t k (turned_away n) = Unit {0}
ToldRead es t k (returned t') = Unit {0}
ToldRead es t k (answered v t') = counts_as_read v ≡ true → ReadHeld es t k v t'
ToldRead es t k (visited v) = Unit {0}
ToldRead es t k (reported n t') = Unit {0}
ToldRead es t k acknowledged = Unit {0}

abbrev pub Told : List Event → Call → Answer → Type 0
Told es (begin b) a = Unit {0}
Told es (read t k now) a = ToldRead es t k a
Told es (second t k now c) a = ToldRead es t k a
Told es (put t k c) a = Unit {0}
Told es (advance t now) a = Unit {0}
Told es (abort t) a = Unit {0}
Told es (visit k now) a = Unit {0}
Told es (add k) a = Unit {0}
Told es (remove k) a = Unit {0}

-- of each call made
abbrev pub EachTold : List Event → List Event → Type 0
EachTold es [] = Unit {0}
EachTold es (x ∷ xs) = Told es x.call x.answer × EachTold es xs

pub told_of_lem : (es : List Event) {x : Event} (xs : List Event) → Mem x xs → EachTold es xs → Told es x.call x.answer
told_of_lem es (x ∷ xs) here h = h.0
told_of_lem es (x ∷ xs) (there n) h = told_of_lem es xs n h.1
told_of_lem es [] x3 h = elim x3 [ ]

-- Later events.
module _ (es es' : List Event) (still : (t' : Transaction) (k : Key) → StillHolds es t' k → StillHolds es' t' k) where
  read_later : (t : Transaction) (k : Key) (a : Answer) → ToldRead es t k a → ToldRead es' t k a
  read_later t k (turned_away n) h = tt
  read_later t k (returned t') h = tt
  read_later t k (answered v t') h = λ d. let r = h d in record { number = r.number; answer = r.answer; holds = still t' k r.holds }
  read_later t k (visited v) h = tt
  read_later t k (reported n t') h = tt
  read_later t k acknowledged h = tt

  told_later : (c : Call) (a : Answer) → Told es c a → Told es' c a
  told_later (begin b) a h = tt
  told_later (read t k now) a h = read_later t k a h
  told_later (second t k now c) a h = read_later t k a h
  told_later (put t k c) a h = tt
  told_later (advance t now) a h = tt
  told_later (abort t) a h = tt
  told_later (visit k now) a h = tt
  told_later (add k) a h = tt
  told_later (remove k) a h = tt

  each_later : (xs : List Event) → EachTold es xs → EachTold es' xs
  each_later [] h = tt
  each_later (x ∷ xs) h = (told_later x.call x.answer h.0, each_later xs h.1)

-- A call that takes no state, and one that returns a state that holds what the one taken held.

pub told_untaken : {s : Sheets} {w : Write} {es : List Event} {e : Event} {m m' : Model} → Untaken s w es e m m' → Told (e ∷ es) e.call e.answer
    → EachTold es es → EachTold (e ∷ es) (e ∷ es)
told_untaken {es = es} {e = e} u new h = (new, each_later es (e ∷ es) still es h)
  where
    still : (t' : Transaction) (k : Key) → StillHolds es t' k → StillHolds (e ∷ es) t' k
    still t' k x = record { state = x.state; available = still_there u x.state x.available; number = x.number; seen = x.seen }

pub told_handover : {s : Sheets} {w : Write} {es : List Event} {e : Event} {m m' : Model} {t t' : Transaction} → Handover s w es e m m' t t' → HoldsOn t t'
    → Told (e ∷ es) e.call e.answer → EachTold es es → EachTold (e ∷ es) (e ∷ es)
told_handover {es = es} {e = e} {t = t} {t' = t'} h on new told =
    (new, each_later es (e ∷ es) (λ u k x. still u k x (eqb x.state.number t.number) refl) es told)
  where
    still : (u : Transaction) (k : Key) (x : StillHolds es u k) (b : Bool) → eqb x.state.number t.number ≡ b → StillHolds (e ∷ es) u k
    still u k x true q =
        let d : x.state.number ≡ t.number = eqb-true x.state.number t.number q in
        let same : x.state ≡ t = h.before.unique x.state t x.available h.available d in
        let y = x.seen in
        let z = on y.entry (subst (λ (r : Transaction). Mem y.entry (held r)) same y.member) in
        record {
          state = t';
          available = now_available h;
          number = h.number ∙ (sym d ∙ x.number);
          seen = record { entry = z.entry; member = z.member; key = z.key ∙ y.key; first_read = z.first_read ∙ y.first_read };
        }
    still u k x false q =
        record {
          state = x.state;
          available = still_available h x.state x.available (eqb-false x.state.number t.number q);
          number = x.number;
          seen = x.seen;
        }

-- a read that answers the entry that the state returned has for the key
pub read_told : {s : Sheets} {w : Write} {es : List Event} {e : Event} {m m' : Model} {t t' : Transaction} → Handover s w es e m m' t t' → (k : Key)
    → is_new k t' ≡ false → (v : Reading) → v ≡ reading (held_entry k t') → ReadHeld (e ∷ es) t k v t'
read_told {t' = t'} h k old v q =
    let x = held_entry_lem k t' old in
    record {
      number = h.number;
      answer = q;
      holds =
          record {
            state = t';
            available = now_available h;
            number = refl;
            seen = record { entry = held_entry k t'; member = x.0; key = x.1; first_read = refl };
          };
    }
