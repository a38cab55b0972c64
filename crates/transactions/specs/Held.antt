-- The entries in use, one by one: how far a loop over them has come, and what one turn of it does, for each kind of question that a loop answers.
use Rattle.std.specs.Prelude.{◌≡◌, ◌+◌, ◌≤◌, ◌<◌, ◌||◌, ◌∷◌}
use Rattle.std.proofs.Common.{◌∙◌}
use Rattle.lists.specs.Basics.{refl, sym, ap, ℕ, suc, ltb, Bool, true, false, not, cond, List, [], map, length, take}
use Rattle.lists.specs.Basics.{drop, get_or, length-map, length-take, drop_of_length-le, get_or-map, get_or-take, arith, lt-ltb, all, any, filter}
use Rattle.lists.specs.Basics.{choose_by}
use Rattle.std.proofs.Math.Seq.{length-take-le}
use mir.Val.{Val}
use denote.Laws.{Is}
use denote.Struct.Declared.{row}
use Rattle.lists.specs.All.{get_or_any}
use Rattle.types.specs.contracts.Transaction.{the_type}
use Rattle.lists.specs.Walks.{drop_here}
use Rattle.model.specs.Types.{Key, Some, Entry, Transaction}
use Rattle.model.specs.Records.{same_key}
use Rattle.model.specs.Transactions.{held, held_at, is_empty, no_entry}
use Rattle.sheet_laws.specs.Search.{first_at}

-- a transaction has room for eight entries: what owning one tells of its seventh field
eight : (t : Transaction) {vs : List Val} → Is (row the_type) t vs → length t.entries ≡ 8
eight t p = p.1.1.1.1.1.1.1.1.0.1.0.1

abbrev pub entry_at : Transaction → ℕ → Entry
entry_at t i = get_or t.entries i no_entry

-- the entries after entry i
abbrev pub after : Transaction → ℕ → List Entry
after t i = drop (i + 1) (held t)

-- As many are in use as the count says, each at its index.

pub has_room_lem : (t : Transaction) {vs : List Val} → Is (row the_type) t vs → t.count ≤ 8 → t.count ≤ length t.entries
has_room_lem t p l = let n = eight t p in omega arith

module _ (t : Transaction) (room : t.count ≤ length t.entries) {A : Type 0} (f : Entry → A) where
  pub length_mapped : length (map f (held t)) ≡ t.count
  unfolding held
  length_mapped = length-map (held t) f ∙ length-take-le t.count t.entries room

  pub mapped_at : (i : ℕ) (d : A) → i < t.count → get_or (map f (held t)) i d ≡ f (entry_at t i)
  unfolding held
  mapped_at i d l =
      let n = length_mapped in
      get_or_any (map f (held t)) i d (f no_entry) (omega arith)
      ∙ (get_or-map f (held t) i no_entry ∙ ap f (get_or-take t.count t.entries i no_entry l))

-- Entries lent as those in use: as many as the count says, each at its index.
module _ (t : Transaction) (room : t.count ≤ length t.entries) (es : List Entry) (same : es ≡ held t) where
  pub lent_many : length es ≡ t.count
  unfolding held
  lent_many = ap length same ∙ length-take-le t.count t.entries room

  pub lent_at : (i : ℕ) → i < length es → get_or es i no_entry ≡ entry_at t i
  unfolding held
  lent_at i l =
      let n = lent_many in ap (λ (xs : List Entry). get_or xs i no_entry) same ∙ get_or-take t.count t.entries i no_entry (omega arith)

-- f of the entries from i on is what was to be computed, w
pub record PassedTo {A : Type 0} (t : Transaction) (f : List Entry → A) (w : A) (i : ℕ) : Type 0 where
  pub reached : i ≤ t.count
  pub room : t.count ≤ length t.entries
  pub rest : f (drop i (held t)) ≡ w

module _ {A : Type 0} (t : Transaction) (f : List Entry → A) where
  pub pass-from : (i : ℕ) {vs : List Val} → Is (row the_type) t vs → t.count ≤ 8 → i ≤ t.count → PassedTo t f (f (drop i (held t))) i
  pass-from i p l m = record { reached = m; room = has_room_lem t p l; rest = refl }

  pub pass-first : {vs : List Val} → Is (row the_type) t vs → t.count ≤ 8 → PassedTo t f (f (held t)) 0
  pass-first p l = pass-from 0 p l (omega arith)

  -- entry i and those after it
  pub pass-here : (w : A) (i : ℕ) → i < t.count → PassedTo t f w i → f (entry_at t i ∷ after t i) ≡ w
  unfolding held
  pass-here w i l p =
      let m : t.count ≤ length t.entries = p.room in
      let n : i < length (take t.count t.entries) = simp length-take (omega arith) in
      sym (ap f (drop_here (held t) i no_entry (entry_at t i) n (sym (get_or-take t.count t.entries i no_entry l)))) ∙ p.rest

  -- past entry i, where f of a list that begins with it is g of the rest
  pub pass_next : (g : List Entry → A) (w : A) (i : ℕ) → i < t.count → PassedTo t f w i → f (entry_at t i ∷ after t i) ≡ g (after t i) → PassedTo t g w (i + 1)
  pass_next g w i l p e = record { reached = omega arith; room = p.room; rest = sym e ∙ pass-here w i l p }

  pub pass_last : (w : A) (i : ℕ) → t.count ≤ i → PassedTo t f w i → f [] ≡ w
  unfolding held
  pass_last w i l p =
      let n : length (take t.count t.entries) ≤ i = simp length-take (omega arith) in
      ap f (sym (drop_of_length-le (held t) n)) ∙ p.rest

-- an index that was found is one of the entries in use
pub held_below : (t : Transaction) (k : Key) (i : ℕ) → held_at k t ≡ Some i → i < t.count
unfolding held_at held
held_below t k i e =
    let x = first_at (λ (y : Entry). same_key y.key k) (held t) no_entry i e in
    omega (arith, x.within, length-take t.count t.entries)

-- how many entries pass a test that may look at the entries after them
unfoldable pub tallied : (Entry → List Entry → Bool) → List Entry → ℕ
tallied q [] = 0
tallied q (e ∷ es) = cond (q e es) (suc (tallied q es)) (tallied q es)

pub tallied-few : (q : Entry → List Entry → Bool) (es : List Entry) → tallied q es ≤ length es
unfolding tallied
tallied-few q [] = omega arith
tallied-few q (e ∷ es) =
    let l = tallied-few q es in
    choose_by (λ (n : ℕ). n ≤ suc (length es)) (q e es) (λ h. omega (arith, l)) (λ h. omega (arith, l))

-- What a filter keeps: whether anything, and how much.
some_more : (b r : Bool) (e : Entry) (es : List Entry) → r ≡ not (is_empty es) → (b || r) ≡ not (is_empty (cond b (e ∷ es) es))
some_more true r e es h = refl
some_more false r e es h = h

one_more : (b : Bool) (n : ℕ) (e : Entry) (es : List Entry) → n ≡ length es → cond b (suc n) n ≡ length (cond b (e ∷ es) es)
one_more true n e es h = ap suc h
one_more false n e es h = h

module _ (q : Entry → Bool) where
  pub some_kept : (es : List Entry) → any q es ≡ not (is_empty (filter q es))
  unfolding any filter
  some_kept [] = refl
  some_kept (e ∷ es) = some_more (q e) (any q es) e (filter q es) (some_kept es)

  pub tallied_kept : (es : List Entry) → tallied (λ (e : Entry) (r : List Entry). q e) es ≡ length (filter q es)
  unfolding tallied filter
  tallied_kept [] = refl
  tallied_kept (e ∷ es) = one_more (q e) (tallied (λ (x : Entry) (r : List Entry). q x) es) e (filter q es) (tallied_kept es)

-- something is kept exactly if more than nothing is
pub some_counted : (es : List Entry) → ltb 0 (length es) ≡ not (is_empty es)
some_counted [] = refl
some_counted (e ∷ es) = lt-ltb 0 (suc (length es)) (omega arith)
