-- What a call finds once about the entries of a transaction: the indices of their lines, and their groups. No write moves a key, so that indices hold after every
-- write too.
use Rattle.std.specs.Prelude.{◌≡◌, ◌+◌, ◌≤◌, ◌<◌, ◌∷◌}
use Rattle.lists.specs.Basics.{refl, sym, ap, ap₂, subst, ℕ, zero, suc, eqb, ltb, Bool, true, false, not, true≢false}
use Rattle.lists.specs.Basics.{List, [], map, length, take, get_or, set, length-map, get_or-eq_default, length-take, length-set, get_or-take, arith, add-one, eqb-true, eqb-false}
use Rattle.lists.specs.Basics.{ltb-true, all}
use Rattle.std.proofs.Common.{get_or-set_same, get_or-set_other, ◌∙◌}
use mir.Val.{Val}
use denote.Laws.{Is}
use denote.Struct.Declared.{row}
use Rattle.lists.specs.All.{all_always, all_at}
use Rattle.types.specs.contracts.Transaction.{the_type}
use Rattle.model.specs.Types.{Key, Record, Found, Some, None, Entry, Transaction}
use Rattle.model.specs.Records.{no_record, same_key, key_in_range, found, is_missing, by_found, line_of}
use Rattle.model.specs.Coordinator.{Letter}
use Rattle.model.specs.Transactions.{held, puts, held_at, no_entry, must_validate, to_validate}
use Rattle.model.specs.Groups.{group_count}
use Rattle.model.specs.WellFormed.{place_formed}
use Rattle.sheet_laws.specs.Search.{some_found, first_at, first-map}
use Rattle.call_laws.specs.Choices.{by_phase_of}
use Rattle.call_laws.specs.Entries.{get_or-first}
use Rattle.sheet_laws.specs.KeyOrder.{same_key_lem, has_line_lem, lists_key, unlisted}
use Rattle.model.specs.Images.{prepared_by}
use Rattle.call_laws.specs.Keys.{has_key}
use Rattle.call_laws.specs.ByIndex.{found_at}
use Rattle.transactions.specs.Held.{entry_at, held_below, has_room_lem, tallied-few, tallied_kept}
use Rattle.put_groups.specs.Groups.{in_group}
use Rattle.put_groups.specs.GroupsIn.{groups_in, groups_few, in_group_at}
use Rattle.held_lines.specs.declared.Located.{Located}

-- eight indices that say nothing
abbrev pub no_indices : List ℕ
no_indices = 0 ∷ 0 ∷ 0 ∷ 0 ∷ 0 ∷ 0 ∷ 0 ∷ 0 ∷ []

-- the index of the key's line, the number of lines without one
abbrev pub line_index : Key → List Record → ℕ
line_index k rs = by_found (found k rs) (length rs) (λ (i : ℕ). i)

-- the keys of a transaction's entries are in range
abbrev pub keys_ranged : Transaction → Bool
keys_ranged t = all (λ (e : Entry). key_in_range e.key) (held t)

-- where the lines of the first n entries are, 0 behind them
unfoldable pub indices_of : List Record → Transaction → ℕ → List ℕ
indices_of rs t zero = no_indices
indices_of rs t (suc n) = set (indices_of rs t n) n (line_index (entry_at t n).key rs)

-- what is found of a transaction's entries, by the lines and the units
abbrev pub located_in : List Record → List Letter → Transaction → Located
located_in rs us t = record { indices = indices_of rs t t.count; groups = group_count us (puts t); of = groups_in us t }

-- of these indices the one of a key, 0 if the transaction does not hold it
abbrev pub index_in : Key → Transaction → List ℕ → ℕ
index_in k t is = by_found (held_at k t) 0 (λ (i : ℕ). get_or is i 0)

-- the lines of the first n entries are at these indices, those that have one
pub record Indexed (rs : List Record) (t : Transaction) (is : List ℕ) (n : ℕ) : Type 0 where
  pub at : (i : ℕ) → i < n → get_or is i 0 ≡ line_index (entry_at t i).key rs

-- the groups are those of the units, and each entry's own is told by its place
pub record Grouped (us : List Letter) (t : Transaction) (l : Located) : Type 0 where
  pub count : l.groups ≡ group_count us (puts t)
  pub own : (i : ℕ) → i < t.count → eqb (get_or l.of i 0) t.place ≡ in_group us t t.place (entry_at t i)

-- The indices found are those of the lines.

line_index_lem : (k : Key) (rs : List Record) (p : ℕ) → found k rs ≡ Some p → line_index k rs ≡ p
line_index_lem k rs p e = ap (λ (f : Found). by_found f (length rs) (λ (i : ℕ). i)) e

pub index_found : (k : Key) (rs : List Record) (i : ℕ) → found k rs ≡ Some i → i ≡ line_index k rs
index_found k rs i e = sym (line_index_lem k rs i e)

pub index_none : (k : Key) (rs : List Record) → found k rs ≡ None → length rs ≡ line_index k rs
index_none k rs e = sym (ap (λ (f : Found). by_found f (length rs) (λ (i : ℕ). i)) e)

-- by what is found: an index of a line, or none
pub by_line : (k : Key) (rs : List Record) (P : ℕ → Type 0) → ((i : ℕ) → found k rs ≡ Some i → P i) → (found k rs ≡ None → P (length rs)) → P (line_index k rs)
by_line k rs P here none = go (found k rs) refl
  where
    go : (f : Found) → found k rs ≡ f → P (by_found f (length rs) (λ (i : ℕ). i))
    go (Some i) e = here i e
    go None e = none e

-- a key that no search finds is on no line
pub none-listed : (k : Key) (rs : List Record) → found k rs ≡ None → lists_key k rs ≡ false
unfolding is_missing
none-listed k rs e = sym (has_line_lem k rs) ∙ rw e

-- whether the line of a key is pending by a number: without a line it isn't
pub prepared_at_lem : (n : ℕ) (k : Key) (rs : List Record) (i : ℕ) → i ≡ line_index k rs → prepared_by n (get_or rs i no_record) ≡ prepared_by n (line_of k rs)
unfolding prepared_by
prepared_at_lem n k rs i e =
    by_line k rs (λ (j : ℕ). i ≡ j → prepared_by n (get_or rs i no_record) ≡ prepared_by n (line_of k rs))
    (λ j f q. ap (λ (m : ℕ). prepared_by n (get_or rs m no_record)) q ∙ ap (prepared_by n) (found_at k rs j f).line)
    (λ f q. let l : length rs ≤ i = omega (arith, q) in
    ap (prepared_by n) (get_or-eq_default rs no_record l) ∙ sym (ap (prepared_by n) (unlisted k rs (none-listed k rs f)))) e

-- an index within the sheet is that of the key's line, any other of none
module _ (k : Key) (rs : List Record) (i : ℕ) (e : i ≡ line_index k rs) where
  pub line-there : i < length rs → found k rs ≡ Some i
  line-there l =
      by_line k rs (λ (j : ℕ). i ≡ j → found k rs ≡ Some i) (λ j f q. f ∙ ap Some (sym q)) (λ f q. absurd (omega (arith, l, q))) e

  pub line-nowhere : length rs ≤ i → found k rs ≡ None
  line-nowhere l =
      by_line k rs (λ (j : ℕ). i ≡ j → found k rs ≡ None) (λ j f q. let w = (found_at k rs j f).within in absurd (omega (arith, l, q, w))) (λ f q. f) e

module _ (rs : List Record) (t : Transaction) where
  pub length_indices : (n : ℕ) → length (indices_of rs t n) ≡ 8
  unfolding indices_of
  length_indices zero = refl
  length_indices (suc n) = length-set (indices_of rs t n) n _ ∙ length_indices n

  pub indices_next : (is : List ℕ) (n p : ℕ) → is ≡ indices_of rs t n → p ≡ line_index (entry_at t n).key rs → set is n p ≡ indices_of rs t (n + 1)
  unfolding indices_of
  indices_next is n p e f = ap₂ (λ (x : List ℕ) (y : ℕ). set x n y) e f ∙ ap (indices_of rs t) (sym (add-one n))

  index_here : (n i : ℕ) → suc n ≤ 8 → (b : Bool) → eqb i n ≡ b → i < suc n → (i < n → get_or (indices_of rs t n) i 0 ≡ line_index (entry_at t i).key rs) → get_or (set (indices_of rs t n) n (line_index (entry_at t n).key rs)) i 0 ≡ line_index (entry_at t i).key rs
  index_here n i m true q l h =
      let j : n ≡ i = sym (eqb-true i n q) in
      let k : n < length (indices_of rs t n) = omega (arith, length_indices n, m) in
      subst (λ (x : ℕ). get_or (set (indices_of rs t n) n (line_index (entry_at t n).key rs)) x 0 ≡ line_index (entry_at t x).key rs) j
      (get_or-set_same (indices_of rs t n) n (line_index (entry_at t n).key rs) 0 k)
  index_here n i m false q l h =
      let d = eqb-false i n q in
      get_or-set_other (indices_of rs t n) n i (line_index (entry_at t n).key rs) 0 (λ z. d z) ∙ h (omega (arith, d, l))

  -- what was written for an entry stays
  index_stays : (n i : ℕ) → i < n → n ≤ 8 → get_or (indices_of rs t n) i 0 ≡ line_index (entry_at t i).key rs
  unfolding indices_of
  index_stays zero i l m = absurd (omega arith)
  index_stays (suc n) i l m = index_here n i m (eqb i n) refl l (λ k. index_stays n i k (omega arith))

  pub indexed_all : t.count ≤ 8 → Indexed rs t (indices_of rs t t.count) t.count
  indexed_all few = record { at = λ i l. index_stays t.count i l few }

-- the key of an entry is in range
pub entry_ranged : (t : Transaction) {vs : List Val} → Is (row the_type) t vs → t.count ≤ 8 → keys_ranged t ≡ true → (n : ℕ) → n < t.count → key_in_range (entry_at t n).key ≡ true
unfolding held
entry_ranged t p few h n l =
    let m : t.count ≤ length t.entries = has_room_lem t p few in
    let k : n < length (take t.count t.entries) = simp length-take (omega arith) in
    ap (λ (e : Entry). key_in_range e.key) (sym (get_or-take t.count t.entries n no_entry l))
    ∙ all_at (λ (e : Entry). key_in_range e.key) (held t) no_entry n h k

-- The groups found are those of the units.
pub grouped_in : (rs : List Record) (us : List Letter) (t : Transaction) {vs : List Val} → Is (row the_type) t vs → t.count ≤ 8 → t.place < 8 → Grouped us t (located_in rs us t)
grouped_in rs us t p few l = record { count = refl; own = λ i m. in_group_at us t (has_room_lem t p few) i 0 t.place m l }

-- a place is below eight
pub place_few : (us : List Letter) (t : Transaction) → t.count ≤ 8 → place_formed us t ≡ true → t.place < 8
unfolding place_formed to_validate held
place_few us t few =
    by_phase_of (λ (x : Bool). x ≡ true → t.place < 8) t.phase (λ e. zeroth) (λ e. in_groups) (λ e. in_entries) (λ e. zeroth) (λ e. zeroth)
    (λ e. in_groups) (λ e. in_groups) (λ e. zeroth) (λ q. absurd (true≢false (sym q)))
  where
    zeroth : eqb t.place 0 ≡ true → t.place < 8
    zeroth q = omega (arith, eqb-true t.place 0 q)

    in_groups : ltb t.place (group_count us (puts t)) ≡ true → t.place < 8
    in_groups q = omega (arith, ltb-true t.place (group_count us (puts t)) q, groups_few us t, few)

    in_entries : ltb t.place (length (to_validate us t)) ≡ true → t.place < 8
    in_entries q =
        omega (
          arith,
          ltb-true t.place (length (to_validate us t)) q,
          sym (tallied_kept (must_validate us t) (held t)),
          tallied-few (λ (e : Entry) (r : List Entry). must_validate us t e) (held t),
          length-take t.count t.entries,
          few,
        )

-- Lines whose keys stay are found where they were.
module _ (f : Record → Record) (kept : (r : Record) → (f r).key ≡ r.key) where
  pub index_kept : (k : Key) (rs : List Record) → line_index k (map f rs) ≡ line_index k rs
  unfolding found
  index_kept k rs =
      ap₂ (λ (x : Found) (n : ℕ). by_found x n (λ (i : ℕ). i))
      (first-map (λ (r : Record). same_key r.key k) f (λ (r : Record). true) _ (λ r e. ap (λ (j : Key). same_key j k) (kept r)) 0 rs (all_always rs)) (length-map rs f)

  pub indexed_kept : (rs : List Record) (t : Transaction) (is : List ℕ) (n : ℕ) → Indexed rs t is n → Indexed (map f rs) t is n
  indexed_kept rs t is n h = record { at = λ i l. h.at i l ∙ sym (index_kept (entry_at t i).key rs) }

-- the index of a key that the transaction holds
module _ (k : Key) (t : Transaction) where
  held_key : (i : ℕ) → held_at k t ≡ Some i → (entry_at t i).key ≡ k
  unfolding held_at held
  held_key i e =
      let x = first_at (λ (y : Entry). same_key y.key k) (held t) no_entry i e in
      ap (λ (y : Entry). y.key) (sym (get_or-first t.count t.entries i no_entry x.within)) ∙ same_key_lem _ k x.passes

  indexed_held : (rs : List Record) (is : List ℕ) (i : ℕ) → held_at k t ≡ Some i → Indexed rs t is t.count → get_or is i 0 ≡ line_index k rs
  indexed_held rs is i e h = h.at i (held_below t k i e) ∙ ap (λ (j : Key). line_index j rs) (held_key i e)

  held_somewhere : held_at k t ≡ None → has_key k (held t) ≡ true → ⊥
  unfolding held_at is_missing
  held_somewhere e h =
      true≢false (sym h ∙ (sym (some_found (λ (y : Entry). same_key y.key k) 0 (held t)) ∙ ap (λ (f : Found). not (is_missing f)) e))

  pub indexed_in : (rs : List Record) (is : List ℕ) → Indexed rs t is t.count → has_key k (held t) ≡ true → index_in k t is ≡ line_index k rs
  indexed_in rs is h g = go (held_at k t) refl
    where
      go : (f : Found) → held_at k t ≡ f → by_found f 0 (λ (i : ℕ). get_or is i 0) ≡ line_index k rs
      go (Some i) e = indexed_held rs is i e h
      go None e = absurd (held_somewhere e g)
