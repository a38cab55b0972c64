-- What is asked before a call looks into a transaction, as one list of conditions: its refusal is the call's, and a transaction that passes has the rest of the
-- call's conditions before it.
use Rattle.std.specs.Prelude.{◌≡◌, ◌≤◌, ◌∷◌}
use Rattle.std.specs.Prelude.{Result, Ok, Err}
use Rattle.std.proofs.Common.{◌∙◌}
use Rattle.types.specs.declared.Refusal.{Refusal}
use Rattle.types.specs.declared.Refusal.TheVariants.{BadTransaction}
use Rattle.answers.specs.Outcomes.{ok_same, err_same, ok_not_err}
use Rattle.lists.specs.Basics.{refl, sym, ap, ap₂, subst, ℕ, Bool, true, false, not, cond, List, []}
use Rattle.lists.specs.Basics.{take, drop, arith, not-false}
use Rattle.lists.specs.All.{all_weaken}
use mir.Val.{Val}
use denote.Laws.{Is}
use denote.Struct.Declared.{row}
use Rattle.types.specs.contracts.Transaction.{the_type}
use Rattle.model.specs.Types.{Key, Entry, Transaction}
use Rattle.model.specs.Records.{records, key_in_range}
use Rattle.model.specs.Coordinator.{Letter, Coordinator, coordinator_of, coordinator_readable}
use Rattle.model.specs.Refusals.{Condition, refuse, refusal_of}
use Rattle.model.specs.Transactions.{held, puts}
use Rattle.model.specs.Groups.{group_count}
use Rattle.model.specs.WellFormed.{entry_formed, formed, well_formed}
use Rattle.model.specs.Writes.{Sheets}
use Rattle.model.specs.Steps.{units_of}
use Rattle.model.specs.Conditions.{not_open}
use Rattle.model.specs.ByteCalls.{sheets_of}
use Rattle.call_laws.specs.Choices.{not_first}
use Rattle.call_laws.specs.Transactions.{well_formed-parts, key_formed}
use Rattle.transactions.specs.Units.{units_in, units-said}
use Rattle.put_groups.specs.declared.Groups.{Groups}
use Rattle.put_groups.specs.GroupsIn.{groups_in}
use Rattle.held_lines.specs.declared.Located.{Located}
use Rattle.held_lines.specs.Located.{keys_ranged, located_in, Indexed, Grouped, indexed_all, grouped_in, place_few}

-- Well-formedness and groups, in the order in which the code asks.

abbrev groups_found : List Letter → Transaction → Groups
groups_found us t = record { count = group_count us (puts t); of = groups_in us t }

-- the groups of the puts of a transaction that is well formed, or refusal 3
abbrev judged_if : Bool → List Letter → Transaction → Result Groups Refusal
judged_if b us t = cond b (Ok (groups_found us t)) (Err BadTransaction)

abbrev pub judged : Coordinator → Transaction → Result Groups Refusal
judged c t = judged_if (formed c.units c.issued t) c.units t

module _ (t : Transaction) (cs : List ℕ) (a : coordinator_readable cs ≡ true) (n : ℕ) (e : n ≡ (coordinator_of cs).issued) where
  letters_formed : formed (units_in (take 9 (drop 5 cs))) n t ≡ formed (coordinator_of cs).units (coordinator_of cs).issued t
  letters_formed = ap₂ (λ (us : List Letter) (m : ℕ). formed us m t) (units-said cs a) e

  pub judged-not : formed (units_in (take 9 (drop 5 cs))) n t ≡ false → Err BadTransaction ≡ judged (coordinator_of cs) t
  judged-not h = ap (λ (b : Bool). judged_if b (coordinator_of cs).units t) (sym (sym letters_formed ∙ h))

  pub judged-formed : (g : Groups) → g.count ≡ group_count (units_in (take 9 (drop 5 cs))) (puts t) → g.of ≡ groups_in (units_in (take 9 (drop 5 cs))) t
      → formed (units_in (take 9 (drop 5 cs))) n t ≡ true → Ok g ≡ judged (coordinator_of cs) t
  judged-formed g k o h =
      ap₂ (λ (m : ℕ) (p : List ℕ). Ok (record { count = m; of = p }))
      (k ∙ ap (λ (us : List Letter). group_count us (puts t)) (units-said cs a)) (o ∙ ap (λ (us : List Letter). groups_in us t) (units-said cs a))
      ∙ ap (λ (b : Bool). judged_if b (coordinator_of cs).units t) (sym (sym letters_formed ∙ h))

-- what is judged tells whether a transaction is well formed beside any record sheet
module _ (t : Transaction) (cs : List ℕ) {j : Result Groups Refusal} (e : j ≡ judged (coordinator_of cs) t) where
  -- a transaction that is refused isn't, and its refusal is 3
  pub unformed_by : (rs : List ℕ) {r : Refusal} → j ≡ Err r → (well_formed (sheets_of rs cs) t ≡ false) × (r ≡ BadTransaction)
  unfolding well_formed
  unformed_by rs {r} h = go (formed (coordinator_of cs).units (coordinator_of cs).issued t) e
    where
      go : (b : Bool) → j ≡ judged_if b (coordinator_of cs).units t → (b ≡ false) × (r ≡ BadTransaction)
      go true x = absurd (ok_not_err x h)
      go false x = (refl, err_same h x)

  -- one that isn't refused is, and the groups are its
  pub formed_by : (rs : List ℕ) {g : Groups} → j ≡ Ok g → (well_formed (sheets_of rs cs) t ≡ true) × (g ≡ groups_found (coordinator_of cs).units t)
  unfolding well_formed
  formed_by rs {g} h = go (formed (coordinator_of cs).units (coordinator_of cs).issued t) e
    where
      go : (b : Bool) → j ≡ judged_if b (coordinator_of cs).units t → (b ≡ true) × (g ≡ groups_found (coordinator_of cs).units t)
      go true x = (refl, ok_same h x)
      go false x = absurd (ok_not_err h x)

-- the keys of a well-formed transaction are in range
pub keys_ranged_lem : (s : Sheets) (t : Transaction) → well_formed s t ≡ true → keys_ranged t ≡ true
keys_ranged_lem s t f =
    all_weaken (entry_formed s.coordinator.issued) (λ (e : Entry). key_in_range e.key) (key_formed s.coordinator.issued) (held t)
    (well_formed-parts s t f).0.entries

-- Read and put want an open transaction and name a key.
unfoldable pub admitting_open : Transaction → Key → Sheets → List Condition
admitting_open t k s = refuse 3 (not (well_formed s t)) ∷ refuse 4 (not_open t) ∷ refuse 5 (not (key_in_range k)) ∷ []

module _ (t : Transaction) (k : Key) (s : Sheets) where
  pub open_ill : well_formed s t ≡ false → 3 ≡ refusal_of (admitting_open t k s)
  unfolding admitting_open refusal_of
  open_ill e = rw e

  pub open_not : well_formed s t ≡ true → not_open t ≡ true → 4 ≡ refusal_of (admitting_open t k s)
  unfolding admitting_open refusal_of
  open_not e f = rw (e, f)

  pub open_key : (x : Bool) → well_formed s t ≡ true → not_open t ≡ false → key_in_range k ≡ x → cond (not x) 5 0 ≡ refusal_of (admitting_open t k s)
  unfolding admitting_open refusal_of
  open_key x e f g = rw (e, f, g)

-- what a call knows that none of these refuses
pub record Opened (t : Transaction) (k : Key) (s : Sheets) : Type 0 where
  pub formed : well_formed s t ≡ true
  pub few : t.count ≤ 8
  pub phase : not_open t ≡ false
  pub ranged : key_in_range k ≡ true

pub opened : (t : Transaction) (k : Key) (s : Sheets) → refusal_of (admitting_open t k s) ≡ 0 → Opened t k s
unfolding admitting_open
opened t k s h =
    let w = not_first 3 (not (well_formed s t)) (refuse 4 (not_open t) ∷ refuse 5 (not (key_in_range k)) ∷ []) (omega arith) h in
    let o = not_first 4 (not_open t) (refuse 5 (not (key_in_range k)) ∷ []) (omega arith) w.1 in
    let g = not_first 5 (not (key_in_range k)) [] (omega arith) o.1 in
    let f : well_formed s t ≡ true = not-false (well_formed s t) w.0 in
    record { formed = f; few = (well_formed-parts s t f).0.few; phase = o.0; ranged = not-false (key_in_range k) g.0 }

-- What is found of a transaction's entries where it is well formed; refusal 3 where it isn't.

abbrev admitted_if : Bool → Sheets → Transaction → Result Located Refusal
admitted_if b s t = cond b (Ok (located_in s.lines (units_of s) t)) (Err BadTransaction)

abbrev pub admitted : Sheets → Transaction → Result Located Refusal
admitted s t = admitted_if (well_formed s t) s t

module _ (s : Sheets) (t : Transaction) where
  pub admitted-not : well_formed s t ≡ false → Err BadTransaction ≡ admitted s t
  admitted-not e = ap (λ (b : Bool). admitted_if b s t) (sym e)

  pub admitted-formed : (l : Located) → l ≡ located_in s.lines (units_of s) t → well_formed s t ≡ true → Ok l ≡ admitted s t
  admitted-formed l h e = ap (λ (x : Located). Ok x) h ∙ ap (λ (b : Bool). admitted_if b s t) (sym e)

  -- by what a call was told
  pub admitted_by : {a : Result Located Refusal} → a ≡ admitted s t → {l : Located} → a ≡ Ok l → (well_formed s t ≡ true) × (l ≡ located_in s.lines (units_of s) t)
  admitted_by {a} e {l} h = go (well_formed s t) e
    where
      go : (b : Bool) → a ≡ admitted_if b s t → (b ≡ true) × (l ≡ located_in s.lines (units_of s) t)
      go true x = (refl, ok_same h x)
      go false x = absurd (ok_not_err h x)

  pub ill_by : {a : Result Located Refusal} → a ≡ admitted s t → {r : Refusal} → a ≡ Err r → (well_formed s t ≡ false) × (r ≡ BadTransaction)
  ill_by {a} e {r} h = go (well_formed s t) e
    where
      go : (b : Bool) → a ≡ admitted_if b s t → (b ≡ false) × (r ≡ BadTransaction)
      go true x = absurd (ok_not_err x h)
      go false x = (refl, err_same h x)

-- what a step asks for
pub admitted_ready : (t : Transaction) (rs cs : List ℕ) {vs : List Val} → Is (row the_type) t vs → (l : Located) → l ≡ located_in (records rs) (coordinator_of cs).units t → well_formed (sheets_of rs cs) t ≡ true → Indexed (records rs) t l.indices t.count × Grouped (coordinator_of cs).units t l
admitted_ready t rs cs p l e f =
    let q = well_formed-parts (sheets_of rs cs) t f in
    subst (λ (x : Located). Indexed (records rs) t x.indices t.count × Grouped (coordinator_of cs).units t x) (sym e)
    (indexed_all (records rs) t q.0.few, grouped_in (records rs) (coordinator_of cs).units t p q.0.few (place_few (coordinator_of cs).units t q.0.few q.1.place))
