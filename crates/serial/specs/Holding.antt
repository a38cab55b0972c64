-- What a state holds after a call: a step leaves its entries, a read adds one at the end, and a put replaces one by an entry of the same key that has the same as
-- first read. So what was held is held on, and no entry becomes newer than its line.
use Rattle.std.specs.Prelude.{◌≡◌, ◌<◌, ◌∷◌, ◌++◌, ◌⊎◌}
use Rattle.lists.specs.Basics.{refl, sym, ap, subst, ℕ, true, false, true≢false, List, [], length, take, get_or, set, inl}
use Rattle.lists.specs.Basics.{inr, add-one, not-true}
use Rattle.std.proofs.Common.{take-suc-set, ◌∙◌}
use Rattle.lists.specs.Members.{Mem, mem_before, mem_last, mem_more, mem_set, mem_kept, mem_at, mem_set_at}
use Rattle.model.specs.Types.{Key, Record, Found, Columns, Entry, Transaction}
use Rattle.model.specs.Records.{same_key, is_missing, by_found}
use Rattle.model.specs.Coordinator.{Letter}
use Rattle.model.specs.Groups.{is_lower}
use Rattle.model.specs.Transactions.{held, no_entry, held_at, with_put, with_entry}
use Rattle.model.specs.Writes.{Sheets}
use Rattle.model.specs.Conditions.{is_new, held_entry}
use Rattle.model.specs.Steps.{step}
use Rattle.model.specs.Calls.{holding}
use Rattle.sheet_laws.specs.Search.{first_by, some_found}
use Rattle.call_laws.specs.Entries.{get_or-first}
use Rattle.sheet_laws.specs.KeyOrder.{same_key_lem}
use Rattle.call_laws.specs.Keys.{has_key}
use Rattle.call_laws.specs.Keeping.{not-held}
use Rattle.call_laws.specs.Moved.{step-leaves}
use Rattle.recovery.specs.Puts.{take-set}
use Rattle.recovery.specs.Calls.{missing-none}
use Rattle.serial.specs.Entries.{member_key}
use Rattle.serial.specs.Runs.{Sight, sight_of, NoNewer}
use Rattle.serial.specs.Invariant.{Aged}

-- an entry of the key that has this as first read
pub record Seen (k : Key) (i : Sight) (es : List Entry) : Type 0 where
  pub entry : Entry
  pub member : Mem entry es
  pub key : entry.key ≡ k
  pub first_read : sight_of entry ≡ i

-- what t held is held by t'
abbrev pub HoldsOn : Transaction → Transaction → Type 0
HoldsOn t t' = (x : Entry) → Mem x (held t) → Seen x.key (sight_of x) (held t')

pub holds_same : (t t' : Transaction) → held t' ≡ held t → HoldsOn t t'
holds_same t t' q x n = record { entry = x; member = subst (Mem x) (sym q) n; key = refl; first_read = refl }

-- the entry of a key that is held
pub held_entry_lem : (k : Key) (t : Transaction) → is_new k t ≡ false → Mem (held_entry k t) (held t) × ((held_entry k t).key ≡ k)
unfolding held_at held
held_entry_lem k t old =
    first_by (λ (x : Entry). same_key x.key k)
    (λ (i : Found). is_missing i ≡ false → Mem (at i) (held t) × ((at i).key ≡ k))
    (held t) no_entry
    (λ n q. absurd (missing-none q))
    (λ i x q. let same : get_or (held t) i no_entry ≡ get_or t.entries i no_entry = get_or-first t.count t.entries i no_entry x.within in (
      subst (λ (y : Entry). Mem y (held t)) same (mem_at (held t) i no_entry x.within),
      ap (λ (y : Entry). y.key) (sym same) ∙ same_key_lem (get_or (held t) i no_entry).key k x.passes,
    ))
    old
  where
    at : Found → Entry
    at i = by_found i no_entry (λ (j : ℕ). get_or t.entries j no_entry)

-- One entry more.
pub holds_more : (e : Entry) (t : Transaction) → t.count < length t.entries → held (holding e t) ≡ held t ++ (e ∷ [])
unfolding held
holds_more e t l = ap (λ (n : ℕ). take n (set t.entries t.count e)) (add-one t.count) ∙ take-suc-set t.entries t.count e l

module _ (e : Entry) (t : Transaction) (l : t.count < length t.entries) where
  pub holds_on_more : HoldsOn t (holding e t)
  holds_on_more x n =
      record { entry = x; member = subst (Mem x) (sym (holds_more e t l)) (mem_before (held t) (e ∷ []) n); key = refl; first_read = refl }

  pub aged_more : (us : List Letter) (line : Key → Record) → NoNewer (is_lower us e.key) line e → Aged us line t → Aged us line (holding e t)
  aged_more us line x aged y n = go (mem_more e (held t) (subst (Mem y) (holds_more e t l) n))
    where
      go : Mem y (held t) ⊎ (y ≡ e) → NoNewer (is_lower us y.key) line y
      go (inl m) = aged y m
      go (inr q) = subst (λ (z : Entry). NoNewer (is_lower us z.key) line z) (sym q) x

  -- which is the one of its key, if that is new
  module _ (k : Key) (same : e.key ≡ k) where
    pub now_held : is_new k (holding e t) ≡ false
    unfolding held_at
    now_held =
        not-true (is_new k (holding e t))
        (some_found (λ (x : Entry). same_key x.key k) 0 (held (holding e t))
        ∙ (ap (λ (j : Key). has_key j (held (holding e t))) (sym same)
        ∙ member_key e (held (holding e t)) (subst (Mem e) (sym (holds_more e t l)) (mem_last (held t)))))

    pub new_entry : is_new k t ≡ true → held_entry k (holding e t) ≡ e
    new_entry new = go (mem_more e (held t) (subst (Mem y) (holds_more e t l) found.0))
      where
        y : Entry
        y = held_entry k (holding e t)

        found : Mem y (held (holding e t)) × (y.key ≡ k)
        found = held_entry_lem k (holding e t) now_held

        go : Mem y (held t) ⊎ (y ≡ e) → y ≡ e
        go (inl n) = absurd (true≢false (sym (member_key y (held t) n) ∙ (ap (λ (j : Key). has_key j (held t)) found.1 ∙ not-held k t new)))
        go (inr q) = q

-- One entry put to.
module _ (c : Columns) (t : Transaction) (i : ℕ) (l : i < length (held t)) where
  abbrev replaced : Entry
  replaced = with_put c (get_or t.entries i no_entry)

  holds_put : held (with_entry t.count i replaced t) ≡ set (held t) i replaced
  unfolding held
  holds_put = take-set t.count i replaced t.entries

  same_entry : get_or (held t) i no_entry ≡ get_or t.entries i no_entry
  unfolding held
  same_entry = get_or-first t.count t.entries i no_entry l

  pub holds_on_put : HoldsOn t (with_entry t.count i replaced t)
  holds_on_put x n = go (mem_kept no_entry replaced i (held t) n)
    where
      go : Mem x (set (held t) i replaced) ⊎ (x ≡ get_or (held t) i no_entry) → Seen x.key (sight_of x) (held (with_entry t.count i replaced t))
      go (inl m) = record { entry = x; member = subst (Mem x) (sym holds_put) m; key = refl; first_read = refl }
      go (inr q) =
          let same : get_or t.entries i no_entry ≡ x = sym (q ∙ same_entry) in
          record {
            entry = replaced;
            member = subst (Mem replaced) (sym holds_put) (mem_set_at (held t) i replaced l);
            key = ap (λ (z : Entry). z.key) same;
            first_read = ap sight_of same;
          }

  pub aged_put : (us : List Letter) (line : Key → Record) → Aged us line t → Aged us line (with_entry t.count i replaced t)
  aged_put us line aged y n = go (mem_set replaced i (held t) (subst (Mem y) holds_put n))
    where
      go : Mem y (held t) ⊎ (y ≡ replaced) → NoNewer (is_lower us y.key) line y
      go (inl m) = aged y m
      go (inr q) =
          subst (λ (z : Entry). NoNewer (is_lower us z.key) line z) (sym q) (aged (get_or t.entries i no_entry) (subst (λ (x : Entry). Mem x (held t)) same_entry (mem_at (held t) i no_entry l)))

-- A step.
pub step-holds : (t : Transaction) (now : ℕ) (s : Sheets) → held (step t now s).transaction ≡ held t
unfolding held
step-holds t now s = step-leaves held t (λ phase place verdict. refl) s now
