-- The group at a transaction's place by the bytes of a coordinator sheet: its unit letters are the sheet's units, and a test of the group's entries is one
-- of all the entries.
use Rattle.std.specs.Prelude.{◌≡◌, ◌+◌, ◌≤◌, ◌<◌, ◌&&◌, ◌||◌, ◌∷◌}
use Rattle.std.specs.List as std
use Rattle.std.specs.List.{range_with_len}
use Rattle.std.proofs.Common.{◌∙◌}
use Rattle.lists.specs.Basics.{refl, sym, ap, ℕ, Bool, true, false, not, cond, List, [], length, get_or, get_or-take, arith, all, any, filter}
use Rattle.std.proofs.lemmas.List.FromFn.{length-range_with_len, get_or-range_with_len}
use Rattle.std.proofs.Math.Seq.{length-take-le}
use Rattle.lists.specs.Alike.{any_alike, all_alike}
use Rattle.model.specs.Types.{Entry, Transaction}
use Rattle.model.specs.Coordinator.{coordinator_of}
use Rattle.model.specs.Transactions.{held, no_entry}
use Rattle.model.specs.Steps.{holds, group_at}
use Rattle.model.specs.ByteCalls.{sheets_of}
use Rattle.transactions.specs.Held.{entry_at}
use Rattle.put_groups.specs.Groups.{in_group, group-held}

-- the entry is of the group, by the units that the coordinator sheet says
abbrev pub of_group : List ℕ → Transaction → Entry → Bool
of_group cs t e = in_group (coordinator_of cs).units t t.place e

-- the group among these entries
abbrev pub group_in : List ℕ → Transaction → List Entry → List Entry
group_in cs t es = filter (of_group cs t) es

pub group_in_lem : (rs cs : List ℕ) (t : Transaction) → group_at t (sheets_of rs cs) ≡ group_in cs t (held t)
group_in_lem rs cs t = group-held (coordinator_of cs).units t t.place

-- all that a filter keeps pass a test exactly if all pass it that the filter would keep
module _ (p q : Entry → Bool) where
  kept_passes : (b c : Bool) (e : Entry) (es : List Entry) → p e ≡ b → all p es ≡ c → all p (cond (q e) (e ∷ es) es) ≡ ((not (q e) || b) && c)
  unfolding all
  kept_passes b c e es h k = go (q e)
    where
      go : (x : Bool) → all p (cond x (e ∷ es) es) ≡ ((not x || b) && c)
      go true = rw (h, k)
      go false = k

  pub all_kept : (es : List Entry) → all (λ (e : Entry). not (q e) || p e) es ≡ all p (filter q es)
  unfolding all filter
  all_kept [] = refl
  all_kept (e ∷ es) = sym (kept_passes (p e) (all (λ (x : Entry). not (q x) || p x) es) e (filter q es) refl (sym (all_kept es)))

-- the entry holds, unless it is of another group
abbrev pub holds_in_group : List ℕ → List ℕ → Transaction → Entry → Bool
holds_in_group rs cs t e = not (of_group cs t e) || holds (sheets_of rs cs) e

pub group-all : (rs cs : List ℕ) (t : Transaction) → all (holds_in_group rs cs t) (held t) ≡ all (holds (sheets_of rs cs)) (group_at t (sheets_of rs cs))
group-all rs cs t = all_kept (holds (sheets_of rs cs)) (of_group cs t) (held t) ∙ ap (all (holds (sheets_of rs cs))) (sym (group_in_lem rs cs t))

-- A test of each index of the entries in use is one of the entry there.
module _ (t : Transaction) (room : t.count ≤ length t.entries) (p : ℕ → Bool) (q : Entry → Bool) (same : (i : ℕ) → i < t.count → p i ≡ q (entry_at t i)) where
  many : length (range_with_len 0 t.count) ≡ length (held t)
  unfolding held
  many = length-range_with_len 0 t.count ∙ sym (length-take-le t.count t.entries room)

  here : (i : ℕ) → i < length (held t) → p (get_or (range_with_len 0 t.count) i 0) ≡ q (get_or (held t) i no_entry)
  unfolding held
  here i m =
      let l : i < t.count = omega (arith, m, length-take-le t.count t.entries room) in
      let z : 0 + i ≡ i = omega arith in
      ap p (get_or-range_with_len 0 t.count i 0 l ∙ z) ∙ (same i l ∙ ap q (sym (get_or-take t.count t.entries i no_entry l)))

  pub every_index : std.list_all p (range_with_len 0 t.count) ≡ all q (held t)
  every_index = all_alike p q (range_with_len 0 t.count) (held t) 0 no_entry many here

  pub some_index : std.list_any p (range_with_len 0 t.count) ≡ any q (held t)
  some_index = any_alike p q (range_with_len 0 t.count) (held t) 0 no_entry many here
