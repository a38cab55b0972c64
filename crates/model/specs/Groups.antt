-- Atomicity units, and the groups of a transaction's puts. Document 01, "Atomicity units".
use Rattle.std.specs.Prelude.{◌∷◌}
use Rattle.lists.specs.Basics.{ℕ, zero, suc, eqb, Bool, false, cond, List, [], length, take, get_or, any, filter, count, less, eq_list}
use Rattle.model.specs.Types.{Key, AtomicityUnit, Entry}
use Rattle.types.specs.declared.AtomicityUnit.TheVariants.{Record as RecordUnit, Partition, Table, Namespace, Storage}
use Rattle.model.specs.Records.{key_numbers}
use Rattle.model.specs.Coordinator.{Letter}

-- "Puts are in one group if their keys agree in the first 5, 4, 3, 2 or 1 fields."
unfoldable pub unit_fields : AtomicityUnit → ℕ
unit_fields RecordUnit = 5
unit_fields Partition = 4
unit_fields Table = 3
unit_fields Namespace = 2
unit_fields Storage = 1

-- the letter where there is none
abbrev pub no_letter : Letter
no_letter = record { unit = RecordUnit; lower = false }

-- the letter of a storage, counted from 1
unfoldable pub letter_for : ℕ → List Letter → Letter
letter_for zero us = no_letter
letter_for (suc i) us = get_or us i no_letter

-- the storage of a key can't be read consistently
abbrev pub is_lower : List Letter → Key → Bool
is_lower us k = (letter_for k.storage us).lower

-- the fields of a key that the unit of its storage compares: "all those above too"
unfoldable pub scope : List Letter → Key → List ℕ
scope us k = take (unit_fields (letter_for k.storage us).unit) (key_numbers k)

-- a list of scopes and one more, unless it is there
unfoldable pub add_scope : List ℕ → List (List ℕ) → List (List ℕ)
add_scope s ss = cond (any (eq_list s) ss) ss (s ∷ ss)

-- the scopes of the entries, each once
unfoldable pub scopes : List Letter → List Entry → List (List ℕ)
scopes us [] = []
scopes us (e ∷ es) = add_scope (scope us e.key) (scopes us es)

unfoldable pub group_count : List Letter → List Entry → ℕ
group_count us es = length (scopes us es)

-- "Groups go in rising key order": the place of a key's group is the number of groups before it.
unfoldable pub group_place : List Letter → List Entry → Key → ℕ
group_place us es k = count (λ (s : List ℕ). less s (scope us k)) (scopes us es)

-- the group at a place
unfoldable pub group : List Letter → List Entry → ℕ → List Entry
group us es i = filter (λ (e : Entry). eqb (group_place us es e.key) i) es
