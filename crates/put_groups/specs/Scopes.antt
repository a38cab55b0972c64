-- The scope of a key as a key: 0 in the fields that the unit of its storage does not compare.
use Rattle.std.specs.Prelude.{◌&&◌, ◌||◌, ◌∷◌, ◌++◌, Option}
use Rattle.std.specs.List as std
use Rattle.lists.specs.Basics.{ℕ, eqb, ltb, Bool, false, cond, List, [], length, drop}
use Rattle.model.specs.Types.{Key, AtomicityUnit, Entry, Transaction, Some, None}
use Rattle.types.specs.declared.AtomicityUnit.TheVariants.{Record as RecordUnit, Partition, Table, Namespace, Storage}
use Rattle.model.specs.Coordinator.{Letter}
use Rattle.model.specs.Transactions.{is_put, held}
use Rattle.model.specs.Groups.{letter_for}
use Rattle.put_groups.specs.Groups.{last_of_scope}

abbrev pub unit_of : List Letter → ℕ → AtomicityUnit
unit_of us n = (letter_for n us).unit

-- the fields that a unit compares
abbrev pub zeroed : AtomicityUnit → Key → Key
zeroed RecordUnit k = k
zeroed Partition k = record { storage = k.storage; namespace = k.namespace; table = k.table; partition = k.partition; clustering = 0 }
zeroed Table k = record { storage = k.storage; namespace = k.namespace; table = k.table; partition = 0; clustering = 0 }
zeroed Namespace k = record { storage = k.storage; namespace = k.namespace; table = 0; partition = 0; clustering = 0 }
zeroed Storage k = record { storage = k.storage; namespace = 0; table = 0; partition = 0; clustering = 0 }

abbrev pub scope_key : List Letter → Key → Key
scope_key us k = zeroed (unit_of us k.storage) k

-- the scope of the first entry, if that is the last put of its scope
abbrev pub last_scope : List Letter → List Entry → Option Key
last_scope us [] = None
last_scope us (e ∷ es) = cond (last_of_scope us e es) (Some (scope_key us e.key)) None

-- the same of each entry
abbrev pub last_scopes : List Letter → List Entry → List (Option Key)
last_scopes us [] = []
last_scopes us (e ∷ es) = last_scope us (e ∷ es) ∷ last_scopes us es

abbrev pub no_scopes : List (Option Key)
no_scopes = None ∷ None ∷ None ∷ None ∷ None ∷ None ∷ None ∷ None ∷ []

-- the same of a transaction's entries, none behind those in use
abbrev pub lasts_in : List Letter → Transaction → List (Option Key)
lasts_in us t = last_scopes us (held t) ++ drop (length (held t)) no_scopes

-- what the derived `<` of keys answers
abbrev pub less_test : Key → Key → Bool
less_test a b = ltb a.storage b.storage || eqb a.storage b.storage && (ltb a.namespace b.namespace || eqb a.namespace b.namespace && (ltb a.table b.table || eqb a.table b.table && (ltb a.partition b.partition || eqb a.partition b.partition && ltb a.clustering b.clustering)))

-- a last put's scope comes before another
abbrev pub before : Key → Option Key → Bool
before k None = false
before k (Some s) = less_test s k

-- the place of an entry's group by the last puts: how many scopes come before that of its key; 8 without a put
abbrev pub place_in : List Letter → List (Option Key) → Entry → ℕ
place_in us ls e = cond (is_put e) (length (std.filter (before (scope_key us e.key)) ls)) 8
