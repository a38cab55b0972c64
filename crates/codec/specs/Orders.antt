-- The derived order of keys compares field by field, as the model's does; after the last there is nothing to compare.
use Rattle.std.specs.Prelude.{◌≡◌, ◌&&◌, ◌||◌}
use Rattle.lists.specs.Basics.{Bool, eqb, ltb, and-false, or-false, less}
use Rattle.model.specs.Types.{Key}
use Rattle.model.specs.Records.{key_less, key_numbers}

-- what the derived `<` answers
abbrev pub key_order : Key → Key → Bool
key_order a b =
    ltb a.storage b.storage
    || eqb a.storage b.storage
    && (ltb a.namespace b.namespace
    || eqb a.namespace b.namespace
    && (ltb a.table b.table
    || eqb a.table b.table && (ltb a.partition b.partition || eqb a.partition b.partition && ltb a.clustering b.clustering)))

pub key_order_is : (a b : Key) → key_order a b ≡ key_less a b
unfolding key_less key_numbers less
key_order_is a b = simp (and-false, or-false)
