-- What nearly every file of other crates takes from the kit and from this crate, passed on so that one import brings it.
pub use Rattle.lists.specs.Kit.{refl, sym, ap, ap₂, subst, ℕ, zero, suc, eqb, leb, ltb, Bool, true}
pub use Rattle.lists.specs.Kit.{false, not, cond, true≢false, and_assoc, and-true, and-false, or-true, or-false, List, [], map}
pub use Rattle.lists.specs.Kit.{append-nil, append_assoc, length, take, drop, get_or, set, replicate, length-map, length-append, length-take, length-drop}
pub use Rattle.lists.specs.Kit.{length-set, drop_of_length-le, get_or-map, get_or-eq_default, drop-drop, drop-cons, drop_at, take_at, take_all}
pub use Rattle.lists.specs.Kit.{take-add, take-take, get_or-take, get_or-drop, Option, none, some, none-ne-some, some-injective, inl, inr}
pub use Rattle.lists.specs.Kit.{arith, add-one, eqb-true, eqb-false, leb-true, leb-false, ltb-true, ltb-false, eq-eqb, ne_eqb, le-leb, lt-leb, lt-ltb}
pub use Rattle.lists.specs.Kit.{le-ltb, not-true, not-false, rules}
unfoldable pub use Rattle.lists.specs.Each.{all, any, filter, count, joined, pieces, less, listed}
unfoldable pub use Rattle.lists.specs.Bytes.{eq_list, bytes}
pub use Rattle.lists.specs.Bytes.{eq_list-true, eq_list_refl}
pub use Rattle.lists.specs.Tests.{and_fst, and_snd, and_both, same_test, choose_by, tests}
pub use Rattle.lists.specs.Chosen.{or_else, or_left, or_right, or_fst, or_snd}
