-- What nearly every file of definitions, laws and proofs takes from the kit. Nothing is declared here.
pub use Rattle.std.specs.Prelude.{refl, ℕ, zero, suc, eqb, leb, ltb, Bool, true, false, not, cond, List, [], map, length, take, drop, get_or, set, replicate}
pub use Rattle.std.proofs.Common.{sym, ap, ap₂, subst, true≢false, append-nil, append_assoc, length-append, length-take, length-drop, length-set, drop_of_length-le, drop-drop, drop-cons, drop_at, take_at, take_all, take-add, take-take, get_or-take, get_or-drop, inl, inr, arith, add-one, eqb-true, leb-true, leb-false, ltb-true, ltb-false, eq-eqb, ne_eqb, le-leb, lt-ltb, le-ltb, rules}
pub use Rattle.std.proofs.Math.Bool.{and_assoc, and-true, and-false, or-true, or-false}
pub use Rattle.std.proofs.lemmas.List.{length-map}
pub use Rattle.std.proofs.Math.ListN.{get_or-map, get_or-eq_default}
pub use Rattle.std.proofs.Math.Option.{Option, none, some, none-ne-some, some-injective}
pub use Rattle.std.proofs.lemmas.Bool.{eqb-false, lt-leb, not-true, not-false}
