-- No entry before i has the key of a later one.
use Rattle.std.specs.Prelude.{◌≡◌}
use Rattle.lists.specs.Basics.{drop}
use Rattle.model.specs.WellFormed.{distinct_keys}
use Rattle.well_formed.proofs.distinct_keys.Given as goal

abbrev pub invariant-loop-i : goal.invariant-loop-i
invariant-loop-i l = distinct_keys (drop l.i l.entries) ≡ distinct_keys l.entries
