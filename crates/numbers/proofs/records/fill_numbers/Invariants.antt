-- What is read before this turn is in the target, and the rest is still to come.
use Rattle.std.specs.Prelude.{◌/◌}
use Rattle.lists.specs.Basics.{length}
use Rattle.model.specs.Layouts.{record_layout, record_bytes, record_fields}
use Rattle.model.specs.Lines.{row_of}
use Rattle.numbers.specs.Filling.{MadeTo}
use Rattle.numbers.proofs.records.fill_numbers.Given as goal

abbrev pub invariant-loop-i : goal.invariant-loop-i
invariant-loop-i l = (goal.iterator-loop-i).can_next l.i-iterator × (goal.iterator-loop-i).is_finite l.i-iterator × MadeTo record_bytes record_fields (row_of record_layout) l.records (length l.records / record_bytes) l.numbers (length l.yielded)
