-- No line from `last` on differs, so that the lines before it reach as far as all do.
use Rattle.std.specs.Prelude.{◌≡◌, ◌/◌, length}
use Rattle.model.specs.Layouts.{record_bytes}
use Rattle.model.specs.Changes.{reach_of}
use Rattle.changes.proofs.last_reach.Given as goal

abbrev pub invariant-loop-last : goal.invariant-loop-last
invariant-loop-last l = reach_of l.before l.after l.last ≡ reach_of l.before l.after (length l.before / record_bytes)
