-- A word ends after the space before it, so that the column rises to the end of the line; the words to come, after the numbers so far, give what all words do.
use Rattle.std.specs.Prelude.{◌≡◌, ◌-◌, ◌≤◌}
use Rattle.lists.specs.Basics.{length, drop}
use Rattle.script.specs.Lines.{no_numbers, with_words, words_after}
use Rattle.script.proofs.scan.numbers_after.Given as goal

abbrev pub invariant-loop-at : goal.invariant-loop-at
invariant-loop-at l = (l.at ≤ length l.line) × (with_words l.numbers (words_after (drop l.at l.line)) ≡ with_words no_numbers (words_after (drop l.from l.line)))

abbrev pub decreases-loop-at : goal.decreases-loop-at
decreases-loop-at l = length l.line - l.at
