-- A figure of four columns is in its range.
use Rattle.std.proofs.Common.{◌≤◌, ◌∙◌}
use Rattle.std.proofs.lemmas.List.Elements.{All-set}
use Rattle.lists.specs.Basics.{sym}
use Rattle.decimal.specs.Laws.{figure_scan}
use Rattle.script.proofs.head.read.Goals as goal

pub loop-i-preserved : goal.loop-i-preserved
loop-i-preserved g c = All-set (λ n. n ≤ 9999) c.loop-i.lines c.loop-i.i c.in_ok-v.v (figure_scan 0 9999 _ _ (sym c.read.ensures ∙ c.in_ok-v.was)).1.1 c.loop-i.invariant
