-- Three writes, one after another, are the line cut.
use Rattle.std.specs.Prelude.{◌+◌, ◌*◌}
use Rattle.std.proofs.Common.{◌∙◌}
use Rattle.lists.specs.Basics.{ℕ, ap, List, take, drop, set, length-set}
use Rattle.lists.specs.Pieces.{over}
use Rattle.model.specs.Layouts.{record_bytes}
use Rattle.model.specs.TwoSheets.{plain_bytes}
use Rattle.two_join.specs.Splits.{plain-parts}
use Rattle.two_join.proofs.plain_at.Goals as goal

pub shape_of-plain : goal.shape_of-plain
shape_of-plain c = simp length-set (c.copy_part-2.auto.target ∙ c.copy_part.auto.target)

pub returns : goal.returns
returns c =
    let a = c.args in
    let q = c.requires in
    plain-parts a.area.now a.i q.record_bytes_in_bounds a.plain.now _ q.plain_bytes_in_bounds
    (ap (λ (t : List ℕ). set t (a.i * plain_bytes + 38) 10) (c.copy_part-2.ensures ∙ ap (λ (t : List ℕ). over t (a.i * plain_bytes + 20) (take 18 (drop (a.i * record_bytes + 40) a.area.now))) c.copy_part.ensures))
