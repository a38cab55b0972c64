-- Two parts, one after another, are the line cut.
use Rattle.std.specs.Prelude.{◌+◌, ◌*◌}
use Rattle.std.proofs.Common.{◌∙◌}
use Rattle.lists.specs.Basics.{ℕ, ap, List, take, drop}
use Rattle.lists.specs.Pieces.{over}
use Rattle.model.specs.Layouts.{record_bytes}
use Rattle.model.specs.TwoSheets.{bookkeeping_bytes}
use Rattle.two_join.specs.Joins.{rest_bytes}
use Rattle.two_join.specs.Splits.{bookkeeping-parts}
use Rattle.two_join.proofs.bookkeeping_at.Goals as goal

pub returns : goal.returns
returns c =
    let a = c.args in
    let q = c.requires in
    bookkeeping-parts a.area.now a.i q.record_bytes_in_bounds a.book.now _ q.bookkeeping_bytes_in_bounds
    (c.copy_part-2.ensures ∙ ap (λ (t : List ℕ). over t (a.i * bookkeeping_bytes + 40) (take rest_bytes (drop (a.i * record_bytes + 58) a.area.now))) c.copy_part.ensures)
