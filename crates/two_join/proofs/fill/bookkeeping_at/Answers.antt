-- Three parts, one after another, are the line filled.
use Rattle.std.specs.Prelude.{◌+◌, ◌*◌}
use Rattle.std.proofs.Common.{◌∙◌}
use Rattle.lists.specs.Basics.{ℕ, ap, List, take, drop, bytes}
use Rattle.lists.specs.Pieces.{over}
use Rattle.model.specs.Layouts.{record_bytes}
use Rattle.model.specs.TwoSheets.{bookkeeping_bytes}
use Rattle.two_laws.specs.Deciding.{fixed_columns}
use Rattle.two_join.specs.Joins.{rest_bytes}
use Rattle.two_join.specs.Fills.{bookkeeping-filled}
use Rattle.two_join.proofs.fill.bookkeeping_at.Goals as goal

pub returns : goal.returns
unfolding fixed_columns bytes
returns c =
    let a = c.args in
    let q = c.requires in
    let t = a.i * record_bytes in
    let b = c.args.book.now in
    bookkeeping-filled b a.i q.bookkeeping_bytes_in_bounds a.target.now _ q.record_bytes_in_bounds
    (c.copy_part-3.ensures
    ∙ ap (λ (s : List ℕ). over s (t + 58) (take rest_bytes (drop (a.i * bookkeeping_bytes + 40) b)))
    (c.copy_part-2.ensures
    ∙ ap (λ (s : List ℕ). over s (t + 40) fixed_columns) c.copy_part.ensures))
