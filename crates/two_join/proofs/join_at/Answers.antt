-- Three parts, one after another, are the line joined.
use Rattle.std.specs.Prelude.{◌+◌, ◌*◌}
use Rattle.std.proofs.Common.{◌∙◌}
use Rattle.lists.specs.Basics.{ℕ, ap, List, take, drop}
use Rattle.lists.specs.Pieces.{over}
use Rattle.two_join.specs.Joins.{rest_bytes, three-parts}
use Rattle.model.specs.TwoSheets.{plain_bytes, bookkeeping_bytes}
use Rattle.model.specs.Layouts.{record_bytes}
use Rattle.two_join.proofs.join_at.Goals as goal

pub returns : goal.returns
returns c =
    let a = c.args in
    let q = c.requires in
    let s = c.args.target.now in
    let p = c.args.plain.now in
    let b = c.args.book.now in
    let i = c.args.i in
    c.copy_part-3.ensures
    ∙ (ap (λ (t : List ℕ). over t (i * record_bytes + 58) (take rest_bytes (drop (i * bookkeeping_bytes + 40) b)))
    (c.copy_part-2.ensures
    ∙ ap (λ (t : List ℕ). over t (i * record_bytes + 40) (take 18 (drop (i * plain_bytes + 20) p))) c.copy_part.ensures)
    ∙ three-parts s p b i q.plain_bytes_in_bounds q.bookkeeping_bytes_in_bounds q.record_bytes_in_bounds)
