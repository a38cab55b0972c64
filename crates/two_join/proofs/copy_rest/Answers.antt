-- A part lent and come back as so many bytes of the other slice.
use Rattle.two_join.specs.Joins.{part-over}
use Rattle.two_join.proofs.copy_rest.Goals as goal

pub returns : goal.returns
returns c =
    let a = c.args in
    let q = c.requires in
    part-over a.target.now a.from.now _ a.at a.start a.n q.n_in_bounds q.n_in_bounds_2 c.put.ensures
