-- The answer by what the visit came to, with what it wrote.
use Rattle.visits.specs.Visiting.{visit_outcome}
use Rattle.visits.proofs.visit_line.Goals as goal

pub returns : goal.returns
returns c =
    let a = c.args in
    visit_outcome a.clock a.records.now a.coordinator.now a.i
    c.requires _
    c.recover.ensures c.answer.ensures
