-- The ninth key is refused; otherwise the line as the visit leaves it is read.
use Rattle.lists.specs.Basics.{refl}
use Rattle.call_laws.specs.Accepted.{outcome_refused}
use Rattle.answers.specs.Answers.{to_read}
use Rattle.reads.specs.Fetching.{read_standing, read_full, read_outcome}
use Rattle.reads.proofs.read_new.Goals as goal

pub returns-then-t-ge8 : goal.returns-then-t-ge8
returns-then-t-ge8 c =
    let a = c.args in
    outcome_refused (to_read a.t) a.records.now a.coordinator.now 9 (read_full a.t a.clock a.records.now a.coordinator.now a.i c.requires a.handed c.if-t-ge8.true) refl

pub recover-v-requires : goal.recover-v-requires
recover-v-requires c =
    let a = c.args in
    read_standing a.t a.clock a.records.now a.coordinator.now a.i c.requires

pub returns : goal.returns
returns c =
    let a = c.args in
    read_outcome a.t a.clock a.records.now a.coordinator.now a.i c.requires a.handed _ _ _ c.if-t-ge8.false c.recover-v.ensures c.record_at-r.ensures c.entry_of.ensures c.read_met.ensures
