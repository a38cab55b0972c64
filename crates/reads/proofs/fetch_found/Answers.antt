-- A held key is read from its entry, a new one from its line.
use Rattle.std.proofs.Common.{◌∙◌, Ok}
use Rattle.lists.specs.Basics.{sym, ap, arith}
use Rattle.answers.specs.declared.Read.{Read}
use Rattle.transactions.specs.Held.{held_below}
use Rattle.reads.specs.Fetching.{read_few, read_held_lem, new_read_lem, read_found}
use Rattle.reads.proofs.fetch_found.Goals as goal

pub held_at-requires : goal.held_at-requires
held_at-requires c =
    let a = c.args in
    read_few a.t a.key a.clock a.records.now a.coordinator.now a.i c.requires

pub read_held-requires : goal.read_held-requires
read_held-requires c =
    let a = c.args in
    let l = held_below a.t a.key _ (sym c.held_at.ensures ∙ c.in-Some.is) in let m = read_few a.t a.key a.clock a.records.now a.coordinator.now a.i c.requires in omega arith

pub fetch_new-requires : goal.fetch_new-requires
fetch_new-requires c =
    let a = c.args in
    new_read_lem a.t a.key a.records.now a.coordinator.now a.i c.requires (sym c.held_at.ensures ∙ c.in-None.is)

pub returns-in-Some : goal.returns-in-Some
returns-in-Some c =
    let a = c.args in
    read_held_lem a.t a.key a.clock a.records.now a.coordinator.now a.i c.requires a.handed _ (sym c.held_at.ensures ∙ c.in-Some.is) (ap (λ (x : Read). Ok x) c.read_held.ensures)

pub returns-in-None : goal.returns-in-None
returns-in-None c =
    let a = c.args in
    read_found a.handed a.t a.key a.clock a.records.now a.coordinator.now a.i c.requires c.fetch_new.ensures
