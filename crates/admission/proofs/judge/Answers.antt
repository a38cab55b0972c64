-- The head is asked first; then the letters of the sheet, which are its units, give the groups and the rest.
use Rattle.std.proofs.Common.{◌∙◌}
use Rattle.lists.specs.Basics.{sym, take, drop, arith}
use Rattle.sheet_laws.specs.Decisions.{readable_length}
use Rattle.transactions.specs.Units.{units_in}
use Rattle.well_formed.specs.Formed.{head_few, formed-not}
use Rattle.admission.specs.Admission.{judged-not, judged-formed}
use Rattle.admission.proofs.judge.Goals as goal

pub returns-then-not-head_formed : goal.returns-then-not-head_formed
returns-then-not-head_formed c =
    let a = c.args in
    judged-not a.t a.coordinator.now c.requires _ c.issued-issued.ensures (sym (formed-not (units_in (take 9 (drop 5 a.coordinator.now))) _ a.t (sym c.head_formed.ensures ∙ c.if-not-head_formed.true)))

pub slice_bounds-letters-end : goal.slice_bounds-letters-end
slice_bounds-letters-end c =
    let a = c.args in
    omega (arith, readable_length a.coordinator.now c.requires)

pub groups_of-groups-requires : goal.groups_of-groups-requires
groups_of-groups-requires c =
    let a = c.args in
    head_few _ a.t (sym c.head_formed.ensures ∙ c.if-not-head_formed.false)

pub formed-requires : goal.formed-requires
formed-requires c =
    record { head = sym c.head_formed.ensures ∙ c.if-not-head_formed.false; groups = c.groups_of-groups.ensures.count }

pub returns-then-not-formed : goal.returns-then-not-formed
returns-then-not-formed c =
    let a = c.args in
    judged-not a.t a.coordinator.now c.requires _ c.issued-issued.ensures (sym c.formed.ensures ∙ c.if-not-formed.true)

pub returns : goal.returns
returns c =
    let a = c.args in
    judged-formed a.t a.coordinator.now c.requires _ c.issued-issued.ensures _ c.groups_of-groups.ensures.count c.groups_of-groups.ensures.places (sym c.formed.ensures ∙ c.if-not-formed.false)
