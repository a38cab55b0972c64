-- By the words that may stand in the line of the number; a number without a line is undecided.
use Rattle.std.proofs.Common.{◌∙◌}
use Rattle.lists.specs.Basics.{sym}
use Rattle.codec.specs.Parts.{decision-part, decision_past}
use Rattle.codec.proofs.coordinator.decision_at.Goals as goal

pub returns-then-not-has_line : goal.returns-then-not-has_line
returns-then-not-has_line c =
    let a = c.args in
    decision_past a.coordinator.now a.n (sym c.has_line.ensures ∙ c.if-not-has_line.true)

pub holds_decision-requires : goal.holds_decision-requires
holds_decision-requires c = sym c.has_line.ensures ∙ c.if-not-has_line.false

pub returns-then-holds_decision : goal.returns-then-holds_decision
returns-then-holds_decision c =
    let a = c.args in
    let there = sym c.has_line.ensures ∙ c.if-not-has_line.false in
    rw (decision-part a.coordinator.now a.n there, sym c.holds_decision.ensures ∙ c.if-holds_decision.true)

pub holds_decision-requires-2 : goal.holds_decision-requires-2
holds_decision-requires-2 c = sym c.has_line.ensures ∙ c.if-not-has_line.false

pub returns-then-holds_decision-2 : goal.returns-then-holds_decision-2
returns-then-holds_decision-2 c =
    let a = c.args in
    let there = sym c.has_line.ensures ∙ c.if-not-has_line.false in
    let first = sym c.holds_decision.ensures ∙ c.if-holds_decision.false in
    rw (decision-part a.coordinator.now a.n there, first, sym c.holds_decision-2.ensures ∙ c.if-holds_decision-2.true)

pub returns : goal.returns
returns c =
    let a = c.args in
    let there = sym c.has_line.ensures ∙ c.if-not-has_line.false in
    let first = sym c.holds_decision.ensures ∙ c.if-holds_decision.false in
    rw (decision-part a.coordinator.now a.n there, first, sym c.holds_decision-2.ensures ∙ c.if-holds_decision-2.false)
