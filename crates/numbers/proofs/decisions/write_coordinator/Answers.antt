-- By the conditions in order; where none holds, what was filled is the coordinator's text.
use Rattle.std.specs.Prelude.{◌+◌, ◌*◌}
use Rattle.std.proofs.Common.{◌∙◌}
use Rattle.lists.specs.Basics.{sym, length, drop, eqb-true}
use Rattle.model.specs.Layouts.{coordinator_bytes, head_fields}
use Rattle.numbers.specs.DecisionAnswers.{sized, write_misfit, write_bad, write_done}
use Rattle.numbers.proofs.decisions.write_coordinator.Goals as goal

pub returns-then-not-has_room : goal.returns-then-not-has_room
returns-then-not-has_room c =
    let a = c.args in
    let all = write_misfit a.numbers.now a.coordinator.now (sym c.has_room.ensures ∙ c.if-not-has_room.true) in
    record { answer = all.0; target = all.1 }

pub returns-then-not-numbers_ok : goal.returns-then-not-numbers_ok
returns-then-not-numbers_ok c =
    let a = c.args in
    let all = write_bad a.numbers.now a.coordinator.now (sym c.has_room.ensures ∙ c.if-not-has_room.false) (sym c.numbers_ok.ensures ∙ c.if-not-numbers_ok.true) in
    record { answer = all.0; target = all.1 }

pub fill_sheet-requires : goal.fill_sheet-requires
fill_sheet-requires c =
    let a = c.args in
    let z = sized a.numbers.now (sym c.numbers_ok.ensures ∙ c.if-not-numbers_ok.false) in
    record { whole_head = z.head; few_lines = z.few; coordinator_len = eqb-true (length a.coordinator.now) (coordinator_bytes + length (drop head_fields a.numbers.now) * coordinator_bytes) (sym c.has_room.ensures ∙ c.if-not-has_room.false) }

pub returns : goal.returns
returns c =
    let a = c.args in
    let all = write_done a.numbers.now a.coordinator.now _ (sym c.has_room.ensures ∙ c.if-not-has_room.false) (sym c.numbers_ok.ensures ∙ c.if-not-numbers_ok.false) c.fill_sheet.ensures in
    record { answer = all.0; target = all.1 }
