-- A length of 15 + n * 15 is whole lines, and one more than n of them.
use Rattle.std.proofs.Common.{◌∙◌}
use Rattle.lists.specs.Basics.{ap, eqb, length, drop}
use Rattle.model.specs.Layouts.{head_fields}
use Rattle.numbers.specs.Decisions.{room_short, room_broken, room_lines}
use Rattle.numbers.proofs.decisions.has_room.Goals as goal

pub returns-then-size-lt-COORDINATOR_BYTES : goal.returns-then-size-lt-COORDINATOR_BYTES
returns-then-size-lt-COORDINATOR_BYTES c = room_short _ _ c.if-size-lt-COORDINATOR_BYTES.true

pub returns-then-size-ne0 : goal.returns-then-size-ne0
returns-then-size-ne0 c = room_broken _ _ c.if-size-ne0.true

pub returns : goal.returns
returns c =
    let a = c.args in
    ap (eqb _) c.decision_count.ensures ∙ room_lines (length a.coordinator.now) (length (drop head_fields a.numbers.now)) c.if-size-lt-COORDINATOR_BYTES.false c.if-size-ne0.false
