-- What each kind asks for, by the test of its number.
use Rattle.model.specs.Layouts.{record_layout, offset}
use Rattle.record_check.specs.States.{asked_alone, asked-over}
use Rattle.record_check.proofs.related.Goals as goal

pub returns-then-kind-lt-FOLLOWING : goal.returns-then-kind-lt-FOLLOWING
unfolding offset record_layout
returns-then-kind-lt-FOLLOWING c =
    let a = c.args in
    rw (asked_alone a.kind a.line.now c.if-kind-lt-FOLLOWING.true, c.zeros_agree.ensures)

pub returns : goal.returns
unfolding offset record_layout
returns c =
    let a = c.args in
    rw (asked-over a.kind a.line.now c.if-kind-lt-FOLLOWING.false c.requires.known_kind, c.zeros_agree-2.ensures, c.version_follows.ensures)
