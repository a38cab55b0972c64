-- The first four bytes come back as the new count, and nothing else was lent.
use Rattle.std.specs.Prelude.{◌≡◌}
use Rattle.lists.specs.Basics.{leb, false, length, length-take, arith, lt-leb}
use Rattle.codec.specs.Parts.{count-part}
use Rattle.codec.proofs.coordinator.set_issued.Goals as goal

pub slice_bounds-write-end-then-coordinator-ge-NUMBER_BYTES : goal.slice_bounds-write-end-then-coordinator-ge-NUMBER_BYTES
slice_bounds-write-end-then-coordinator-ge-NUMBER_BYTES c = simp length-take (omega arith)

pub returns-then-coordinator-ge-NUMBER_BYTES : goal.returns-then-coordinator-ge-NUMBER_BYTES
returns-then-coordinator-ge-NUMBER_BYTES c =
    let a = c.args in
    count-part a.coordinator.now _ a.n c.if-coordinator-ge-NUMBER_BYTES.true c.write.ensures

pub returns-else-coordinator-ge-NUMBER_BYTES : goal.returns-else-coordinator-ge-NUMBER_BYTES
returns-else-coordinator-ge-NUMBER_BYTES c =
    let a = c.args in
    let h : leb 4 (length a.coordinator.now) ≡ false = lt-leb 4 (length a.coordinator.now) c.if-coordinator-ge-NUMBER_BYTES.false in rw h
