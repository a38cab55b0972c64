-- A visit writes only where the line is prepared, as what it came to tells.
use Rattle.model.specs.ByteCalls.{sheets_of}
use Rattle.recover.specs.Recovering.{line_at, meeting-pending}
use Rattle.recover.proofs.recover.Goals as goal

pub meet-v-requires : goal.meet-v-requires
meet-v-requires c = c.requires.accepted.lines

pub settle-requires : goal.settle-requires
settle-requires c =
    let a = c.args in
    record {
      standing = c.requires;
      pending = rw c.meet-v.ensures
          (meeting-pending a.clock (sheets_of a.records.now a.decisions.now) (line_at a.records.now a.i));
    }

pub returns : goal.returns
returns c =
    record { met = c.meet-v.ensures; written = c.settle.ensures }
