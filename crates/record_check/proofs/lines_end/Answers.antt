-- The sheet has whole lines.
use Rattle.lists.specs.Basics.{arith}
use Rattle.model.specs.Layouts.{record_bytes}
use Rattle.sheet_laws.specs.Fronts.{filled_within}
use Rattle.sheet_laws.specs.Spared.{accepted_whole}
use Rattle.record_check.proofs.lines_end.Goals as goal

pub front_end-requires : goal.front_end-requires
front_end-requires c =
    let a = c.args in
    record { s_len = accepted_whole a.records.now c.requires; le_width = omega arith; width_le_record_bytes = omega arith }

pub returns : goal.returns
returns c =
    let a = c.args in
    record { is = c.front_end.ensures; within = omega (arith, c.front_end.ensures, accepted_whole a.records.now c.requires, filled_within record_bytes (omega arith) a.records.now (accepted_whole a.records.now c.requires)) }
