-- The check speaks of what was joined.
use Rattle.std.proofs.Common.{◌∙◌}
use Rattle.lists.specs.Basics.{ap}
use Rattle.model.specs.Records.{records_accepted}
use Rattle.two_check.proofs.both_join.Goals as goal

pub returns : goal.returns
returns c =
    record { answer = c.records_ok.ensures ∙ ap records_accepted c.join.ensures; joined = c.join.ensures }
