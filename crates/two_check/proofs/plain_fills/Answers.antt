-- The check speaks of what was filled.
use Rattle.std.proofs.Common.{◌∙◌}
use Rattle.lists.specs.Basics.{ap}
use Rattle.model.specs.Records.{records_accepted}
use Rattle.two_check.proofs.plain_fills.Goals as goal

pub returns : goal.returns
returns c = c.records_ok.ensures ∙ ap records_accepted c.plain.ensures
