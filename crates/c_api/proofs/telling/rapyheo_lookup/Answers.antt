-- Which line has the key, as one number.
use Rattle.std.proofs.Common.{◌∙◌}
use Rattle.lists.specs.Basics.{ap}
use Rattle.by_place.specs.Ranks.{line_number}
use Rattle.c_api.proofs.telling.rapyheo_lookup.Goals as goal

pub returns : goal.returns
returns c = c.line_number.ensures ∙ ap line_number c.line_of.ensures.told
