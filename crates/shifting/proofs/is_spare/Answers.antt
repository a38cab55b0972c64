-- The line and the end of the widest spare are compared.
use Rattle.std.proofs.Common.{◌∙◌, rules}
use Rattle.lists.specs.Basics.{ap, length, arith}
use Rattle.model.specs.Layouts.{record_bytes}
use Rattle.sheet_laws.specs.Fronts.{length-spare}
use Rattle.shifting.proofs.is_spare.Goals as goal

pub slice_bounds-eq-count-2 : goal.slice_bounds-eq-count-2
slice_bounds-eq-count-2 c = omega (arith, ap length c.requires.widest ∙ length-spare record_bytes (omega arith))

pub slice_bounds-eq-start-2 : goal.slice_bounds-eq-start-2
slice_bounds-eq-start-2 c = let l = ap length c.requires.widest ∙ length-spare record_bytes (omega arith) in search rules
