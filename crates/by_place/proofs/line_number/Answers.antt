-- By the result that is told.
use Rattle.std.specs.Prelude.{◌≡◌, Result}
use Rattle.std.proofs.Common.{◌∙◌}
use Rattle.lists.specs.Basics.{sym, ap, ne_eqb}
use Rattle.types.specs.declared.Refusal.{Refusal}
use Rattle.model.specs.Types.{Rank}
use Rattle.model.specs.Told.{ranked_by, numbered}
use Rattle.by_place.specs.Ranks.{line_number}
use Rattle.by_place.proofs.line_number.Goals as goal

pub returns-in-Ok : goal.returns-in-Ok
unfolding line_number
returns-in-Ok c = ap (λ (t : Result Rank Refusal). line_number (ranked_by t)) (sym c.in-Ok.is)

pub returns-in-Err : goal.returns-in-Err
unfolding line_number
returns-in-Err c =
    let e = ne_eqb _ 0 (numbered c.in-Err.refusal) in
    c.refused.ensures ∙ rw (c.in-Err.is, e)
