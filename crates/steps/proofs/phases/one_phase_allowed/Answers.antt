-- The definition, with the number of groups and the letters at hand.
use Rattle.model.specs.Steps.{one_phase_allowed}
use Rattle.steps.proofs.phases.one_phase_allowed.Goals as goal

pub returns : goal.returns
unfolding one_phase_allowed
returns c = λ s e u. rw (c.holds_lower.ensures, u, ← e)
