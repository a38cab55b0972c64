-- What is told.
use Rattle.two_engine.proofs.lookup.line_of.Goals as goal

pub returns : goal.returns
returns c =
    record { told = c.line_told.ensures.told; few = c.line_told.ensures.few }
