-- What is asked is the call of this name.
use Rattle.model.specs.Requests.{operation_of}
use Rattle.two_engine.proofs.put.Goals as goal

pub returns : goal.returns
unfolding operation_of
returns c = (c.perform.ensures.answer, (c.perform.ensures.plain, (c.perform.ensures.bookkeeping, c.perform.ensures.decisions)))
