-- Both tests, as the definition has them.
use Rattle.by_place.proofs.is_named.Goals as goal

pub returns : goal.returns
returns c = rw c.is_listed.ensures
