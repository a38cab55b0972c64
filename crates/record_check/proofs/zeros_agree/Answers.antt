-- Both tests are those of the definition.
use Rattle.model.specs.Layouts.{record_layout}
use Rattle.record_check.specs.Asked.{zeros_agree}
use Rattle.record_check.proofs.zeros_agree.Goals as goal

pub returns : goal.returns
unfolding zeros_agree record_layout
returns c = rw (c.is_zero-txid.ensures, c.is_zero-version.ensures)
