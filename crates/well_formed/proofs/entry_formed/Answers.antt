-- The code is the definition, clause by clause.
use Rattle.model.specs.WellFormed.{entry_formed}
use Rattle.well_formed.proofs.entry_formed.Goals as goal

pub returns : goal.returns
unfolding entry_formed
returns c =
    rw (c.image_in_range.ensures, c.version_formed.ensures, c.put_fits.ensures, c.key_in_range.ensures)
