-- Field by field, both words by their numbers.
use Rattle.model.specs.Records.{record_of, key_of, image_from}
use Rattle.codec.proofs.records.record_of.Goals as goal

pub returns : goal.returns
unfolding record_of key_of image_from
returns c =
    rw (c.from.ensures, c.from-2.ensures)
