-- The part comes back as the text.
use Rattle.codec.specs.Parts.{text-over}
use Rattle.codec.proofs.parts.put_at.Goals as goal

pub returns : goal.returns
returns c = text-over c.args.line.now c.args.text.now _ c.args.at c.copy_from_slice.ensures.after
