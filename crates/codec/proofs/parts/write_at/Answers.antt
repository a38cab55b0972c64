-- The part comes back as the figure, as wide as the part.
use Rattle.codec.specs.Parts.{figure_over_lem}
use Rattle.codec.proofs.parts.write_at.Goals as goal

pub returns : goal.returns
returns c =
    let a = c.args in
    figure_over_lem a.line.now _ a.at a.n a.v c.requires c.write.ensures
