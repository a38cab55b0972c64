-- Four figures are written one behind another, which is the image's text.
use Rattle.std.specs.Prelude.{◌+◌}
use Rattle.std.proofs.Common.{◌∙◌}
use Rattle.lists.specs.Basics.{ap, arith}
use Rattle.model.specs.Layouts.{offset, record_layout, image_field}
use Rattle.sheet_laws.specs.Changed.{image-written, figure_over}
use Rattle.codec.proofs.parts.write_image.Goals as goal

pub returns : goal.returns
unfolding offset record_layout
returns c =
    let a = c.args in
    let txid = c.write_at-2.ensures ∙ ap (figure_over (image_field + 1) a.m.txid) c.write_at.ensures in
    let column1 = c.write_at-3.ensures ∙ ap (figure_over (image_field + 2) a.m.column1) txid in
    c.write_at-4.ensures ∙ (ap (figure_over (image_field + 3) a.m.column2) column1 ∙ image-written a.line.now a.m (omega arith))
