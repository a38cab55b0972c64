-- The bytes copied up and a spare over the last line.
use Rattle.std.specs.Prelude.{◌/◌}
use Rattle.std.proofs.Common.{◌∙◌}
use Rattle.lists.specs.Basics.{length}
use Rattle.model.specs.Lines.{lines_of}
use Rattle.model.specs.Spares.{spare_line}
use Rattle.shifting.specs.Comparing.{spare_lent}
use Rattle.shifting.specs.Moves.{remove_done}
use Rattle.shifting.proofs.remove_line.Goals as goal

pub returns : goal.returns
unfolding lines_of
returns c =
    let a = c.args in
    let e = spare_lent _ a.width c.requires.le_width c.requires.width_le_record_bytes c.spare.ensures in
    remove_done a.width a.at (length a.s.now / a.width) a.s.now _ (spare_line a.width) _ c.requires.s_len c.requires.at_in_bounds (c.copy_from_slice.ensures.after ∙ e) c.copy_within.ensures.after
