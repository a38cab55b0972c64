-- The bytes copied down and the line where it goes.
use Rattle.std.specs.Prelude.{◌/◌}
use Rattle.lists.specs.Basics.{length}
use Rattle.model.specs.Lines.{lines_of}
use Rattle.shifting.specs.Moves.{insert_done}
use Rattle.shifting.proofs.insert_line.Goals as goal

pub returns : goal.returns
unfolding lines_of
returns c =
    let a = c.args in
    insert_done a.width a.at (length a.s.now / a.width) a.s.now _ a.text.now _ c.requires.s_len c.requires.at_in_bounds c.copy_from_slice.ensures.after c.copy_within.ensures.after
