-- From each sheet by its own width.
use Rattle.lists.specs.Basics.{arith}
use Rattle.two_adding.proofs.take_out.Goals as goal

pub remove_line-requires : goal.remove_line-requires
remove_line-requires c =
    record { s_len = c.requires.plain; at_in_bounds = c.requires.in_plain; le_width = omega arith; width_le_record_bytes = omega arith }

pub remove_line-requires-2 : goal.remove_line-requires-2
remove_line-requires-2 c =
    record { s_len = c.requires.bookkeeping; at_in_bounds = c.requires.in_bookkeeping; le_width = omega arith; width_le_record_bytes = omega arith }

pub returns : goal.returns
returns c =
    record { plain = c.remove_line.ensures; bookkeeping = c.remove_line-2.ensures }
