-- The two bytes as a number are those of the definition.
use Rattle.std.specs.Prelude.{◌≡◌, ◌-◌}
use Rattle.lists.specs.Basics.{length, take, drop, length-take, length-drop, arith, bytes}
use Rattle.line_bytes.specs.Loads.{loaded}
use Rattle.record_check.specs.Asked.{zero_end, zero_up_to, zero_loaded}
use Rattle.record_check.proofs.is_zero.Goals as goal

pub returns : goal.returns
unfolding zero_up_to zero_end bytes loaded
returns c =
    let line = c.args.line.now in
    let at = c.args.end - 2 in
    let two : length (take 2 (drop at line)) ≡ 2 = simp (length-take, length-drop) (omega (arith, c.requires.le_end, c.requires.end_in_bounds)) in
    rw c.load.ensures.value (zero_loaded line at (λ i. (c.type_inv.line i).fits) two)
