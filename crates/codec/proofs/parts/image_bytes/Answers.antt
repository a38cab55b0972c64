-- The bytes copied are those lent.
use Rattle.std.specs.Prelude.{◌≡◌, ◌+◌, ◌-◌}
use Rattle.std.proofs.Common.{◌∙◌}
use Rattle.lists.specs.Basics.{ap, ℕ, take, drop, arith, rules}
use Rattle.model.specs.Layouts.{offset, record_layout, image_layout, image_bytes}
use Rattle.codec.proofs.parts.image_bytes.Goals as goal

pub slice_bounds-copy_from_slice-end-2 : goal.slice_bounds-copy_from_slice-end-2
unfolding image_layout offset record_layout
slice_bounds-copy_from_slice-end-2 c = search rules

pub returns : goal.returns
unfolding image_layout offset record_layout
returns c =
    let a = c.args in
    let w : a.at + 28 - a.at ≡ image_bytes = omega arith in
    c.copy_from_slice.ensures.after ∙ ap (λ (n : ℕ). take n (drop a.at a.line.now)) w
