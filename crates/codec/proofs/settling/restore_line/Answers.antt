-- The bytes that are put are those of the image before.
use Rattle.std.proofs.Common.{◌∙◌}
use Rattle.lists.specs.Basics.{ap, ℕ, List, arith}
use Rattle.model.specs.Layouts.{offset, record_layout, image_layout}
use Rattle.sheet_laws.specs.Changed.{nothing_text, state_over, image_over, settled_over}
use Rattle.codec.proofs.settling.restore_line.Goals as goal

pub image_bytes-image-requires : goal.image_bytes-image-requires
unfolding offset record_layout image_layout
image_bytes-image-requires c = let n = c.requires in omega (arith, n)

pub returns : goal.returns
unfolding offset record_layout image_layout
returns c =
    let a = c.args in
    let m = c.put_at.ensures ∙ ap (λ (x : List ℕ). image_over x a.line.now) c.image_bytes-image.ensures in
    c.settle_line.ensures ∙ ap (λ (x : List ℕ). settled_over nothing_text (state_over a.state x)) m
