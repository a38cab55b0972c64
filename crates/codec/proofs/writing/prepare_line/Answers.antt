-- The image is moved, then before state, state word, image and clock are written, which is the text of the prepared record.
use Rattle.std.proofs.Common.{◌∙◌}
use Rattle.lists.specs.Basics.{ap, ap₂, ℕ, List, arith}
use Rattle.model.specs.Types.{Image, Before}
use Rattle.types.specs.declared.State.TheVariants.{Prepared}
use Rattle.model.specs.Layouts.{record_layout, image_layout, offset, clock_field}
use Rattle.sheet_laws.specs.Changed.{image_text, image_over, state_over, prior_over, before_over, figure_over, line-prepared}
use Rattle.codec.proofs.writing.prepare_line.Goals as goal

pub image_bytes-before-requires : goal.image_bytes-before-requires
unfolding record_layout image_layout offset
image_bytes-before-requires c = omega (arith, c.requires.whole)

pub returns : goal.returns
unfolding record_layout image_layout offset
returns c =
    let a = c.args in
    let m = c.put_at.ensures ∙ ap (λ (t : List ℕ). before_over t a.line.now) c.image_bytes-before.ensures in
    let p = c.put_prior.ensures ∙ ap₂ (λ (b : Before) (t : List ℕ). prior_over b t) c.state_kept-prior.ensures m in
    let w = c.put_state.ensures ∙ ap (state_over Prepared) p in
    let i = c.write_image.ensures ∙ ap₂ (λ (m : Image) (t : List ℕ). image_over (image_text m) t) c.written_image-image.ensures w in
    c.write_at.ensures ∙ (ap (figure_over clock_field a.clock) i ∙ line-prepared a.line.now c.requires.set a.n a.clock a.columns)
