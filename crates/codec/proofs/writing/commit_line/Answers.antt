-- State word, image and nothing are written, which is the text of the committed record.
use Rattle.std.proofs.Common.{◌∙◌}
use Rattle.lists.specs.Basics.{ap, ap₂, ℕ, List}
use Rattle.model.specs.Types.{Image}
use Rattle.sheet_laws.specs.Changed.{image_text, nothing_text, image_over, settled_over, line-committed}
use Rattle.codec.proofs.writing.commit_line.Goals as goal

pub returns : goal.returns
returns c =
    let a = c.args in
    let i = c.write_image.ensures
    ∙ ap₂ (λ (m : Image) (t : List ℕ). image_over (image_text m) t) c.written_image-image.ensures c.put_state.ensures in
    c.put_nothing.ensures ∙ (ap (settled_over nothing_text) i ∙ line-committed a.line.now c.requires.set a.n a.columns)
