-- The text that is put is the word of the before state's number.
use Rattle.std.proofs.Common.{◌∙◌}
use Rattle.lists.specs.Basics.{ap}
use Rattle.lists.specs.Pieces.{over}
use Rattle.model.specs.Types.{BeforeWord}
use Rattle.model.specs.Layouts.{offset, record_layout, record_offset, before_state_field, word_at}
use Rattle.codec.specs.Casts.{before_cast}
use Rattle.codec.proofs.parts.put_prior.Goals as goal

pub returns : goal.returns
unfolding offset record_layout
returns c =
    let a = c.args in
    c.put_at.ensures
    ∙ ap (over a.line.now (record_offset before_state_field)) (c.word-word.ensures ∙ ap (word_at BeforeWord) (before_cast a.prior))
