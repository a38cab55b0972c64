-- The text that is put is the word of the state's number.
use Rattle.std.proofs.Common.{◌∙◌}
use Rattle.lists.specs.Basics.{ap}
use Rattle.lists.specs.Pieces.{over}
use Rattle.model.specs.Types.{StateWord}
use Rattle.model.specs.Layouts.{offset, record_layout, record_offset, state_field, word_at}
use Rattle.codec.specs.Casts.{state_cast}
use Rattle.codec.proofs.parts.put_state.Goals as goal

pub returns : goal.returns
unfolding offset record_layout
returns c =
    let a = c.args in
    c.put_at.ensures
    ∙ ap (over a.line.now (record_offset state_field)) (c.word-word.ensures ∙ ap (word_at StateWord) (state_cast a.state))
