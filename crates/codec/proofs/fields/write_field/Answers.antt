-- By the kind: a figure is written as decimal, any other as one of its words.
use Rattle.std.proofs.Common.{◌∙◌}
use Rattle.lists.specs.Basics.{ap}
use Rattle.model.specs.Lines.{last_bytes}
use Rattle.codec.specs.Turns.{write_figure, write_a_word}
use Rattle.codec.proofs.fields.write_field.Goals as goal

pub returns-in-Figure : goal.returns-in-Figure
returns-in-Figure c = c.write.ensures ∙ write_figure c.args.c c.args.v _ c.requires.s_len c.in-Figure.is

pub returns-in_default : goal.returns-in_default
returns-in_default c =
    let a = c.args in
    c.copy_from_slice.ensures.after ∙ (c.last.ensures ∙ (ap (last_bytes a.c.width) c.word.ensures ∙ write_a_word a.c a.v c.in_default.not-Figure))
