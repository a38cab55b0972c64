-- By the kind: a figure is read as decimal, any other as one of its words.
use Rattle.std.proofs.Common.{◌∙◌}
use Rattle.codec.specs.Turns.{read_figure, read_a_word}
use Rattle.codec.proofs.fields.read_field.Goals as goal

pub returns-in-Figure : goal.returns-in-Figure
returns-in-Figure c = c.read.ensures ∙ read_figure c.args.c c.args.s.now c.in-Figure.is

pub returns-in_default : goal.returns-in_default
returns-in_default c = c.read_word.ensures ∙ read_a_word c.args.c c.args.s.now c.in_default.not-Figure
