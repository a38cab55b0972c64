-- The ten bytes in the line, or none past the end.
use Rattle.std.proofs.Common.{◌∙◌}
use Rattle.lists.specs.Basics.{sym, lt-ltb, le-ltb, arith}
use Rattle.codec.specs.Parts.{found-inside, found-start, line-past}
use Rattle.codec.proofs.reading.has_word.Goals as goal

pub is_word_at-requires : goal.is_word_at-requires
is_word_at-requires c =
    let at = sym c.in-Some.is ∙ c.line_at.ensures in
    omega (arith, c.requires, found-inside c.args.records.now c.args.i _ at, found-start c.args.records.now c.args.i _ at)

pub returns-in-Some : goal.returns-in-Some
returns-in-Some c =
    let at = sym c.in-Some.is ∙ c.line_at.ensures in
    rw (lt-ltb _ _ (found-inside c.args.records.now c.args.i _ at), ← found-start c.args.records.now c.args.i _ at) c.is_word_at.ensures

pub returns-in-None : goal.returns-in-None
returns-in-None c = rw (le-ltb _ _ (line-past c.args.records.now c.args.i _ (sym c.in-None.is ∙ c.line_at.ensures)))
