-- The index of the word is its number.
use Rattle.std.proofs.Common.{◌∙◌}
use Rattle.lists.specs.Basics.{sym, arith}
use Rattle.codec.specs.Turns.{word-index, index-small}
use Rattle.codec.proofs.fields.read_word.Goals as goal

pub returns-in_err-n : goal.returns-in_err-n
returns-in_err-n c = c.from_residual.ensures ∙ (sym c.in_err-n.was ∙ (c.word_index.ensures ∙ word-index _ _ _))

pub overflow_cast-result : goal.overflow_cast-result
overflow_cast-result c = let l = index-small c.args.kind c.args.w _ c.args.s.now (sym c.word_index.ensures ∙ c.in_ok-n.was) in omega arith

pub returns : goal.returns
returns c = sym c.in_ok-n.was ∙ (c.word_index.ensures ∙ word-index _ _ _)
