-- Where they stand among all.
use Rattle.lists.specs.Basics.{bytes}
use Rattle.codec.specs.Words.{all_words}
use Rattle.codec.proofs.layouts.words.Goals as goal

pub returns : goal.returns
unfolding all_words bytes
returns c = c.place.ensures.words
