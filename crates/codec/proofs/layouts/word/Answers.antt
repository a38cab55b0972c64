-- Past the last word there are spaces.
use Rattle.lists.specs.Basics.{sym, get_or-eq_default, ltb-false, bytes}
use Rattle.model.specs.Layouts.{words}
use Rattle.codec.proofs.layouts.word.Goals as goal

pub returns-in-None : goal.returns-in-None
unfolding bytes
returns-in-None c = sym (get_or-eq_default (words c.args.kind) (bytes "          ") (rw c.words.ensures at (ltb-false _ _ (sym c.in-None.ensures.lookup.0))))
