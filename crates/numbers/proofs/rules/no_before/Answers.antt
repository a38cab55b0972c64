-- The code is the definition: the derived tests are those of its fields.
use Rattle.lists.specs.Basics.{and_assoc}
use Rattle.model.specs.Records.{no_before, is_zero}
use Rattle.codec.specs.Casts.{nothing_test}
use Rattle.numbers.proofs.rules.no_before.Goals as goal

pub returns : goal.returns
unfolding no_before is_zero
returns c = rw (c.eq.ensures, c.eq-2.ensures, nothing_test c.args.r.prior) (simp and_assoc)
