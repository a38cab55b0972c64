-- One turn makes one more entry.
use Rattle.std.specs.Prelude.{◌≡◌}
use Rattle.std.proofs.Common.{◌∙◌}
use Rattle.lists.specs.Basics.{ap, arith}
use Rattle.model.specs.Greatest.{greatest_transaction}
use Rattle.greatest.specs.Filling.{entry_next}
use Rattle.greatest.proofs.transaction.Goals as goal

pub loop-i-init : goal.loop-i-init
unfolding greatest_transaction
loop-i-init c = (omega arith, c.new_transaction-t.ensures)

pub loop-i-preserved : goal.loop-i-preserved
loop-i-preserved c =
    (omega arith, c.with_entry-t.ensures ∙ entry_next c.loop-i.i _ _ c.entry-e.ensures c.loop-i.invariant.1)

pub returns : goal.returns
returns c =
    let a = c.args in
    let l : c.loop-i.i ≡ a.count = omega arith in
    c.loop-i.invariant.1 ∙ ap greatest_transaction l
