-- By whether another entry is to be validated, and after the last by whether there are puts.
use Rattle.std.specs.Prelude.{◌≡◌}
use Rattle.std.proofs.Common.{◌∙◌}
use Rattle.lists.specs.Basics.{sym, true, false, arith, lt-ltb, le-ltb, not-true, not-false}
use Rattle.model.specs.Transactions.{is_empty, puts}
use Rattle.model.specs.Steps.{next_entry}
use Rattle.transactions.proofs.stages.next_entry.Goals as goal

pub overflow_add-next : goal.overflow_add-next
overflow_add-next c = omega (arith, c.validate_count-count.type_inv, c.validate_count-count.ensures, c.requires.1)

pub returns-then-next-count : goal.returns-then-next-count
unfolding next_entry
returns-then-next-count c = rw (lt-ltb _ _ (rw c.validate_count-count.ensures at c.if-next-count.true)) c.moved.ensures

pub returns-then-not-has_puts : goal.returns-then-not-has_puts
unfolding next_entry
returns-then-not-has_puts c = let e : is_empty (puts c.args.t) ≡ true = not-false _ (sym c.has_puts.ensures ∙ c.if-not-has_puts.true) in rw (le-ltb _ _ (rw c.validate_count-count.ensures at c.if-next-count.false), e) c.commits.ensures

pub returns : goal.returns
unfolding next_entry
returns c = let e : is_empty (puts c.args.t) ≡ false = not-true _ (sym c.has_puts.ensures ∙ c.if-not-has_puts.false) in rw (le-ltb _ _ (rw c.validate_count-count.ensures at c.if-next-count.false), e) c.to_phase.ensures
