-- No entry before i has the key of a later one.
use Rattle.std.specs.Prelude.{◌+◌}
use Rattle.std.proofs.Common.{◌∙◌}
use Rattle.lists.specs.Basics.{sym, ap, any, get_or, length, arith}
use Rattle.std.proofs.lemmas.Slice.{between_to_end}
use Rattle.model.specs.Transactions.{no_entry}
use Rattle.model.specs.WellFormed.{distinct_keys}
use Rattle.well_formed.specs.Formed.{same_key_as, distinct_here, distinct_last}
use Rattle.well_formed.proofs.distinct_keys.Goals as goal

pub returns-then-has_key : goal.returns-then-has_key
returns-then-has_key c =
    let xs = c.held-entries.result.now in
    let i = c.loop-i.i in
    sym (sym (ap distinct_keys c.held-entries.ensures.entries) ∙ (sym c.loop-i.invariant ∙ distinct_here xs i c.loop-i-test.true _ (sym c.if-has_key.true ∙ (c.has_key.ensures ∙ ap (any (same_key_as (get_or xs i no_entry))) (between_to_end xs (i + 1) (length xs) (omega arith))))))

pub loop-i-preserved : goal.loop-i-preserved
loop-i-preserved c =
    let xs = c.held-entries.result.now in
    let i = c.loop-i.i in
    sym (distinct_here xs i c.loop-i-test.true _ (sym c.if-has_key.false ∙ (c.has_key.ensures ∙ ap (any (same_key_as (get_or xs i no_entry))) (between_to_end xs (i + 1) (length xs) (omega arith))))) ∙ c.loop-i.invariant

pub returns : goal.returns
returns c =
    let xs = c.held-entries.result.now in
    let i = c.loop-i.i in
    distinct_last xs i c.loop-i-test.false ∙ (c.loop-i.invariant ∙ ap distinct_keys c.held-entries.ensures.entries)
