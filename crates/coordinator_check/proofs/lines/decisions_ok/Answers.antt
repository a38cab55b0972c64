-- The first pass starts after number 0, the second after the head's own count; together they are `decisions_made`. Each number of a table is that of its word,
-- by computation.
use Rattle.std.proofs.Common.{◌∙◌}
use Rattle.lists.specs.Basics.{refl, arith, bytes, rules}
use Rattle.line_bytes.specs.Loads.{loaded}
use Rattle.model.specs.Types.{Undecided, Committed, Aborted}
use Rattle.model.specs.Layouts.{words}
use Rattle.model.specs.Coordinator.{decision_number}
use Rattle.coordinator_check.specs.Lines.{table, table_fits}
use Rattle.coordinator_check.specs.Sheet.{whole_parts, ready_low, ready_high, columns_zero, too_few, passes_are}
use Rattle.coordinator_check.proofs.lines.decisions_ok.Goals as goal

pub overflow_sub-count : goal.overflow_sub-count
overflow_sub-count c = let w = whole_parts _ c.requires.whole in omega arith

pub returns-then-issued-count : goal.returns-then-issued-count
returns-then-issued-count c = too_few _ _ c.if-issued-count.true

pub lines_ok-low-requires : goal.lines_ok-low-requires
unfolding table words bytes decision_number loaded
lines_ok-low-requires c =
    let p = table_fits Undecided Committed Aborted Undecided refl in
    record { ready = ready_low _ _ c.requires.whole c.if-issued-count.false _ (c.load.ensures.value ∙ columns_zero); table = p.1 }

pub load-requires-2 : goal.load-requires-2
load-requires-2 c =
    let w = whole_parts _ c.requires.whole in
    omega arith

pub lines_ok-requires : goal.lines_ok-requires
unfolding table words bytes decision_number loaded
lines_ok-requires c =
    let p = c.requires in
    -- either table has room, so that only `returns` tells which of them is asked
    let any = (table_fits Undecided Committed Aborted Undecided refl).1 in
    let none = (table_fits Undecided Undecided Undecided Undecided refl).1 in
    record { ready = ready_high _ _ p.whole c.if-issued-count.false _ p.counted c.load-2.ensures.value; table = search rules }

pub returns : goal.returns
unfolding table words bytes decision_number loaded
returns c = passes_are _ _ _ _ _ _ c.if-issued-count.false refl refl c.lines_ok-low.ensures c.lines_ok.ensures
