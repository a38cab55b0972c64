-- By the two cases of whether the entry is of the group.
use Rattle.group_writes.specs.Turns.{turned-not, turned-own}
use Rattle.group_writes.proofs.changes.change_entry.Goals as goal

pub returns-then-not-own : goal.returns-then-not-own
returns-then-not-own c = turned-not _ _ _ _ _ c.requires.accepted c.if-not-own.true

pub change_line-requires : goal.change_line-requires
change_line-requires c = c.requires.accepted

pub returns : goal.returns
returns c =
    let a = c.args in
    turned-own a.c a.n a.e a.records.now a.own a.index _ c.if-not-own.false
    c.requires c.change_line.ensures
