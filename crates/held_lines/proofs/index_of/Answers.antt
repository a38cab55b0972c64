-- By the two cases of what is held.
use Rattle.std.proofs.Common.{◌∙◌}
use Rattle.lists.specs.Basics.{sym, arith}
use Rattle.transactions.specs.Held.{held_below}
use Rattle.held_lines.proofs.index_of.Goals as goal

pub offset_bounds-indices-i : goal.offset_bounds-indices-i
offset_bounds-indices-i c =
    let l = held_below _ _ _ (sym c.held_at.ensures ∙ c.in-Some.is) in
    omega (arith, l, c.requires)

pub bounds-indices-i : goal.bounds-indices-i
bounds-indices-i c =
    let l = held_below _ _ _ (sym c.held_at.ensures ∙ c.in-Some.is) in
    omega (arith, l, c.requires)

pub returns-in-Some : goal.returns-in-Some
returns-in-Some c = rw (sym c.held_at.ensures ∙ c.in-Some.is)

pub returns-in-None : goal.returns-in-None
returns-in-None c = rw (sym c.held_at.ensures ∙ c.in-None.is)
