-- Of the entries before i each has its index.
use Rattle.std.proofs.Common.{◌∙◌}
use Rattle.lists.specs.Basics.{refl, ap, length-set, arith}
use Rattle.model.specs.Records as sheet
use Rattle.transactions.specs.Held.{has_room_lem, lent_many, lent_at}
use Rattle.held_lines.specs.Located.{indices_of, indices_next, entry_ranged}
use Rattle.held_lines.proofs.lines_of.Goals as goal

pub loop-i-init : goal.loop-i-init
unfolding indices_of
loop-i-init c = (omega arith, (refl, refl))

pub line_index-requires : goal.line_index-requires
line_index-requires c =
    let a = c.args in
    let room = has_room_lem a.t c.well_formed.1.0 c.requires.1.0 in
    let n = lent_many a.t room _ c.held-e-items.ensures.entries in
    rw (lent_at a.t room _ c.held-e-items.ensures.entries c.loop-i.i c.loop-i-test.true)
    (c.requires.0, entry_ranged a.t c.well_formed.1.0 c.requires.1.0 c.requires.1.1 _ (omega (arith, n, c.loop-i-test.true)))

pub loop-i-preserved : goal.loop-i-preserved
loop-i-preserved c =
    let a = c.args in
    let room = has_room_lem a.t c.well_formed.1.0 c.requires.1.0 in
    let n = lent_many a.t room _ c.held-e-items.ensures.entries in (
      omega (arith, n, c.loop-i-test.true),
      (
        length-set c.loop-i.indices c.loop-i.i _ ∙ c.loop-i.invariant.1.0,
        indices_next _ _ _ _ _ c.loop-i.invariant.1.1
            (rw (lent_at a.t room _ c.held-e-items.ensures.entries c.loop-i.i c.loop-i-test.true) at c.line_index.ensures),
      ),
    )

pub returns : goal.returns
returns c =
    let a = c.args in
    let room = has_room_lem a.t c.well_formed.1.0 c.requires.1.0 in
    let n = lent_many a.t room _ c.held-e-items.ensures.entries in
    c.loop-i.invariant.1.1 ∙ ap (indices_of (sheet.records a.records.now) a.t) (omega (arith, n, c.loop-i.invariant.0, c.loop-i-test.false))
