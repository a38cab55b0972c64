-- The changes that are left make of the lines as they are what all of them make of the lines as they were.
use Rattle.std.specs.Prelude.{◌<◌}
use Rattle.std.proofs.Common.{◌∙◌}
use Rattle.lists.specs.Basics.{refl, sym, ap, List, arith}
use Rattle.model.specs.Types.{Entry}
use Rattle.model.specs.Records as sheet
use Rattle.model.specs.Records.{records_text}
use Rattle.model.specs.Writes.{lines_after}
use Rattle.transactions.specs.Held.{has_room_lem, lent_many, lent_at}
use Rattle.group_writes.specs.Groups.{group_in_lem}
use Rattle.group_writes.specs.Changes.{written}
use Rattle.group_writes.specs.Turns.{underway_first, underway_next, underway_last, turn-fits}
use Rattle.group_writes.proofs.changes.change_group.Goals as goal

pub loop-i-init : goal.loop-i-init
loop-i-init c = (refl, underway_first _ _ _ _ _ c.well_formed.1.0 c.requires)

pub change_entry-requires : goal.change_entry-requires
change_entry-requires c =
    let room = has_room_lem c.args.t c.well_formed.1.0 c.requires.few in
    let l : c.loop-i.i < c.args.t.count = omega (arith, lent_many c.args.t room _ c.held-e-items.ensures.entries, c.loop-i-test.true) in
    rw (lent_at c.args.t room _ c.held-e-items.ensures.entries c.loop-i.i c.loop-i-test.true)
    (record {
      accepted = c.loop-i.invariant.1.accepted;
      fit = λ h. turn-fits _ _ _ _ _ _ _ c.loop-i.invariant.1 l (sym (c.requires.grouped.own _ l) ∙ h);
      there = c.loop-i.invariant.1.indexed.at _ l;
    })

pub loop-i-preserved : goal.loop-i-preserved
loop-i-preserved c =
    let room = has_room_lem c.args.t c.well_formed.1.0 c.requires.few in
    let l : c.loop-i.i < c.args.t.count = omega (arith, lent_many c.args.t room _ c.held-e-items.ensures.entries, c.loop-i-test.true) in (
      omega arith,
      underway_next _ _ _ _ _ _ _ c.loop-i.invariant.1 l _ _ (c.requires.grouped.own _ l)
          (rw (lent_at c.args.t room _ c.held-e-items.ensures.entries c.loop-i.i c.loop-i-test.true) at c.change_entry.ensures),
    )

pub shape_of-records : goal.shape_of-records
shape_of-records c = c.loop-i.invariant.0

pub returns : goal.returns
returns c =
    let a = c.args in
    let room = has_room_lem a.t c.well_formed.1.0 c.requires.few in
    underway_last _ _ _ _ _ _ _ c.loop-i.invariant.1 (omega (arith, lent_many a.t room _ c.held-e-items.ensures.entries, c.loop-i-test.false))
    ∙ ap (λ (es : List Entry). records_text (lines_after (written a.c a.t.number es) (sheet.records a.records.now)))
    (sym (group_in_lem a.records.now a.coordinator.now a.t))
