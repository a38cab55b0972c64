-- Refused by what is told of the place, or the line taken out there.
use Rattle.std.proofs.Common.{◌∙◌}
use Rattle.lists.specs.Basics.{refl, sym, ap, false}
use Rattle.model.specs.Refusals.{refused_with}
use Rattle.model.specs.Told.{ranked_by, numbered, passed_up}
use Rattle.two_adding.specs.Calls.{place_refuses, remove_shiftable, remove_made}
use Rattle.two_adding.proofs.remove.Goals as goal

pub returns-in_err-rank : goal.returns-in_err-rank
returns-in_err-rank c =
    let a = c.args in
    let o = place_refuses false a.key a.plain.now a.book.now a.coordinator.now _ (ap ranked_by (sym c.in_err-rank.was) ∙ c.place_on.ensures) (numbered _) in
    record { answer = ap refused_with (passed_up c.from_residual.ensures.1) ∙ o.said; plain = o.plain; bookkeeping = o.bookkeeping }

pub take_out-requires : goal.take_out-requires
take_out-requires c =
    let a = c.args in
    remove_shiftable a.key a.plain.now a.book.now a.coordinator.now _ (ap ranked_by (sym c.in_ok-rank.was) ∙ c.place_on.ensures) refl

pub returns : goal.returns
returns c =
    let a = c.args in
    let o = remove_made a.key a.plain.now a.book.now a.coordinator.now _ (ap ranked_by (sym c.in_ok-rank.was) ∙ c.place_on.ensures) refl _ _ c.take_out.ensures.plain c.take_out.ensures.bookkeeping in
    record { answer = o.said; plain = o.plain; bookkeeping = o.bookkeeping }
