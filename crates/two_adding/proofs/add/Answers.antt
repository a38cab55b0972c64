-- Refused by what is told of the place, or the line put in there.
use Rattle.std.proofs.Common.{◌∙◌}
use Rattle.lists.specs.Basics.{refl, sym, ap, true}
use Rattle.model.specs.Refusals.{refused_with}
use Rattle.model.specs.Told.{ranked_by, numbered, passed_up}
use Rattle.two_adding.specs.Calls.{place_refuses, add_shiftable, add_made}
use Rattle.two_adding.proofs.add.Goals as goal

pub returns-in_err-rank : goal.returns-in_err-rank
returns-in_err-rank c =
    let a = c.args in
    let o = place_refuses true a.key a.plain.now a.book.now a.coordinator.now _ (ap ranked_by (sym c.in_err-rank.was) ∙ c.place_on.ensures) (numbered _) in
    record { answer = ap refused_with (passed_up c.from_residual.ensures.1) ∙ o.said; plain = o.plain; bookkeeping = o.bookkeeping }

pub put_in-requires : goal.put_in-requires
put_in-requires c =
    let a = c.args in
    let all = add_shiftable a.key a.plain.now a.book.now a.coordinator.now _ (ap ranked_by (sym c.in_ok-rank.was) ∙ c.place_on.ensures) refl in
    record { shiftable = all.0; key_value = all.1 }

pub returns : goal.returns
returns c =
    let a = c.args in
    let o = add_made a.key a.plain.now a.book.now a.coordinator.now _ (ap ranked_by (sym c.in_ok-rank.was) ∙ c.place_on.ensures) refl _ _ c.put_in.ensures.plain c.put_in.ensures.bookkeeping in
    record { answer = o.said; plain = o.plain; bookkeeping = o.bookkeeping }
