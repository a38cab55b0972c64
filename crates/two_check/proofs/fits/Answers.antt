-- The coordinator sheet by itself, and then the numbers.
use Rattle.std.specs.Prelude.{◌&&◌}
use Rattle.std.proofs.Common.{◌∙◌}
use Rattle.lists.specs.Basics.{sym, ap, Bool}
use Rattle.model.specs.SheetCalls.{all_issued}
use Rattle.two_check.proofs.fits.Goals as goal

pub returns-then-not-coordinator_readable : goal.returns-then-not-coordinator_readable
returns-then-not-coordinator_readable c =
    let a = c.args in
    sym (ap (λ (x : Bool). x && all_issued a.records.now a.coordinator.now) (sym c.coordinator_readable.ensures ∙ c.if-not-coordinator_readable.true))

pub all_issued-requires : goal.all_issued-requires
all_issued-requires c =
    record { records_value = c.requires; coordinator_value = sym c.coordinator_readable.ensures ∙ c.if-not-coordinator_readable.false }

pub returns : goal.returns
returns c =
    let a = c.args in
    c.all_issued.ensures ∙ sym (ap (λ (x : Bool). x && all_issued a.records.now a.coordinator.now) (sym c.coordinator_readable.ensures ∙ c.if-not-coordinator_readable.false))
