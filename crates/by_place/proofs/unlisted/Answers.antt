-- The check's refusal as one number, or 1003 where it has none.
use Rattle.std.proofs.Common.{◌∙◌}
use Rattle.lists.specs.Basics.{refl}
use Rattle.by_place.specs.Numbers.{check_numbered}
use Rattle.by_place.specs.Told.{told_refused, told_free}
use Rattle.by_place.proofs.unlisted.Goals as goal

pub returns-in-Ok : goal.returns-in-Ok
returns-in-Ok c =
    let a = c.args in
    record { answer = told_free c.check.ensures c.in-Ok.is ∙ (check_numbered a.records.now a.coordinator.now _ refl).1; lines = refl; decisions = refl }

pub returns-in-Err : goal.returns-in-Err
returns-in-Err c =
    let a = c.args in
    record { answer = c.refused.ensures ∙ (told_refused c.check.ensures c.in-Err.is ∙ (check_numbered a.records.now a.coordinator.now _ refl).1); lines = refl; decisions = refl }
