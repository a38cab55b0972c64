-- The count is the figure of the first four bytes, or of all of them where there are fewer.
use Rattle.std.proofs.Common.{◌∙◌}
use Rattle.std.proofs.lemmas.List.{take_min}
use Rattle.lists.specs.Basics.{ap, ℕ, List, take}
use Rattle.decimal.specs.Field.{number, figure}
use Rattle.sheet_laws.specs.Decisions.{issued_at}
use Rattle.codec.proofs.coordinator.issued.Goals as goal

pub returns : goal.returns
returns c =
    let s = c.args.coordinator.now in
    let whole = ap (λ (n : ℕ). take n s) c.min-end.ensures ∙ take_min 4 s in
    c.unwrap_or.ensures ∙ (ap number c.read.ensures ∙ (ap (λ (t : List ℕ). number (figure 0 999 t)) whole ∙ issued_at s))
