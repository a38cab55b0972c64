-- An operation on any two sheets that the check refuses.
use Rattle.std.specs.Prelude.{◌≡◌}
use Rattle.std.proofs.Common.{◌∙◌}
use Rattle.lists.specs.Basics.{sym, ap, ℕ, List}
use Rattle.model.specs.Refusals.{refusal_of}
use Rattle.model.specs.SheetCalls.{check_conditions}
use Rattle.model.specs.Writes.{Sheets}
use Rattle.model.specs.Results.{Answer, Response, refused}
use Rattle.model.specs.ByteCalls.{sheets_said}
use Rattle.model.specs.Operations.{Operation, response, response_on, sheet_left, coordinator_left}
use Rattle.call_laws.specs.Accepted.{unless-held}
use Rattle.engine.specs.Fronts.{GivesSheet}

pub turned_away_as : {B : Type 0} (f : Response Answer Sheets → B) (o : Operation) (rs cs : List ℕ) {a : B} (n : ℕ) → n ≡ refusal_of (check_conditions rs cs) → (n ≡ 0 → ⊥) → a ≡ f (refused n) → GivesSheet f (response_on o rs cs) rs cs a rs cs
unfolding response_on sheet_left coordinator_left
turned_away_as f o rs cs n e z h =
    let x : response_on o rs cs ≡ refused n = unless-held (check_conditions rs cs) (response o (sheets_said rs cs)) n (sym e) z in
    (h ∙ ap f (sym x), (ap (sheet_left rs) (sym x), ap (coordinator_left cs) (sym x)))
