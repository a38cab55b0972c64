-- What is before the first mark ends where it stands, or where all of it does.
use Rattle.std.specs.Prelude.{◌≡◌, ◌+◌, ◌-◌, eqb, position}
use Rattle.std.proofs.Common.{◌∙◌}
use Rattle.std.specs.Option.{unwrap_or}
use Rattle.lists.specs.Basics.{ap, ap₂, ℕ, List, length, take, drop, length-drop, take_all, arith}
use Rattle.script.specs.Lines.{unwrap_or-position}
use Rattle.script.proofs.scan.end_of.Goals as goal

pub returns-clause-column : goal.returns-clause-column
returns-clause-column c =
    let a = c.args in
    let s = drop a.at a.s.now in
    let whole : take (length a.s.now - a.at) s ≡ s = take_all (length a.s.now - a.at) s (omega (arith, length-drop a.at a.s.now)) in
    ap (λ (k : ℕ). a.at + k)
    (c.unwrap_or.ensures
    ∙ (ap₂ unwrap_or (c.mark_in.ensures ∙ ap (λ (t : List ℕ). position (λ b. eqb b a.mark) t) whole) (ap length whole) ∙ unwrap_or-position a.mark s))
