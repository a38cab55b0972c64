-- By the target's length and the result that is told; a target of two numbers gets both.
use Rattle.std.specs.Prelude.{◌≡◌, ◌∷◌}
use Rattle.std.proofs.Common.{◌∙◌}
use Rattle.lists.specs.Basics.{sym, ap, ℕ, eqb, true, false, [], length, eq-eqb, ne_eqb}
use Rattle.changes.specs.Answers.{stored}
use Rattle.model.specs.Told.{numbered}
use Rattle.by_place.specs.Ranks.{rank_number, rank_target}
use Rattle.by_place.proofs.tell_rank.Goals as goal

pub returns-then-target-ne2 : goal.returns-then-target-ne2
unfolding rank_number rank_target
returns-then-target-ne2 c =
    let a = c.args in
    let n : eqb (length a.target.now) 2 ≡ false = ne_eqb (length a.target.now) 2 c.if-target-ne2.true in
    record { answer = rw n; target = rw n }

pub returns-in-Err : goal.returns-in-Err
unfolding rank_number rank_target
returns-in-Err c =
    let a = c.args in
    let n : eqb (length a.target.now) 2 ≡ true = eq-eqb (length a.target.now) 2 c.if-target-ne2.false in
    let e = ne_eqb _ 0 (numbered c.in-Err.refusal) in
    record { answer = c.refused.ensures ∙ rw (c.in-Err.is, n, e); target = rw (c.in-Err.is, n, e) }

pub returns-in-Ok : goal.returns-in-Ok
unfolding rank_number rank_target
returns-in-Ok c =
    let a = c.args in
    let n : eqb (length a.target.now) 2 ≡ true = eq-eqb (length a.target.now) 2 c.if-target-ne2.false in
    record {
      answer = rw (c.in-Ok.is, n);
      target = rw (c.in-Ok.is, n) (stored a.target.now _ _ c.if-target-ne2.false ∙ ap (λ (x : ℕ). c.in-Ok.rank.below ∷ x ∷ []) c.one_if.ensures);
    }
