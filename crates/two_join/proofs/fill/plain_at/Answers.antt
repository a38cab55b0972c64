-- Five parts, one after another, are the line filled.
use Rattle.std.specs.Prelude.{◌+◌, ◌*◌}
use Rattle.std.proofs.Common.{◌∙◌}
use Rattle.lists.specs.Basics.{ℕ, ap, List, take, drop, bytes}
use Rattle.lists.specs.Pieces.{over}
use Rattle.model.specs.Layouts.{record_bytes}
use Rattle.model.specs.TwoSheets.{plain_bytes}
use Rattle.two_laws.specs.Deciding.{fixed_state, fixed_rest}
use Rattle.two_join.specs.Fills.{record_end, plain_filled_lem}
use Rattle.two_join.proofs.fill.plain_at.Goals as goal

pub returns : goal.returns
unfolding fixed_state fixed_rest bytes
returns c =
    let a = c.args in
    let q = c.requires in
    let t = a.i * record_bytes in
    let p = c.args.plain.now in
    plain_filled_lem p a.i q.plain_bytes_in_bounds a.target.now _ q.record_bytes_in_bounds
    (c.copy_part-5.ensures
    ∙ ap (λ (s : List ℕ). over s (t + record_end) (take 1 (drop (a.i * plain_bytes + 38) p)))
    (c.copy_part-4.ensures
    ∙ ap (λ (s : List ℕ). over s (t + 58) fixed_rest)
    (c.copy_part-3.ensures
    ∙ ap (λ (s : List ℕ). over s (t + 40) (take 18 (drop (a.i * plain_bytes + 20) p)))
    (c.copy_part-2.ensures ∙ ap (λ (s : List ℕ). over s (t + 20) fixed_state) c.copy_part.ensures))))
