-- So many times eight bytes are written, and then the rest.
use Rattle.std.specs.Prelude.{◌+◌, ◌*◌}
use Rattle.std.proofs.Common.{◌∙◌}
use Rattle.lists.specs.Basics.{refl, sym, ap, ℕ, List, length, take, drop, arith}
use Rattle.lists.specs.Pieces.{over}
use Rattle.two_join.specs.Joins.{written_none, written_eights, written-rest, length-written}
use Rattle.two_join.proofs.copy_part.Goals as goal

pub loop-k-init : goal.loop-k-init
loop-k-init c =
    let a = c.args in
    (refl, (omega arith, (refl, sym (written_none a.target.now a.from.now a.at a.start (omega (arith, c.requires.n_in_bounds))))))

pub overflow_add-at : goal.overflow_add-at
overflow_add-at c = omega (arith, c.loop-k.invariant.0, c.requires.n_in_bounds)

pub overflow_add-start : goal.overflow_add-start
overflow_add-start c = omega (arith, c.loop-k.invariant.0, c.requires.n_in_bounds_2)

pub copy_eight-requires : goal.copy_eight-requires
copy_eight-requires c =
    record { at_in_bounds = omega (arith, c.loop-k.invariant.0, c.loop-k.invariant.1.1.0, c.requires.n_in_bounds); start_in_bounds = omega (arith, c.loop-k.invariant.0, c.requires.n_in_bounds_2) }

pub loop-k-preserved : goal.loop-k-preserved
loop-k-preserved c =
    let a = c.args in
    let l = c.loop-k in
    let e = written_eights a.target.now a.from.now a.at a.start l.k (omega (arith, l.invariant.0, c.requires.n_in_bounds)) (omega (arith, l.invariant.0, c.requires.n_in_bounds_2)) in
    let u = c.copy_eight.ensures ∙ (ap (λ (t : List ℕ). over t (a.at + l.k * 8) (take 8 (drop (a.start + l.k * 8) a.from.now))) l.invariant.1.1.1 ∙ e) in
    (l.invariant.0, (omega arith, (ap length u ∙ length-written a.target.now a.from.now a.at a.start ((l.k + 1) * 8) (omega (arith, l.invariant.0, c.requires.n_in_bounds)) (omega (arith, l.invariant.0, c.requires.n_in_bounds_2)), u)))

pub overflow_add-at-2 : goal.overflow_add-at-2
overflow_add-at-2 c = omega (arith, c.requires.n_in_bounds)

pub overflow_add-start-2 : goal.overflow_add-start-2
overflow_add-start-2 c = omega (arith, c.requires.n_in_bounds_2)

pub copy_rest-requires : goal.copy_rest-requires
copy_rest-requires c =
    record { n_in_bounds = omega (arith, c.loop-k.invariant.1.1.0, c.requires.n_in_bounds); n_in_bounds_2 = omega (arith, c.requires.n_in_bounds_2) }

pub shape_of-target : goal.shape_of-target
shape_of-target c = c.copy_rest.auto.target ∙ c.loop-k.invariant.1.1.0

pub returns : goal.returns
returns c =
    let a = c.args in
    let l = c.loop-k in
    c.copy_rest.ensures ∙ written-rest a.target.now a.from.now a.at a.start l.k a.n l.target (omega (arith, l.invariant.0, l.invariant.1.0, c.loop-k-test.false)) l.invariant.1.1.1 c.requires.n_in_bounds c.requires.n_in_bounds_2
